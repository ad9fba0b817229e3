-- What a recording makes of the book of cycles, from its steps.
use Rattle.std.proofs.Common.{◌≡◌, ℕ, List, [], ◌∷◌, ◌++◌, sym, ap, ◌∙◌}
use Rattle.audit_traffic.specs.cycles.CycleHistories.{Step, book_of}
use Rattle.someip_audit.specs.Audits.{AuditState, Seen, after_seen}
use Rattle.someip_audit.specs.BooksHeld.{Held}
use Rattle.someip_audit.specs.CycleSteps.{Runs, asked_steps, seen_steps}
use Rattle.someip_audit.proofs.AskedLemmas.{asked_is}
use Rattle.someip_audit.proofs.CycleStepLemmas.{in_turn, seen_is}

pub run_is : (limit : ℕ) (datagrams : List Seen) (state after : AuditState) (steps all : List Step) → Runs state steps datagrams after all → state.cycles ≡ book_of limit steps
    → after.cycles ≡ book_of limit all
run_is limit [] state after steps all runs is = ap (λ (h : Held). h.cycles) runs.0 ∙ is ∙ ap (book_of limit) (sym runs.1)
run_is limit (seen ∷ datagrams) state after steps all runs is =
    let asked : List Step = asked_steps seen.now state in
    run_is limit datagrams (after_seen seen runs.1) after (seen_steps seen runs.1 ++ (asked ++ steps)) all runs.3
    (in_turn (seen_steps seen runs.1) (asked ++ steps) (after_seen seen runs.1).cycles runs.1.cycles (book_of limit []) (seen_is seen runs.1)
    (in_turn asked steps runs.1.cycles state.cycles (book_of limit []) (asked_is seen.now runs.0 state runs.1 runs.2) is))
