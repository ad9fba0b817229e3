use Rattle.std.proofs.Common.{◌≡◌, ◌+◌, ap, ◌∙◌, sym, Some, rules}
use Rattle.someip_tables.proofs.Outcomes.{on_err}
use Rattle.audit_traffic.specs.calls.CallBooks.{known}
use Rattle.audit_traffic.specs.calls.KnownCalls.{known_at, known_by_answer}
use Rattle.audit_traffic.proofs.about_calls.BookLemmas.{changed_some}
use Rattle.audit_traffic.proofs.calls.steps.on_answer.Goals as goal

pub returns-in_err-insert-clause-grows : goal.returns-in_err-insert-clause-grows
returns-in_err-insert-clause-grows c =
    let calls = c.args.calls.now in
    let now : c.known_at-before.result ≡ known_at c.args.now c.get-held.result = search rules in
    let before : c.known_at-before.result ≡ known c.args.now calls c.args.call = now ∙ ap (known_at c.args.now) c.get-held.ensures in
    let answered : c.known_by_answer.result ≡ Some c.in-Some.known = search rules in
    on_err c.from_residual.result
    (changed_some calls c.args.call c.in-Some.known _
    (ap (known_by_answer (c.args.now + c.args.answer_ms)) (sym before) ∙ sym c.known_by_answer.ensures ∙ answered) c.in_err-insert.ensures.grows)
