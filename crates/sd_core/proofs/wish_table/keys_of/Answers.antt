use Rattle.std.proofs.Common.{◌≡◌, true, false, sym, ap, ◌∙◌, append_assoc}
use Rattle.std.proofs.lemmas.List.{append-nil}
use Rattle.std.specs.FinMap.{keys}
use Rattle.someip_tables.specs.Tables.{map_of}
use Rattle.someip_tables.proofs.SortedEntries.{keys-empty}
use Rattle.sd_core.specs.declared.wish.Wish.{Wish}
use Rattle.sd_core.specs.Eventgroups.{eventgroup_cmp}
use Rattle.sd_core.specs.WishTables.{is_of}
use Rattle.someip_tables.proofs.Outcomes.{on_err}
use Rattle.someip_tables.proofs.RunLemmas.{end_run, next_run, not_empty}
use Rattle.sd_core.proofs.WishLemmas.{run_keys}
use Rattle.sd_core.proofs.wish_table.keys_of.Goals as goal

pub loop-eventgroup-init : goal.loop-eventgroup-init
loop-eventgroup-init g c = λ p answers.
    rw (c.new-keys.ensures.items, c.into_iter-eventgroup-iterator.ensures.into_iter_gives, c.wishes_from-eventgroup-items.ensures.rest)
    (run_keys c.args.instance p (map_of eventgroup_cmp c.args.table.now))

pub loop-eventgroup-preserved-then-not-test : goal.loop-eventgroup-preserved-then-not-test
loop-eventgroup-preserved-then-not-test g c = λ p answers.
    let of : is_of c.args.instance c.in-Some.eventgroup.now ≡ true = sym c.is_of.ensures ∙ c.if-not-is_of.false in
    let no : p c.in-Some.wish.now ≡ false = sym (answers _ _ c.test.ensures) ∙ c.if-not-test.true in
    let run = next_run (λ e. is_of c.args.instance e.0) (c.in-Some.eventgroup.now, c.in-Some.wish.now) c.next.new.self c.loop-eventgroup.eventgroup-iterator c.in-Some.ensures.steps of in
    rw (run, no) at (c.loop-eventgroup.invariant p answers)

pub loop-eventgroup-preserved : goal.loop-eventgroup-preserved
loop-eventgroup-preserved g c = λ p answers.
    let of : is_of c.args.instance c.in-Some.eventgroup.now ≡ true = sym c.is_of.ensures ∙ c.if-not-is_of.false in
    let yes : p c.in-Some.wish.now ≡ true = sym (answers _ _ c.test.ensures) ∙ c.if-not-test.false in
    let run = next_run (λ e. is_of c.args.instance e.0) (c.in-Some.eventgroup.now, c.in-Some.wish.now) c.next.new.self c.loop-eventgroup.eventgroup-iterator c.in-Some.ensures.steps of in
    let all = rw (run, yes) at (c.loop-eventgroup.invariant p answers) in
    rw (c.in_ok-push.ensures.items, append_assoc) all

pub returns-then-not-is_of-clause-chosen : goal.returns-then-not-is_of-clause-chosen
returns-then-not-is_of-clause-chosen g c = λ p answers.
    let no : is_of c.args.instance c.in-Some.eventgroup.now ≡ false = sym c.is_of.ensures ∙ c.if-not-is_of.true in
    let run = end_run (λ e. is_of c.args.instance e.0) (c.in-Some.eventgroup.now, c.in-Some.wish.now) c.next.new.self c.loop-eventgroup.eventgroup-iterator c.in-Some.ensures.steps no in
    sym (append-nil c.loop-eventgroup.keys.items) ∙ rw run at (c.loop-eventgroup.invariant p answers)

pub returns-in_err-push-clause-grows : goal.returns-in_err-push-clause-grows
returns-in_err-push-clause-grows g c = λ p answers.
    let of : is_of c.args.instance c.in-Some.eventgroup.now ≡ true = sym c.is_of.ensures ∙ c.if-not-is_of.false in
    let yes : p c.in-Some.wish.now ≡ true = sym (answers _ _ c.test.ensures) ∙ c.if-not-test.false in
    let run = next_run (λ e. is_of c.args.instance e.0) (c.in-Some.eventgroup.now, c.in-Some.wish.now) c.next.new.self c.loop-eventgroup.eventgroup-iterator c.in-Some.ensures.steps of in
    let all = rw (run, yes) at (c.loop-eventgroup.invariant p answers) in
    on_err c.from_residual.result (λ none. not_empty c.loop-eventgroup.keys.items c.in-Some.eventgroup.now _ _ all (ap keys none ∙ keys-empty Wish eventgroup_cmp))

pub returns-clause-chosen : goal.returns-clause-chosen
returns-clause-chosen g c = λ p answers.
    sym (append-nil c.loop-eventgroup.keys.items) ∙ rw c.in-None.ensures.steps.0 at (c.loop-eventgroup.invariant p answers)
