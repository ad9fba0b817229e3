use Rattle.std.proofs.Common.{◌≡◌, ◌∙◌, true, false, refl, sym}
use Rattle.std.proofs.lemmas.List.{append-nil}
use Rattle.someip_tables.proofs.SortedEntries.{keys_chosen, some_chosen}
use Rattle.someip_tables.proofs.Outcomes.{on_err}
use Rattle.sd_core.proofs.chosen.keys_where.Goals as goal

pub loop-key-init : goal.loop-key-init
loop-key-init g c = λ p answers. rw (c.new-keys.ensures.items, c.into_iter-key-iterator.ensures.into_iter_gives, c.iter-key-items.ensures.rest) (refl, λ some. some)

pub loop-key-preserved : goal.loop-key-preserved
loop-key-preserved g c = λ p answers.
    let no : p c.in-Some.key.now c.in-Some.value.now ≡ false = sym (answers _ _ _ c.test.ensures) ∙ c.if-test.false in
    rw (c.in-Some.ensures.steps, no) at (c.loop-key.invariant p answers)

pub returns-in_err-push-clause-grows : goal.returns-in_err-push-clause-grows
returns-in_err-push-clause-grows g c = λ p answers.
    let yes : p c.in-Some.key.now c.in-Some.value.now ≡ true = sym (answers _ _ _ c.test.ensures) ∙ c.if-test.true in
    let some = rw (c.in-Some.ensures.steps, yes) at (c.loop-key.invariant p answers) in
    on_err c.from_residual.result (some_chosen g.met.K.Ord.total g.met.K.Key.exact p c.args.table.now.entries c.iter-key-items.ensures.ordered (some.1 refl))

pub returns-clause-chosen : goal.returns-clause-chosen
returns-clause-chosen g c = λ p answers.
    let all = rw c.in-None.ensures.steps.0 at (c.loop-key.invariant p answers) in
    sym (append-nil c.loop-key.keys.items) ∙ all.0 ∙ keys_chosen g.met.K.Ord.total g.met.K.Key.exact p c.args.table.now.entries c.iter-key-items.ensures.ordered
