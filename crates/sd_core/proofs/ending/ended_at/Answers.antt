use Rattle.std.proofs.Common.{sym, ap, ◌∙◌}
use Rattle.std.proofs.lemmas.Iterator.{items_from_collect}
use Rattle.std.proofs.lemmas.Iterator.Consumers.{YieldsList-from_rest}
use Rattle.std.proofs.lemmas.Result.{IfOk-weaker}
use Rattle.std.specs.FinMap.{keys}
use Rattle.someip_tables.specs.Tables.{map_of}
use Rattle.sd_core.specs.Eventgroups.{eventgroup_cmp}
use Rattle.sd_core.specs.WishTables.{is_of_any}
use Rattle.someip_tables.proofs.Outcomes.{on_err}
use Rattle.sd_core.proofs.WishLemmas.{begun_ends, due_is, gathered_ends, none_begun, over_alone, over_ends, some_begun}
use Rattle.sd_core.proofs.ending.ended_at.Goals as goal

pub returns-in_err-due-clause-grows : goal.returns-in_err-due-clause-grows
returns-in_err-due-clause-grows c =
    let m = map_of eventgroup_cmp c.args.table.now in
    on_err c.from_residual.result (over_ends c.args.now c.args.passed.now m (λ none. c.in_err-due.ensures.grows (due_is c.args.now m ∙ none)))

pub returns-then-not-has_any_begun-clause-ended : goal.returns-then-not-has_any_begun-clause-ended
returns-then-not-has_any_begun-clause-ended c =
    let m = map_of eventgroup_cmp c.args.table.now in
    c.in_ok-due.ensures.due ∙ ap keys (due_is c.args.now m)
    ∙ over_alone c.args.now c.args.passed.now m (none_begun (λ eventgroup _. is_of_any c.args.passed.now eventgroup) m (sym c.has_any_begun.ensures ∙ c.if-not-has_any_begun.true))

pub returns-in_err-ended-clause-grows : goal.returns-in_err-ended-clause-grows
returns-in_err-ended-clause-grows c =
    let m = map_of eventgroup_cmp c.args.table.now in
    on_err c.from_residual-in_err-ended.result
    (begun_ends c.args.now c.args.passed.now m (some_begun (λ eventgroup _. is_of_any c.args.passed.now eventgroup) m (sym c.has_any_begun.ensures ∙ c.if-not-has_any_begun.false)))

pub returns-clause-ended : goal.returns-clause-ended
returns-clause-ended c =
    let m = map_of eventgroup_cmp c.args.table.now in
    IfOk-weaker c.collect.result _ _
    (λ n is. is ∙ gathered_ends c.args.now c.deref.result.now c.args.passed.now m c.in_ok-ended.ended (c.deref.ensures.value ∙ c.in_ok-due.ensures.due ∙ ap keys (due_is c.args.now m)) c.in_ok-ended.ensures.ordered c.in_ok-ended.ensures.gathered)
    (items_from_collect c.collect.result c.collect.ensures.ran (YieldsList-from_rest _ c.into_iter.ensures.into_iter_gives.0))

pub returns-clause-grows : goal.returns-clause-grows
returns-clause-grows c =
    let m = map_of eventgroup_cmp c.args.table.now in
    on_err c.collect.result
    (begun_ends c.args.now c.args.passed.now m (some_begun (λ eventgroup _. is_of_any c.args.passed.now eventgroup) m (sym c.has_any_begun.ensures ∙ c.if-not-has_any_begun.false)))
