use Rattle.std.proofs.Common.{sym, ap, ◌∙◌}
use Rattle.std.specs.Ordering.{eq_by_cmp}
use Rattle.someip_tables.specs.Endpoints.{address_cmp}
use Rattle.someip_tables.specs.EndpointOrder.{addresses_total, exact_addresses}
use Rattle.someip_tables.proofs.Entries.{own_test, same_by_test}
use Rattle.audit_sd.proofs.about_sessions.OtherLemmas.{after_held, after_other, none_after, none_there_after}
use Rattle.audit_sd.proofs.sessions.others.next_after.Goals as goal

pub returns-in_err-pair-clause-none : goal.returns-in_err-pair-clause-none
returns-in_err-pair-clause-none c =
    rw c.from_residual.ensures (none_after c.args.sender c.args.destination c.args.last.now c.range.result (c.range.ensures.in_range tt) c.in_err-pair.ensures.steps.0)

pub returns-then-is_from-clause-other : goal.returns-then-is_from-clause-other
returns-then-is_from-clause-other c =
    after_other c.args.sender c.args.destination c.args.last.now c.range.result (c.range.ensures.in_range tt) _ _ c.in_ok-pair.ensures.steps
    (same_by_test exact_addresses _ _ (sym c.is_from.ensures ∙ c.if-is_from.true))

pub returns-then-is_from-clause-held : goal.returns-then-is_from-clause-held
returns-then-is_from-clause-held c =
    after_held c.args.sender c.args.destination c.args.last.now c.range.result (c.range.ensures.in_range tt) _ _ c.in_ok-pair.ensures.steps

pub returns-else-is_from-clause-none : goal.returns-else-is_from-clause-none
returns-else-is_from-clause-none c =
    none_there_after c.args.sender c.args.destination c.args.last.now c.range.result (c.range.ensures.in_range tt) _ _ c.in_ok-pair.ensures.steps
    (λ is. let yes = ap (λ a. eq_by_cmp address_cmp a c.args.sender) is ∙ own_test addresses_total c.args.sender in let no = sym c.is_from.ensures ∙ c.if-is_from.false in cc)
