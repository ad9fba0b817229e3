use Rattle.std.proofs.Common.{◌≡◌, ◌+◌, true, ◌||◌, drop, subst, ap, sym, ◌∙◌}
use Rattle.std.specs.FinMap as finite
use Rattle.std.specs.List.{list_any}
use Rattle.std.proofs.lemmas.List.{drop_more}
use Rattle.someip_tables.specs.Lastings.{unexpired}
use Rattle.someip_tables.specs.Tables.{map_of}
use Rattle.sd_core.specs.SubscriptionKeys.{subscription_cmp}
use Rattle.sd_core.proofs.SubscriptionRunLemmas.{IsCollected, any_behind, any_of_several, collected_all, collected_more, past_all}
use Rattle.sd_core.specs.SubscriberTables.{is_to}
use Rattle.someip_tables.proofs.Outcomes.{on_err}
use Rattle.sd_core.proofs.SubscriberLemmas.{some_endpoints}
use Rattle.sd_core.proofs.subscriber_table.endpoints.Goals as goal

pub loop-eventgroup-preserved : goal.loop-eventgroup-preserved
loop-eventgroup-preserved c =
    let live = unexpired c.args.now (map_of subscription_cmp c.args.table.now) in
    let groups = c.args.eventgroups.now in
    collected_more c.args.instance groups _ (drop (c.loop-eventgroup.eventgroup-index + 1) groups) live _ _
    (subst (λ rest. IsCollected c.args.instance groups rest live c.loop-eventgroup.endpoints) (drop_more groups c.loop-eventgroup.eventgroup-index 0 c.loop-eventgroup-test.true) c.loop-eventgroup.invariant)
    c.in_ok-add_endpoints.ensures.added

pub returns-clause-live : goal.returns-clause-live
returns-clause-live c =
    let live = unexpired c.args.now (map_of subscription_cmp c.args.table.now) in
    let groups = c.args.eventgroups.now in
    collected_all c.args.instance groups live c.loop-eventgroup.endpoints
    (subst (λ rest. IsCollected c.args.instance groups rest live c.loop-eventgroup.endpoints) (past_all groups c.loop-eventgroup.eventgroup-index c.loop-eventgroup-test.false) c.loop-eventgroup.invariant)

pub returns-in_err-add_endpoints-clause-grows : goal.returns-in_err-add_endpoints-clause-grows
returns-in_err-add_endpoints-clause-grows c =
    let live = unexpired c.args.now (map_of subscription_cmp c.args.table.now) in
    let groups = c.args.eventgroups.now in
    let to : _ → _ = λ g. list_any (is_to c.args.instance g) (finite.keys live) in
    let here : list_any to (drop c.loop-eventgroup.eventgroup-index groups) ≡ true = ap (list_any to) (drop_more groups c.loop-eventgroup.eventgroup-index 0 c.loop-eventgroup-test.true) ∙ ap (λ b. b || list_any to (drop (c.loop-eventgroup.eventgroup-index + 1) groups)) c.in_err-add_endpoints.ensures.grows in
    on_err c.from_residual.result (some_endpoints c.args.instance groups live (sym (any_of_several c.args.instance groups (finite.keys live)) ∙ any_behind to c.loop-eventgroup.eventgroup-index groups here))
