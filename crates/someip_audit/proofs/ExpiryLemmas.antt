-- What subscriptions that expired leave of the events.
use Rattle.std.proofs.Common.{◌≡◌, Bool, true, false, cond, ◌||◌, if◌then◌else◌, List, [], ◌∷◌, Option, None, Some, refl, ap, ◌∙◌}
use Rattle.std.specs.Option.{option_map}
use Rattle.std.specs.List.{list_any}
use Rattle.std.specs.FinMap as finite
use Rattle.someip_tables.proofs.ChangedLemmas.{get-changed}
use Rattle.audit_sd.specs.declared.subscriptions.key.SubscriptionKey.{SubscriptionKey}
use Rattle.audit_traffic.specs.declared.events.flow.EventFlow.{EventFlow}
use Rattle.audit_traffic.specs.declared.events.last_event.LastEvent.{LastEvent}
use Rattle.audit_traffic.specs.events.EventRules.{disturbed, is_between}
use Rattle.audit_traffic.specs.sequence.CountedFlows.{counted_service}
use Rattle.audit_traffic.specs.sequence.Sequences.{Sequence, after_change}
use Rattle.audit_traffic.specs.events.FlowOrder.{exact_flows, flows_total}
use Rattle.audit_traffic.specs.declared.cycles.watch.Watch.{Watch}
use Rattle.audit_traffic.specs.cycles.CycleRules.{goes_by}
use Rattle.audit_traffic.specs.cycles.CycleTables.{Cycles, without_subscribed}
use Rattle.audit_traffic.proofs.about_cycles.HistoryLemmas.{ended}
use Rattle.someip_audit.specs.Audits.{each_disturbed, each_unwatched}

twice : (a b : Bool) (v : Option LastEvent)
    → option_map (λ last. if b then disturbed last else last) (option_map (λ last. if a then disturbed last else last) v) ≡ option_map (λ last. if a || b then disturbed last else last) v
twice a b None = refl
twice true true (Some last) = refl
twice true false (Some last) = refl
twice false true (Some last) = refl
twice false false (Some last) = refl

same : (v : Option LastEvent) → v ≡ option_map (λ last. last) v
same None = refl
same (Some last) = refl

-- a flow is disturbed where one of the subscriptions is between its receiver and its sender
pub flow_disturbed : (keys : List SubscriptionKey) (events : Sequence) (flow : EventFlow)
    → finite.get (each_disturbed keys events).events.flows flow
    ≡ option_map (λ last. if list_any (λ (key : SubscriptionKey). is_between key.client key.server (counted_service events.counting key.service) flow) keys then disturbed last else last) (finite.get events.events.flows flow)
flow_disturbed [] events flow = same (finite.get events.events.flows flow)
flow_disturbed (key ∷ keys) events flow =
    let others : Bool = list_any (λ (k : SubscriptionKey). is_between k.client k.server (counted_service events.counting k.service) flow) keys in
    flow_disturbed keys (after_change key.client key.server key.service events) flow
    ∙ ap (option_map (λ last. if others then disturbed last else last))
    (get-changed flows_total exact_flows (λ f last. if is_between key.client key.server (counted_service events.counting key.service) f then disturbed last else last) events.events.flows flow)
    ∙ twice (is_between key.client key.server (counted_service events.counting key.service) flow) others (finite.get events.events.flows flow)

-- ---- watches

ends_either : (a b : Bool) (v : Option Watch) → cond b None (cond a None v) ≡ cond (a || b) None v
ends_either true true v = refl
ends_either true false v = refl
ends_either false b v = refl

-- a flow is watched no more where one of the subscriptions is of its receiver's address to its service
pub flow_unwatched : (keys : List SubscriptionKey) (book : Cycles) (flow : EventFlow)
    → finite.get (each_unwatched keys book).watched flow
    ≡ (if list_any (λ (key : SubscriptionKey). goes_by key.server key.service key.client flow) keys then None else finite.get book.watched flow)
flow_unwatched [] book flow = refl
flow_unwatched (key ∷ keys) book flow =
    let others : Bool = list_any (λ (k : SubscriptionKey). goes_by k.server k.service k.client flow) keys in
    flow_unwatched keys (without_subscribed key.server key.service key.client book) flow
    ∙ ap (λ (v : Option Watch). cond others None v) (ended (goes_by key.server key.service key.client) book.watched flow)
    ∙ ends_either (goes_by key.server key.service key.client flow) others (finite.get book.watched flow)
