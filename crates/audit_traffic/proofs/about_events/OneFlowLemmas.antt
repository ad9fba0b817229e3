-- One flow of its source is disturbed.
use Rattle.std.proofs.Common.{◌≡◌, Bool, true, false, cond, ◌&&◌, List, [], ◌∷◌, length, map, None, Some, refl, ap, ◌∙◌}
use Rattle.std.specs.Global.{Vec}
use Rattle.std.specs.List.{IsDistinct}
use Rattle.std.specs.Map.{keys_of, lookup, set_value}
use Rattle.std.specs.Ordering.{eq_by_cmp}
use Rattle.std.proofs.lemmas.List.{length-map}
use Rattle.someip_tables.specs.Changed.{changed_at}
use Rattle.someip_tables.specs.Endpoints.{endpoint_cmp}
use Rattle.someip_tables.specs.Tables.{map_of}
use Rattle.someip_tables.proofs.ChangedLemmas.{absent-changed, changed-entries}
use Rattle.audit_traffic.specs.declared.events.flow.EventFlow.{EventFlow}
use Rattle.audit_traffic.specs.declared.events.last_event.LastEvent.{LastEvent}
use Rattle.audit_traffic.specs.declared.events.receiver.Receiver.{Receiver}
use Rattle.audit_traffic.specs.events.EventRules.{disturbed}
use Rattle.audit_traffic.specs.events.FlowGroups.{AreFlows, Groups, changed_by, disturbed_at, disturbed_to, flow_to, flows_in, is_same_source, source_of}
use Rattle.audit_traffic.specs.events.FlowKeys.{flow_cmp}
use Rattle.audit_traffic.specs.events.FlowOrder.{flows_total, exact_flows}
use Rattle.audit_traffic.specs.events.SourceEquality.{one_source, source_itself}
use Rattle.audit_traffic.proofs.about_events.AddedFlows.{known_by_source}
use Rattle.audit_traffic.proofs.about_events.ChangedGroups.{all_changed, mapped_distinct, set_changed, set_changed_apart}
use Rattle.audit_traffic.proofs.about_events.GroupLemmas.{flows_tested}
use Rattle.audit_traffic.proofs.about_events.SourceLemmas.{found_in}

map_alike : {X : Type 0} (f g : X → X) → ((x : X) → f x ≡ g x) → (xs : List X) → map f xs ≡ map g xs
map_alike f g same [] = refl
map_alike f g same (x ∷ xs) = let rest = map_alike f g same xs in λ i. same x i ∷ rest i

module _ (flow : EventFlow) where
  -- this flow is disturbed, and no other
  abbrev one_disturbed : EventFlow → LastEvent → LastEvent
  one_disturbed other last = cond (eq_by_cmp flow_cmp other flow) (disturbed last) last

  -- flows of other sources are left alone
  other_source : (other : EventFlow) (last : LastEvent) → is_same_source (source_of flow) (source_of other) ≡ false → one_disturbed other last ≡ last
  other_source other last differs = cases (is_same_source (source_of other) (source_of flow)) refl
    where
      cases : (b : Bool) → is_same_source (source_of other) (source_of flow) ≡ b → one_disturbed other last ≡ last
      cases true is =
          let one : source_of other ≡ source_of flow = one_source (source_of other) (source_of flow) is in
          let same : is_same_source (source_of flow) (source_of other) ≡ true = ap (is_same_source (source_of flow)) one ∙ source_itself (source_of flow) in
          absurd (cc)
      cases false is =
          let test : eq_by_cmp flow_cmp other flow ≡ false = flows_tested other flow ∙ ap (λ b. b && eq_by_cmp endpoint_cmp other.receiver flow.receiver) is in
          rw test refl

  -- a receiver of its source
  disturbed_is : (r : Receiver) → disturbed_to flow.receiver r ≡ changed_by one_disturbed (source_of flow) r
  disturbed_is r =
      let to : EventFlow = flow_to (source_of flow) r.endpoint in
      let test : eq_by_cmp flow_cmp to flow ≡ eq_by_cmp endpoint_cmp r.endpoint flow.receiver =
      flows_tested to flow ∙ ap (λ b. b && eq_by_cmp endpoint_cmp r.endpoint flow.receiver) (source_itself (source_of flow)) in
      rw test (cases (eq_by_cmp endpoint_cmp r.endpoint flow.receiver))
    where
      cases : (t : Bool) → cond t (disturbed_at r) r ≡ record r { last = cond t (disturbed r.last) r.last }
      cases true = refl
      cases false = refl

  module _ (v w : Vec Receiver) (items : w.items ≡ map (disturbed_to flow.receiver) v.items) (old new : Groups) (found : lookup (is_same_source (source_of flow)) old ≡ Some v)
      (apart : IsDistinct is_same_source (keys_of old)) (is : new ≡ set_value (is_same_source (source_of flow)) old w) where
    changed_items : w.items ≡ map (changed_by one_disturbed (source_of flow)) v.items
    changed_items = items ∙ map_alike (disturbed_to flow.receiver) (changed_by one_disturbed (source_of flow)) disturbed_is v.items

    flows_are : flows_in new ≡ all_changed one_disturbed (flows_in old)
    flows_are = ap flows_in is ∙ set_changed (source_of flow) one_disturbed other_source v w old apart found changed_items

    pub one_after : map_of flow_cmp (flows_in new) ≡ changed_at flow disturbed (map_of flow_cmp (flows_in old))
    one_after = changed-entries flows_total exact_flows one_disturbed (flows_in old) (flows_in new) flows_are

    pub one_count : length (flows_in new) ≡ length (flows_in old)
    one_count = ap length flows_are ∙ length-map (flows_in old) _

    pub one_kept : AreFlows old → AreFlows new
    one_kept flows = record {
      apart = rw is (set_changed_apart (source_of flow) one_disturbed v w old found changed_items flows.apart);
      distinct = rw flows_are (mapped_distinct flow_cmp one_disturbed (flows_in old) flows.distinct);
    }

  -- without its source it is not known
  pub none_disturbed : (old : Groups) → IsDistinct is_same_source (keys_of old) → lookup (is_same_source (source_of flow)) old ≡ None
      → map_of flow_cmp (flows_in old) ≡ changed_at flow disturbed (map_of flow_cmp (flows_in old))
  none_disturbed old apart none =
      absent-changed flows_total exact_flows disturbed (map_of flow_cmp (flows_in old)) flow (known_by_source flow old apart ∙ ap (found_in flow) none)
