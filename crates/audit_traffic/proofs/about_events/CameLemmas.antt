-- An event comes to one of the receivers of its source.
use Rattle.std.proofs.Common.{◌≡◌, ◌==◌, Bool, true, false, not, ◌&&◌, if◌then◌else◌, List, [], ◌∷◌, length, map, Option, None, Some, is_some, IfNone, IfSome, refl, ap, sym, ◌∙◌}
use Rattle.std.specs.Global.{Vec}
use Rattle.std.specs.List.{IsDistinct}
use Rattle.std.specs.Map.{keys_of, lookup, set_value}
use Rattle.std.specs.Ordering.{eq_by_cmp}
use Rattle.std.proofs.lemmas.List.{length-map}
use Rattle.someip_tables.specs.Changed.{each_changed}
use Rattle.someip_tables.specs.Endpoints.{endpoint_cmp}
use Rattle.someip_tables.specs.Tables.{map_of}
use Rattle.someip_tables.proofs.ChangedLemmas.{changed-entries}
use Rattle.audit_traffic.specs.declared.events.flow.EventFlow.{EventFlow}
use Rattle.audit_traffic.specs.declared.events.last_event.LastEvent.{LastEvent}
use Rattle.audit_traffic.specs.declared.events.notification.Notification.{Notification}
use Rattle.audit_traffic.specs.declared.events.receiver.Receiver.{Receiver}
use Rattle.audit_traffic.specs.events.EventRules.{is_other}
use Rattle.audit_traffic.specs.events.FlowGroups.{AreFlows, Groups, changed_by, flow_to, flows_in, is_same_source, noted, once_came, source_of}
use Rattle.audit_traffic.specs.events.FlowKeys.{flow_cmp}
use Rattle.audit_traffic.specs.events.FlowOrder.{flows_total, exact_flows}
use Rattle.audit_traffic.specs.events.SourceEquality.{source_itself}
use Rattle.audit_traffic.proofs.about_events.ChangedGroups.{all_changed, mapped_distinct, set_changed, set_changed_apart}
use Rattle.audit_traffic.proofs.about_events.GroupLemmas.{flows_tested, left_alone}

-- ---- what an event makes of a flow

-- flows of one source, to two receivers
others : (flow other : EventFlow) → is_other flow other ≡ (is_same_source (source_of flow) (source_of other) && not (eq_by_cmp endpoint_cmp flow.receiver other.receiver))
others flow other = assoc (eq_by_cmp endpoint_cmp flow.sender other.sender) (flow.service == other.service) (flow.event == other.event) (not (eq_by_cmp endpoint_cmp flow.receiver other.receiver))
  where
    assoc : (a b c d : Bool) → (a && (b && (c && d))) ≡ ((a && (b && c)) && d)
    assoc true true c d = refl
    assoc true false c d = refl
    assoc false b c d = refl

-- where the receiver's source is known, what becomes of its flow, or nothing
abbrev pub came_if : Bool → Notification → EventFlow → LastEvent → LastEvent
came_if true event flow last = once_came event flow last
came_if false event flow last = last

-- flows of other sources are left alone
other_source : (b : Bool) (event : Notification) (flow : EventFlow) (l : LastEvent) → is_same_source (source_of event.flow) (source_of flow) ≡ false → came_if b event flow l ≡ l
other_source false event flow l other = refl
other_source true event flow l other =
    let test : eq_by_cmp flow_cmp event.flow flow ≡ false = flows_tested event.flow flow ∙ ap (λ b. b && eq_by_cmp endpoint_cmp event.flow.receiver flow.receiver) other in
    let none : is_other event.flow flow ≡ false = others event.flow flow ∙ ap (λ b. b && not (eq_by_cmp endpoint_cmp event.flow.receiver flow.receiver)) other in
    rw (test, none) refl

-- a receiver of the event's source
noted_is : (event : Notification) (r : Receiver) → noted event r ≡ changed_by (once_came event) (source_of event.flow) r
noted_is event r =
    let flow : EventFlow = flow_to (source_of event.flow) r.endpoint in
    let test : eq_by_cmp flow_cmp event.flow flow ≡ eq_by_cmp endpoint_cmp event.flow.receiver r.endpoint = flows_tested event.flow flow ∙ ap (λ b. b && eq_by_cmp endpoint_cmp event.flow.receiver r.endpoint) (source_itself (source_of event.flow)) in
    let other : is_other event.flow flow ≡ not (eq_by_cmp endpoint_cmp event.flow.receiver r.endpoint) = others event.flow flow ∙ ap (λ b. b && not (eq_by_cmp endpoint_cmp event.flow.receiver r.endpoint)) (source_itself (source_of event.flow)) in
    rw (test, other) (cases (eq_by_cmp endpoint_cmp event.flow.receiver r.endpoint) _ _)
  where
    cases : (t : Bool) (a b : LastEvent) → record r { last = if t then a else b } ≡ record r { last = if t then a else if not t then b else r.last }
    cases true a b = refl
    cases false a b = refl

map_alike : {X : Type 0} (f g : X → X) → ((x : X) → f x ≡ g x) → (xs : List X) → map f xs ≡ map g xs
map_alike f g same [] = refl
map_alike f g same (x ∷ xs) = let rest = map_alike f g same xs in λ i. same x i ∷ rest i

-- ---- the groups

module _ (event : Notification) (had : Option LastEvent) (v w : Vec Receiver) (known : IfSome had (λ _. w.items ≡ map (noted event) v.items)) (none : IfNone had (w.items ≡ v.items)) (old : Groups) (found : lookup (is_same_source (source_of event.flow)) old ≡ Some v) where
  changed_items : w.items ≡ map (changed_by (came_if (is_some had) event) (source_of event.flow)) v.items
  changed_items = cases had known none
    where
      cases : (x : Option LastEvent) → IfSome x (λ _. w.items ≡ map (noted event) v.items) → IfNone x (w.items ≡ v.items) → w.items ≡ map (changed_by (came_if (is_some x) event) (source_of event.flow)) v.items
      cases None k n = n ∙ left_alone (changed_by (came_if false event) (source_of event.flow)) v.items (λ r. refl)
      cases (Some l) k n = k ∙ map_alike (noted event) (changed_by (once_came event) (source_of event.flow)) (noted_is event) v.items

  pub came_flows : IsDistinct is_same_source (keys_of old) → (new : Groups) → new ≡ set_value (is_same_source (source_of event.flow)) old w → flows_in new ≡ all_changed (came_if (is_some had) event) (flows_in old)
  came_flows apart new is =
      ap flows_in is
      ∙ set_changed (source_of event.flow) (came_if (is_some had) event) (other_source (is_some had) event) v w old apart found changed_items

  pub came_count : IsDistinct is_same_source (keys_of old) → (new : Groups) → new ≡ set_value (is_same_source (source_of event.flow)) old w → length (flows_in new) ≡ length (flows_in old)
  came_count apart new is = ap length (came_flows apart new is) ∙ length-map (flows_in old) _

  pub came_kept : IsDistinct is_same_source (keys_of old) → (new : Groups) → new ≡ set_value (is_same_source (source_of event.flow)) old w → AreFlows old → AreFlows new
  came_kept apart new is flows = record {
    apart = rw is (set_changed_apart (source_of event.flow) (came_if (is_some had) event) v w old found changed_items flows.apart);
    distinct = rw (came_flows apart new is) (mapped_distinct flow_cmp (came_if (is_some had) event) (flows_in old) flows.distinct);
  }

  pub came_known : IsDistinct is_same_source (keys_of old) → (new : Groups) → new ≡ set_value (is_same_source (source_of event.flow)) old w
      → IfSome had (λ _. map_of flow_cmp (flows_in new) ≡ each_changed (once_came event) (map_of flow_cmp (flows_in old)))
  came_known apart new is = cases had (came_flows apart new is)
    where
      cases : (x : Option LastEvent) → flows_in new ≡ all_changed (came_if (is_some x) event) (flows_in old) → IfSome x (λ _. map_of flow_cmp (flows_in new) ≡ each_changed (once_came event) (map_of flow_cmp (flows_in old)))
      cases None e = tt
      cases (Some l) e = changed-entries flows_total exact_flows (once_came event) (flows_in old) (flows_in new) e

  pub came_none : IsDistinct is_same_source (keys_of old) → (new : Groups) → new ≡ set_value (is_same_source (source_of event.flow)) old w → IfNone had (flows_in new ≡ flows_in old)
  came_none apart new is = cases had (came_flows apart new is)
    where
      cases : (x : Option LastEvent) → flows_in new ≡ all_changed (came_if (is_some x) event) (flows_in old) → IfNone x (flows_in new ≡ flows_in old)
      cases None e = e ∙ sym (left_alone (λ (f : EventFlow × LastEvent). (f.0, f.1)) (flows_in old) (λ f. refl))
      cases (Some l) e = tt
