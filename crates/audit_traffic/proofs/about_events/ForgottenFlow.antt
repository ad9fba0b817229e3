-- One flow of its source is forgotten.
use Rattle.std.proofs.Common.{◌≡◌, ◌≢◌, ◌-◌, ◌≤◌, arith, Bool, true, false, cond, not, ◌&&◌, [], filter, length, Option, None, Some, is_some, refl, ap, sym, subst, ◌∙◌}
use Rattle.std.specs.Global.{Vec}
use Rattle.std.specs.List.{IsDistinct}
use Rattle.std.specs.List.Sorted.{IsPermutation}
use Rattle.std.specs.Map.{keys_of, lookup, remove_entry, set_value}
use Rattle.std.specs.Option.{IfSome}
use Rattle.std.specs.Ordering.{eq_by_cmp}
use Rattle.std.specs.FinMap.{empty_of_len, find, get, get-empty, get-remove, len, len-remove, remove, same_map}
use Rattle.std.proofs.lemmas.List.Sorted.{All-permutation}
use Rattle.std.proofs.lemmas.Map.Entries.{All-lookup}
use Rattle.std.proofs.lemmas.Map.Views.{All-map-remove_entry}
use Rattle.someip_tables.specs.Distinct.{are_distinct}
use Rattle.someip_tables.specs.Endpoints.{endpoint_cmp}
use Rattle.someip_tables.specs.EndpointOrder.{endpoints_total, exact_endpoints}
use Rattle.someip_tables.specs.Retained.{kept_if}
use Rattle.someip_tables.specs.Tables.{map_of}
use Rattle.someip_tables.proofs.Entries.{distinct-filter, find-filter}
use Rattle.someip_tables.proofs.MapLaws.{remove_absent}
use Rattle.audit_traffic.specs.declared.events.flow.EventFlow.{EventFlow}
use Rattle.audit_traffic.specs.declared.events.last_event.LastEvent.{LastEvent}
use Rattle.audit_traffic.specs.declared.events.receiver.Receiver.{Receiver}
use Rattle.audit_traffic.specs.declared.events.source.EventSource.{EventSource}
use Rattle.audit_traffic.specs.events.FlowGroups.{AreApart, AreFlows, Groups, flow_to, flows_in, is_same_source, lasts_of, source_of}
use Rattle.audit_traffic.specs.events.FlowKeys.{flow_cmp}
use Rattle.audit_traffic.specs.events.FlowOrder.{flows_total, exact_flows}
use Rattle.audit_traffic.specs.events.SourceEquality.{one_source, source_itself}
use Rattle.audit_traffic.proofs.about_events.AddedFlows.{known_by_source, len_is, set_updates}
use Rattle.audit_traffic.proofs.about_events.ChangedGroups.{set_apart}
use Rattle.audit_traffic.proofs.about_events.GroupLemmas.{flows_tested, lasts-filtered, left_alone}
use Rattle.audit_traffic.proofs.about_events.SourceLemmas.{flows_distinct, found_in}

other_way : (a b : EventSource) → is_same_source a b ≡ false → is_same_source b a ≡ false
other_way a b differs = cases (is_same_source b a) refl
  where
    cases : (t : Bool) → is_same_source b a ≡ t → t ≡ false
    cases false is = refl
    cases true is =
        let itself : is_same_source a b ≡ true = ap (is_same_source a) (one_source b a is) ∙ source_itself a in
        cc

module _ (flow : EventFlow) where
  -- without its source it is not known
  pub none_forgotten : (old : Groups) → IsDistinct is_same_source (keys_of old) → lookup (is_same_source (source_of flow)) old ≡ None
      → map_of flow_cmp (flows_in old) ≡ remove (map_of flow_cmp (flows_in old)) flow
  none_forgotten old apart none =
      sym (remove_absent flows_total exact_flows (map_of flow_cmp (flows_in old)) flow (known_by_source flow old apart ∙ ap (found_in flow) none))

  pub none_known : (old : Groups) → IsDistinct is_same_source (keys_of old) → lookup (is_same_source (source_of flow)) old ≡ None → false ≡ is_some (get (map_of flow_cmp (flows_in old)) flow)
  none_known old apart none = sym (ap is_some (known_by_source flow old apart ∙ ap (found_in flow) none))

  -- with it it is, if its receiver is there
  pub one_known : (v : Vec Receiver) (old : Groups) → IsDistinct is_same_source (keys_of old) → lookup (is_same_source (source_of flow)) old ≡ Some v
      → is_some (find endpoint_cmp flow.receiver (lasts_of v.items)) ≡ is_some (get (map_of flow_cmp (flows_in old)) flow)
  one_known v old apart found = sym (ap is_some (known_by_source flow old apart ∙ ap (found_in flow) found))

  -- those of its source that do not go to its receiver
  abbrev stays : EventFlow → Bool
  stays other = not (eq_by_cmp endpoint_cmp other.receiver flow.receiver)

  module _ (v w : Vec Receiver) (items : w.items ≡ filter (λ r. not (eq_by_cmp endpoint_cmp r.endpoint flow.receiver)) v.items) (old new : Groups) (found : lookup (is_same_source (source_of flow)) old ≡ Some v)
      (apart : IsDistinct is_same_source (keys_of old)) (is : new ≡ set_value (is_same_source (source_of flow)) old w) (apart_new : IsDistinct is_same_source (keys_of new)) (flows : AreFlows old) where
    distinct_before : are_distinct endpoint_cmp (lasts_of v.items) ≡ true
    distinct_before = subst (λ (x : Option (Vec Receiver)). IfSome x (λ rs. are_distinct endpoint_cmp (lasts_of rs.items) ≡ true)) found (All-lookup (λ (rs : Vec Receiver). are_distinct endpoint_cmp (lasts_of rs.items) ≡ true) (is_same_source (source_of flow)) old flows.apart)

    lasts_left : lasts_of w.items ≡ filter (λ e. stays (flow_to (source_of flow) e.0)) (lasts_of v.items)
    lasts_left = ap lasts_of items ∙ lasts-filtered (source_of flow) stays v.items

    pub gone_flows : AreFlows new
    gone_flows =
        let distinct_after : are_distinct endpoint_cmp (lasts_of w.items) ≡ true = ap (are_distinct endpoint_cmp) lasts_left ∙ distinct-filter endpoints_total exact_endpoints (λ e. stays (flow_to (source_of flow) e.0)) (lasts_of v.items) distinct_before in
        let each : AreApart new = rw is (set_apart (source_of flow) w old distinct_after flows.apart) in
        record { apart = each; distinct = flows_distinct new apart_new each }

    pub gone_after : map_of flow_cmp (flows_in new) ≡ remove (map_of flow_cmp (flows_in old)) flow
    gone_after =
        same_map flows_total exact_flows _ _ (λ q.
        known_by_source q new apart_new ∙ ap (λ es. found_in q (lookup (is_same_source (source_of q)) es)) is ∙ ap (found_in q) (set_updates (source_of flow) v w old found (source_of q))
        ∙ cases q (is_same_source (source_of flow) (source_of q)) refl
        ∙ ap (λ x. cond (eq_by_cmp flow_cmp q flow) None x) (sym (known_by_source q old apart))
        ∙ sym (get-remove flows_total (map_of flow_cmp (flows_in old)) flow q))
      where
        kept : (b : Bool) (x : Option LastEvent) → kept_if (λ _. not b) x ≡ cond b None x
        kept true None = refl
        kept true (Some l) = refl
        kept false None = refl
        kept false (Some l) = refl

        cases : (q : EventFlow) (t : Bool) → is_same_source (source_of flow) (source_of q) ≡ t
            → found_in q (cond t (Some w) (lookup (is_same_source (source_of q)) old)) ≡ cond (eq_by_cmp flow_cmp q flow) None (found_in q (lookup (is_same_source (source_of q)) old))
        cases q true t =
            let source : source_of flow ≡ source_of q = one_source (source_of flow) (source_of q) t in
            let back : is_same_source (source_of q) (source_of flow) ≡ true = ap (is_same_source (source_of q)) source ∙ source_itself (source_of q) in
            let test : eq_by_cmp flow_cmp q flow ≡ eq_by_cmp endpoint_cmp q.receiver flow.receiver = flows_tested q flow ∙ ap (λ b. b && eq_by_cmp endpoint_cmp q.receiver flow.receiver) back in
            let there : lookup (is_same_source (source_of q)) old ≡ Some v = ap (λ s. lookup (is_same_source s) old) (sym source) ∙ found in
            ap (find endpoint_cmp q.receiver) lasts_left ∙ find-filter endpoints_total exact_endpoints (λ e. stays (flow_to (source_of flow) e.0)) q.receiver (lasts_of v.items) distinct_before
            ∙ kept (eq_by_cmp endpoint_cmp q.receiver flow.receiver) (find endpoint_cmp q.receiver (lasts_of v.items))
            ∙ ap (λ b. cond b None (find endpoint_cmp q.receiver (lasts_of v.items))) (sym test)
            ∙ ap (λ x. cond (eq_by_cmp flow_cmp q flow) None (found_in q x)) (sym there)
        cases q false t =
            let test : eq_by_cmp flow_cmp q flow ≡ false = flows_tested q flow ∙ ap (λ b. b && eq_by_cmp endpoint_cmp q.receiver flow.receiver) (other_way (source_of flow) (source_of q) t) in
            sym (ap (λ b. cond b None (found_in q (lookup (is_same_source (source_of q)) old))) test)

-- ---- a source without receivers is dropped

module _ (source : EventSource) (old new : Groups) (apart : IsDistinct is_same_source (keys_of old)) (apart_new : IsDistinct is_same_source (keys_of new))
    (none : (receivers : Vec Receiver) → lookup (is_same_source source) old ≡ Some receivers → receivers.items ≡ [])
    (updates : (q : EventSource) → lookup (is_same_source q) new ≡ cond (is_same_source source q) None (lookup (is_same_source q) old)) where
  pub dropped_after : map_of flow_cmp (flows_in new) ≡ map_of flow_cmp (flows_in old)
  dropped_after =
      same_map flows_total exact_flows _ _ (λ q.
      known_by_source q new apart_new ∙ ap (found_in q) (updates (source_of q)) ∙ cases q (is_same_source source (source_of q)) refl ∙ sym (known_by_source q old apart))
    where
      empty_in : (q : EventFlow) (x : Option (Vec Receiver)) → ((receivers : Vec Receiver) → x ≡ Some receivers → receivers.items ≡ []) → None ≡ found_in q x
      empty_in q None no_items = refl
      empty_in q (Some receivers) no_items = sym (ap (λ rs. find endpoint_cmp q.receiver (lasts_of rs)) (no_items receivers refl))

      cases : (q : EventFlow) (t : Bool) → is_same_source source (source_of q) ≡ t → found_in q (cond t None (lookup (is_same_source (source_of q)) old)) ≡ found_in q (lookup (is_same_source (source_of q)) old)
      cases q false t = refl
      cases q true t = empty_in q (lookup (is_same_source (source_of q)) old) (λ rs at. none rs (ap (λ s. lookup (is_same_source s) old) (one_source source (source_of q) t) ∙ at))

  pub dropped_flows : IsPermutation (remove_entry (is_same_source source) old) new → AreFlows old → AreFlows new
  dropped_flows moved flows =
      let left : AreApart (remove_entry (is_same_source source) old) =
      subst AreApart (sym (left_alone (λ (g : EventSource × Vec Receiver). g) (remove_entry (is_same_source source) old) (λ g. refl)))
      (All-map-remove_entry (is_same_source source) (λ (g : EventSource × Vec Receiver). g) (λ g. are_distinct endpoint_cmp (lasts_of g.1.items) ≡ true) old
      (subst AreApart (left_alone (λ (g : EventSource × Vec Receiver). g) old (λ g. refl)) flows.apart)) in
      let each : AreApart new = All-permutation (λ (g : EventSource × Vec Receiver). are_distinct endpoint_cmp (lasts_of g.1.items) ≡ true) (remove_entry (is_same_source source) old) new moved left in
      record { apart = each; distinct = flows_distinct new apart_new each }

-- ---- how many are left

module _ (old new : Groups) (flow : EventFlow) (before : AreFlows old) (after : AreFlows new) (is : map_of flow_cmp (flows_in new) ≡ remove (map_of flow_cmp (flows_in old)) flow) where
  pub some_there : is_some (get (map_of flow_cmp (flows_in old)) flow) ≡ true → 1 ≤ length (flows_in old)
  some_there known =
      let some : len (map_of flow_cmp (flows_in old)) ≢ 0 = λ zero.
      let none : get (map_of flow_cmp (flows_in old)) flow ≡ None = ap (λ m. get m flow) (empty_of_len (map_of flow_cmp (flows_in old)) zero) ∙ get-empty flow_cmp flow in
      let there : is_some (get (map_of flow_cmp (flows_in old)) flow) ≡ true = known in cc in
      omega (arith, some, len_is old before)

  left : length (flows_in new) ≡ cond (is_some (get (map_of flow_cmp (flows_in old)) flow)) (length (flows_in old) - 1) (length (flows_in old))
  left =
      sym (len_is new after) ∙ ap len is ∙ len-remove flows_total (map_of flow_cmp (flows_in old)) flow
      ∙ ap (λ n. cond (is_some (get (map_of flow_cmp (flows_in old)) flow)) (n - 1) n) (len_is old before)

  pub len_fewer : is_some (get (map_of flow_cmp (flows_in old)) flow) ≡ true → length (flows_in old) - 1 ≡ length (flows_in new)
  len_fewer known = sym (left ∙ ap (λ b. cond b (length (flows_in old) - 1) (length (flows_in old))) known)

  pub len_same : is_some (get (map_of flow_cmp (flows_in old)) flow) ≡ false → length (flows_in old) ≡ length (flows_in new)
  len_same unknown = sym (left ∙ ap (λ b. cond b (length (flows_in old) - 1) (length (flows_in old))) unknown)
