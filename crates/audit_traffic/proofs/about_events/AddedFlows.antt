-- One flow more.
use Rattle.std.proofs.Common.{◌≡◌, ◌+◌, length, Bool, true, false, cond, ◌&&◌, [], ◌∷◌, ◌++◌, map, Option, None, Some, refl, ap, sym, ◌∙◌}
use Rattle.std.specs.Global.{Vec}
use Rattle.std.specs.List.{IsDistinct}
use Rattle.std.specs.List.Sorted.{IsPermutation}
use Rattle.std.specs.Map.{keys_of, lookup, set_value}
use Rattle.std.specs.Option.{IfSome, is_some}
use Rattle.std.specs.Ordering.{eq_by_cmp}
use Rattle.std.specs.Cmp.{eq_by_cmp_equiv}
use Rattle.std.specs.FinMap.{find, insert, get, get-from_entries, len, len-insert}
use Rattle.std.specs.FinMap.Entries.{find-append}
use Rattle.std.proofs.lemmas.List.{map-append}
use Rattle.std.proofs.lemmas.List.Elements.{All-cons}
use Rattle.std.proofs.lemmas.List.Sorted.{All-permutation}
use Rattle.std.proofs.lemmas.Map.{lookup-set_value}
use Rattle.std.proofs.lemmas.Map.Entries.{All-lookup}
use Rattle.someip_tables.specs.Distinct.{are_distinct}
use Rattle.someip_tables.specs.Endpoints.{endpoint_cmp}
use Rattle.someip_tables.specs.EndpointOrder.{endpoints_total, exact_endpoints}
use Rattle.someip_tables.specs.Tables.{map_of}
use Rattle.someip_tables.proofs.Entries.{distinct-push, len-from_entries}
use Rattle.someip_tables.proofs.Trees.{find-lookup, map_of-insert}
use Rattle.audit_traffic.specs.declared.events.flow.EventFlow.{EventFlow}
use Rattle.audit_traffic.specs.declared.events.last_event.LastEvent.{LastEvent}
use Rattle.audit_traffic.specs.declared.events.receiver.Receiver.{Receiver}
use Rattle.audit_traffic.specs.declared.events.source.EventSource.{EventSource}
use Rattle.audit_traffic.specs.events.FlowGroups.{AreApart, AreFlows, Groups, changed_by, flow_to, flows_in, is_same_source, lasts_of, source_of}
use Rattle.audit_traffic.specs.events.FlowKeys.{flow_cmp}
use Rattle.audit_traffic.specs.events.FlowOrder.{flows_total, exact_flows}
use Rattle.audit_traffic.specs.events.SourceEquality.{one_source, sources_equal}
use Rattle.audit_traffic.proofs.about_events.ChangedGroups.{set_apart, set_changed, set_changed_apart}
use Rattle.audit_traffic.proofs.about_events.GroupLemmas.{flows_tested, left_alone}
use Rattle.audit_traffic.proofs.about_events.SourceLemmas.{found_by_source, found_in, items_of}

-- what is known of a flow
pub known_by_source : (q : EventFlow) (es : Groups) → IsDistinct is_same_source (keys_of es) → get (map_of flow_cmp (flows_in es)) q ≡ found_in q (lookup (is_same_source (source_of q)) es)
known_by_source q es apart = get-from_entries flows_total (flows_in es) q ∙ found_by_source q es apart

module _ (s : EventSource) (r : Receiver) (w : Vec Receiver) (old : Groups) (items : w.items ≡ items_of (lookup (is_same_source s) old) ++ r ∷ []) (none : find endpoint_cmp r.endpoint (lasts_of (items_of (lookup (is_same_source s) old))) ≡ None) where
  lasts : lasts_of w.items ≡ lasts_of (items_of (lookup (is_same_source s) old)) ++ (r.endpoint, r.last) ∷ []
  lasts = ap lasts_of items ∙ map-append (λ (r : Receiver). (r.endpoint, r.last)) (items_of (lookup (is_same_source s) old)) (r ∷ [])

  pub one_more : (new : Groups) → IsDistinct is_same_source (keys_of old) → IsDistinct is_same_source (keys_of new)
      → ((q : EventSource) → lookup (is_same_source q) new ≡ cond (is_same_source s q) (Some w) (lookup (is_same_source q) old))
      → map_of flow_cmp (flows_in new) ≡ insert (map_of flow_cmp (flows_in old)) (flow_to s r.endpoint) r.last
  one_more new apart apart_new updates =
      map_of-insert flows_total exact_flows (flows_in old) (flows_in new) (flow_to s r.endpoint) r.last (λ q.
      sym (find-lookup flow_cmp q (flows_in new)) ∙ found_by_source q new apart_new ∙ ap (found_in q) (updates (source_of q))
      ∙ cases q (is_same_source s (source_of q)) refl
      ∙ ap (λ v. cond (eq_by_cmp flow_cmp (flow_to s r.endpoint) q) (Some r.last) v) (sym (found_by_source q old apart) ∙ find-lookup flow_cmp q (flows_in old)))
    where
      other_way : (q : EventFlow) → eq_by_cmp endpoint_cmp q.receiver r.endpoint ≡ eq_by_cmp endpoint_cmp r.endpoint q.receiver
      other_way q = (eq_by_cmp_equiv endpoints_total).symm q.receiver r.endpoint

      cases : (q : EventFlow) (t : Bool) → is_same_source s (source_of q) ≡ t
          → found_in q (cond t (Some w) (lookup (is_same_source (source_of q)) old)) ≡ cond (eq_by_cmp flow_cmp (flow_to s r.endpoint) q) (Some r.last) (found_in q (lookup (is_same_source (source_of q)) old))
      cases q true t =
          let source : s ≡ source_of q = one_source s (source_of q) t in
          let test : eq_by_cmp flow_cmp (flow_to s r.endpoint) q ≡ eq_by_cmp endpoint_cmp r.endpoint q.receiver = flows_tested (flow_to s r.endpoint) q ∙ ap (λ b. b && eq_by_cmp endpoint_cmp r.endpoint q.receiver) t in
          ap (find endpoint_cmp q.receiver) lasts ∙ find-append endpoint_cmp endpoints_total (lasts_of (items_of (lookup (is_same_source s) old))) r.endpoint r.last q.receiver none
          ∙ ap (λ b. cond b (Some r.last) (find endpoint_cmp q.receiver (lasts_of (items_of (lookup (is_same_source s) old))))) (other_way q ∙ sym test)
          ∙ ap (λ x. cond (eq_by_cmp flow_cmp (flow_to s r.endpoint) q) (Some r.last) (found_in q (lookup (is_same_source x) old))) source
      cases q false t =
          let test : eq_by_cmp flow_cmp (flow_to s r.endpoint) q ≡ false = flows_tested (flow_to s r.endpoint) q ∙ ap (λ b. b && eq_by_cmp endpoint_cmp r.endpoint q.receiver) t in
          sym (ap (λ b. cond b (Some r.last) (found_in q (lookup (is_same_source (source_of q)) old))) test)

  apart_more : AreApart old → are_distinct endpoint_cmp (lasts_of w.items) ≡ true
  apart_more each =
      ap (are_distinct endpoint_cmp) lasts
      ∙ distinct-push endpoints_total exact_endpoints r.endpoint r.last (lasts_of (items_of (lookup (is_same_source s) old))) none (before (lookup (is_same_source s) old) (All-lookup (λ (rs : Vec Receiver). are_distinct endpoint_cmp (lasts_of rs.items) ≡ true) (is_same_source s) old each))
    where
      before : (v : Option (Vec Receiver)) → IfSome v (λ rs. are_distinct endpoint_cmp (lasts_of rs.items) ≡ true) → are_distinct endpoint_cmp (lasts_of (items_of v)) ≡ true
      before None h = refl
      before (Some v) h = h

  pub joined_apart : AreApart old → AreApart (set_value (is_same_source s) old w)
  joined_apart each = set_apart s w old (apart_more each) each

  pub begun_apart : (new : Groups) → IsPermutation ((s, w) ∷ old) new → AreApart old → AreApart new
  begun_apart new moved each =
      All-permutation (λ (g : EventSource × Vec Receiver). are_distinct endpoint_cmp (lasts_of g.1.items) ≡ true) ((s, w) ∷ old) new moved
      (All-cons (λ (g : EventSource × Vec Receiver). are_distinct endpoint_cmp (lasts_of g.1.items) ≡ true) (s, w) old (apart_more each) each)

-- a group with the same receivers put in its place changes nothing
module _ (s : EventSource) (v w : Vec Receiver) (old : Groups) (found : lookup (is_same_source s) old ≡ Some v) (same : w.items ≡ v.items) where
  kept : w.items ≡ map (changed_by (λ _ l. l) s) v.items
  kept = same ∙ left_alone (changed_by (λ _ l. l) s) v.items (λ r. refl)

  pub kept_flows : IsDistinct is_same_source (keys_of old) → flows_in (set_value (is_same_source s) old w) ≡ flows_in old
  kept_flows apart = set_changed s (λ _ l. l) (λ flow l other. refl) v w old apart found kept ∙ sym (left_alone (λ (f : EventFlow × LastEvent). (f.0, f.1)) (flows_in old) (λ f. refl))

  pub kept_groups : IsDistinct is_same_source (keys_of old) → AreFlows old → AreFlows (set_value (is_same_source s) old w)
  kept_groups apart flows = record {
    apart = set_changed_apart s (λ _ l. l) v w old found kept flows.apart;
    distinct = ap (are_distinct flow_cmp) (kept_flows apart) ∙ flows.distinct;
  }

-- the groups once one was put in the place of another
pub set_updates : (s : EventSource) (v w : Vec Receiver) (old : Groups) → lookup (is_same_source s) old ≡ Some v
    → (q : EventSource) → lookup (is_same_source q) (set_value (is_same_source s) old w) ≡ cond (is_same_source s q) (Some w) (lookup (is_same_source q) old)
set_updates s v w old found q =
    lookup-set_value sources_equal (is_same_source s) (λ x y same. ap (λ a. is_same_source a y) (one_source s x same)) q w old (rw found refl)

-- ---- how many there are

pub len_is : (es : Groups) → AreFlows es → len (map_of flow_cmp (flows_in es)) ≡ length (flows_in es)
len_is es flows = len-from_entries flows_total exact_flows (flows_in es) flows.distinct

-- and one more
pub len_more : (old new : Groups) (flow : EventFlow) (last : LastEvent) → AreFlows old → AreFlows new → get (map_of flow_cmp (flows_in old)) flow ≡ None
    → map_of flow_cmp (flows_in new) ≡ insert (map_of flow_cmp (flows_in old)) flow last → length (flows_in new) ≡ length (flows_in old) + 1
len_more old new flow last before after none is =
    sym (len_is new after) ∙ ap len is ∙ len-insert flows_total (map_of flow_cmp (flows_in old)) flow last
    ∙ ap (λ v. cond (is_some v) (len (map_of flow_cmp (flows_in old))) (len (map_of flow_cmp (flows_in old)) + 1)) none
    ∙ ap (λ n. n + 1) (len_is old before)
