-- How many receivers an event of a sender goes to.
use Rattle.std.proofs.Common.{◌≡◌, Bool, true, false, cond, List, [], ◌∷◌, ◌++◌, filter, length, Option, None, Some, refl, ap, sym, ◌∙◌}
use Rattle.std.specs.List.{IsDistinct}
use Rattle.std.specs.Map.{keys_of, lookup}
use Rattle.std.specs.FinMap.{len}
use Rattle.std.proofs.lemmas.List.{length-map}
use Rattle.std.proofs.lemmas.List.Elements.{filter-append}
use Rattle.std.proofs.lemmas.Map.{lookup-none}
use Rattle.std.proofs.lemmas.Map.Entries.{none_past_head}
use Rattle.std.proofs.lemmas.Map.Keys.{IsDistinct-tail}
use Rattle.someip_tables.specs.Tables.{map_of}
use Rattle.someip_tables.proofs.Entries.{distinct-filter, len-from_entries}
use Rattle.someip_tables.proofs.Trees.{map_of-filter_keys}
use Rattle.audit_traffic.specs.declared.events.flow.EventFlow.{EventFlow}
use Rattle.audit_traffic.specs.declared.events.last_event.LastEvent.{LastEvent}
use Rattle.audit_traffic.specs.declared.events.receiver.Receiver.{Receiver}
use Rattle.audit_traffic.specs.declared.events.source.EventSource.{EventSource}
use Rattle.audit_traffic.specs.events.EventRules.{is_alike}
use Rattle.audit_traffic.specs.events.EventTables.{receivers_of}
use Rattle.audit_traffic.specs.events.FlowGroups.{AreFlows, Groups, flows_in, flows_of, is_same_source, source_of}
use Rattle.audit_traffic.specs.events.FlowKeys.{flow_cmp}
use Rattle.audit_traffic.specs.events.FlowOrder.{flows_total, exact_flows}
use Rattle.audit_traffic.specs.events.SourceEquality.{sources_equal}
use Rattle.audit_traffic.proofs.about_events.SourceLemmas.{items_of}

test_fails : {X : Type 0} (t : Bool) (x : X) (v : Option X) → cond t (Some x) v ≡ None → (t ≡ false) × (v ≡ None)
test_fails true x v is = absurd (cc)
test_fails false x v is = (refl, is)

abbrev nowhere : List (EventFlow × LastEvent)
nowhere = []

module _ (flow : EventFlow) where
  -- those of one source are all alike, or none is
  of_one : (source : EventSource) (rs : List Receiver) → filter (λ e. is_alike flow e.0) (flows_of source rs) ≡ cond (is_same_source (source_of flow) source) (flows_of source rs) []
  of_one source [] = none (is_same_source (source_of flow) source)
    where
      none : (b : Bool) → nowhere ≡ cond b nowhere nowhere
      none true = refl
      none false = refl
  of_one source (r ∷ rs) = cases (is_same_source (source_of flow) source) (of_one source rs)
    where
      cases : (b : Bool) → filter (λ e. is_alike flow e.0) (flows_of source rs) ≡ cond b (flows_of source rs) []
          → cond b ((record { sender = source.sender; service = source.service; event = source.event; receiver = r.endpoint }, r.last) ∷ filter (λ e. is_alike flow e.0) (flows_of source rs)) (filter (λ e. is_alike flow e.0) (flows_of source rs))
          ≡ cond b (flows_of source (r ∷ rs)) []
      cases true rest = ap (λ es. (record { sender = source.sender; service = source.service; event = source.event; receiver = r.endpoint }, r.last) ∷ es) rest
      cases false rest = rest

  nothing_more : {X : Type 0} (xs : List X) → (xs ++ []) ≡ xs
  nothing_more [] = refl
  nothing_more (x ∷ xs) = ap (λ ys. x ∷ ys) (nothing_more xs)

  -- without its source none is
  none_alike : (es : Groups) → lookup (is_same_source (source_of flow)) es ≡ None → filter (λ e. is_alike flow e.0) (flows_in es) ≡ []
  none_alike [] none = refl
  none_alike (e ∷ es) none =
      let parts = test_fails (is_same_source (source_of flow) e.0) e.1 (lookup (is_same_source (source_of flow)) es) none in
      filter-append (λ f. is_alike flow f.0) (flows_of e.0 e.1.items) (flows_in es)
      ∙ ap (λ fs. fs ++ filter (λ f. is_alike flow f.0) (flows_in es)) (of_one e.0 e.1.items)
      ∙ rw parts.0 (none_alike es parts.1)

  count_alike : (es : Groups) → IsDistinct is_same_source (keys_of es) → length (filter (λ e. is_alike flow e.0) (flows_in es)) ≡ length (items_of (lookup (is_same_source (source_of flow)) es))
  count_alike [] apart = refl
  count_alike (e ∷ es) apart =
      ap length (filter-append (λ f. is_alike flow f.0) (flows_of e.0 e.1.items) (flows_in es) ∙ ap (λ fs. fs ++ filter (λ f. is_alike flow f.0) (flows_in es)) (of_one e.0 e.1.items))
      ∙ cases (is_same_source (source_of flow) e.0) refl (count_alike es (IsDistinct-tail is_same_source e.0 (keys_of es) apart))
    where
      cases : (t : Bool) → is_same_source (source_of flow) e.0 ≡ t → length (filter (λ f. is_alike flow f.0) (flows_in es)) ≡ length (items_of (lookup (is_same_source (source_of flow)) es))
          → length (cond t (flows_of e.0 e.1.items) [] ++ filter (λ f. is_alike flow f.0) (flows_in es)) ≡ length (items_of (cond t (Some e.1) (lookup (is_same_source (source_of flow)) es)))
      cases true t more =
          let rest : filter (λ f. is_alike flow f.0) (flows_in es) ≡ [] = none_alike es (lookup-none (is_same_source (source_of flow)) es (none_past_head sources_equal (source_of flow) e es apart t)) in
          ap (λ fs. length (flows_of e.0 e.1.items ++ fs)) rest ∙ ap length (nothing_more (flows_of e.0 e.1.items)) ∙ length-map e.1.items _
      cases false t more = more

pub receivers_are : (flow : EventFlow) (es : Groups) → IsDistinct is_same_source (keys_of es) → AreFlows es
    → length (items_of (lookup (is_same_source (source_of flow)) es)) ≡ receivers_of flow (map_of flow_cmp (flows_in es))
receivers_are flow es apart flows =
    sym (count_alike flow es apart)
    ∙ sym (len-from_entries flows_total exact_flows _ (distinct-filter flows_total exact_flows (λ e. is_alike flow e.0) (flows_in es) flows.distinct))
    ∙ ap len (map_of-filter_keys flows_total exact_flows (is_alike flow) (flows_in es))
