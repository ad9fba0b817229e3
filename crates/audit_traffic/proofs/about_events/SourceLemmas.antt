-- Flows are found by their sources, and none stands twice.
use Rattle.std.proofs.Common.{◌≡◌, Bool, true, false, cond, if◌then◌else◌, List, [], ◌∷◌, ◌++◌, Option, None, Some, refl, ap, ◌∙◌}
use Rattle.std.specs.Global.{Vec}
use Rattle.std.specs.List.{IsDistinct}
use Rattle.std.specs.Map.{keys_of, lookup}
use Rattle.std.specs.Option.{is_none, option_or}
use Rattle.std.specs.Ordering.{eq_by_cmp}
use Rattle.std.specs.FinMap.{find}
use Rattle.std.proofs.lemmas.Bool.{and_parts, and_from}
use Rattle.std.proofs.lemmas.List.Elements.{All-head, All-tail}
use Rattle.std.proofs.lemmas.Map.{lookup-none}
use Rattle.std.proofs.lemmas.Map.Entries.{none_past_head}
use Rattle.std.proofs.lemmas.Map.Keys.{IsDistinct-tail}
use Rattle.someip_tables.specs.Distinct.{are_distinct}
use Rattle.someip_tables.specs.Endpoints.{endpoint_cmp}
use Rattle.someip_tables.proofs.Entries.{none_found}
use Rattle.audit_traffic.specs.declared.events.flow.EventFlow.{EventFlow}
use Rattle.audit_traffic.specs.declared.events.last_event.LastEvent.{LastEvent}
use Rattle.audit_traffic.specs.declared.events.receiver.Receiver.{Receiver}
use Rattle.audit_traffic.specs.declared.events.source.EventSource.{EventSource}
use Rattle.audit_traffic.specs.events.FlowGroups.{AreApart, Groups, flow_to, flows_in, flows_of, is_same_source, lasts_of, source_of}
use Rattle.audit_traffic.specs.events.FlowKeys.{flow_cmp}
use Rattle.audit_traffic.specs.events.SourceEquality.{source_itself, sources_equal}
use Rattle.audit_traffic.proofs.about_events.GroupLemmas.{found-of}

-- ---- finding

find-both : (q : EventFlow) (xs ys : List (EventFlow × LastEvent)) → find flow_cmp q (xs ++ ys) ≡ option_or (find flow_cmp q xs) (find flow_cmp q ys)
find-both q [] ys = refl
find-both q (x ∷ xs) ys = cases (eq_by_cmp flow_cmp q x.0) (find-both q xs ys)
  where
    cases : (t : Bool) → find flow_cmp q (xs ++ ys) ≡ option_or (find flow_cmp q xs) (find flow_cmp q ys)
        → cond t (Some x.1) (find flow_cmp q (xs ++ ys)) ≡ option_or (cond t (Some x.1) (find flow_cmp q xs)) (find flow_cmp q ys)
    cases true rest = refl
    cases false rest = rest

-- what is known of a flow by the receivers of its source
abbrev pub items_of : Option (Vec Receiver) → List Receiver
items_of None = []
items_of (Some receivers) = receivers.items

abbrev pub found_in : EventFlow → Option (Vec Receiver) → Option LastEvent
found_in q receivers = find endpoint_cmp q.receiver (lasts_of (items_of receivers))

test_fails : {X : Type 0} (t : Bool) (x : X) (v : Option X) → cond t (Some x) v ≡ None → (t ≡ false) × (v ≡ None)
test_fails true x v is = absurd (cc)
test_fails false x v is = (refl, is)

-- without its source a flow is not found
pub none_without : (q : EventFlow) (es : Groups) → lookup (is_same_source (source_of q)) es ≡ None → find flow_cmp q (flows_in es) ≡ None
none_without q [] none = refl
none_without q (e ∷ es) none =
    let parts = test_fails (is_same_source (source_of q) e.0) e.1 (lookup (is_same_source (source_of q)) es) none in
    let here : find flow_cmp q (flows_of e.0 e.1.items) ≡ None = found-of e.0 q e.1.items ∙ rw parts.0 refl in
    find-both q (flows_of e.0 e.1.items) (flows_in es) ∙ ap (λ v. option_or v (find flow_cmp q (flows_in es))) here ∙ none_without q es parts.1

pub found_by_source : (q : EventFlow) (es : Groups) → IsDistinct is_same_source (keys_of es) → find flow_cmp q (flows_in es) ≡ found_in q (lookup (is_same_source (source_of q)) es)
found_by_source q [] apart = refl
found_by_source q (e ∷ es) apart =
    find-both q (flows_of e.0 e.1.items) (flows_in es)
    ∙ ap (λ v. option_or v (find flow_cmp q (flows_in es))) (found-of e.0 q e.1.items)
    ∙ cases (is_same_source (source_of q) e.0) refl (found_by_source q es (IsDistinct-tail is_same_source e.0 (keys_of es) apart))
  where
    only : (v : Option LastEvent) → option_or v None ≡ v
    only None = refl
    only (Some l) = refl

    cases : (t : Bool) → is_same_source (source_of q) e.0 ≡ t → find flow_cmp q (flows_in es) ≡ found_in q (lookup (is_same_source (source_of q)) es)
        → option_or (if t then find endpoint_cmp q.receiver (lasts_of e.1.items) else None) (find flow_cmp q (flows_in es)) ≡ found_in q (cond t (Some e.1) (lookup (is_same_source (source_of q)) es))
    cases true t more =
        let rest : find flow_cmp q (flows_in es) ≡ None = none_without q es (lookup-none (is_same_source (source_of q)) es (none_past_head sources_equal (source_of q) e es apart t)) in
        ap (option_or (find endpoint_cmp q.receiver (lasts_of e.1.items))) rest ∙ only (find endpoint_cmp q.receiver (lasts_of e.1.items))
    cases false t more = more

-- ---- none stands twice

pub flows_distinct : (es : Groups) → IsDistinct is_same_source (keys_of es) → AreApart es → are_distinct flow_cmp (flows_in es) ≡ true
flows_distinct [] apart each = refl
flows_distinct (e ∷ es) apart each =
    before
    (flows_distinct es (IsDistinct-tail is_same_source e.0 (keys_of es) apart) (All-tail (λ (g : EventSource × Vec Receiver). are_distinct endpoint_cmp (lasts_of g.1.items) ≡ true) e es each))
    e.1.items
    (All-head (λ (g : EventSource × Vec Receiver). are_distinct endpoint_cmp (lasts_of g.1.items) ≡ true) e es each)
  where
    none : lookup (is_same_source e.0) es ≡ None
    none = lookup-none (is_same_source e.0) es (none_past_head sources_equal e.0 e es apart (source_itself e.0))

    before : are_distinct flow_cmp (flows_in es) ≡ true → (rs : List Receiver) → are_distinct endpoint_cmp (lasts_of rs) ≡ true → are_distinct flow_cmp (flows_of e.0 rs ++ flows_in es) ≡ true
    before rest [] d = rest
    before rest (r ∷ rs) d =
        let parts = and_parts _ _ d in
        let flow : EventFlow = flow_to e.0 r.endpoint in
        let here : find flow_cmp flow (flows_of e.0 rs) ≡ None = found-of e.0 flow rs ∙ rw (source_itself e.0) (none_found _ parts.0) in
        let there : find flow_cmp flow (flows_in es) ≡ None = none_without flow es none in
        let nowhere : find flow_cmp flow (flows_of e.0 rs ++ flows_in es) ≡ None = find-both flow (flows_of e.0 rs) (flows_in es) ∙ rw here there in
        and_from _ _ (ap is_none nowhere) (before rest rs parts.1)
