-- What a change of the receivers of sources makes of all flows.
use Rattle.std.proofs.Common.{◌≡◌, ℕ, ◌+◌, ◌≤◌, nat_lt, Bool, true, false, cond, List, [], ◌∷◌, ◌++◌, filter, length, map, Option, None, Some, refl, ap, sym, subst, ◌∙◌, arith}
use Rattle.std.specs.Global.{Vec}
use Rattle.std.specs.List.{IsDistinct}
use Rattle.std.specs.Map.{keys_of, lookup, set_value, values_of}
use Rattle.std.specs.Map.Calls.{RetainsPairs}
use Rattle.std.specs.declared.cmp.Ordering.{Ordering}
use Rattle.std.specs.Option.{is_none, IfSome}
use Rattle.std.specs.Ordering.{eq_by_cmp}
use Rattle.std.proofs.lemmas.Bool.{and_parts, and_from, lt-ltb}
use Rattle.std.specs.FinMap.{find}
use Rattle.std.proofs.lemmas.List.{length-append, length-map, map-append}
use Rattle.std.proofs.lemmas.List.Elements.{All-cons, All-head, All-tail, filter-append}
use Rattle.std.proofs.lemmas.Map.{lookup-none}
use Rattle.std.proofs.lemmas.Map.Entries.{All-lookup, none_past_head}
use Rattle.std.proofs.lemmas.Map.Keys.{IsDistinct-tail}
use Rattle.someip_tables.specs.Distinct.{are_distinct}
use Rattle.someip_tables.specs.Endpoints.{endpoint_cmp}
use Rattle.someip_tables.specs.EndpointOrder.{endpoints_total, exact_endpoints}
use Rattle.someip_tables.proofs.Entries.{distinct-filter, none_found}
use Rattle.audit_traffic.specs.declared.events.flow.EventFlow.{EventFlow}
use Rattle.audit_traffic.specs.declared.events.last_event.LastEvent.{LastEvent}
use Rattle.audit_traffic.specs.declared.events.receiver.Receiver.{Receiver}
use Rattle.audit_traffic.specs.declared.events.source.EventSource.{EventSource}
use Rattle.audit_traffic.specs.events.FlowGroups.{AreApart, Groups, changed_by, flow_to, flows_in, flows_of, is_same_source, lasts_of, source_of}
use Rattle.audit_traffic.specs.events.SourceEquality.{one_source, sources_equal}
use Rattle.audit_traffic.proofs.about_events.GroupLemmas.{flows-filtered, flows-mapped, lasts-filtered, lasts-mapped}

-- each flow with its last event changed
abbrev pub all_changed : (EventFlow → LastEvent → LastEvent) → List (EventFlow × LastEvent) → List (EventFlow × LastEvent)
all_changed g = map (λ e. (e.0, g e.0 e.1))

-- ---- the receivers of one source

one_value : {X : Type 0} (a b : X) → Some a ≡ Some b → a ≡ b
one_value a b is = cc

module _ (s : EventSource) (g : EventFlow → LastEvent → LastEvent) (alone : (flow : EventFlow) (l : LastEvent) → is_same_source s (source_of flow) ≡ false → g flow l ≡ l) where
  flows_alone : (source : EventSource) (rs : List Receiver) → is_same_source s source ≡ false → flows_of source rs ≡ all_changed g (flows_of source rs)
  flows_alone source [] other = refl
  flows_alone source (r ∷ rs) other =
      let kept = alone (flow_to source r.endpoint) r.last other in
      let rest = flows_alone source rs other in
      λ i. (flow_to source r.endpoint, sym kept i) ∷ rest i

  all_alone : (es : Groups) → lookup (is_same_source s) es ≡ None → flows_in es ≡ all_changed g (flows_in es)
  all_alone [] none = refl
  all_alone (e ∷ es) none = cases (is_same_source s e.0) refl none (λ n. all_alone es n)
    where
      cases : (t : Bool) → is_same_source s e.0 ≡ t → cond t (Some e.1) (lookup (is_same_source s) es) ≡ None → (lookup (is_same_source s) es ≡ None → flows_in es ≡ all_changed g (flows_in es))
          → flows_of e.0 e.1.items ++ flows_in es ≡ all_changed g (flows_of e.0 e.1.items ++ flows_in es)
      cases true t n rest = absurd (cc)
      cases false t n rest =
          let here = flows_alone e.0 e.1.items t in
          let there = rest n in
          (λ i. here i ++ there i) ∙ sym (map-append (λ (f : EventFlow × LastEvent). (f.0, g f.0 f.1)) (flows_of e.0 e.1.items) (flows_in es))

  pub set_changed : (v w : Vec Receiver) (es : Groups) → IsDistinct is_same_source (keys_of es) → lookup (is_same_source s) es ≡ Some v → w.items ≡ map (changed_by g s) v.items
      → flows_in (set_value (is_same_source s) es w) ≡ all_changed g (flows_in es)
  set_changed v w [] apart found is = absurd (cc)
  set_changed v w (e ∷ es) apart found is =
      cases (is_same_source s e.0) refl found (λ f. set_changed v w es (IsDistinct-tail is_same_source e.0 (keys_of es) apart) f is)
    where
      cases : (t : Bool) → is_same_source s e.0 ≡ t → cond t (Some e.1) (lookup (is_same_source s) es) ≡ Some v
          → (lookup (is_same_source s) es ≡ Some v → flows_in (set_value (is_same_source s) es w) ≡ all_changed g (flows_in es))
          → flows_in (cond t ((e.0, w) ∷ es) (e ∷ set_value (is_same_source s) es w)) ≡ all_changed g (flows_of e.0 e.1.items ++ flows_in es)
      cases true t f rest =
          let source : s ≡ e.0 = one_source s e.0 t in
          let items : w.items ≡ map (changed_by g e.0) e.1.items = subst (λ x. w.items ≡ map (changed_by g x) e.1.items) source (is ∙ ap (λ (x : Vec Receiver). map (changed_by g s) x.items) (sym (one_value e.1 v f))) in
          let here : flows_of e.0 w.items ≡ all_changed g (flows_of e.0 e.1.items) = ap (flows_of e.0) items ∙ flows-mapped e.0 g e.1.items in
          let there = all_alone es (lookup-none (is_same_source s) es (none_past_head sources_equal s e es apart t)) in
          (λ i. here i ++ there i) ∙ sym (map-append (λ (f : EventFlow × LastEvent). (f.0, g f.0 f.1)) (flows_of e.0 e.1.items) (flows_in es))
      cases false t f rest =
          let here = flows_alone e.0 e.1.items t in
          let there = rest f in
          (λ i. here i ++ there i) ∙ sym (map-append (λ (f : EventFlow × LastEvent). (f.0, g f.0 f.1)) (flows_of e.0 e.1.items) (flows_in es))

-- ---- none stands twice

none_mapped : {K X : Type 0} (R : K → K → Ordering) (g : K → X → X) (q : K) (es : List (K × X)) → find R q es ≡ None → find R q (map (λ e. (e.0, g e.0 e.1)) es) ≡ None
none_mapped R g q [] none = refl
none_mapped R g q (e ∷ es) none = cases (eq_by_cmp R q e.0) none (λ n. none_mapped R g q es n)
  where
    cases : (t : Bool) → cond t (Some e.1) (find R q es) ≡ None → (find R q es ≡ None → find R q (map (λ e. (e.0, g e.0 e.1)) es) ≡ None) → cond t (Some (g e.0 e.1)) (find R q (map (λ e. (e.0, g e.0 e.1)) es)) ≡ None
    cases true n rest = absurd (cc)
    cases false n rest = rest n

pub mapped_distinct : {K X : Type 0} (R : K → K → Ordering) (g : K → X → X) (es : List (K × X)) → are_distinct R es ≡ true → are_distinct R (map (λ e. (e.0, g e.0 e.1)) es) ≡ true
mapped_distinct R g [] d = refl
mapped_distinct R g (e ∷ es) d =
    let parts = and_parts _ _ d in
    and_from _ _ (ap is_none (none_mapped R g e.0 es (none_found _ parts.0))) (mapped_distinct R g es parts.1)

-- a group whose receivers are apart
abbrev IsApart : EventSource × Vec Receiver → Type 0
IsApart group = are_distinct endpoint_cmp (lasts_of group.1.items) ≡ true

changed_apart : (g : EventFlow → LastEvent → LastEvent) (source : EventSource) (v w : Vec Receiver) → w.items ≡ map (changed_by g source) v.items
    → are_distinct endpoint_cmp (lasts_of v.items) ≡ true → are_distinct endpoint_cmp (lasts_of w.items) ≡ true
changed_apart g source v w is d =
    let lasts : lasts_of w.items ≡ map (λ e. (e.0, g (flow_to source e.0) e.1)) (lasts_of v.items) = ap lasts_of is ∙ lasts-mapped source g v.items in
    ap (are_distinct endpoint_cmp) lasts ∙ mapped_distinct endpoint_cmp (λ endpoint l. g (flow_to source endpoint) l) (lasts_of v.items) d

kept_apart : (p : EventFlow → Bool) (source : EventSource) (v w : Vec Receiver) → w.items ≡ filter (λ r. p (flow_to source r.endpoint)) v.items
    → are_distinct endpoint_cmp (lasts_of v.items) ≡ true → are_distinct endpoint_cmp (lasts_of w.items) ≡ true
kept_apart p source v w is d =
    let lasts : lasts_of w.items ≡ filter (λ e. p (flow_to source e.0)) (lasts_of v.items) = ap lasts_of is ∙ lasts-filtered source p v.items in
    ap (are_distinct endpoint_cmp) lasts ∙ distinct-filter endpoints_total exact_endpoints (λ e. p (flow_to source e.0)) (lasts_of v.items) d

-- one group is put in place of another
pub set_apart : (s : EventSource) (w : Vec Receiver) (es : Groups) → are_distinct endpoint_cmp (lasts_of w.items) ≡ true → AreApart es → AreApart (set_value (is_same_source s) es w)
set_apart s w [] d each = each
set_apart s w (e ∷ es) d each = cases (is_same_source s e.0) (set_apart s w es d (All-tail IsApart e es each))
  where
    cases : (t : Bool) → AreApart (set_value (is_same_source s) es w) → AreApart (cond t ((e.0, w) ∷ es) (e ∷ set_value (is_same_source s) es w))
    cases true rest = All-cons IsApart (e.0, w) es d (All-tail IsApart e es each)
    cases false rest = All-cons IsApart e (set_value (is_same_source s) es w) (All-head IsApart e es each) rest

-- what is changed in a group stays apart
pub set_changed_apart : (s : EventSource) (g : EventFlow → LastEvent → LastEvent) (v w : Vec Receiver) (es : Groups) → lookup (is_same_source s) es ≡ Some v → w.items ≡ map (changed_by g s) v.items
    → AreApart es → AreApart (set_value (is_same_source s) es w)
set_changed_apart s g v w es found is each =
    let before : IfSome (Some v) (λ (rs : Vec Receiver). are_distinct endpoint_cmp (lasts_of rs.items) ≡ true) =
    subst (λ (x : Option (Vec Receiver)). IfSome x (λ rs. are_distinct endpoint_cmp (lasts_of rs.items) ≡ true)) found (All-lookup (λ (rs : Vec Receiver). are_distinct endpoint_cmp (lasts_of rs.items) ≡ true) (is_same_source s) es each) in
    set_apart s w es (changed_apart g s v w is before) each

-- ---- all groups

module _ {F : Type 0} (T : F → EventSource → Vec Receiver → Bool → Vec Receiver → F → Type 0) (f : F) where
  -- a closure that changes each flow, keeps each group, and stays as it was
  module _ (g : EventFlow → LastEvent → LastEvent) (does : (source : EventSource) (v : Vec Receiver) (b : Bool) (w : Vec Receiver) (f' : F) → T f source v b w f' → (b ≡ true) × (w.items ≡ map (changed_by g source) v.items) × (f' ≡ f)) where
    pub all_kept_changed : (es kept : Groups) → RetainsPairs T f es kept → flows_in kept ≡ all_changed g (flows_in es)
    all_kept_changed [] kept r = ap flows_in r
    all_kept_changed (e ∷ es) kept r =
        let a = does e.0 e.1 r.0 r.1 r.2 r.4 in
        let whole : kept ≡ (e.0, r.1) ∷ r.3 = r.6 ∙ ap (λ b. cond b ((e.0, r.1) ∷ r.3) r.3) a.0 in
        let here : flows_of e.0 r.1.items ≡ all_changed g (flows_of e.0 e.1.items) = ap (flows_of e.0) a.1 ∙ flows-mapped e.0 g e.1.items in
        let there = all_kept_changed es r.3 (subst (λ u. RetainsPairs T u es r.3) a.2 r.5) in
        ap flows_in whole ∙ (λ i. here i ++ there i) ∙ sym (map-append (λ (f : EventFlow × LastEvent). (f.0, g f.0 f.1)) (flows_of e.0 e.1.items) (flows_in es))

    pub all_kept_apart : (es kept : Groups) → RetainsPairs T f es kept → AreApart es → AreApart kept
    all_kept_apart [] kept r each = subst AreApart (sym r) each
    all_kept_apart (e ∷ es) kept r each =
        let a = does e.0 e.1 r.0 r.1 r.2 r.4 in
        let whole : kept ≡ (e.0, r.1) ∷ r.3 = r.6 ∙ ap (λ b. cond b ((e.0, r.1) ∷ r.3) r.3) a.0 in
        let rest : AreApart r.3 = all_kept_apart es r.3 (subst (λ u. RetainsPairs T u es r.3) a.2 r.5) (All-tail IsApart e es each) in
        subst AreApart (sym whole) (All-cons IsApart (e.0, r.1) r.3 (changed_apart g e.0 e.1 r.1 a.1 (All-head IsApart e es each)) rest)

  -- a closure that keeps the flows that pass, and the groups with any, and stays as it was
  module _ (p : EventFlow → Bool) (does : (source : EventSource) (v : Vec Receiver) (b : Bool) (w : Vec Receiver) (f' : F) → T f source v b w f' → (b ≡ nat_lt 0 (length w.items)) × (w.items ≡ filter (λ r. p (flow_to source r.endpoint)) v.items) × (f' ≡ f)) where
    pub all_filtered : (es kept : Groups) → RetainsPairs T f es kept → flows_in kept ≡ filter (λ e. p e.0) (flows_in es)
    all_filtered [] kept r = ap flows_in r
    all_filtered (e ∷ es) kept r =
        let a = does e.0 e.1 r.0 r.1 r.2 r.4 in
        let here : flows_of e.0 r.1.items ≡ filter (λ e. p e.0) (flows_of e.0 e.1.items) = ap (flows_of e.0) a.1 ∙ flows-filtered e.0 p e.1.items in
        let there = all_filtered es r.3 (subst (λ u. RetainsPairs T u es r.3) a.2 r.5) in
        ap flows_in (r.6 ∙ ap (λ b. cond b ((e.0, r.1) ∷ r.3) r.3) a.0) ∙ with_any e.0 r.1 r.3
        ∙ (λ i. here i ++ there i) ∙ sym (filter-append (λ (f : EventFlow × LastEvent). p f.0) (flows_of e.0 e.1.items) (flows_in es))
      where
        any : (r : Receiver) (rs : List Receiver) → nat_lt 0 (length (r ∷ rs)) ≡ true
        any r rs = lt-ltb 0 (length (r ∷ rs)) (omega arith)

        of_list : (source : EventSource) (rs : List Receiver) (rest : List (EventFlow × LastEvent)) → cond (nat_lt 0 (length rs)) (flows_of source rs ++ rest) rest ≡ flows_of source rs ++ rest
        of_list source [] rest = refl
        of_list source (r ∷ rs) rest = ap (λ b. cond b (flows_of source (r ∷ rs) ++ rest) rest) (any r rs)

        out : (b : Bool) (source : EventSource) (w : Vec Receiver) (rest : Groups) → flows_in (cond b ((source, w) ∷ rest) rest) ≡ cond b (flows_of source w.items ++ flows_in rest) (flows_in rest)
        out true source w rest = refl
        out false source w rest = refl

        with_any : (source : EventSource) (w : Vec Receiver) (rest : Groups) → flows_in (cond (nat_lt 0 (length w.items)) ((source, w) ∷ rest) rest) ≡ flows_of source w.items ++ flows_in rest
        with_any source w rest = out (nat_lt 0 (length w.items)) source w rest ∙ of_list source w.items (flows_in rest)

    pub all_filtered_apart : (es kept : Groups) → RetainsPairs T f es kept → AreApart es → AreApart kept
    all_filtered_apart [] kept r each = subst AreApart (sym r) each
    all_filtered_apart (e ∷ es) kept r each =
        let a = does e.0 e.1 r.0 r.1 r.2 r.4 in
        let rest : AreApart r.3 = all_filtered_apart es r.3 (subst (λ u. RetainsPairs T u es r.3) a.2 r.5) (All-tail IsApart e es each) in
        let here : IsApart (e.0, r.1) = kept_apart p e.0 e.1 r.1 a.1 (All-head IsApart e es each) in
        subst AreApart (sym r.6) (either r.0 (e.0, r.1) r.3 here rest)
      where
        either : (b : Bool) (group : EventSource × Vec Receiver) (rest : Groups) → IsApart group → AreApart rest → AreApart (cond b (group ∷ rest) rest)
        either true group rest here each = All-cons IsApart group rest here each
        either false group rest here each = each

-- ---- how many there are

pub filtered_le : {X : Type 0} (p : X → Bool) (xs : List X) → length (filter p xs) ≤ length xs
filtered_le p [] = omega arith
filtered_le p (x ∷ xs) = cases (p x) (filtered_le p xs)
  where
    cases : (b : Bool) → length (filter p xs) ≤ length xs → length (cond b (x ∷ filter p xs) (filter p xs)) ≤ length (x ∷ xs)
    cases true le = omega arith
    cases false le = omega arith

-- the receivers of all groups
abbrev pub receivers_in : List (Vec Receiver) → ℕ
receivers_in [] = 0
receivers_in (group ∷ groups) = length group.items + receivers_in groups

pub count_is : (es : Groups) → receivers_in (values_of es) ≡ length (flows_in es)
count_is [] = refl
count_is (e ∷ es) =
    ap (λ n. length e.1.items + n) (count_is es) ∙ ap (λ n. n + length (flows_in es)) (sym (length-map e.1.items (λ r. (flow_to e.0 r.endpoint, r.last)))) ∙ sym (length-append (flows_of e.0 e.1.items) (flows_in es))
