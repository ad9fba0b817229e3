-- Flows by their sources.
use Rattle.std.proofs.Common.{◌≡◌, ℕ, ◌+◌, ◌<◌, ◌==◌, Bool, true, false, cond, ◌&&◌, if◌then◌else◌, List, [], ◌∷◌, ◌++◌, filter, length, map, take, drop, get_or, set, Option, None, Some, refl, ap, sym, ◌∙◌, arith}
use Rattle.std.proofs.lemmas.Bool.Decides.{nat_tests}
use Rattle.std.specs.Ordering.{eq_by_cmp, is_eq, nat_cmp, ordering_then}
use Rattle.std.specs.declared.cmp.Ordering.{Ordering}
use Rattle.std.specs.declared.cmp.Ordering.TheVariants.{Less, Equal, Greater}
use Rattle.std.specs.FinMap.{find}
use Rattle.std.proofs.lemmas.List.{get_or_default}
use Rattle.std.proofs.lemmas.List.Edits.{map_over_more}
use Rattle.someip_tables.specs.Endpoints.{endpoint_cmp}
use Rattle.audit_traffic.specs.declared.events.flow.EventFlow.{EventFlow}
use Rattle.audit_traffic.specs.declared.events.last_event.LastEvent.{LastEvent}
use Rattle.audit_traffic.specs.declared.events.receiver.Receiver.{Receiver}
use Rattle.audit_traffic.specs.declared.events.source.EventSource.{EventSource}
use Rattle.audit_traffic.specs.events.FlowGroups.{changed_by, flow_to, flows_of, is_same_source, lasts_of, source_of}
use Rattle.audit_traffic.specs.events.FlowKeys.{flow_cmp}

-- ---- lists

-- a change that leaves each item leaves the list
pub left_alone : {X : Type 0} (f : X → X) (xs : List X) → ((x : X) → f x ≡ x) → xs ≡ map f xs
left_alone f [] same = refl
left_alone f (x ∷ xs) same = let rest = left_alone f xs same in λ i. sym (same x) i ∷ rest i

-- a loop that changes each item in place
pub changed_more : {X : Type 0} (f : X → X) (xs ys : List X) (i : ℕ) (d : X) → i < length ys → i < length xs → ys ≡ map f (take i xs) ++ drop i xs
    → set ys i (f (get_or ys i d)) ≡ map f (take (i + 1) xs) ++ drop (i + 1) xs
changed_more f xs ys i d lt below kept = map_over_more f xs ys i (get_or ys i d) below kept (get_or_default ys i d (get_or ys i d) lt)

-- nothing is changed where a test fails
pub not_changed : {X : Type 0} (t u : Bool) (x y : X) → t ≡ false → (if t && u then x else y) ≡ y
not_changed t u x y is = rw is refl

-- two flows tie where their sources and their receivers do
pub flows_tested : (q p : EventFlow) → eq_by_cmp flow_cmp q p ≡ (is_same_source (source_of q) (source_of p) && eq_by_cmp endpoint_cmp q.receiver p.receiver)
flows_tested q p =
    then_eq (endpoint_cmp q.sender p.sender) _
    ∙ ap (λ b. is_eq (endpoint_cmp q.sender p.sender) && b) (then_eq (nat_cmp q.service p.service) _ ∙ ap (λ b. is_eq (nat_cmp q.service p.service) && b) (then_eq (nat_cmp q.event p.event) (endpoint_cmp q.receiver p.receiver)))
    ∙ rw (number_eq q.service p.service, number_eq q.event p.event) (assoc (is_eq (endpoint_cmp q.sender p.sender)) (q.service == p.service) (q.event == p.event) (is_eq (endpoint_cmp q.receiver p.receiver)))
  where
    then_eq : (a b : Ordering) → is_eq (ordering_then a b) ≡ (is_eq a && is_eq b)
    then_eq Less b = refl
    then_eq Equal b = refl
    then_eq Greater b = refl

    number_eq : (a b : ℕ) → is_eq (nat_cmp a b) ≡ (a == b)
    number_eq a b = grind (arith, nat_tests)

    assoc : (a b c d : Bool) → (a && (b && (c && d))) ≡ ((a && (b && c)) && d)
    assoc true true c d = refl
    assoc true false c d = refl
    assoc false b c d = refl

-- ---- the flows of one source

module _ (source : EventSource) where
  pub flows-mapped : (g : EventFlow → LastEvent → LastEvent) (rs : List Receiver) → flows_of source (map (changed_by g source) rs) ≡ map (λ e. (e.0, g e.0 e.1)) (flows_of source rs)
  flows-mapped g [] = refl
  flows-mapped g (r ∷ rs) = ap (λ es. (flow_to source r.endpoint, g (flow_to source r.endpoint) r.last) ∷ es) (flows-mapped g rs)

  pub flows-filtered : (p : EventFlow → Bool) (rs : List Receiver) → flows_of source (filter (λ r. p (flow_to source r.endpoint)) rs) ≡ filter (λ e. p e.0) (flows_of source rs)
  flows-filtered p [] = refl
  flows-filtered p (r ∷ rs) = cases (p (flow_to source r.endpoint)) (flows-filtered p rs)
    where
      cases : (b : Bool) → flows_of source (filter (λ r. p (flow_to source r.endpoint)) rs) ≡ filter (λ e. p e.0) (flows_of source rs)
          → flows_of source (cond b (r ∷ filter (λ r. p (flow_to source r.endpoint)) rs) (filter (λ r. p (flow_to source r.endpoint)) rs))
          ≡ cond b ((flow_to source r.endpoint, r.last) ∷ filter (λ e. p e.0) (flows_of source rs)) (filter (λ e. p e.0) (flows_of source rs))
      cases true rest = ap (λ es. (flow_to source r.endpoint, r.last) ∷ es) rest
      cases false rest = rest

  pub lasts-mapped : (g : EventFlow → LastEvent → LastEvent) (rs : List Receiver) → lasts_of (map (changed_by g source) rs) ≡ map (λ e. (e.0, g (flow_to source e.0) e.1)) (lasts_of rs)
  lasts-mapped g [] = refl
  lasts-mapped g (r ∷ rs) = ap (λ es. (r.endpoint, g (flow_to source r.endpoint) r.last) ∷ es) (lasts-mapped g rs)

  pub lasts-filtered : (p : EventFlow → Bool) (rs : List Receiver) → lasts_of (filter (λ r. p (flow_to source r.endpoint)) rs) ≡ filter (λ e. p (flow_to source e.0)) (lasts_of rs)
  lasts-filtered p [] = refl
  lasts-filtered p (r ∷ rs) = cases (p (flow_to source r.endpoint)) (lasts-filtered p rs)
    where
      cases : (b : Bool) → lasts_of (filter (λ r. p (flow_to source r.endpoint)) rs) ≡ filter (λ e. p (flow_to source e.0)) (lasts_of rs)
          → lasts_of (cond b (r ∷ filter (λ r. p (flow_to source r.endpoint)) rs) (filter (λ r. p (flow_to source r.endpoint)) rs))
          ≡ cond b ((r.endpoint, r.last) ∷ filter (λ e. p (flow_to source e.0)) (lasts_of rs)) (filter (λ e. p (flow_to source e.0)) (lasts_of rs))
      cases true rest = ap (λ es. (r.endpoint, r.last) ∷ es) rest
      cases false rest = rest

  -- a flow is found among those of its source by its receiver
  pub found-of : (q : EventFlow) (rs : List Receiver) → find flow_cmp q (flows_of source rs) ≡ (if is_same_source (source_of q) source then find endpoint_cmp q.receiver (lasts_of rs) else None)
  found-of q [] = none (is_same_source (source_of q) source) None
    where
      none : (b : Bool) (v : Option LastEvent) → v ≡ (if b then v else v)
      none true v = refl
      none false v = refl
  found-of q (r ∷ rs) = ap (λ b. cond b (Some r.last) (find flow_cmp q (flows_of source rs))) (tests q r) ∙ ap (λ v. cond (is_same_source (source_of q) source && eq_by_cmp endpoint_cmp q.receiver r.endpoint) (Some r.last) v) (found-of q rs) ∙ cases (is_same_source (source_of q) source) (eq_by_cmp endpoint_cmp q.receiver r.endpoint) (find endpoint_cmp q.receiver (lasts_of rs))
    where
      cases : (s t : Bool) (v : Option LastEvent) → cond (s && t) (Some r.last) (if s then v else None) ≡ (if s then cond t (Some r.last) v else None)
      cases true t v = refl
      cases false t v = refl

      tests : (q : EventFlow) (r : Receiver) → eq_by_cmp flow_cmp q (flow_to source r.endpoint) ≡ (is_same_source (source_of q) source && eq_by_cmp endpoint_cmp q.receiver r.endpoint)
      tests q r = flows_tested q (flow_to source r.endpoint)
