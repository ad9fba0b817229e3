-- What a sender sent to other destinations.
use Rattle.std.proofs.Common.{◌≡◌, ◌⊎◌, inl, inr, Bool, true, false, cond, not, ◌||◌, List, [], ◌∷◌, ◌++◌, Option, None, Some, is_some, refl, sym, ap, subst, ◌∙◌}
use Rattle.std.specs.Option.{IfSome, IsSome}
use Rattle.std.specs.List.{slice_get}
use Rattle.std.specs.declared.cmp.Ordering.{Ordering}
use Rattle.std.specs.declared.cmp.Ordering.TheVariants.{Less, Equal, Greater}
use Rattle.std.specs.declared.ops.Bound.TheVariants.{Excluded, Unbounded}
use Rattle.std.specs.Ordering.{eq_by_cmp, is_eq, is_gt, is_lt, ordering_reverse, ordering_then}
use Rattle.std.specs.Cmp.{tied_itself}
use Rattle.std.specs.BTreeMap as tree
use Rattle.std.specs.BTreeMap.{BTreeMap}
use Rattle.std.specs.BTreeMap.Range.{IsEntryInRange, IsLeBy, IsRangeOf}
use Rattle.std.specs.FinMap as finite
use Rattle.std.specs.declared.net.ipv4_addr.Ipv4Addr.{Ipv4Addr}
use Rattle.someip_tables.specs.Endpoints.{address_cmp}
use Rattle.someip_tables.specs.EndpointOrder.{addresses_total, exact_addresses}
use Rattle.someip_tables.specs.Tables.{map_of}
use Rattle.someip_tables.proofs.Entries.{own_test, same_by_test}
use Rattle.audit_sd.specs.declared.sessions.last.Last.{Last}
use Rattle.audit_sd.specs.sessions.OtherPairs.{IsLess}
use Rattle.audit_sd.specs.sessions.SessionBooks.{Pairs, is_other, pair_cmp}
use Rattle.audit_sd.specs.sessions.PairOrder.{pairs_total, exact_pairs}
use Rattle.audit_sd.proofs.about_sessions.PairLemmas.{known_is}

-- ---- one pair

module _ (sender destination : Ipv4Addr) where
  -- another destination of the sender, by its place in the order
  pub other_after : (pair : Ipv4Addr × Ipv4Addr) → eq_by_cmp address_cmp pair.0 sender ≡ true → pair_cmp (sender, destination) pair ≡ Less → is_other sender destination pair ≡ false
  other_after pair same after = rw same (cases (address_cmp pair.1 destination) refl)
    where
      place : address_cmp destination pair.1 ≡ Less
      place =
          let one : pair.0 ≡ sender = same_by_test exact_addresses pair.0 sender same in
          ap (λ o. ordering_then o (address_cmp destination pair.1)) (sym (ap (address_cmp sender) one ∙ tied_itself addresses_total sender)) ∙ after

      cases : (r : Ordering) → address_cmp pair.1 destination ≡ r → is_eq r ≡ false
      cases Less is = refl
      cases Greater is = refl
      cases Equal is = let turn : address_cmp destination pair.1 ≡ Equal = addresses_total.antisymm destination pair.1 ∙ ap ordering_reverse is in let less : address_cmp destination pair.1 ≡ Less = place in absurd (cc)

  pub other_before : (pair : Ipv4Addr × Ipv4Addr) → eq_by_cmp address_cmp pair.0 sender ≡ true → pair_cmp pair (sender, destination) ≡ Less → is_other sender destination pair ≡ false
  other_before pair same before = rw same (ap is_eq place)
    where
      place : address_cmp pair.1 destination ≡ Less
      place =
          let one : pair.0 ≡ sender = same_by_test exact_addresses pair.0 sender same in
          ap (λ o. ordering_then o (address_cmp pair.1 destination)) (sym (ap (λ a. address_cmp a sender) one ∙ tied_itself addresses_total sender)) ∙ before

  pub from_place : (to : Ipv4Addr) → address_cmp destination to ≡ Less → pair_cmp (sender, destination) (sender, to) ≡ Less
  from_place to after = ap (λ o. ordering_then o (address_cmp destination to)) (tied_itself addresses_total sender) ∙ after

  pub to_place : (to : Ipv4Addr) → address_cmp to destination ≡ Less → pair_cmp (sender, to) (sender, destination) ≡ Less
  to_place to before = ap (λ o. ordering_then o (address_cmp to destination)) (tied_itself addresses_total sender) ∙ before

  -- what is between two pairs of the sender is the sender's
  after_same : (pair : Ipv4Addr × Ipv4Addr) (to : Ipv4Addr) → pair_cmp (sender, destination) pair ≡ Less → is_gt (pair_cmp pair (sender, to)) ≡ false → eq_by_cmp address_cmp pair.0 sender ≡ true
  after_same pair to after least = cases (address_cmp pair.0 sender) (address_cmp sender pair.0) refl refl (addresses_total.antisymm sender pair.0) after least
    where
      cases : (r s : Ordering) → address_cmp pair.0 sender ≡ r → address_cmp sender pair.0 ≡ s → s ≡ ordering_reverse r
          → ordering_then s (address_cmp destination pair.1) ≡ Less → is_gt (ordering_then r (address_cmp pair.1 to)) ≡ false → is_eq r ≡ true
      cases Equal s x y turn a b = refl
      cases Greater s x y turn a b = absurd (cc)
      cases Less Less x y turn a b = absurd (cc)
      cases Less Equal x y turn a b = absurd (cc)
      cases Less Greater x y turn a b = absurd (cc)

  before_same : (pair : Ipv4Addr × Ipv4Addr) (to : Ipv4Addr) → pair_cmp pair (sender, destination) ≡ Less → is_lt (pair_cmp pair (sender, to)) ≡ false → eq_by_cmp address_cmp pair.0 sender ≡ true
  before_same pair to before greatest = cases (address_cmp pair.0 sender) before greatest
    where
      cases : (r : Ordering) → ordering_then r (address_cmp pair.1 destination) ≡ Less → is_lt (ordering_then r (address_cmp pair.1 to)) ≡ false → is_eq r ≡ true
      cases Equal a b = refl
      cases Greater a b = absurd (cc)
      cases Less a b = absurd (cc)

  -- ---- the pairs after and before

  module _ (held : BTreeMap (Ipv4Addr × Ipv4Addr) Last) (rest : List ((Ipv4Addr × Ipv4Addr) × Last)) where
    absent_or : (to : Ipv4Addr) → (IsSome (tree.get pair_cmp held (sender, to)) → ⊥) → finite.get (map_of pair_cmp held.entries) (sender, to) ≡ None
    absent_or to lacks = sym (known_is held (sender, to)) ∙ cases (tree.get pair_cmp held (sender, to)) lacks
      where
        cases : (v : Option Last) → (IsSome v → ⊥) → v ≡ None
        cases None n = refl
        cases (Some last) n = absurd (n refl)

    module _ (range : IsRangeOf pair_cmp (Excluded (sender, destination)) Unbounded held rest) where
      first_is : (e : (Ipv4Addr × Ipv4Addr) × Last) (more : List ((Ipv4Addr × Ipv4Addr) × Last)) → rest ≡ e ∷ more → IsEntryInRange pair_cmp (Excluded (sender, destination)) Unbounded held e
      first_is e more is = subst (λ r. IfSome (slice_get r 0) (IsEntryInRange pair_cmp (Excluded (sender, destination)) Unbounded held)) is range.1

      pub after_other : (e : (Ipv4Addr × Ipv4Addr) × Last) (more : List ((Ipv4Addr × Ipv4Addr) × Last)) → rest ≡ e ∷ more → e.0.0 ≡ sender → is_other sender destination e.0 ≡ false
      after_other e more is same = other_after e.0 (ap (λ a. eq_by_cmp address_cmp a sender) same ∙ own_test addresses_total sender) (first_is e more is).0.0

      pub after_held : (e : (Ipv4Addr × Ipv4Addr) × Last) (more : List ((Ipv4Addr × Ipv4Addr) × Last)) → rest ≡ e ∷ more → is_some (finite.get (map_of pair_cmp held.entries) e.0) ≡ true
      after_held e more is = ap (λ v. is_some v) (sym (known_is held e.0) ∙ (first_is e more is).1)

      pub none_after : rest ≡ [] → (to : Ipv4Addr) → address_cmp destination to ≡ Less → finite.get (map_of pair_cmp held.entries) (sender, to) ≡ None
      none_after is to place = sym (known_is held (sender, to)) ∙ range.5 is (sender, to) (from_place to place, tt)

      pub none_there_after : (e : (Ipv4Addr × Ipv4Addr) × Last) (more : List ((Ipv4Addr × Ipv4Addr) × Last)) → rest ≡ e ∷ more → (e.0.0 ≡ sender → ⊥)
          → (to : Ipv4Addr) → address_cmp destination to ≡ Less → finite.get (map_of pair_cmp held.entries) (sender, to) ≡ None
      none_there_after e more is elsewhere to place = absent_or to (λ there.
          let least : IsLeBy pair_cmp e.0 (sender, to) = subst (λ r. IfSome (slice_get r 0) (λ x. IsLeBy pair_cmp x.0 (sender, to))) is (range.2 (sender, to) (from_place to place, tt) there) in
          elsewhere (same_by_test exact_addresses e.0.0 sender (after_same e.0 to (first_is e more is).0.0 least)))

    module _ (range : IsRangeOf pair_cmp Unbounded (Excluded (sender, destination)) held rest) where
      pub before_other : (e : (Ipv4Addr × Ipv4Addr) × Last) (more : List ((Ipv4Addr × Ipv4Addr) × Last)) → rest ≡ more ++ e ∷ [] → e.0.0 ≡ sender → is_other sender destination e.0 ≡ false
      before_other e more is same = other_before e.0 (ap (λ a. eq_by_cmp address_cmp a sender) same ∙ own_test addresses_total sender) (range.3 e more is).0.1

      pub before_held : (e : (Ipv4Addr × Ipv4Addr) × Last) (more : List ((Ipv4Addr × Ipv4Addr) × Last)) → rest ≡ more ++ e ∷ [] → is_some (finite.get (map_of pair_cmp held.entries) e.0) ≡ true
      before_held e more is = ap (λ v. is_some v) (sym (known_is held e.0) ∙ (range.3 e more is).1)

      pub none_before : rest ≡ [] → (to : Ipv4Addr) → address_cmp to destination ≡ Less → finite.get (map_of pair_cmp held.entries) (sender, to) ≡ None
      none_before is to place = sym (known_is held (sender, to)) ∙ range.5 is (sender, to) (tt, to_place to place)

      pub none_there_before : (e : (Ipv4Addr × Ipv4Addr) × Last) (more : List ((Ipv4Addr × Ipv4Addr) × Last)) → rest ≡ more ++ e ∷ [] → (e.0.0 ≡ sender → ⊥)
          → (to : Ipv4Addr) → address_cmp to destination ≡ Less → finite.get (map_of pair_cmp held.entries) (sender, to) ≡ None
      none_there_before e more is elsewhere to place = absent_or to (λ there.
          elsewhere (same_by_test exact_addresses e.0.0 sender (before_same e.0 to (range.3 e more is).0.1 (range.4 e more is (sender, to) (tt, to_place to place) there))))

-- ---- all of them

module _ (sender destination : Ipv4Addr) (m : Pairs) where
  pub less_itself : IsLess sender destination m m
  less_itself pair = inl refl

  pub less_removed : (n l : Pairs) (one : Ipv4Addr × Ipv4Addr) → IsLess sender destination m n → is_other sender destination one ≡ false → l ≡ finite.remove n one → IsLess sender destination m l
  less_removed n l one less other taken pair = cases (eq_by_cmp pair_cmp pair one) refl (ap (λ k. finite.get k pair) taken ∙ finite.get-remove pairs_total n one pair) (less pair)
    where
      cases : (t : Bool) → eq_by_cmp pair_cmp pair one ≡ t → finite.get l pair ≡ cond t None (finite.get n pair)
          → (finite.get n pair ≡ finite.get m pair) ⊎ ((finite.get n pair ≡ None) × (is_other sender destination pair ≡ false))
          → (finite.get l pair ≡ finite.get m pair) ⊎ ((finite.get l pair ≡ None) × (is_other sender destination pair ≡ false))
      cases true is gone before = inr (gone, ap (is_other sender destination) (same_by_test exact_pairs pair one is) ∙ other)
      cases false is kept (inl same) = inl (kept ∙ same)
      cases false is kept (inr none) = inr (kept ∙ none.0, none.1)

  pub all_others : (n l : Pairs) → IsLess sender destination m n → ((to : Ipv4Addr) → address_cmp destination to ≡ Less → finite.get n (sender, to) ≡ None)
      → IsLess sender destination n l → ((to : Ipv4Addr) → address_cmp to destination ≡ Less → finite.get l (sender, to) ≡ None) → l ≡ finite.retain_keys m (is_other sender destination)
  all_others n l first after second before =
      finite.same_map pairs_total exact_pairs _ _ (λ pair.
      cases pair (is_other sender destination pair) refl
      ∙ sym (finite.get-retain_keys m (is_other sender destination) pair (λ x tie. ap (is_other sender destination) (sym (exact_pairs pair x tie)))))
    where
      kept : (pair : Ipv4Addr × Ipv4Addr) → is_other sender destination pair ≡ true
          → (finite.get l pair ≡ finite.get n pair) ⊎ ((finite.get l pair ≡ None) × (is_other sender destination pair ≡ false))
          → (finite.get n pair ≡ finite.get m pair) ⊎ ((finite.get n pair ≡ None) × (is_other sender destination pair ≡ false)) → finite.get l pair ≡ finite.get m pair
      kept pair is (inl same) (inl before) = same ∙ before
      kept pair is (inr gone) f = let fails : is_other sender destination pair ≡ false = gone.1 in absurd (cc)
      kept pair is (inl same) (inr gone) = let fails : is_other sender destination pair ≡ false = gone.1 in absurd (cc)

      stays_none : (pair : Ipv4Addr × Ipv4Addr) → finite.get n pair ≡ None
          → (finite.get l pair ≡ finite.get n pair) ⊎ ((finite.get l pair ≡ None) × (is_other sender destination pair ≡ false)) → finite.get l pair ≡ None
      stays_none pair none (inl same) = same ∙ none
      stays_none pair none (inr gone) = gone.0

      parts : (a b : Bool) → (not a || b) ≡ false → (a ≡ true) × (b ≡ false)
      parts true b is = (refl, is)
      parts false b is = absurd (cc)

      gone : (to : Ipv4Addr) → eq_by_cmp address_cmp to destination ≡ false → finite.get l (sender, to) ≡ None
      gone to differs = by (address_cmp to destination) refl
        where
          by : (r : Ordering) → address_cmp to destination ≡ r → finite.get l (sender, to) ≡ None
          by Less is = before to is
          by Equal is = let same : eq_by_cmp address_cmp to destination ≡ true = ap is_eq is in absurd (cc)
          by Greater is = stays_none (sender, to) (after to (addresses_total.antisymm destination to ∙ ap ordering_reverse is)) (second (sender, to))

      cases : (pair : Ipv4Addr × Ipv4Addr) (b : Bool) → is_other sender destination pair ≡ b → finite.get l pair ≡ cond b (finite.get m pair) None
      cases pair true is = kept pair is (second pair) (first pair)
      cases pair false is =
          let both = parts (eq_by_cmp address_cmp pair.0 sender) (eq_by_cmp address_cmp pair.1 destination) is in
          let one : pair.0 ≡ sender = same_by_test exact_addresses pair.0 sender both.0 in
          subst (λ a. finite.get l (a, pair.1) ≡ None) (sym one) (gone pair.1 both.1)
