-- The order of keys at places.
use Rattle.std.proofs.Common.{◌≡◌, Bool, true, false, List, [], ◌∷◌, Option, None, Some, refl, ap, sym, subst, ◌∙◌}
use Rattle.std.specs.Option.{IfSome, option_cmp}
use Rattle.std.specs.List.{slice_get}
use Rattle.std.specs.BTreeMap.Range.{IsLeBy}
use Rattle.std.specs.BTreeSet as sorted
use Rattle.std.specs.BTreeSet.{BTreeSet, IsKeyInRange, IsKeyRangeOf}
use Rattle.std.specs.declared.ops.Bound.TheVariants.{Excluded, Unbounded}
use Rattle.std.specs.declared.cmp.Ordering.{Ordering}
use Rattle.std.specs.declared.cmp.Ordering.TheVariants.{Less, Equal, Greater}
use Rattle.std.specs.Ordering.{ordering_then, ordering_reverse, is_gt}
use Rattle.std.specs.Cmp.{IsTotalOrder, tied_itself}
use Rattle.std.proofs.lemmas.Map.Lookups.{CmpEqualImpliesEq}
use Rattle.audit_index.specs.declared.slot.Slot.{Slot}
use Rattle.audit_index.specs.Slots.{slot_cmp, stands}

module _ {P K : Type 0} {Q : P → P → Ordering} (o : IsTotalOrder Q) (exact : CmpEqualImpliesEq Q) (R : K → K → Ordering) where
  -- a place begins before each of its keys
  pub begins_before : (place : P) (key : K) → slot_cmp Q R (record { place = place; key = None }) (record { place = place; key = Some key }) ≡ Less
  begins_before place key = ap (λ o. ordering_then o Less) (tied_itself o place)

  -- what is after the beginning of a place, and not after one of its keys, is at the place
  pub between : (place : P) (key : K) (slot : Slot P K) → slot_cmp Q R (record { place = place; key = None }) slot ≡ Less → is_gt (slot_cmp Q R slot (record { place = place; key = Some key })) ≡ false
      → slot.place ≡ place
  between place key slot after before =
      cases (Q place slot.place) (Q slot.place place) refl refl (o.antisymm place slot.place) after before
    where
      cases : (r s : Ordering) → Q place slot.place ≡ r → Q slot.place place ≡ s → r ≡ ordering_reverse s
          → ordering_then r (option_cmp R None slot.key) ≡ Less → is_gt (ordering_then s (option_cmp R slot.key (Some key))) ≡ false → slot.place ≡ place
      cases Equal s is other turn a b = sym (exact place slot.place is)
      cases Greater s is other turn a b = absurd (cc)
      cases Less Greater is other turn a b = absurd (cc)
      cases Less Less is other turn a b = absurd (cc)
      cases Less Equal is other turn a b = absurd (cc)

  -- ---- what stands in a set from the beginning of a place on

  module _ (set : BTreeSet (Slot P K)) (place : P) (rest : List (Slot P K)) (range : IsKeyRangeOf (slot_cmp Q R) (Excluded (record { place = place; key = None })) Unbounded set rest) where
    pub none_left : rest ≡ [] → (key : K) → stands Q R set.keys place key ≡ false
    none_left is key = range.5 is (record { place = place; key = Some key }) (begins_before place key, tt)

    in_range : (slot : Slot P K) (more : List (Slot P K)) → rest ≡ slot ∷ more → IsKeyInRange (slot_cmp Q R) (Excluded (record { place = place; key = None })) Unbounded set slot
    in_range slot more is = subst (λ r. IfSome (slice_get r 0) (IsKeyInRange (slot_cmp Q R) (Excluded (record { place = place; key = None })) Unbounded set)) is range.1

    pub first_there : (slot : Slot P K) (more : List (Slot P K)) → rest ≡ slot ∷ more → slot.place ≡ place → IfSome slot.key (λ key. stands Q R set.keys place key ≡ true)
    first_there slot more is at = cases slot.key refl
      where
        cases : (v : Option K) → slot.key ≡ v → IfSome v (λ key. stands Q R set.keys place key ≡ true)
        cases None k = tt
        cases (Some key) k =
            let same : slot ≡ record { place = place; key = Some key } = λ i. record { place = at i; key = k i } in
            ap (sorted.contains (slot_cmp Q R) set) (sym same) ∙ (in_range slot more is).1

    pub none_there : (slot : Slot P K) (more : List (Slot P K)) → rest ≡ slot ∷ more → (slot.place ≡ place → ⊥) → (key : K) → stands Q R set.keys place key ≡ false
    none_there slot more is elsewhere key = cases (stands Q R set.keys place key) refl
      where
        cases : (b : Bool) → stands Q R set.keys place key ≡ b → b ≡ false
        cases false there = refl
        cases true there =
            let least : IsLeBy (slot_cmp Q R) slot (record { place = place; key = Some key }) =
            subst (λ r. IfSome (slice_get r 0) (λ k. IsLeBy (slot_cmp Q R) k (record { place = place; key = Some key }))) is (range.2 (record { place = place; key = Some key }) (begins_before place key, tt) there) in
            absurd (elsewhere (between place key slot (in_range slot more is).0.0 least))
