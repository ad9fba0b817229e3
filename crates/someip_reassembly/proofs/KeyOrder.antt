-- The order of reassembly keys is total, and tells all apart.
use Rattle.std.proofs.Common.{◌≡◌, Bool, true, false, ap, sym, ◌∙◌, refl}
use Rattle.std.specs.Ordering.{is_eq}
use Rattle.std.specs.Cmp.{IsTotalOrder, Equal-is, tied_itself}
use Rattle.std.proofs.lemmas.Map.Lookups.{CmpEqualImpliesEq}
use Rattle.someip_tables.specs.Orders.{KeyOrder, slices, by_pair, by_parts}
use Rattle.someip_tables.specs.EndpointOrder.{endpoints}
use Rattle.someip_reassembly.specs.declared.key.ReassemblyKey.{ReassemblyKey}
use Rattle.someip_reassembly.specs.Keys.{key_numbers, key_cmp, same_key, key_of, key_back}

pub keys : KeyOrder key_cmp
keys = by_parts (by_pair endpoints (by_pair endpoints slices)) (λ k. (k.source, (k.destination, key_numbers k))) key_of key_back

pub keys_total : IsTotalOrder key_cmp
keys_total = keys.total

pub exact_keys : CmpEqualImpliesEq key_cmp
exact_keys = keys.exact

-- two keys are the same exactly where the test says so
pub same_from_test : (a b : ReassemblyKey) → same_key a b ≡ true → a ≡ b
same_from_test a b t = exact_keys a b ((Equal-is (key_cmp a b)).0 t)

pub test_from_same : (a b : ReassemblyKey) → a ≡ b → same_key a b ≡ true
test_from_same a b is = ap (same_key a) (sym is) ∙ ap is_eq (tied_itself keys_total a)

pub test_is : (a b : ReassemblyKey) (r : Bool) → (r ≡ true → a ≡ b) → (a ≡ b → r ≡ true) → r ≡ same_key a b
test_is a b true to from = sym (test_from_same a b (to refl))
test_is a b false to from = cases (same_key a b) refl
  where
    cases : (t : Bool) → same_key a b ≡ t → false ≡ t
    cases false h = refl
    cases true h = from (same_from_test a b h)

pub one_key : (a b : ReassemblyKey) → (a.source ≡ b.source) × (a.destination ≡ b.destination) → key_numbers a ≡ key_numbers b → a ≡ b
one_key a b ends numbers = sym (key_back a) ∙ (ap key_of (λ i. (ends.0 i, (ends.1 i, numbers i))) ∙ key_back b)
