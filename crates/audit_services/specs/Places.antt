-- At which places keys are.
use Rattle.std.specs.Prelude.{◌≡◌, Bool, true, ◌||◌, Some}
use Rattle.std.specs.declared.cmp.Ordering.{Ordering}
use Rattle.std.specs.FinMap.{FinMap, get}
use Rattle.std.specs.Ordering.{eq_by_cmp}

-- a key whose places these are is at a place
abbrev pub is_among : {P : Type 0} → (P → P → Ordering) → P → (P × P) × (P × P) → Bool
is_among Q place places = eq_by_cmp Q places.0.0 place || (eq_by_cmp Q places.0.1 place || (eq_by_cmp Q places.1.0 place || eq_by_cmp Q places.1.1 place))

-- each key of a map is there at its places
abbrev pub ArePlaced : {P K V : Type 0} {R : K → K → Ordering} → (K → (P × P) × (P × P)) → (P → K → Bool) → FinMap R V → Type 0
ArePlaced {K = K} {V = V} places there m =
    (key : K) (value : V) → get m key ≡ Some value
    → (there (places key).0.0 key ≡ true) × (there (places key).0.1 key ≡ true) × (there (places key).1.0 key ≡ true) × (there (places key).1.1 key ≡ true)
