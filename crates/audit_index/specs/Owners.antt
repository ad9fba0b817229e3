-- What addresses own.
use Rattle.std.specs.Prelude.{◌≡◌, ◌≢◌, ◌⊎◌, ⊤, ℕ, Bool, true, false, ◌||◌, not, Option, None, Some}
use Rattle.std.specs.declared.cmp.Ordering.{Ordering}
use Rattle.std.specs.Ordering.{eq_by_cmp}
use Rattle.std.specs.FinMap.{FinMap, get}
use Rattle.std.specs.declared.net.ipv4_addr.Ipv4Addr.{Ipv4Addr}
use Rattle.someip_tables.specs.Endpoints.{address_cmp}
use Rattle.someip_tables.specs.Retained.{kept_if}
use Rattle.someip_tables.specs.hashed.Dues.{WantsMemory}

-- an address is one of the owners of the value of a key
abbrev pub is_owned : {K V : Type 0} → (K → V → Ipv4Addr × Ipv4Addr) → Ipv4Addr → K → V → Bool
is_owned owners address key value = eq_by_cmp address_cmp (owners key value).0 address || eq_by_cmp address_cmp (owners key value).1 address

-- memory may be wanted to put a value under a key in place of what there is: for a new key, for other owners, and for a
-- moment for which it did not wait
abbrev pub WantsRoom : {K V : Type 0} → (K → V → Ipv4Addr × Ipv4Addr) → (V → Option ℕ) → K → Option V → V → Type 0
WantsRoom owners moment key None value = ⊤
WantsRoom owners moment key (Some earlier) value = (owners key earlier ≢ owners key value) ⊎ WantsMemory moment (Some earlier) (moment value)

-- each key of a map is there for its owners
abbrev pub AreOwned : {K V : Type 0} {R : K → K → Ordering} → (K → V → Ipv4Addr × Ipv4Addr) → (Ipv4Addr → K → Bool) → FinMap R V → Type 0
AreOwned {K} {V} owners there m = (key : K) (value : V) → get m key ≡ Some value → (there (owners key value).0 key ≡ true) × (there (owners key value).1 key ≡ true)

-- other keys than one stay where they are
abbrev pub IsLeftAlone : {K : Type 0} → (K → K → Ordering) → K → (Ipv4Addr → K → Bool) → (Ipv4Addr → K → Bool) → Type 0
IsLeftAlone {K} R key before after = (address : Ipv4Addr) (other : K) → eq_by_cmp R key other ≡ false → before address other ≡ true → after address other ≡ true

-- each key of a map is there for its owners, but perhaps one that an address owns
abbrev pub AreOwnedBut : {K V : Type 0} {R : K → K → Ordering} → (K → V → Ipv4Addr × Ipv4Addr) → Ipv4Addr → K → (Ipv4Addr → K → Bool) → FinMap R V → Type 0
AreOwnedBut {K} {V} {R} owners address one there m =
    (key : K) (value : V) → get m key ≡ Some value
    → ((eq_by_cmp R one key ≡ true) × (is_owned owners address key value ≡ true)) ⊎ ((there (owners key value).0 key ≡ true) × (there (owners key value).1 key ≡ true))

-- the other map lacks at most what an address owns
abbrev pub IsLess : {K V : Type 0} {R : K → K → Ordering} → (K → V → Ipv4Addr × Ipv4Addr) → Ipv4Addr → FinMap R V → FinMap R V → Type 0
IsLess {K} owners address m less =
    (key : K) → (get less key ≡ get m key) ⊎ ((get less key ≡ None) × (kept_if (λ value. not (is_owned owners address key value)) (get m key) ≡ None))
