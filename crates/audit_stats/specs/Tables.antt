-- Tables with a limit, which tell once that they are full.
use Rattle.std.specs.Prelude.{ℕ, Bool, true, false, ◌&&◌, List, Option, None, Some, if◌then◌else◌, refl}
use Rattle.std.specs.Option.{unwrap_or}
use Rattle.std.specs.declared.cmp.Ordering.{Ordering}
use Rattle.std.specs.Coded.{Coded, code_by, coded×, coded_ℕ, coded_bool}
use Rattle.std.specs.FinMap as finite
use Rattle.std.specs.FinMap.{FinMap}
use Rattle.someip_tables.specs.Tables.{map_of}
use Rattle.someip_tables.specs.hashed.Rooms.{may_hold, told_when_full}

-- how many keys a table may have, its entries by rising key, and whether it told that it is full
pub record Entries (K V : Type 0) : Type 0 where
  pub limit : ℕ
  pub entries : List (K × V)
  pub told_full : Bool

-- the same, with what it holds as a map
pub record Held {K : Type 0} (R : K → K → Ordering) (V : Type 0) : Type 0 where
  pub limit : ℕ
  pub values : FinMap R V
  pub told_full : Bool

abbrev pub held_by : {K V : Type 0} → (R : K → K → Ordering) → Entries K V → Held R V
held_by R t = record { limit = t.limit; values = map_of R t.entries; told_full = t.told_full }

-- nothing is held yet
abbrev pub empty_held : {K V : Type 0} {R : K → K → Ordering} → ℕ → Held R V
empty_held limit = record { limit = limit; values = finite.empty; told_full = false }

-- a key has room: it is held, or fewer are than may be
abbrev pub has_room : {K V : Type 0} {R : K → K → Ordering} → K → Held R V → Bool
has_room key t = may_hold t.limit t.values key

-- that the table is full is told
abbrev pub full_told : {K V : Type 0} {R : K → K → Ordering} → Held R V → Held R V
full_told t = record t { told_full = true }

-- a value is held under a key; none is
abbrev pub with_held : {K V : Type 0} {R : K → K → Ordering} → K → V → Held R V → Held R V
with_held key value t = record t { values = finite.insert t.values key value }

abbrev pub without_held : {K V : Type 0} {R : K → K → Ordering} → K → Held R V → Held R V
without_held key t = record t { values = finite.remove t.values key }

-- a change is counted under a key, from `none` on
abbrev pub counted : {K V C : Type 0} {R : K → K → Ordering} → V → (C → V → V) → K → C → Held R V → Held R V
counted none after key change t = with_held key (after change (unwrap_or (finite.get t.values key) none)) t

-- whether it takes memory: the key is new, or what is held under it takes some
abbrev pub change_takes : {V C : Type 0} → (C → V → Bool) → C → Option V → Bool
change_takes takes change None = true
change_takes takes change (Some value) = takes change value

-- what is told of a change under a key: that there is no room for it
abbrev pub told_of : {K V F : Type 0} {R : K → K → Ordering} → F → K → Held R V → Option F
told_of full key t = if has_room key t then None else told_when_full full t.told_full

-- the table once a change came: it is counted where there is room for its key
abbrev pub after_change : {K V C : Type 0} {R : K → K → Ordering} → V → (C → V → V) → K → C → Held R V → Held R V
after_change none after key change t = if has_room key t then counted none after key change t else full_told t

-- whether that takes memory
abbrev pub after_takes : {K V C : Type 0} {R : K → K → Ordering} → (C → V → Bool) → K → C → Held R V → Bool
after_takes takes key change t = has_room key t && change_takes takes change (finite.get t.values key)

-- a code, by which a proof tells values apart
abbrev pub coded_held : {K V : Type 0} {R : K → K → Ordering} → Coded K → Coded V → Coded (Held R V)
coded_held {V = V} {R = R} key value =
    code_by (ℕ × (FinMap R V × Bool)) (coded× coded_ℕ (coded× (finite.code key value) coded_bool))
    (λ t. (t.limit, (t.values, t.told_full))) (λ c. record { limit = c.0; values = c.1.0; told_full = c.1.1 }) (λ _. refl)
