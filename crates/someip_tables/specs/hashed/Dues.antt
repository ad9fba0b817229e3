-- The moments that the values of a map wait for, by moment and then by key.
use Rattle.std.specs.Prelude.{◌≡◌, ◌≢◌, ⊤, ℕ, Bool, true, ◌&&◌, List, Option, None, Some}
use Rattle.std.specs.Option.{option_and_then}
use Rattle.std.specs.declared.cmp.Ordering.{Ordering}
use Rattle.std.specs.declared.cmp.Reverse.{Reverse}
use Rattle.std.specs.Ordering.{nat_cmp, ordering_then, eq_by_cmp, is_le}
use Rattle.std.specs.BTreeMap.{is_at}
use Rattle.std.specs.Map.{lookup}
use Rattle.std.specs.BTreeSet as sorted
use Rattle.std.specs.BTreeSet.{BTreeSet}
use Rattle.std.specs.FinMap.{FinMap, get}
use Rattle.someip_tables.specs.Agendas.{is_awaited}
use Rattle.someip_tables.specs.declared.hashed.due.Due.{Due}

-- by moment, and then by key
abbrev pub due_cmp : {K : Type 0} → (K → K → Ordering) → Due K → Due K → Ordering
due_cmp R a b = ordering_then (nat_cmp a.at b.at) (R a.key b.key)

-- the key whose moment comes first, by moment and then by key, or none where no value waits
abbrev pub IsFirstDue : {K V : Type 0} {R : K → K → Ordering} → (V → Option ℕ) → FinMap R V → Option (Due K) → Type 0
IsFirstDue {K} moment m None = (k : K) → option_and_then moment (get m k) ≡ None
IsFirstDue {K} {R = R} moment m (Some first) =
    (option_and_then moment (get m first.key) ≡ Some first.at)
    × ((due : Due K) → option_and_then moment (get m due.key) ≡ Some due.at → is_le (due_cmp R first due) ≡ true)

-- memory may be wanted to put a value that waits for this moment in place of what there is: for a new key, and for a moment
-- for which it did not wait
abbrev pub WantsMemory : {V : Type 0} → (V → Option ℕ) → Option V → Option ℕ → Type 0
WantsMemory moment None at = ⊤
WantsMemory moment (Some value) at = (moment value ≢ at) × (at ≢ None)

-- the value of a key, of entries in whatever order
abbrev pub at_key : {K V : Type 0} → (K → K → Ordering) → List (K × V) → K → Option V
at_key R entries key = lookup (is_at (R key)) entries

-- the other way round
abbrev pub back_cmp : {A : Type 0} → (A → A → Ordering) → Reverse A → Reverse A → Ordering
back_cmp R a b = R b.0 a.0

-- a set of moments, which stand from the last to the first
abbrev pub Dues : Type 0 → Type 0
Dues K = BTreeSet (Reverse (Due K))

-- the set holds this key at this moment
unfoldable pub has_due : {K : Type 0} → (K → K → Ordering) → Dues K → Due K → Bool
has_due R dues due = sorted.contains (back_cmp (due_cmp R)) dues (record { 0 = due })

-- the set holds exactly the moments of these entries
abbrev pub Tracks : {K V : Type 0} → (K → K → Ordering) → (V → Option ℕ) → Dues K → List (K × V) → Type 0
Tracks {K} R moment dues entries = (due : Due K) → has_due R dues due ≡ is_awaited due.at (option_and_then moment (at_key R entries due.key))

-- this is the key, at this moment
abbrev pub is_due_of : {K : Type 0} → (K → K → Ordering) → K → Option ℕ → Due K → Bool
is_due_of R key moment due = is_awaited due.at moment && eq_by_cmp R key due.key
