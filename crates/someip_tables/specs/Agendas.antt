-- The moments that the values of a map wait for, in order.
use Rattle.std.specs.Prelude.{◌≡◌, ℕ, ◌==◌, Bool, false, ◌&&◌, List, Option, None, Some}
use Rattle.std.specs.Option.{option_and_then}
use Rattle.std.specs.List.{list_any, filter_map}
use Rattle.std.specs.List.Sorted.{IsStrictlySortedBy}
use Rattle.std.specs.declared.cmp.Ordering.{Ordering}
use Rattle.std.specs.Ordering.{eq_by_cmp}
use Rattle.std.specs.FinMap.{FinMap, get}
use Rattle.someip_tables.specs.declared.due.Due.{Due}
use Rattle.someip_tables.specs.Dues.{due_cmp}

-- from the last to the first
abbrev pub falling : {K : Type 0} → (K → K → Ordering) → Due K → Due K → Ordering
falling R a b = due_cmp R b a

abbrev pub has_due : {K : Type 0} → (K → K → Ordering) → List (Due K) → Due K → Bool
has_due R dues due = list_any (eq_by_cmp (falling R) due) dues

-- this moment is waited for
abbrev pub is_awaited : ℕ → Option ℕ → Bool
is_awaited at None = false
is_awaited at (Some moment) = moment == at

-- this is the key, at the moment that it waits for
abbrev pub is_due_at : {K : Type 0} → (K → K → Ordering) → K → Option ℕ → Due K → Bool
is_due_at R key moment due = is_awaited due.at moment && eq_by_cmp R due.key key

-- the key, at the moment that it waits for if there is one
abbrev pub due_of : {K : Type 0} → K → Option ℕ → Option (Due K)
due_of key None = None
due_of key (Some at) = Some (record { at = at; key = key })

-- the moments of the values of a list of entries
abbrev pub dues_of : {K V : Type 0} → (V → Option ℕ) → List (K × V) → List (Due K)
dues_of moment es = filter_map (λ e. due_of e.0 (moment e.1)) es

-- the list falls, and has exactly the moments of the map
abbrev pub IsAgenda : {K V : Type 0} {R : K → K → Ordering} → (V → Option ℕ) → List (Due K) → FinMap R V → Type 0
IsAgenda {R = R} moment dues m = IsStrictlySortedBy (falling R) dues × ((due : Due _) → has_due R dues due ≡ is_awaited due.at (option_and_then moment (get m due.key)))
