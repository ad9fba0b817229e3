-- The deadlines of a map, in order.
use Rattle.std.specs.Prelude.{◌≡◌, ℕ, ◌==◌, Bool, false, ◌&&◌, Option, None, Some}
use Rattle.std.specs.declared.cmp.Ordering.{Ordering}
use Rattle.std.specs.Ordering.{nat_cmp, ordering_then, eq_by_cmp}
use Rattle.std.specs.BTreeMap as tree
use Rattle.std.specs.BTreeMap.{BTreeMap}
use Rattle.std.specs.BTreeSet as sorted
use Rattle.std.specs.BTreeSet.{BTreeSet}
use Rattle.someip_tables.specs.declared.deadline.Deadline.{Deadline}
use Rattle.someip_tables.specs.declared.deadline.Deadline.TheVariants.{At, Never}
use Rattle.someip_tables.specs.declared.lasting.Lasting.{Lasting}
use Rattle.someip_tables.specs.declared.due.Due.{Due}
use Rattle.someip_tables.specs.Lastings.{until_of}

-- by deadline, and then by key
abbrev pub due_cmp : {K : Type 0} → (K → K → Ordering) → Due K → Due K → Ordering
due_cmp R a b = ordering_then (nat_cmp a.at b.at) (R a.key b.key)

-- a deadline is at this moment
abbrev pub is_due : ℕ → Option Deadline → Bool
is_due at (Some (At moment)) = moment == at
is_due at (Some Never) = false
is_due at None = false

-- the set holds exactly the deadlines of the map
abbrev pub Tracks : {K V : Type 0} → (K → K → Ordering) → BTreeSet (Due K) → BTreeMap K (Lasting V) → Type 0
Tracks {K} R dues held = (due : Due K) → sorted.contains (due_cmp R) dues due ≡ is_due due.at (until_of (tree.get R held due.key))

-- this is the key, at this deadline
abbrev pub is_due_of : {K : Type 0} → (K → K → Ordering) → K → Option Deadline → Due K → Bool
is_due_of R key until due = is_due due.at until && eq_by_cmp R key due.key
