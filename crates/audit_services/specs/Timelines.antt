-- What happens to one key of a recording, as a list of changes with their moments. A list has the newest first.
use Rattle.std.specs.Prelude.{◌≡◌, ◌≤◌, ℕ, nat_le, nat_lt, Bool, ◌&&◌, if◌then◌else◌, List, [], ◌∷◌, ◌++◌, filter, map, Option, None, Some}
use Rattle.std.specs.Option.{option_map, option_to_list}
use Rattle.std.specs.declared.cmp.Ordering.{Ordering}
use Rattle.someip_tables.specs.declared.deadline.Deadline.{Deadline}
use Rattle.someip_tables.specs.declared.deadline.Deadline.TheVariants.{At, Never}
use Rattle.someip_tables.specs.Deadlines.{deadline_after, has_passed}
use Rattle.someip_tables.specs.Lastings.{unless_passed}
use Rattle.audit_services.specs.declared.stay.Interval.{Interval}
use Rattle.audit_services.specs.declared.why.Why.{Why}
use Rattle.audit_services.specs.declared.why.Why.TheVariants.{Expired, Moved, Open}
use Rattle.audit_services.specs.Books.{begun, is_same}
use Rattle.audit_services.specs.Stays.{Stay, interval_of, lasting_until}

-- a value begins to stand for a TTL in seconds, or goes on; what stands goes on for a TTL; it ends; or it is left as it is
pub data Change (V : Type 0) : Type 0 where
  Begins : V → ℕ → Change V
  GoesOn : ℕ → Change V
  Ends : Why → Change V
  Leaves : Change V

-- at a moment
pub record Changed (V : Type 0) : Type 0 where
  pub at : ℕ
  pub change : Change V

-- what stands once something changed
abbrev pub stands_after : {V : Type 0} → (V → V → Ordering) → ℕ → Change V → Option (Stay V) → Option (Stay V)
stands_after C now (Begins value ttl) before = Some (begun C now value ttl before)
stands_after C now (GoesOn ttl) before = option_map (lasting_until (deadline_after now ttl)) before
stands_after C now (Ends why) before = None
stands_after C now Leaves before = before

-- what stands after these changes. What has expired by the next change stands no more then
abbrev pub standing_in : {V : Type 0} → (V → V → Ordering) → List (Changed V) → Option (Stay V)
standing_in C [] = None
standing_in C (one ∷ earlier) = stands_after C one.at one.change (unless_passed one.at (standing_in C earlier))

-- ---- the intervals

-- the interval of what has expired by a moment
abbrev pub expired_at : {V : Type 0} → ℕ → Stay V → Deadline → List (Interval V)
expired_at now stay (At at) = if nat_le at now then interval_of Expired at stay ∷ [] else []
expired_at now stay Never = []

abbrev pub expired_by : {V : Type 0} → ℕ → Option (Stay V) → List (Interval V)
expired_by now None = []
expired_by now (Some stay) = expired_at now stay stay.until

-- the interval of what a change ends
abbrev pub ended_by : {V : Type 0} → (V → V → Ordering) → ℕ → Change V → Option (Stay V) → List (Interval V)
ended_by C now (Begins value ttl) before = if is_same C value before then [] else option_to_list (option_map (interval_of Moved now) before)
ended_by C now (GoesOn ttl) before = []
ended_by C now (Ends why) before = option_to_list (option_map (interval_of why now) before)
ended_by C now Leaves before = []

-- the intervals that ended by these changes, the oldest first
abbrev pub ended_in : {V : Type 0} → (V → V → Ordering) → List (Changed V) → List (Interval V)
ended_in C [] = []
ended_in C (one ∷ earlier) =
    ended_in C earlier ++ (expired_by one.at (standing_in C earlier) ++ ended_by C one.at one.change (unless_passed one.at (standing_in C earlier)))

-- the intervals that end later: what stands has expired by the last moment, or is open then
abbrev pub ended_later : {V : Type 0} → ℕ → Option (Stay V) → List (Interval V)
ended_later end stood = expired_by end stood ++ option_to_list (option_map (interval_of Open end) (unless_passed end stood))

-- all intervals of a recording that ends at a moment
abbrev pub intervals_of : {V : Type 0} → (V → V → Ordering) → List (Changed V) → ℕ → List (Interval V)
intervals_of C changes end = ended_in C changes ++ ended_later end (standing_in C changes)

-- ---- what stood at a moment

-- the changes up to a moment
abbrev pub changes_until : {V : Type 0} → ℕ → List (Changed V) → List (Changed V)
changes_until now [] = []
changes_until now (one ∷ earlier) = if nat_le one.at now then one ∷ earlier else changes_until now earlier

-- the value that stood at a moment
abbrev pub stood_at : {V : Type 0} → (V → V → Ordering) → List (Changed V) → ℕ → Option V
stood_at C changes now = option_map (λ stay. stay.value.value) (unless_passed now (standing_in C (changes_until now changes)))

-- an interval covers a moment
abbrev pub covers : {V : Type 0} → ℕ → Interval V → Bool
covers now interval = nat_le interval.from now && nat_lt now interval.until

-- the values of the intervals that cover a moment
abbrev pub covering : {V : Type 0} → ℕ → List (Interval V) → List V
covering now intervals = map (λ interval. interval.value) (filter (covers now) intervals)

-- no change comes before an earlier one, and none after the end
abbrev pub AreInOrder : {V : Type 0} → List (Changed V) → ℕ → Type 0
AreInOrder [] end = Unit {0}
AreInOrder (one ∷ earlier) end = (one.at ≤ end) × AreInOrder earlier one.at
