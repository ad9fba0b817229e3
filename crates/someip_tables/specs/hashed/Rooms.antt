-- How many entries a table may hold, and that it is full.
use Rattle.std.specs.Prelude.{ℕ, nat_lt, Bool, true, false, ◌||◌, Option, None, Some, is_some}
use Rattle.std.specs.declared.cmp.Ordering.{Ordering}
use Rattle.std.specs.FinMap as finite
use Rattle.std.specs.FinMap.{FinMap}

-- an entry may be held: one of its key is, or the entries are fewer than the limit
abbrev pub may_hold : {K V : Type 0} {R : K → K → Ordering} → ℕ → FinMap R V → K → Bool
may_hold limit held key = is_some (finite.get held key) || nat_lt (finite.len held) limit

-- that a table is full is told once
abbrev pub told_when_full : {F : Type 0} → F → Bool → Option F
told_when_full full true = None
told_when_full full false = Some full
