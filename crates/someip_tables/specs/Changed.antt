-- A map with its values changed.
use Rattle.std.specs.Prelude.{map, if◌then◌else◌}
use Rattle.std.specs.declared.cmp.Ordering.{Ordering}
use Rattle.std.specs.Ordering.{eq_by_cmp}
use Rattle.std.specs.FinMap as finite
use Rattle.std.specs.FinMap.{FinMap}

-- each value changed by its key and itself
abbrev pub each_changed : {K X : Type 0} {R : K → K → Ordering} → (K → X → X) → FinMap R X → FinMap R X
each_changed {R = R} g m = finite.from_entries {R = R} (map (λ e. (e.0, g e.0 e.1)) (finite.entries m))

-- the value of one key changed, if the key has one
abbrev pub changed_at : {K X : Type 0} {R : K → K → Ordering} → K → (X → X) → FinMap R X → FinMap R X
changed_at {R = R} k f m = each_changed (λ q x. if eq_by_cmp R q k then f x else x) m
