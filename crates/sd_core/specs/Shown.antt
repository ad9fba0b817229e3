-- What a map shows of its values.
use Rattle.std.specs.Prelude.{List, [], ◌∷◌, Option, None, Some}
use Rattle.std.specs.declared.cmp.Ordering.{Ordering}
use Rattle.std.specs.FinMap as finite
use Rattle.std.specs.FinMap.{FinMap}

-- an entry, if there is a value, before others
abbrev pub with_entry : {K X : Type 0} → K → Option X → List (K × X) → List (K × X)
with_entry k None es = es
with_entry k (Some x) es = (k, x) ∷ es

-- the entries that f shows, of those that it shows anything of
abbrev pub shown_of : {K X Y : Type 0} → (X → Option Y) → List (K × X) → List (K × Y)
shown_of f [] = []
shown_of f (e ∷ es) = with_entry e.0 (f e.1) (shown_of f es)

-- the map of what f shows of each value, where it shows anything
abbrev pub shown : {K X Y : Type 0} {R : K → K → Ordering} → (X → Option Y) → FinMap R X → FinMap R Y
shown {R = R} f m = finite.from_entries {R = R} (shown_of f (finite.entries m))

-- the map with f of each value
abbrev pub map_values : {K X Y : Type 0} {R : K → K → Ordering} → (X → Y) → FinMap R X → FinMap R Y
map_values f m = shown (λ x. Some (f x)) m
