-- How a question is asked of what a node met: a list of items, the newest first.
use Rattle.std.specs.Prelude.{ℕ, ◌+◌, List, [], ◌∷◌, Option}
use Rattle.std.specs.List.{filter_map}
use Rattle.std.specs.Option.{option_map}
use Rattle.std.specs.declared.cmp.Ordering.{Ordering}
use Rattle.std.specs.FinMap.{FinMap, from_entries}
use Rattle.someip_node_rules.specs.histories.Items.{Item, Ticked}

-- the milliseconds since the start
abbrev pub clock_by : Item → ℕ → ℕ
clock_by (Ticked ms) before = before + ms
clock_by item before = before

abbrev pub clock_at : List Item → ℕ
clock_at [] = 0
clock_at (item ∷ before) = clock_by item (clock_at before)

-- What stands of a key: what the newest item that decides it says. What an item says may depend on what was met before
-- it, and on what stood then. `first` stood at the start
abbrev pub latest : {K V : Type 0} → (Item → List Item → K → V → V) → (K → V) → List Item → K → V
latest said first [] k = first k
latest said first (item ∷ before) k = said item before k (latest said first before k)

-- of some keys those of which something stands, as a table
abbrev pub table_of : {K V : Type 0} {R : K → K → Ordering} → List K → (K → Option V) → FinMap R V
table_of {R = R} keys stands = from_entries {R = R} (filter_map (λ k. option_map (λ v. (k, v)) (stands k)) keys)
