-- How many findings of each group came, of which the first three are told.
use Rattle.std.specs.Prelude.{ℕ, ◌+◌, ◌-◌, ◌^◌, nat_le, nat_lt, Bool, true, if◌then◌else◌, List, [], ◌∷◌, Option, None, Some, refl}
use Rattle.std.specs.List.{flat_map}
use Rattle.std.specs.Coded.{Coded, code_by, coded×, coded_ℕ}
use Rattle.std.specs.FinMap as finite
use Rattle.std.specs.FinMap.{FinMap}
use Rattle.someip_tables.specs.hashed.Rooms.{may_hold}
use Rattle.someip_audit.specs.declared.groups.group_key.GroupKey.{GroupKey}
use Rattle.someip_audit.specs.declared.groups.group_key.Grouped.{Grouped}
use Rattle.someip_audit.specs.groups.GroupKeys.{coded_key, group_cmp}

-- how many of each group came of which one did
abbrev pub Numbers : Type 0
Numbers = FinMap group_cmp ℕ

-- how many groups a book may hold, and what it holds
pub record Groups : Type 0 where
  pub limit : ℕ
  pub numbers : Numbers

-- how many of a group came, by what is kept of it
abbrev pub number_of : Option ℕ → ℕ
number_of None = 0
number_of (Some n) = n

-- one more, as long as there is room for the number
abbrev pub one_more : ℕ → ℕ
one_more n = if nat_lt (n + 1) (2 ^ 64) then n + 1 else n

-- one more of a group is told: it is one of the first three, or there is no room for the group
abbrev pub is_one_told : GroupKey → Groups → Bool
is_one_told key book = if may_hold book.limit book.numbers key then nat_lt (number_of (finite.get book.numbers key)) 3 else true

-- one more of a group came
abbrev pub after_one : GroupKey → Groups → Groups
after_one key book =
    if may_hold book.limit book.numbers key then record book { numbers = finite.insert book.numbers key (one_more (number_of (finite.get book.numbers key))) }
    else book

-- ---- how many more

-- a group of which so many came, where they are more than three
abbrev pub told_more : GroupKey × ℕ → List Grouped
told_more e = if nat_le e.1 3 then [] else record { key = e.0; more = e.1 - 3 } ∷ []

-- those of a table, by rising key
abbrev pub more_in : Numbers → List Grouped
more_in numbers = flat_map told_more (finite.entries numbers)

abbrev pub more_by : Groups → List Grouped
more_by book = more_in book.numbers

-- ---- codes, by which a proof tells values apart

abbrev pub coded_groups : Coded Groups
coded_groups = code_by (ℕ × Numbers) (coded× coded_ℕ (finite.code coded_key coded_ℕ)) (λ b. (b.limit, b.numbers)) (λ c. record { limit = c.0; numbers = c.1 }) (λ _. refl)
