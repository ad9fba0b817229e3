-- How many messages went each way.
use Rattle.std.specs.Prelude.{ℕ, ◌+◌, ◌^◌, nat_le, nat_lt, Bool, true, ◌&&◌, if◌then◌else◌, List, [], ◌∷◌, Option, None, Some, refl}
use Rattle.std.specs.Option.{is_none}
use Rattle.std.specs.List.{flat_map}
use Rattle.std.specs.Coded.{Coded, code_by, coded×, coded_ℕ, coded_bool}
use Rattle.std.specs.FinMap as finite
use Rattle.std.specs.FinMap.{FinMap}
use Rattle.someip_tables.specs.hashed.Rooms.{may_hold, told_when_full}
use Rattle.audit_traffic.specs.declared.ways.finding.Finding.{Finding}
use Rattle.audit_traffic.specs.declared.ways.finding.Finding.TheVariants.{Full}
use Rattle.audit_traffic.specs.declared.ways.way.OneWay.{OneWay}
use Rattle.audit_traffic.specs.declared.ways.way.Way.{Way}
use Rattle.audit_traffic.specs.ways.WayKeys.{back, coded_way, way_cmp}

-- how many messages went each way that one went
abbrev pub Numbers : Type 0
Numbers = FinMap way_cmp ℕ

-- how many ways a book may hold, what it holds, and whether it told that it is full
pub record Ways : Type 0 where
  pub limit : ℕ
  pub numbers : Numbers
  pub told_full : Bool

-- how many went a way, by what is kept of it
abbrev pub number_of : Option ℕ → ℕ
number_of None = 0
number_of (Some n) = n

-- one more, as long as there is room for the number
abbrev pub one_more : ℕ → ℕ
one_more n = if nat_lt (n + 1) (2 ^ 64) then n + 1 else n

-- what is told of a message that goes a way: that there is no room for it
abbrev pub told_by : Way → Ways → Option Finding
told_by way book = if may_hold book.limit book.numbers way then None else told_when_full Full book.told_full

-- a message went a way
abbrev pub after_message : Way → Ways → Ways
after_message way book =
    if may_hold book.limit book.numbers way then record book { numbers = finite.insert book.numbers way (one_more (number_of (finite.get book.numbers way))) }
    else record book { told_full = true }

-- ---- one way alone

-- at least eight messages went a way, and none came back
abbrev pub is_one_way : Numbers → Way × ℕ → Bool
is_one_way numbers e = nat_le 8 e.1 && is_none (finite.get numbers (back e.0))

-- then it is told
abbrev pub told_one_way : Numbers → Way × ℕ → List OneWay
told_one_way numbers e = if is_one_way numbers e then record { way = e.0; messages = e.1 } ∷ [] else []

-- those of a table, by rising way
abbrev pub one_ways_in : Numbers → List OneWay
one_ways_in numbers = flat_map (told_one_way numbers) (finite.entries numbers)

-- those of a book: where it was ever full there are none, since what came back may not have been taken
abbrev pub one_ways : Ways → List OneWay
one_ways book = if book.told_full then [] else one_ways_in book.numbers

-- ---- codes, by which a proof tells values apart

abbrev pub coded_ways : Coded Ways
coded_ways =
    code_by (ℕ × (Numbers × Bool)) (coded× coded_ℕ (coded× (finite.code coded_way coded_ℕ) coded_bool))
    (λ b. (b.limit, (b.numbers, b.told_full))) (λ c. record { limit = c.0; numbers = c.1.0; told_full = c.1.1 }) (λ _. refl)
