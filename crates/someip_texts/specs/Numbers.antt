-- Decimal numbers as users write them.
use Rattle.std.specs.Prelude.{ℕ, ◌==◌, ◌&&◌, not, nat_lt, nat_le, Bool, true, false, if◌then◌else◌, List, [], ◌∷◌, Option, Some, None}
use Rattle.std.specs.List.{list_all}
use Rattle.std.specs.Option.{option_and_then}
use Rattle.std.specs.Str.Parse.{digits_value}

-- a digit from 0 to 9
abbrev pub is_digit : ℕ → Bool
is_digit b = nat_le 0x30 b && nat_le b 0x39

-- something stands first, and it is no zero that others follow
abbrev pub begins_plain : List ℕ → Bool
begins_plain [] = false
begins_plain (first ∷ []) = true
begins_plain (first ∷ second ∷ others) = not (first == 0x30)

-- digits, at least one, without leading zeros
abbrev pub is_plain : List ℕ → Bool
is_plain word = begins_plain word && list_all is_digit word

-- the number below this limit that digits write
abbrev pub number_in : ℕ → List ℕ → Option ℕ
number_in limit word =
    if is_plain word && nat_lt (digits_value 10 word) limit then Some (digits_value 10 word) else None

-- a number, if it is no zero
abbrev pub unless_zero : ℕ → Option ℕ
unless_zero n = if n == 0 then None else Some n

-- the number below this limit that digits write, if it is no zero
abbrev pub positive_in : ℕ → List ℕ → Option ℕ
positive_in limit word = option_and_then unless_zero (number_in limit word)
