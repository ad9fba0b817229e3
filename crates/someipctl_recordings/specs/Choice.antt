-- The times that texts write.
use Rattle.std.specs.Prelude.{ℕ, ◌-◌, ◌*◌, ◌^◌, ◌==◌, ◌&&◌, Bool, nat_le, nat_lt, if◌then◌else◌, List, length, Option, Some, None, option_map}
use Rattle.std.specs.List.{after_first, before_first, list_all, position_or_len}
use Rattle.std.specs.Option.{option_and_then}
use Rattle.std.specs.Str.Parse.{digits_value}
use Rattle.recording.specs.declared.Time.{Time}
use Rattle.someip_texts.specs.Numbers.{is_digit, number_in}

-- the time after so many seconds and nanoseconds
abbrev pub time_of : ℕ → ℕ → Time
time_of seconds nanoseconds = record { seconds = seconds; nanoseconds = nanoseconds }

-- one to nine digits
abbrev pub are_decimals : List ℕ → Bool
are_decimals digits = nat_le 1 (length digits) && nat_le (length digits) 9 && list_all is_digit digits

-- the nanoseconds that decimals of a second write
abbrev pub decimals_in : List ℕ → Option ℕ
decimals_in digits = if are_decimals digits then Some (digits_value 10 digits * 10 ^ (9 - length digits)) else None

-- a dot (2e)
abbrev pub is_dot : ℕ → Bool
is_dot b = b == 0x2e

-- what seconds and decimals write together
abbrev pub time_by : Option ℕ → Option ℕ → Option Time
time_by seconds decimals = option_and_then (λ s. option_map (time_of s) decimals) seconds

-- the time that a text writes: seconds below 2^64 without leading zeros, and perhaps a dot and decimals behind it
abbrev pub time_in : List ℕ → Option Time
time_in text =
    if nat_lt (position_or_len is_dot text) (length text)
    then time_by (number_in (2 ^ 64) (before_first is_dot text)) (decimals_in (after_first is_dot text))
    else time_by (number_in (2 ^ 64) text) (Some 0)
