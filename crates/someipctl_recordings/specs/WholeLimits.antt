-- The limits of messages that are put together, as texts.
use Rattle.std.specs.Prelude.{ℕ, ◌≡◌, ◌^◌, ◌&&◌, nat_le, if◌then◌else◌, List, Option, Some, None, option_map}
use Rattle.std.specs.Borrow.{Bor}
use Rattle.std.specs.Option.{option_and_then}
use Rattle.someip_texts.specs.Numbers.{number_in}
use Rattle.someipctl_recordings.specs.declared.asked.WholeLimits as declared_limits
use Rattle.someipctl_recordings.specs.declared.limits.LimitsError.{LimitsError}
use Rattle.someipctl_recordings.specs.declared.limits.LimitsError.TheVariants.{BadLimit, BadSlots, BadTimeout}

abbrev pub checked_within : ℕ → ℕ → ℕ → Option ℕ
checked_within low high n = if nat_le low n && nat_le n high then Some n else None

-- the number that digits without leading zeros write, if it lies between two others or is one of them
abbrev pub number_within : ℕ → ℕ → List ℕ → Option ℕ
number_within low high text = option_and_then (checked_within low high) (number_in (2 ^ 64) text)

-- the number that a text writes, or what stands without one
abbrev pub number_or : ℕ → ℕ → ℕ → Option (List ℕ) → Option ℕ
number_or default low high None = Some default
number_or default low high (Some text) = number_within low high text

-- the bytes of a message, the slots, and the milliseconds that a part stands
abbrev pub limit_in : Option (List ℕ) → Option ℕ
limit_in = number_or 1048576 1400 1048576

abbrev pub slots_in : Option (List ℕ) → Option ℕ
slots_in = number_or 16 1 1024

abbrev pub timeout_in : Option (List ℕ) → Option ℕ
timeout_in = number_or 5000 1 3600000

-- the texts say these limits
pub record SaysLimits (limit slots timeout : Option (List ℕ)) (l : declared_limits.WholeLimits) : Type 0 where
  pub limit_is : limit_in limit ≡ Some l.limit
  pub slots_is : slots_in slots ≡ Some l.slots
  pub timeout_is : timeout_in timeout ≡ Some l.timeout_ms

-- the text that the error names says none
abbrev pub IsRefusedLimit : Option (List ℕ) → Option (List ℕ) → Option (List ℕ) → LimitsError → Type 0
IsRefusedLimit limit slots timeout BadLimit = limit_in limit ≡ None
IsRefusedLimit limit slots timeout BadSlots = slots_in slots ≡ None
IsRefusedLimit limit slots timeout BadTimeout = timeout_in timeout ≡ None

-- the text behind a reference
abbrev pub view_text : Option (Bor (List ℕ)) → Option (List ℕ)
view_text text = option_map (λ t. t.now) text
