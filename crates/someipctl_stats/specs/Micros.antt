-- The moments of a recording, in microseconds.
use Rattle.std.specs.Prelude.{ℕ, ◌+◌, ◌-◌, ◌*◌, ◌/◌, ◌^◌, min, max, Option, Some, None}
use Rattle.recording.specs.declared.Time.{Time}

-- a time in microseconds since 1970, rounded down, and 2^64 - 1 at most
abbrev pub micros : Time → ℕ
micros t = min (t.seconds * 1000000 + t.nanoseconds / 1000) (2 ^ 64 - 1)

-- the moment of a datagram with this time, where the latest so far is this: a datagram without a time, or with an earlier one, has
-- the latest
abbrev pub micros_after : ℕ → Option Time → ℕ
micros_after latest None = latest
micros_after latest (Some t) = max latest (micros t)
