-- The moments of a recording, in milliseconds.
use Rattle.std.specs.Prelude.{ℕ, ◌+◌, ◌*◌, ◌/◌, min, max, Option, Some, None}
use Rattle.recording.specs.declared.Time.{Time}

-- the last moment that there is
abbrev pub last_moment : ℕ
last_moment = 9223372036854775807

-- a time in milliseconds since 1970, rounded down, or the last moment where it is past that
abbrev pub millis : Time → ℕ
millis t = min (t.seconds * 1000 + t.nanoseconds / 1000000) last_moment

-- the moment of a datagram with this time, where the latest so far is this: a datagram without a time, or with an earlier
-- one, has the latest
abbrev pub moment_of : ℕ → Option Time → ℕ
moment_of latest None = latest
moment_of latest (Some t) = max latest (millis t)
