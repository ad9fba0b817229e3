-- When a packet was recorded.
use Rattle.std.specs.Prelude.{ℕ, ◌+◌, ◌-◌, ◌*◌, ◌/◌, ◌%◌, ◌^◌, min, nat_lt, if◌then◌else◌}
use Rattle.recording.specs.declared.time.Time.{Time}

-- the time after so many nanoseconds
abbrev pub time_of : ℕ → Time
time_of n = record { seconds = n / 1000000000; nanoseconds = n % 1000000000 }

-- classic pcap: seconds, and a fraction in units of so many nanoseconds
abbrev pub classic_time : ℕ → ℕ → ℕ → Time
classic_time unit seconds fraction = time_of (seconds * 1000000000 + fraction * unit)

-- pcapng: a resolution of n is 10^-n seconds, and one with the highest bit set 2^-n
abbrev pub ticks_per_second : ℕ → ℕ
ticks_per_second n = if nat_lt n 128 then 10 ^ n else 2 ^ (n - 128)

-- what stands for it in 128 bits: from 10^38 on it makes no difference, since no 64 bits hold so many ticks
abbrev pub told_ticks : ℕ → ℕ
told_ticks n = if nat_lt n 128 then 10 ^ min n 38 else 2 ^ (n - 128)

-- seconds and an offset, a signed number in 64 bits, added: from 0 up to 2^64 - 1
abbrev pub shifted : ℕ → ℕ → ℕ
shifted offset seconds =
    if nat_lt offset (2 ^ 63) then min (seconds + offset) (2 ^ 64 - 1)
    else seconds - (2 ^ 64 - offset)

-- the time with its seconds moved by an offset
abbrev pub moved : ℕ → Time → Time
moved offset t = record { seconds = shifted offset t.seconds; nanoseconds = t.nanoseconds }

-- the time after so many ticks of this resolution, from this offset on
abbrev pub tick_time : ℕ → ℕ → ℕ → Time
tick_time resolution offset ticks = moved offset (time_of (ticks * 1000000000 / ticks_per_second resolution))
