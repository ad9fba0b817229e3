use Rattle.std.proofs.Common.{◌≡◌, ◌++◌, map, drop}
use Rattle.someipctl_io.specs.Discovery.{view_reading}
use Rattle.someipctl_show.specs.Readings.{readings_of}
use Rattle.someipctl_show.proofs.readings.read_ahead.Given as goal

-- what was read, and what the datagrams that are left hold, is what all hold
abbrev pub invariant-loop-datagram : goal.invariant-loop-datagram
invariant-loop-datagram l =
    map view_reading l.readings.items ++ readings_of (map (λ d. d.items) (drop l.datagram-index l.datagrams)) ≡ readings_of (map (λ d. d.items) l.datagrams)
