use Rattle.std.proofs.Common.{◌≡◌, ◌++◌, map}
use Rattle.someipctl_io.specs.Discovery.{view_reading}
use Rattle.someipctl_show.specs.Readings.{readings_in}
use Rattle.someipctl_show.proofs.readings.read_datagram.Given as goal

-- what was read, and what the items that are left hold, is what all hold
abbrev pub invariant-loop-item : goal.invariant-loop-item
invariant-loop-item l =
    map view_reading l.readings.items ++ readings_in l.item-iterator ≡ map view_reading l.fn.readings.items ++ readings_in l.initial.item-iterator
