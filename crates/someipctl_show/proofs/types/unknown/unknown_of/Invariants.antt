use Rattle.std.proofs.Common.{map, take, option_map}
use Rattle.toml.specs.View.{view}
use Rattle.someipctl_show.specs.types.Faults.{IsUnknownAmong}
use Rattle.someipctl_show.proofs.types.unknown.unknown_of.Given as goal

abbrev pub invariant-loop-table : goal.invariant-loop-table
invariant-loop-table l = IsUnknownAmong (map view (take l.table-index l.tables)) (option_map (λ key. key.now) l.least)
