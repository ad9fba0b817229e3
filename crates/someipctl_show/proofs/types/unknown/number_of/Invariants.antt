use Rattle.std.proofs.Common.{◌≡◌, ◌+◌, map, drop}
use Rattle.std.specs.List.{position_from}
use Rattle.toml.specs.View.{view}
use Rattle.someipctl_show.specs.types.Tables.{has_key, number_of}
use Rattle.someipctl_show.proofs.types.unknown.number_of.Given as goal

abbrev pub invariant-loop-i : goal.invariant-loop-i
invariant-loop-i l = position_from (has_key l.key) (l.i + 1) (map view (drop l.i l.tables)) ≡ number_of l.key (map view l.tables)
