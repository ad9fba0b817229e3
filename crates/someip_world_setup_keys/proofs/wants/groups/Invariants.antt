use Rattle.std.proofs.Common.{map}
use Rattle.someip_world_setup_keys.specs.Values.{listed_view}
use Rattle.someip_world_setup_keys.specs.SaidByKeys.{said_eventgroup}
use Rattle.someip_world_setup_keys.proofs.ReadingLemmas.{HasRead}
use Rattle.someip_world_setup_keys.proofs.wants.groups.Given as goal

abbrev pub invariant-loop-table : goal.invariant-loop-table
invariant-loop-table l = HasRead said_eventgroup (map listed_view l.groups.items) l.table-index l.tables
