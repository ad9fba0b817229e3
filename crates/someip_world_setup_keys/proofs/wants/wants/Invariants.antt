use Rattle.std.proofs.Common.{map}
use Rattle.someip_world_setup_keys.specs.Values.{want_view}
use Rattle.someip_world_setup_keys.specs.SaidByKeys.{said_want}
use Rattle.someip_world_setup_keys.proofs.ReadingLemmas.{HasRead}
use Rattle.someip_world_setup_keys.proofs.wants.wants.Given as goal

abbrev pub invariant-loop-table : goal.invariant-loop-table
invariant-loop-table l = HasRead said_want (map want_view l.wants.items) l.table-index l.tables
