use Rattle.std.proofs.Common.{map}
use Rattle.someip_world_setup_keys.specs.Values.{listed_view}
use Rattle.someip_world_setup_keys.specs.SaidByKeys.{said_event}
use Rattle.someip_world_setup_keys.proofs.ReadingLemmas.{HasRead}
use Rattle.someip_world_setup_keys.proofs.offers.events.Given as goal

abbrev pub invariant-loop-table : goal.invariant-loop-table
invariant-loop-table l = HasRead said_event (map listed_view l.events.items) l.table-index l.tables
