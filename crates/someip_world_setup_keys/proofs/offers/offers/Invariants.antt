use Rattle.std.proofs.Common.{map}
use Rattle.someip_world_setup_keys.specs.Values.{offer_view}
use Rattle.someip_world_setup_keys.specs.SaidByKeys.{said_offer}
use Rattle.someip_world_setup_keys.proofs.ReadingLemmas.{HasRead}
use Rattle.someip_world_setup_keys.proofs.offers.offers.Given as goal

abbrev pub invariant-loop-table : goal.invariant-loop-table
invariant-loop-table l = HasRead said_offer (map offer_view l.offers.items) l.table-index l.tables
