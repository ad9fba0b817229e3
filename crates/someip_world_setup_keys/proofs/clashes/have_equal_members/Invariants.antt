use Rattle.std.proofs.Common.{false}
use Rattle.someip_world_setup_keys.specs.Clashes.{has_equal_members}
use Rattle.someip_world_setup_keys.specs.Values.{listed_view}
use Rattle.someip_texts.proofs.FoundLemmas.{HasFound}
use Rattle.someip_world_setup_keys.proofs.clashes.have_equal_members.Given as goal

abbrev pub invariant-loop-list : goal.invariant-loop-list
invariant-loop-list l = HasFound has_equal_members listed_view false l.list-index l.lists
