use Rattle.std.proofs.Common.{false}
use Rattle.someip_world_setup_keys.specs.Clashes.{has_equal_ids_wanted}
use Rattle.someip_world_setup_keys.specs.Values.{want_view}
use Rattle.someip_texts.proofs.FoundLemmas.{HasFound}
use Rattle.someip_world_setup_keys.proofs.clashes.have_equal_ids_wanted.Given as goal

abbrev pub invariant-loop-want : goal.invariant-loop-want
invariant-loop-want l = HasFound has_equal_ids_wanted want_view false l.want-index l.wants
