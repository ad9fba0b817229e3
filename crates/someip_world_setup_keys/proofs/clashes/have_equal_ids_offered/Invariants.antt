use Rattle.std.proofs.Common.{false}
use Rattle.someip_world_setup_keys.specs.Clashes.{has_equal_ids_offered}
use Rattle.someip_world_setup_keys.specs.Values.{offer_view}
use Rattle.someip_texts.proofs.FoundLemmas.{HasFound}
use Rattle.someip_world_setup_keys.proofs.clashes.have_equal_ids_offered.Given as goal

abbrev pub invariant-loop-offer : goal.invariant-loop-offer
invariant-loop-offer l = HasFound has_equal_ids_offered offer_view false l.offer-index l.offers
