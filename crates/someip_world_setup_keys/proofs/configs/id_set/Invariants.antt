use Rattle.someip_world_setup_keys.proofs.MakingLemmas.{HasKeys}
use Rattle.someip_world_setup_keys.proofs.configs.id_set.Given as goal

abbrev pub invariant-loop-id : goal.invariant-loop-id
invariant-loop-id l = HasKeys l.set.keys l.id-index l.ids
