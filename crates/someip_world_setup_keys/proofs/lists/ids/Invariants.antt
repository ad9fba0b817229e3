use Rattle.someip_world_setup_keys.specs.Lists.{id_of}
use Rattle.someip_world_setup_keys.proofs.ReadingLemmas.{HasRead}
use Rattle.someip_world_setup_keys.proofs.lists.ids.Given as goal

abbrev pub invariant-loop-value : goal.invariant-loop-value
invariant-loop-value l = HasRead (id_of l.low l.high) l.ids.items l.value-index l.list
