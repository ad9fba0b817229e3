use Rattle.someip_world_setup_keys.proofs.RepeatLemmas.{HasMet}
use Rattle.someip_world_setup_keys.proofs.repeats.has_repeat.Given as goal

abbrev pub invariant-loop-key : goal.invariant-loop-key
invariant-loop-key g l = HasMet g.K.Ord.cmp l.met l.key-index l.keys
