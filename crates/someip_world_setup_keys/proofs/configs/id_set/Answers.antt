use Rattle.someip_world_setup_keys.proofs.MakingLemmas.{one_key}
use Rattle.someip_world_setup_keys.proofs.configs.id_set.Goals as goal

pub loop-id-preserved : goal.loop-id-preserved
loop-id-preserved c =
    rw (c.in_ok-insert.ensures.keys) (one_key _ c.loop-id.id-index c.args.ids.now _ c.loop-id-test.true c.loop-id.invariant)
