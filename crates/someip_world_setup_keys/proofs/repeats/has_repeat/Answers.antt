use Rattle.std.proofs.Common.{sym, ◌∙◌}
use Rattle.std.proofs.lemmas.Bool.{not-true}
use Rattle.someip_world_setup_keys.proofs.RepeatLemmas.{at_first, met_first}
use Rattle.someip_world_setup_keys.proofs.repeats.has_repeat.Goals as goal

pub loop-key-init : goal.loop-key-init
loop-key-init g c = at_first g.K.Ord.cmp c.new-met.result c.args.keys.now c.new-met.ensures.empty

pub loop-key-preserved : goal.loop-key-preserved
loop-key-preserved g c =
    met_first g.K.Ord.cmp c.loop-key.met c.insert.new.self c.loop-key.key-index c.args.keys.now c.key-item.result c.loop-key-test.true c.key-item.is
    (not-true _ (sym c.in_ok-insert.ensures.added ∙ c.if-not-branch.false)) c.in_ok-insert.ensures.updates.0 c.loop-key.invariant
