use Rattle.someip_node_rules.specs.rules.Inputs as input
use Rattle.someip_c_node.specs.Calls.{Calls}
use Rattle.someip_c.proofs.HandleLemmas.{on_lent}
use Rattle.someip_c.proofs.receiving.someip_tick.Goals as goal

pub returns-in-Some-clause-done : goal.returns-in-Some-clause-done
returns-in-Some-clause-done c = on_lent c.args.handle.now.place.value (Calls (input.Tick c.args.ms)) c.number.result c.hold.new.self.place.value c.in-Some.node.value c.deref_mut.result.now c.tick-outcome.result c.tick-outcome.new.self
    c.in-Some.ensures.some c.deref_mut.ensures.value c.number.ensures c.hold.ensures
    (c.tick-outcome.ensures.done)
