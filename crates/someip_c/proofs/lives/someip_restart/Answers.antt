use Rattle.someip_c_node.specs.Calls.{Restarts}
use Rattle.someip_c.proofs.HandleLemmas.{on_lent}
use Rattle.someip_c.proofs.lives.someip_restart.Goals as goal

pub returns-in-Some : goal.returns-in-Some
returns-in-Some c = on_lent c.args.handle.now.place.value (Restarts c.args.delay_ms) c.number.result c.hold.new.self.place.value c.in-Some.node.value c.deref_mut.result.now c.restart-outcome.result c.restart-outcome.new.self
    c.in-Some.ensures.some c.deref_mut.ensures.value c.number.ensures c.hold.ensures
    (c.restart-outcome.ensures)
