use Rattle.someip_node_rules.specs.rules.Inputs as input
use Rattle.someip_c_node.specs.Calls.{Calls}
use Rattle.someip_c.specs.Handles.{instance_of}
use Rattle.someip_c.proofs.HandleLemmas.{on_lent}
use Rattle.someip_c.proofs.applying.someip_publish.Goals as goal

pub returns-in-Some : goal.returns-in-Some
returns-in-Some c = record {
  done = on_lent c.args.handle.now.place.value (Calls (input.Publish (instance_of c.args.service c.args.instance) c.args.event c.args.payload.now)) c.number.result c.hold.new.self.place.value c.in-Some.node.value c.deref_mut.result.now c.publish-outcome.result c.publish-outcome.new.self
      c.in-Some.ensures.some c.deref_mut.ensures.value c.number.ensures c.hold.ensures
      (c.publish-outcome.ensures);
}
