use Rattle.std.proofs.Common.{subst}
use Rattle.someip_node_rules.specs.rules.Inputs as input
use Rattle.someip_c_node.specs.Calls.{Calls}
use Rattle.someip_c.specs.Handles.{call_kind, instance_of}
use Rattle.someip_c.proofs.HandleLemmas.{on_lent}
use Rattle.someip_c.proofs.applying.someip_call.Goals as goal

pub returns-in-Some : goal.returns-in-Some
returns-in-Some c = record {
  done = on_lent c.args.handle.now.place.value (Calls (input.Call (call_kind c.args.waits) (instance_of c.args.service c.args.instance) c.args.method c.args.payload.now)) c.number.result c.hold.new.self.place.value c.in-Some.node.value c.deref_mut.result.now c.call-outcome.result c.call-outcome.new.self
      c.in-Some.ensures.some c.deref_mut.ensures.value c.number.ensures c.hold.ensures
      (subst (λ v. Calls (input.Call v (instance_of c.args.service c.args.instance) c.args.method c.args.payload.now) c.deref_mut.result.now c.call-outcome.result c.call-outcome.new.self) c.kind_of.ensures (c.call-outcome.ensures));
}
