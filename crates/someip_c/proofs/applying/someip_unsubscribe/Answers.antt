use Rattle.std.proofs.Common.{subst}
use Rattle.someip_node_rules.specs.rules.Inputs as input
use Rattle.someip_c_node.specs.Calls.{Calls}
use Rattle.someip_c.specs.Handles.{group_of}
use Rattle.someip_c.proofs.HandleLemmas.{on_lent}
use Rattle.someip_c.proofs.applying.someip_unsubscribe.Goals as goal

pub returns-in-Some : goal.returns-in-Some
returns-in-Some c = record {
  done = on_lent c.args.handle.now.place.value (Calls (input.Unsubscribe (group_of c.args.service c.args.instance c.args.eventgroup))) c.number.result c.hold.new.self.place.value c.in-Some.node.value c.deref_mut.result.now c.unsubscribe-outcome.result c.unsubscribe-outcome.new.self
      c.in-Some.ensures.some c.deref_mut.ensures.value c.number.ensures c.hold.ensures
      (subst (λ v. Calls (input.Unsubscribe v) c.deref_mut.result.now c.unsubscribe-outcome.result c.unsubscribe-outcome.new.self) c.group.ensures (c.unsubscribe-outcome.ensures));
}
