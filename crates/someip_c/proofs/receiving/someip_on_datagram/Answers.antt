use Rattle.std.proofs.Common.{subst}
use Rattle.someip_node_rules.specs.rules.Inputs as input
use Rattle.someip_c_node.specs.Calls.{Calls}
use Rattle.someip_c_node.specs.Records.{socket_of}
use Rattle.someip_c.proofs.HandleLemmas.{on_lent}
use Rattle.someip_c.proofs.receiving.someip_on_datagram.Goals as goal

pub returns-in-Some : goal.returns-in-Some
returns-in-Some c = record {
  done = on_lent c.args.handle.now.place.value (Calls (input.Datagram (socket_of c.args.from.now) (socket_of c.args.to.now) c.args.bytes.now)) c.number.result c.hold.new.self.place.value c.in-Some.node.value c.deref_mut.result.now c.on_datagram-outcome.result c.on_datagram-outcome.new.self
      c.in-Some.ensures.some c.deref_mut.ensures.value c.number.ensures c.hold.ensures
      (subst (λ v. Calls (input.Datagram v (socket_of c.args.to.now) c.args.bytes.now) c.deref_mut.result.now c.on_datagram-outcome.result c.on_datagram-outcome.new.self) c.socket.ensures (subst (λ v. Calls (input.Datagram c.socket.result v c.args.bytes.now) c.deref_mut.result.now c.on_datagram-outcome.result c.on_datagram-outcome.new.self) c.socket-in-Some.ensures (c.on_datagram-outcome.ensures)));
}
