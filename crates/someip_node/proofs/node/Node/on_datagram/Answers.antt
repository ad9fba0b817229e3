use Rattle.std.proofs.Common.{sym, ◌∙◌}
use Rattle.someip_node_rules.specs.rules.Inputs.{Datagram}
use Rattle.someip_node.proofs.HandledLemmas.{handled_given}
use Rattle.someip_node_rules.proofs.histories.Stands.{answers}
use Rattle.someip_node.proofs.RefusalLemmas.{call_refused}
use Rattle.someip_node.proofs.WithinLemmas.{handled_fits}
use Rattle.someip_node.proofs.node.Node.on_datagram.Goals as goal

pub returns-clause-reacts : goal.returns-clause-reacts
returns-clause-reacts g c = λ h is.
    handled_given h (Datagram c.args.from c.args.to c.args.bytes.now) c.self.inside.engine
    (answers c.self.inside.failed c.self.inside.engine h c.in_ok-giving.ensures.works (c.self.view_is ∙ is))
    c.take_datagram-done.result c.in_ok-giving.giving c.take_datagram-done.new.giving c.take_datagram-done.new.self _ _
    c.in_ok-giving.ensures.outputs c.in_ok-giving.ensures.replies c.take_datagram-done.ensures.handled c.take_datagram-done.ensures.config c.finish.ensures.failed c.finish.ensures.given

pub returns-clause-errors : goal.returns-clause-errors
returns-clause-errors g c =
    call_refused (Datagram c.args.from c.args.to c.args.bytes.now) c.take_datagram-done.result c.in_ok-giving.giving c.take_datagram-done.new.giving c.self.inside.engine c.take_datagram-done.new.self _
    c.take_datagram-done.ensures.handled c.finish.ensures.given

pub invariant_of-self : goal.invariant_of-self
invariant_of-self g c = λ fine.
    handled_fits (Datagram c.args.from c.args.to c.args.bytes.now) c.self.inside.engine c.in_ok-giving.giving c.take_datagram-done.new.self c.take_datagram-done.new.giving
    (c.self.invariant c.in_ok-giving.ensures.works) c.take_datagram-done.result c.take_datagram-done.ensures.handled (sym c.finish.ensures.failed ∙ fine)
