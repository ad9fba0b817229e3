use Rattle.std.proofs.Common.{sym, ◌∙◌}
use Rattle.someip_node_rules.specs.rules.Inputs.{StopOffer}
use Rattle.someip_node.proofs.HandledLemmas.{handled_given}
use Rattle.someip_node_rules.proofs.histories.Stands.{answers}
use Rattle.someip_node.proofs.RefusalLemmas.{call_refused}
use Rattle.someip_node.proofs.WithinLemmas.{handled_fits}
use Rattle.someip_node.proofs.node.Node.stop_offer.Goals as goal

pub returns-clause-reacts : goal.returns-clause-reacts
returns-clause-reacts g c = λ h is.
    handled_given h (StopOffer c.args.instance) c.self.inside.engine
    (answers c.self.inside.failed c.self.inside.engine h c.in_ok-giving.ensures.works (c.self.view_is ∙ is))
    c.stop_offering-done.result c.in_ok-giving.giving c.stop_offering-done.new.giving c.stop_offering-done.new.self _ _
    c.in_ok-giving.ensures.outputs c.in_ok-giving.ensures.replies c.stop_offering-done.ensures.handled c.stop_offering-done.ensures.config c.finish.ensures.failed c.finish.ensures.given

pub returns-clause-errors : goal.returns-clause-errors
returns-clause-errors g c =
    call_refused (StopOffer c.args.instance) c.stop_offering-done.result c.in_ok-giving.giving c.stop_offering-done.new.giving c.self.inside.engine c.stop_offering-done.new.self _
    c.stop_offering-done.ensures.handled c.finish.ensures.given

pub invariant_of-self : goal.invariant_of-self
invariant_of-self g c = λ fine.
    handled_fits (StopOffer c.args.instance) c.self.inside.engine c.in_ok-giving.giving c.stop_offering-done.new.self c.stop_offering-done.new.giving
    (c.self.invariant c.in_ok-giving.ensures.works) c.stop_offering-done.result c.stop_offering-done.ensures.handled (sym c.finish.ensures.failed ∙ fine)
