use Rattle.std.proofs.Common.{sym, ◌∙◌}
use Rattle.someip_node_rules.specs.rules.Inputs.{Unsubscribe}
use Rattle.someip_node.proofs.HandledLemmas.{handled_given}
use Rattle.someip_node_rules.proofs.histories.Stands.{answers}
use Rattle.someip_node.proofs.RefusalLemmas.{call_refused}
use Rattle.someip_node.proofs.WithinLemmas.{handled_fits}
use Rattle.someip_node.proofs.node.Node.unsubscribe.Goals as goal

pub returns-clause-reacts : goal.returns-clause-reacts
returns-clause-reacts g c = λ h is.
    handled_given h (Unsubscribe c.args.eventgroup) c.self.inside.engine
    (answers c.self.inside.failed c.self.inside.engine h c.in_ok-giving.ensures.works (c.self.view_is ∙ is))
    c.unsubscribe_from-done.result c.in_ok-giving.giving c.unsubscribe_from-done.new.giving c.unsubscribe_from-done.new.self _ _
    c.in_ok-giving.ensures.outputs c.in_ok-giving.ensures.replies c.unsubscribe_from-done.ensures.handled c.unsubscribe_from-done.ensures.config c.finish.ensures.failed c.finish.ensures.given

pub returns-clause-errors : goal.returns-clause-errors
returns-clause-errors g c =
    call_refused (Unsubscribe c.args.eventgroup) c.unsubscribe_from-done.result c.in_ok-giving.giving c.unsubscribe_from-done.new.giving c.self.inside.engine c.unsubscribe_from-done.new.self _
    c.unsubscribe_from-done.ensures.handled c.finish.ensures.given

pub invariant_of-self : goal.invariant_of-self
invariant_of-self g c = λ fine.
    handled_fits (Unsubscribe c.args.eventgroup) c.self.inside.engine c.in_ok-giving.giving c.unsubscribe_from-done.new.self c.unsubscribe_from-done.new.giving
    (c.self.invariant c.in_ok-giving.ensures.works) c.unsubscribe_from-done.result c.unsubscribe_from-done.ensures.handled (sym c.finish.ensures.failed ∙ fine)
