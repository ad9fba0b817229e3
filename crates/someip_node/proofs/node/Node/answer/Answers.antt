use Rattle.std.proofs.Common.{sym, ◌∙◌}
use Rattle.someip_node_rules.specs.rules.Inputs.{Answer}
use Rattle.someip_node.proofs.HandledLemmas.{handled_given}
use Rattle.someip_node_rules.proofs.histories.Stands.{answers}
use Rattle.someip_node.proofs.RefusalLemmas.{call_refused}
use Rattle.someip_node.proofs.WithinLemmas.{handled_fits}
use Rattle.someip_node.proofs.node.Node.answer.Goals as goal

pub returns-clause-reacts : goal.returns-clause-reacts
returns-clause-reacts g c = λ h is.
    handled_given h (Answer c.args.token c.args.reply c.args.payload.now) c.self.inside.engine
    (answers c.self.inside.failed c.self.inside.engine h c.in_ok-giving.ensures.works (c.self.view_is ∙ is))
    c.answer-done.result c.in_ok-giving.giving c.answer-done.new.giving c.answer-done.new.self _ _
    c.in_ok-giving.ensures.outputs c.in_ok-giving.ensures.replies c.answer-done.ensures.handled c.answer-done.ensures.config c.finish.ensures.failed c.finish.ensures.given

pub returns-clause-errors : goal.returns-clause-errors
returns-clause-errors g c =
    call_refused (Answer c.args.token c.args.reply c.args.payload.now) c.answer-done.result c.in_ok-giving.giving c.answer-done.new.giving c.self.inside.engine c.answer-done.new.self _
    c.answer-done.ensures.handled c.finish.ensures.given

pub invariant_of-self : goal.invariant_of-self
invariant_of-self g c = λ fine.
    handled_fits (Answer c.args.token c.args.reply c.args.payload.now) c.self.inside.engine c.in_ok-giving.giving c.answer-done.new.self c.answer-done.new.giving
    (c.self.invariant c.in_ok-giving.ensures.works) c.answer-done.result c.answer-done.ensures.handled (sym c.finish.ensures.failed ∙ fine)
