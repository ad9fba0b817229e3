use Rattle.std.proofs.Common.{◌∙◌}
use Rattle.someip_node.proofs.QuietLemmas.{failed_stands, next_told, nothing_told}
use Rattle.someip_node_rules.proofs.histories.Stands.{answers}
use Rattle.someip_node_rules.specs.steps.Steps.{StandsFor}
use Rattle.someip_node.proofs.node.Node.next_due.Goals as goal

pub returns-then-self-clause-none : goal.returns-then-self-clause-none
returns-then-self-clause-none g c = λ h is. failed_stands c.self.inside.failed c.self.inside.engine h c.if-self.true (c.self.view_is ∙ is)

pub returns-clause-due : goal.returns-clause-due
returns-clause-due g c =
    next_told c.self.inside.engine (StandsFor c.args.self.now) (λ h is. answers c.self.inside.failed c.self.inside.engine h c.if-self.false (c.self.view_is ∙ is))
    c.next_due.result c.next_due.ensures.wanted c.next_due.ensures.due

pub returns-clause-none : goal.returns-clause-none
returns-clause-none g c =
    nothing_told c.self.inside.engine (StandsFor c.args.self.now) (λ h is. answers c.self.inside.failed c.self.inside.engine h c.if-self.false (c.self.view_is ∙ is))
    c.next_due.result c.next_due.ensures.none
