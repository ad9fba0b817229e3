use Rattle.std.proofs.Common.{◌∙◌}
use Rattle.someip_node.proofs.WithinLemmas.{node_within}
use Rattle.someip_node.proofs.node.Node.holds_within_limits.Goals as goal

pub returns-clause-subscribers : goal.returns-clause-subscribers
returns-clause-subscribers g c = λ h is. node_within c.self.inside.failed c.self.inside.engine h (c.self.view_is ∙ is) c.self.invariant
