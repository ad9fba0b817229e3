use Rattle.std.proofs.Common.{ap, ◌∙◌}
use Rattle.someip_node_rules.specs.histories.Starts.{started_tables}
use Rattle.someip_node_rules.proofs.histories.Stands.{started_stands}
use Rattle.someip_node.proofs.WithinLemmas.{start_within}
use Rattle.someip_node.proofs.node.Node.restart.Goals as goal

pub returns-clause-ok : goal.returns-clause-ok
returns-clause-ok g c =
    started_stands _ _ _ (c.restart.ensures ∙ ap (λ config. started_tables config c.args.delay) (ap (λ n. n.config) c.self.view_is))

pub invariant_of-self : goal.invariant_of-self
invariant_of-self g c = λ fine. start_within _ _ _ c.restart.ensures
