use Rattle.someip_node_rules.proofs.histories.Stands.{started_stands}
use Rattle.someip_node.proofs.WithinLemmas.{start_within}
use Rattle.someip_node.proofs.node.Node.start.Goals as goal

pub returns-clause-ok : goal.returns-clause-ok
returns-clause-ok g c = started_stands _ _ _ c.in_ok-engine.ensures.ok

pub invariant_of-result : goal.invariant_of-result
invariant_of-result g c = λ fine. start_within _ _ _ c.in_ok-engine.ensures.ok
