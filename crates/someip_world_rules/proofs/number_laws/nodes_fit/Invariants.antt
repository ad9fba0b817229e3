use Rattle.std.proofs.Common.{◌≡◌, true, drop}
use Rattle.std.specs.List.{AllByRecursion}
use Rattle.someip_node_rules.specs.forms.GoodConfigs.{is_good}
use Rattle.someip_world_rules.specs.Announced.{FitNodes}
use Rattle.someip_world_rules.proofs.number_laws.nodes_fit.Given as goal

-- those that are left are good, and all fit where they do
abbrev pub invariant-loop-node : goal.invariant-loop-node
invariant-loop-node l = AllByRecursion (λ node. is_good node.config ≡ true) (drop l.node-index l.nodes) × (FitNodes (drop l.node-index l.nodes) → FitNodes l.nodes)
