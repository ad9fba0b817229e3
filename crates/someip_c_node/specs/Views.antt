-- How a node is stored behind a reference, as contracts see it.
use Rattle.std.specs.Prelude.{List, refl}
use Rattle.std.specs.Coded.{Coded, code_by, coded×, coded_list}
use Rattle.someip_node.specs.contracts.node.Node as node
use Rattle.someip_node_rules.specs.contracts.output.Output as output
use Rattle.someip_node_rules.specs.declared.output.Output.{Output}
use Rattle.someip_node_rules.specs.steps.Steps.{NodeView}
use Rattle.someip_tp.specs.contracts.pool.interval_pool.IntervalPool as pool
use Rattle.someip_tp.specs.contracts.pool.interval_pool.IntervalPoolReassembly.TheImpl as store
use Rattle.someip_c_node.specs.Calls.{CNodeView}

-- a node with its outputs is stored as the pair of the two
abbrev pub coded_view : Coded CNodeView
coded_view = code_by (NodeView × List Output) (coded× (node.the_row pool.the_row store.ghosts).coded (coded_list output.the_row.coded)) (λ c. (c.node, c.waiting)) (λ p. record { node = p.0; waiting = p.1 }) (λ _. refl)
