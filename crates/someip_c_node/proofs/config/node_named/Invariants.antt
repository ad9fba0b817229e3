use Rattle.std.proofs.Common.{◌≡◌, drop}
use Rattle.someip_c_node.specs.Texts.{first_named}
use Rattle.someip_c_node.proofs.config.node_named.Given as goal

abbrev pub invariant-loop-node : goal.invariant-loop-node
invariant-loop-node l = first_named l.name l.nodes ≡ first_named l.name (drop l.node-index l.nodes)
