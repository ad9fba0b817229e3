use Rattle.std.proofs.Common.{◌≡◌, ◌++◌, drop, map}
use Rattle.someip_world_verdict.specs.Books.{new_life}
use Rattle.someip_world_verdict.specs.Views.{view_lives}
use Rattle.someip_world_verdict.proofs.ledger.new_lives.Given as goal

-- the lives so far and those of the nodes that are left
abbrev pub invariant-loop-node : goal.invariant-loop-node
invariant-loop-node l =
    view_lives l.lives.items ++ map (λ node. new_life) (drop l._node-index l.nodes) ≡ map (λ node. new_life) l.nodes
