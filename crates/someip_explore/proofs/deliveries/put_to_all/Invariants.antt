use Rattle.std.proofs.Common.{◌≡◌, ◌++◌, flat_map, take}
use Rattle.someip_explore.specs.Moves.{delivery_to}
use Rattle.someip_explore.proofs.deliveries.put_to_all.Given as goal

-- the deliveries to the nodes so far were added
abbrev pub invariant-loop-node : goal.invariant-loop-node
invariant-loop-node l =
    l.choices.items
    ≡ l.fn.choices.items
    ++ flat_map (delivery_to l.number (record { from = l.datagram.from; to = l.datagram.to; bytes = l.datagram.bytes.now })) (take l.node-index l.nodes)
