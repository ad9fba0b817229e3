use Rattle.std.proofs.Common.{◌≡◌, ◌++◌, map}
use Rattle.someip_node_rules.specs.forms.Outputs.{datagram_of}
use Rattle.someip_node_engine.proofs.message_sending.send.Given as goal

-- the datagrams so far, and those of the pieces that are left, are all
abbrev pub invariant-loop-piece : goal.invariant-loop-piece
invariant-loop-piece l =
    l.outputs.items ++ map (datagram_of l.from l.to) l.piece-iterator ≡ l.fn.outputs.items ++ map (datagram_of l.from l.to) l.initial.piece-iterator
