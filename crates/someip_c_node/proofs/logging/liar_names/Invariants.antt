use Rattle.std.proofs.Common.{◌≡◌, ◌++◌, length, map, string_bytes}
use Rattle.someip_c_node.specs.LogSetups.{liar_names}
use Rattle.someip_c_node.proofs.LogLemmas.{names_from}
use Rattle.someip_c_node.proofs.logging.liar_names.Given as goal

-- the names so far, and those that are left
abbrev pub invariant-loop-number : goal.invariant-loop-number
invariant-loop-number l = map string_bytes l.names.items ++ names_from l.name l.number-counter l.number-end ≡ liar_names l.name (length l.peers)
