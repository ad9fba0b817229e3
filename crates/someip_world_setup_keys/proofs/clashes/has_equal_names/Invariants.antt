use Rattle.std.proofs.Common.{◌≡◌, map, drop, bytes_eq, string_bytes}
use Rattle.someip_world_setup_keys.specs.Clashes.{has_repeat}
use Rattle.someip_world_setup_keys.proofs.clashes.has_equal_names.Given as goal

-- the names of the rest repeat where those of all do
abbrev pub invariant-loop-i : goal.invariant-loop-i
invariant-loop-i l = has_repeat bytes_eq (map (λ n. string_bytes n.name) (drop l.i l.nodes)) ≡ has_repeat bytes_eq (map (λ n. string_bytes n.name) l.nodes)
