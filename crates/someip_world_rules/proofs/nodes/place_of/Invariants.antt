use Rattle.std.proofs.Common.{◌≡◌, drop, string_bytes}
use Rattle.std.specs.List.{position_from}
use Rattle.std.specs.Prelude.{bytes_eq}
use Rattle.someip_world_rules.proofs.nodes.place_of.Given as goal

-- the first place is the first of what is left
abbrev pub invariant-loop-place : goal.invariant-loop-place
invariant-loop-place l =
    position_from (λ n. bytes_eq (string_bytes n.name) l.fn.name) l.place (drop l.place l.nodes) ≡ position_from (λ n. bytes_eq (string_bytes n.name) l.fn.name) 0 l.nodes
