use Rattle.std.proofs.Common.{◌≡◌, ◌++◌, map, drop}
use Rattle.someip_payload_values.specs.View.{forms}
use Rattle.someip_payload_values.specs.Check.{names_of}
use Rattle.someip_payload_values.proofs.names.names_of.Given as goal

abbrev pub invariant-loop-shape : goal.invariant-loop-shape
invariant-loop-shape l = map (λ n. n.now) l.names.items ++ names_of (forms (drop l.shape-index l.shapes)) ≡ names_of (forms l.shapes)
