use Rattle.std.proofs.Common.{◌≡◌, map, take}
use Rattle.someip_payload_values.specs.View.{labels_of}
use Rattle.someip_payload_values.proofs.names.label_names.Given as goal

abbrev pub invariant-loop-label : goal.invariant-loop-label
invariant-loop-label l = map (λ n. n.now) l.names.items ≡ map (λ v. v.1) (labels_of (take l.label-index l.labels))
