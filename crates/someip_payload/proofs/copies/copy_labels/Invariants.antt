use Rattle.std.proofs.Common.{◌≡◌, map, take}
use Rattle.someip_payload.specs.ShapeText.{one_label}
use Rattle.someip_payload.proofs.copies.copy_labels.Given as goal

abbrev pub invariant-loop-label : goal.invariant-loop-label
invariant-loop-label l = map one_label l.copies.items ≡ map one_label (take l.label-index l.labels)
