use Rattle.std.proofs.Common.{◌≡◌, drop}
use Rattle.someip_payload_values.specs.View.{labels_of}
use Rattle.someip_payload_values.specs.ValueText.{number_said}
use Rattle.someip_payload_values.proofs.value_text.label_of.Given as goal

abbrev pub invariant-loop-label : goal.invariant-loop-label
invariant-loop-label l = number_said (labels_of (drop l.label-index l.labels)) l.number ≡ number_said (labels_of l.labels) l.number
