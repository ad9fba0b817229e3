use Rattle.std.proofs.Common.{◌≡◌, drop}
use Rattle.someip_payload_values.specs.View.{labels_of}
use Rattle.someip_payload.specs.ValueReading.{labelled}
use Rattle.someip_payload.proofs.value_tokens.labelled.Given as goal

abbrev pub invariant-loop-label : goal.invariant-loop-label
invariant-loop-label l = labelled (labels_of (drop l.label-index l.labels)) l.token ≡ labelled (labels_of l.labels) l.token
