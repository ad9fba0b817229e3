use Rattle.std.proofs.Common.{◌≡◌, drop}
use Rattle.someip_payload_values.specs.View.{labels_of}
use Rattle.someipctl_io.specs.ValueObjects.{number_json}
use Rattle.someipctl_show.proofs.types.shape_parts.label_of.Given as goal

abbrev pub invariant-loop-label : goal.invariant-loop-label
invariant-loop-label l = number_json (labels_of (drop l.label-index l.labels)) l.n ≡ number_json (labels_of l.labels) l.n
