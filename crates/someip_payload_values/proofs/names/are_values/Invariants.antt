use Rattle.std.proofs.Common.{◌≡◌, None, drop}
use Rattle.someip_payload_values.specs.View.{form, labels_of}
use Rattle.someip_payload_values.specs.Check.{are_values}
use Rattle.someip_payload_values.proofs.names.are_values.Given as goal

abbrev pub invariant-loop-label : goal.invariant-loop-label
invariant-loop-label l = are_values (form l.shape) l.before (labels_of (drop l.label-index l.labels)) ≡ are_values (form l.shape) None (labels_of l.labels)
