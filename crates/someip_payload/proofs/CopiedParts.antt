-- Parts of shapes, of which copies are made.
use Rattle.std.proofs.Common.{ℕ}
use Rattle.someip_payload_values.specs.declared.shape.Shape.{Shape}
use Rattle.someip_payload_values.specs.Data.{Form}
use Rattle.someip_payload_values.specs.View.{form}

-- the number and the form of a variant
abbrev pub as_variant : ℕ × Shape → ℕ × Form
as_variant v = (v.0, form v.1)
