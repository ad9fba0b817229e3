use Rattle.std.proofs.Common.{◌≡◌, drop}
use Rattle.someip_payload_values.specs.View.{all_variants}
use Rattle.someip_payload_values.specs.ValueText.{variant_of}
use Rattle.someipctl_show.proofs.types.shape_parts.variant_of.Given as goal

abbrev pub invariant-loop-variant : goal.invariant-loop-variant
invariant-loop-variant l = variant_of l.kind (all_variants (drop l.variant-index l.variants)) ≡ variant_of l.kind (all_variants l.variants)
