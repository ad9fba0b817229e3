use Rattle.std.proofs.Common.{◌≡◌, drop}
use Rattle.someip_payload_values.specs.View.{all_variants}
use Rattle.someip_payload_values.specs.Check.{fit_field}
use Rattle.someip_payload_values.proofs.check.fit_field.Given as goal

abbrev pub invariant-loop-variant : goal.invariant-loop-variant
invariant-loop-variant l = fit_field l.field (all_variants (drop l.variant-index l.variants)) ≡ fit_field l.field (all_variants l.variants)
