use Rattle.std.proofs.Common.{◌≡◌, drop}
use Rattle.someip_payload_values.specs.View.{forms, all_variants, all_members}
use Rattle.someip_payload_values.specs.Check.{are_forms, are_variants, are_tagged}
use Rattle.someip_payload_values.proofs.check.+sound.Given as goal

abbrev pub invariant-are_sound-loop-shape : goal.invariant-are_sound-loop-shape
invariant-are_sound-loop-shape l = are_forms (forms (drop l.shape-index l.shapes)) ≡ are_forms (forms l.shapes)

abbrev pub invariant-are_sound_shapes-loop-variant : goal.invariant-are_sound_shapes-loop-variant
invariant-are_sound_shapes-loop-variant l = are_variants (all_variants (drop l.variant-index l.variants)) ≡ are_variants (all_variants l.variants)

abbrev pub invariant-can_all_be_tagged-loop-member : goal.invariant-can_all_be_tagged-loop-member
invariant-can_all_be_tagged-loop-member l = are_tagged (all_members (drop l.member-index l.members)) ≡ are_tagged (all_members l.members)
