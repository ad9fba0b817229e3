use Rattle.std.proofs.Common.{◌≡◌, map, take}
use Rattle.someip_payload.proofs.CopiedParts.{as_variant}
use Rattle.someip_payload_values.specs.View.{form, one_member}
use Rattle.someip_payload.proofs.copies.+copy.Given as goal

abbrev pub invariant-copy_shapes-loop-shape : goal.invariant-copy_shapes-loop-shape
invariant-copy_shapes-loop-shape l = map form l.copies.items ≡ map form (take l.shape-index l.shapes)

abbrev pub invariant-copy_variants-loop-number : goal.invariant-copy_variants-loop-number
invariant-copy_variants-loop-number l = map as_variant l.copies.items ≡ map as_variant (take l.number-index l.variants)

abbrev pub invariant-copy_members-loop-member : goal.invariant-copy_members-loop-member
invariant-copy_members-loop-member l = map one_member l.copies.items ≡ map one_member (take l.member-index l.members)
