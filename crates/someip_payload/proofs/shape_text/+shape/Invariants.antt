use Rattle.std.proofs.Common.{◌+◌, ◌-◌, ◌*◌, length}
use Rattle.someip_payload.proofs.Members.{members, variants, tagged_members}
use Rattle.someip_payload.proofs.OneAfterOther.{Reading}
use Rattle.someip_payload.proofs.shape_text.+shape.Given as goal

abbrev pub decreases-shape_at : goal.decreases-shape_at
decreases-shape_at l = 5 * l.left

abbrev pub decreases-array_at : goal.decreases-array_at
decreases-array_at l = 5 * l.left + 3

abbrev pub decreases-fixed_at : goal.decreases-fixed_at
decreases-fixed_at l = 5 * l.left + 3

abbrev pub decreases-repeated_at : goal.decreases-repeated_at
decreases-repeated_at l = 5 * l.left + 2

abbrev pub decreases-struct_at : goal.decreases-struct_at
decreases-struct_at l = 5 * l.left + 4

abbrev pub decreases-members_at : goal.decreases-members_at
decreases-members_at l = 5 * l.left + 3

abbrev pub invariant-members_at-loop-items : goal.invariant-members_at-loop-items
invariant-members_at-loop-items l = Reading (members l.names) l.text l.at l.left l.items.items l.next

abbrev pub decreases-members_at-loop-items : goal.decreases-members_at-loop-items
decreases-members_at-loop-items l = length l.text - l.next

abbrev pub decreases-member_at : goal.decreases-member_at
decreases-member_at l = 5 * l.left + 2

abbrev pub decreases-named_at : goal.decreases-named_at
decreases-named_at l = 5 * l.left + 1

abbrev pub decreases-union_at : goal.decreases-union_at
decreases-union_at l = 5 * l.left + 3

abbrev pub decreases-variants_at : goal.decreases-variants_at
decreases-variants_at l = 5 * l.left + 2

abbrev pub invariant-variants_at-loop-items : goal.invariant-variants_at-loop-items
invariant-variants_at-loop-items l = Reading (variants l.names) l.text l.at l.left l.items.items l.next

abbrev pub decreases-variants_at-loop-items : goal.decreases-variants_at-loop-items
decreases-variants_at-loop-items l = length l.text - l.next

abbrev pub decreases-variant_at : goal.decreases-variant_at
decreases-variant_at l = 5 * l.left + 1

abbrev pub decreases-tagged_at : goal.decreases-tagged_at
decreases-tagged_at l = 5 * l.left + 3

abbrev pub decreases-tagged_members_at : goal.decreases-tagged_members_at
decreases-tagged_members_at l = 5 * l.left + 2

abbrev pub invariant-tagged_members_at-loop-items : goal.invariant-tagged_members_at-loop-items
invariant-tagged_members_at-loop-items l = Reading (tagged_members l.names) l.text l.at l.left l.items.items l.next

abbrev pub decreases-tagged_members_at-loop-items : goal.decreases-tagged_members_at-loop-items
decreases-tagged_members_at-loop-items l = length l.text - l.next

abbrev pub decreases-tagged_member_at : goal.decreases-tagged_member_at
decreases-tagged_member_at l = 5 * l.left + 1
