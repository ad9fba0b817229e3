use Rattle.std.proofs.Common.{◌-◌, length}
use Rattle.someip_payload.proofs.Members.{labels}
use Rattle.someip_payload.proofs.OneAfterOther.{Reading}
use Rattle.someip_payload.proofs.labels.labels_at.Given as goal

abbrev pub invariant-loop-items : goal.invariant-loop-items
invariant-loop-items l = Reading labels l.text l.at 0 l.items.items l.next

abbrev pub decreases-loop-items : goal.decreases-loop-items
decreases-loop-items l = length l.text - l.next
