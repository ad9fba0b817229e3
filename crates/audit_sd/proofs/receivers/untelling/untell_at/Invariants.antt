use Rattle.std.proofs.Common.{length}
use Rattle.someip_tables.specs.Tables.{map_of}
use Rattle.audit_index.specs.Places.{AreAt, AreOnTheWay}
use Rattle.audit_index.specs.Slots.{stands}
use Rattle.audit_sd.specs.receivers.DeliveryKeys.{delivery_cmp}
use Rattle.audit_sd.specs.receivers.NotedEvents.{becomes_untold, is_noted}
use Rattle.audit_sd.specs.receivers.ReceiverPlaces.{end_cmp, end_of}
use Rattle.audit_sd.proofs.receivers.untelling.untell_at.Given as goal

-- each event is as it was, or untold, and those that are left are found
abbrev pub invariant-loop-delivery : goal.invariant-loop-delivery
invariant-loop-delivery l = record {
  way : AreOnTheWay (becomes_untold l.fn.end) (map_of delivery_cmp l.fn.held) (map_of delivery_cmp l.held);
  found : AreAt (λ d _. end_of d) is_noted (stands end_cmp delivery_cmp l.ends) (map_of delivery_cmp l.held);
}

-- each turn uses up an event
abbrev pub decreases-loop-delivery : goal.decreases-loop-delivery
decreases-loop-delivery l = length l.ends
