use Rattle.someip_tables.specs.Tables.{map_of}
use Rattle.audit_index.specs.Slots.{stands}
use Rattle.audit_index.proofs.PlaceLemmas.{but_settled, but_taken, way_more}
use Rattle.audit_sd.specs.receivers.DeliveryKeys.{delivery_cmp}
use Rattle.audit_sd.specs.receivers.DeliveryOrder.{deliveries_total, exact_deliveries}
use Rattle.audit_sd.specs.receivers.NotedEvents.{becomes_untold, is_noted}
use Rattle.audit_sd.specs.receivers.PlaceOrder.{ends}
use Rattle.audit_sd.specs.receivers.ReceiverPlaces.{end_cmp, end_of}
use Rattle.audit_sd.proofs.about_receivers.NotedLemmas.{all_untold, untold_again}
use Rattle.audit_sd.proofs.receivers.untelling.untell_at.Goals as goal

pub loop-delivery-preserved : goal.loop-delivery-preserved
loop-delivery-preserved c = record {
  way =
      way_more (becomes_untold c.args.end) (untold_again c.args.end) (map_of delivery_cmp c.args.held.now) (map_of delivery_cmp c.loop-delivery.held) (map_of delivery_cmp c.untell_if_at.new.held)
      c.loop-delivery.invariant.way c.untell_if_at.ensures.way;
  found =
      but_settled ends.total ends.exact deliveries_total exact_deliveries (λ d _. end_of d) is_noted c.args.end c.in-Some.delivery (stands end_cmp delivery_cmp c.take.new.self) (map_of delivery_cmp c.loop-delivery.held)
      (map_of delivery_cmp c.untell_if_at.new.held) c.untell_if_at.ensures.settled
      (but_taken ends.total ends.exact deliveries_total exact_deliveries (λ d _. end_of d) is_noted c.args.end c.in-Some.delivery (stands end_cmp delivery_cmp c.loop-delivery.ends) (stands end_cmp delivery_cmp c.take.new.self)
      (map_of delivery_cmp c.loop-delivery.held) c.in-Some.ensures.taken c.loop-delivery.invariant.found);
}

pub returns-clause-left : goal.returns-clause-left
returns-clause-left c =
    all_untold c.args.end (stands end_cmp delivery_cmp c.loop-delivery.ends) (map_of delivery_cmp c.args.held.now) (map_of delivery_cmp c.loop-delivery.held) c.loop-delivery.invariant.found c.in_default.ensures.none
    c.loop-delivery.invariant.way
