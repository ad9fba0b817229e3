use Rattle.someip_tables.specs.Tables.{map_of}
use Rattle.audit_index.specs.Slots.{stands}
use Rattle.audit_index.proofs.PlaceLemmas.{at_insert, at_more}
use Rattle.audit_sd.specs.receivers.DeliveryKeys.{delivery_cmp}
use Rattle.audit_sd.specs.receivers.DeliveryOrder.{deliveries_total, exact_deliveries}
use Rattle.audit_sd.specs.receivers.NotedEvents.{is_noted}
use Rattle.audit_sd.specs.receivers.PlaceOrder.{ends}
use Rattle.audit_sd.specs.receivers.ReceiverPlaces.{end_cmp, end_of}
use Rattle.audit_sd.proofs.about_receivers.NotedLemmas.{insert-told}
use Rattle.audit_sd.proofs.receivers.told_events.ToldEvents.insert.Goals as goal

pub invariant_of-self-else-not-put_at : goal.invariant_of-self-else-not-put_at
invariant_of-self-else-not-put_at c = λ whole.
    at_insert ends.total ends.exact deliveries_total exact_deliveries (λ d _. end_of d) is_noted (stands end_cmp delivery_cmp c.put_at.new.ends) (map_of delivery_cmp c.self.inside.held) (map_of delivery_cmp c.insert.new.self) c.args.delivery _
    c.in_ok-insert.ensures.ok (c.put_at.ensures.put c.if-not-put_at.false)
    (at_more ends.total ends.exact deliveries_total exact_deliveries (λ d _. end_of d) is_noted (stands end_cmp delivery_cmp c.self.inside.ends) (stands end_cmp delivery_cmp c.put_at.new.ends) (map_of delivery_cmp c.self.inside.held) c.put_at.ensures.stay
    (c.self.invariant whole))

pub returns-then-not-put_at-clause-ok : goal.returns-then-not-put_at-clause-ok
returns-then-not-put_at-clause-ok c = rw (← c.self.view_is) (insert-told (map_of delivery_cmp c.self.inside.held) (map_of delivery_cmp c.insert.new.self) c.args.delivery _ c.in_ok-insert.ensures.ok)

pub returns-else-not-put_at-clause-ok : goal.returns-else-not-put_at-clause-ok
returns-else-not-put_at-clause-ok c = rw (← c.self.view_is) (insert-told (map_of delivery_cmp c.self.inside.held) (map_of delivery_cmp c.insert.new.self) c.args.delivery _ c.in_ok-insert.ensures.ok)
