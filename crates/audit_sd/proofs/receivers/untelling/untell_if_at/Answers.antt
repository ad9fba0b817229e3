use Rattle.std.proofs.Common.{ap, sym, ◌∙◌}
use Rattle.std.specs.Ordering.{eq_by_cmp}
use Rattle.someip_tables.specs.Tables.{map_of}
use Rattle.audit_sd.specs.receivers.DeliveryKeys.{delivery_cmp}
use Rattle.audit_sd.specs.receivers.ReceiverPlaces.{end_cmp}
use Rattle.audit_sd.proofs.about_receivers.NotedLemmas.{settled_elsewhere, settled_gone, way_untold}
use Rattle.audit_sd.proofs.receivers.untelling.untell_if_at.Goals as goal

pub returns-then-is_same_key-clause-way : goal.returns-then-is_same_key-clause-way
returns-then-is_same_key-clause-way c =
    way_untold c.args.end.now (map_of delivery_cmp c.args.held.now) (map_of delivery_cmp c.remove.new.self) c.args.delivery.now c.remove.ensures
    (ap (eq_by_cmp end_cmp c.args.end.now) (sym c.of.ensures) ∙ sym c.is_same_key.ensures.test ∙ c.if-is_same_key.true)

pub returns-then-is_same_key-clause-settled : goal.returns-then-is_same_key-clause-settled
returns-then-is_same_key-clause-settled c = settled_gone c.args.end.now (map_of delivery_cmp c.args.held.now) (map_of delivery_cmp c.remove.new.self) c.args.delivery.now c.remove.ensures

pub returns-else-is_same_key-clause-settled : goal.returns-else-is_same_key-clause-settled
returns-else-is_same_key-clause-settled c =
    settled_elsewhere c.args.end.now (map_of delivery_cmp c.args.held.now) c.args.delivery.now
    (ap (eq_by_cmp end_cmp c.args.end.now) (sym c.of.ensures) ∙ sym c.is_same_key.ensures.test ∙ c.if-is_same_key.false)
