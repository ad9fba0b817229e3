use Rattle.std.proofs.Common.{not, rules, ◌∙◌}
use Rattle.someip_tables.specs.Tables.{map_of}
use Rattle.someip_tables.proofs.Entries.{retain_keys_retain}
use Rattle.audit_sd.specs.receivers.DeliveryKeys.{delivery_cmp}
use Rattle.audit_sd.specs.receivers.DeliveryOrder.{deliveries_total, exact_deliveries}
use Rattle.audit_sd.specs.receivers.ReceiverRules.{goes_by}
use Rattle.audit_sd.proofs.about_receivers.NotedLemmas.{retain-told, untold_there}
use Rattle.audit_sd.proofs.receivers.told_events.ToldEvents.untell.Goals as goal

pub returns-then-not-self : goal.returns-then-not-self
returns-then-not-self c =
    rw (← c.self.view_is)
    (retain-told (map_of delivery_cmp c.self.inside.held) (map_of delivery_cmp c.retain.new.self) (λ d. not (goes_by d c.args.key.now c.args.endpoint))
    (c.retain.ensures (λ d _. not (goes_by d c.args.key.now c.args.endpoint)) (λ key value answer t. search rules)
    ∙ retain_keys_retain deliveries_total exact_deliveries (map_of delivery_cmp c.self.inside.held) (λ d. not (goes_by d c.args.key.now c.args.endpoint))))

pub untell_at-requires : goal.untell_at-requires
untell_at-requires c = c.self.invariant c.if-not-self.false

pub returns : goal.returns
returns c = rw (← c.self.view_is) (untold_there c.args.key.now c.args.endpoint (map_of delivery_cmp c.self.inside.held) (map_of delivery_cmp c.untell_at.new.held) (rw c.at.ensures at c.untell_at.ensures.left))
