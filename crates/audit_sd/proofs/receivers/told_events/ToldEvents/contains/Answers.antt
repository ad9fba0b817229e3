use Rattle.std.proofs.Common.{ap, is_some, ◌∙◌}
use Rattle.someip_tables.specs.Tables.{map_of}
use Rattle.audit_sd.specs.receivers.DeliveryKeys.{delivery_cmp}
use Rattle.audit_sd.proofs.about_receivers.NotedLemmas.{is-told}
use Rattle.audit_sd.proofs.receivers.told_events.ToldEvents.contains.Goals as goal

pub returns-in-Some : goal.returns-in-Some
returns-in-Some c = rw (← c.self.view_is) (ap is_some c.in-Some.ensures ∙ is-told (map_of delivery_cmp c.self.inside.held) c.args.delivery.now)

pub returns-in-None : goal.returns-in-None
returns-in-None c = rw (← c.self.view_is) (ap is_some c.in-None.ensures ∙ is-told (map_of delivery_cmp c.self.inside.held) c.args.delivery.now)
