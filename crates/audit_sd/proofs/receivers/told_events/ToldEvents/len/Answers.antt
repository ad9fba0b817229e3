use Rattle.std.proofs.Common.{sym, ◌∙◌}
use Rattle.someip_tables.specs.Tables.{map_of}
use Rattle.audit_sd.specs.receivers.DeliveryKeys.{delivery_cmp}
use Rattle.audit_sd.proofs.about_receivers.NotedLemmas.{len-told}
use Rattle.audit_sd.proofs.receivers.told_events.ToldEvents.len.Goals as goal

pub returns : goal.returns
returns c = rw (← c.self.view_is) (c.len.ensures ∙ sym (len-told (map_of delivery_cmp c.self.inside.held)))
