use Rattle.someip_tables.specs.Tables.{map_of}
use Rattle.audit_index.specs.Slots.{stands}
use Rattle.audit_sd.specs.receivers.DeliveryKeys.{delivery_cmp}
use Rattle.audit_sd.specs.receivers.ReceiverPlaces.{end_cmp}
use Rattle.audit_sd.proofs.about_receivers.NotedLemmas.{none_told, nothing_noted}
use Rattle.audit_sd.proofs.receivers.told_events.ToldEvents.new.Goals as goal

pub invariant_of-result : goal.invariant_of-result
invariant_of-result c = λ _. nothing_noted (stands end_cmp delivery_cmp c.new-2.result) (map_of delivery_cmp c.new.result) c.new.ensures

pub returns : goal.returns
returns c = none_told (map_of delivery_cmp c.new.result) c.new.ensures
