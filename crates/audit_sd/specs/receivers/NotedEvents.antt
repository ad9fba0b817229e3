-- The events that were told, as they are kept.
use Rattle.std.specs.Prelude.{ℕ, Bool, true, map, Option, None, if◌then◌else◌}
use Rattle.std.specs.Ordering.{eq_by_cmp}
use Rattle.std.specs.FinMap.{FinMap, entries}
use Rattle.someip_tables.specs.Tables.{map_of}
use Rattle.audit_sd.specs.declared.receivers.delivery.Delivery.{Delivery}
use Rattle.audit_sd.specs.declared.receivers.event_end.EventEnd.{EventEnd}
use Rattle.audit_sd.specs.declared.receivers.untelling.Noted.{Noted}
use Rattle.audit_sd.specs.receivers.DeliveryKeys.{delivery_cmp}
use Rattle.audit_sd.specs.receivers.ReceiverPlaces.{end_cmp, end_of}
use Rattle.audit_sd.specs.receivers.ReceiverTables.{Told}

-- what was told waits for no moment
abbrev pub noted_waits : Noted → Option ℕ
noted_waits noted = None

abbrev pub is_noted : Delivery → Noted → Bool
is_noted delivery noted = true

-- the events of a table
abbrev pub told_in : FinMap delivery_cmp Noted → Told
told_in held = map_of delivery_cmp (map (λ e. (e.0, tt)) (entries held))

-- what becomes of an event where those that went to an end are untold
abbrev pub becomes_untold : EventEnd → Delivery → Option Noted → Option Noted
becomes_untold end delivery noted = if eq_by_cmp end_cmp end (end_of delivery) then None else noted
