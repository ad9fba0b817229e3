-- The messages of Service Discovery (SOME/IP Service Discovery Protocol, "SOME/IP-SD message").
use Rattle.std.specs.Prelude.{Bool, true, false, ◌==◌, ◌&&◌}
use Rattle.someip_wire.specs.declared.header.Header.{Header}
use Rattle.someip_wire.specs.declared.header.MessageType.{MessageType}
use Rattle.someip_wire.specs.declared.header.MessageType.TheVariants.{Notification}

-- the type is NOTIFICATION, without the TP flag
abbrev pub is_notification : MessageType → Bool
is_notification Notification = true
is_notification other = false

-- the header of a message of Service Discovery: Service ID FFFF, Method ID 8100, Interface Version 1, NOTIFICATION
abbrev pub is_discovery : Header → Bool
is_discovery h = (h.service == 0xffff) && (h.method == 0x8100) && (h.interface == 1) && is_notification h.kind
