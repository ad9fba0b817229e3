-- Which entries of Service Discovery name an endpoint (SOME/IP Service Discovery Protocol, "Entry Format").
use Rattle.std.specs.Prelude.{◌==◌, Bool, true, false, not, ◌&&◌, if◌then◌else◌, Option, None}
use Rattle.std.specs.declared.net.socket_addr.SocketAddrV4.{SocketAddrV4}
use Rattle.sd_wire.specs.declared.entry.EntryHead.{EntryHead}
use Rattle.sd_wire.specs.declared.entry.EntryHead.TheVariants.{Service, Eventgroup}
use Rattle.sd_wire.specs.declared.entry.EventgroupKind.{EventgroupKind}
use Rattle.sd_wire.specs.declared.entry.EventgroupKind.TheVariants as kinds
use Rattle.sd_wire.specs.declared.entry.ServiceEntry.{ServiceEntry}
use Rattle.sd_wire.specs.declared.entry.ServiceKind.{ServiceKind}
use Rattle.sd_wire.specs.declared.entry.ServiceKind.TheVariants.{Find, Offer}

-- an entry is an Offer or a Subscribe, and no Find, StopOffer, StopSubscribe or answer
abbrev pub offers : ServiceKind → Bool
offers Find = false
offers Offer = true

abbrev pub is_offer : ServiceEntry → Bool
is_offer entry = offers entry.kind && not (entry.ttl == 0)

abbrev pub subscribes : EventgroupKind → Bool
subscribes kinds.Subscribe = true
subscribes kinds.Ack = false

abbrev pub names_endpoint : EntryHead → Bool
names_endpoint (Service entry) = is_offer entry
names_endpoint (Eventgroup entry) = subscribes entry.kind && not (entry.ttl == 0)

-- the endpoint that an entry names, by the first IPv4 endpoint over UDP among its options, if it has one
abbrev pub named_endpoint : EntryHead → Option SocketAddrV4 → Option SocketAddrV4
named_endpoint head endpoint = if names_endpoint head then endpoint else None
