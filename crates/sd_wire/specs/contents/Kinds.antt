-- What entries of each type mean by their TTL (SOME/IP Service Discovery, "Entry Format").
use Rattle.std.specs.Prelude.{Bool, true, false, ◌&&◌, ◌==◌, nat_lt}
use Rattle.sd_wire.specs.declared.entry.ServiceKind.{ServiceKind}
use Rattle.sd_wire.specs.declared.entry.ServiceKind.TheVariants.{Find, Offer}
use Rattle.sd_wire.specs.declared.entry.EventgroupKind.{EventgroupKind}
use Rattle.sd_wire.specs.declared.entry.EventgroupKind.TheVariants.{Subscribe, Ack}
use Rattle.sd_wire.specs.declared.entry.ServiceEntry.{ServiceEntry}
use Rattle.sd_wire.specs.declared.entry.EventgroupEntry.{EventgroupEntry}

abbrev pub has_type_find : ServiceKind → Bool
has_type_find Find = true
has_type_find Offer = false

abbrev pub has_type_offer : ServiceKind → Bool
has_type_offer Find = false
has_type_offer Offer = true

abbrev pub has_type_subscribe : EventgroupKind → Bool
has_type_subscribe Subscribe = true
has_type_subscribe Ack = false

abbrev pub has_type_ack : EventgroupKind → Bool
has_type_ack Subscribe = false
has_type_ack Ack = true

-- a Find, whatever its TTL is
abbrev pub is_find : ServiceEntry → Bool
is_find e = has_type_find e.kind

-- an Offer: an entry of its type, with a TTL above 0
abbrev pub is_offer : ServiceEntry → Bool
is_offer e = has_type_offer e.kind && nat_lt 0 e.ttl

-- a StopOffer: an entry of the type of an Offer, with TTL 0
abbrev pub is_stop_offer : ServiceEntry → Bool
is_stop_offer e = has_type_offer e.kind && e.ttl == 0

-- a Subscribe: an entry of its type, with a TTL above 0
abbrev pub is_subscribe : EventgroupEntry → Bool
is_subscribe e = has_type_subscribe e.kind && nat_lt 0 e.ttl

-- a StopSubscribe: an entry of the type of a Subscribe, with TTL 0
abbrev pub is_stop_subscribe : EventgroupEntry → Bool
is_stop_subscribe e = has_type_subscribe e.kind && e.ttl == 0

-- an Ack: an entry of its type, with a TTL above 0
abbrev pub is_ack : EventgroupEntry → Bool
is_ack e = has_type_ack e.kind && nat_lt 0 e.ttl

-- a Nack: an entry of the type of an Ack, with TTL 0
abbrev pub is_nack : EventgroupEntry → Bool
is_nack e = has_type_ack e.kind && e.ttl == 0
