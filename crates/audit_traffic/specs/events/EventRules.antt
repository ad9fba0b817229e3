-- When two events of one flow, one after the other, came twice or show a loss (SOME/IP Protocol, "Session ID").
use Rattle.std.specs.Prelude.{ℕ, ◌-◌, ◌==◌, nat_le, nat_lt, Bool, true, false, not, ◌&&◌, ◌||◌, if◌then◌else◌, get_or, Option, None, Some}
use Rattle.std.specs.Ordering.{eq_by_cmp}
use Rattle.std.specs.declared.net.ipv4_addr.Ipv4Addr.{Ipv4Addr}
use Rattle.std.specs.Net.Addr.{ipv4_octets}
use Rattle.someip_tables.specs.Endpoints.{address_cmp, endpoint_cmp}
use Rattle.someip_tables.specs.Sessions.{next_session}
use Rattle.audit_traffic.specs.declared.events.flow.EventFlow.{EventFlow}
use Rattle.audit_traffic.specs.declared.events.last_event.LastEvent.{LastEvent}
use Rattle.audit_traffic.specs.declared.events.finding.Finding.{Finding}
use Rattle.audit_traffic.specs.declared.events.finding.Finding.TheVariants.{Behind, Gap, Repeated}

-- ---- sessions

-- by how many a session is ahead of another, in the order in which they are given: FFFF is followed by 1, so a round has FFFF
abbrev pub ahead : ℕ → ℕ → ℕ
ahead last session = if nat_lt session last then 0xffff - (last - session) else session - last

-- a session that lies between the last one and another: ahead of the one, and by less than the other
abbrev pub is_skipped : ℕ → ℕ → ℕ → Bool
is_skipped last session skipped = nat_lt 0 (ahead last skipped) && nat_lt (ahead last skipped) (ahead last session)

-- a session is behind the last one, by 1 to 64: an event with it was overtaken, or came twice
abbrev pub is_behind : ℕ → ℕ → Bool
is_behind last session = nat_lt 0 (ahead session last) && nat_le (ahead session last) 64

-- the lesser of two distances ahead, where the first is 0 if there is none
abbrev pub nearer : ℕ → Option ℕ → Option ℕ
nearer distance None = if distance == 0 then None else Some distance
nearer distance (Some nearest) = if distance == 0 || nat_le nearest distance then Some nearest else Some distance

-- there is one, and it is less than another
abbrev pub is_nearer : Option ℕ → ℕ → Bool
is_nearer None distance = false
is_nearer (Some nearest) distance = nat_lt nearest distance

-- ---- flows

-- two flows are of one event of one sender
abbrev pub is_alike : EventFlow → EventFlow → Bool
is_alike flow other = eq_by_cmp endpoint_cmp flow.sender other.sender && ((flow.service == other.service) && (flow.event == other.event))

-- and they are to two receivers
abbrev pub is_other : EventFlow → EventFlow → Bool
is_other flow other =
    eq_by_cmp endpoint_cmp flow.sender other.sender && ((flow.service == other.service) && ((flow.event == other.event) && not (eq_by_cmp endpoint_cmp flow.receiver other.receiver)))

-- an address is a multicast group's: its first octet is 224 to 239
abbrev pub is_group : Ipv4Addr → Bool
is_group address = nat_le 224 (get_or (ipv4_octets address) 0 0) && nat_lt (get_or (ipv4_octets address) 0 0) 240

-- a subscription of a client that begins or ends may change who gets what goes to an address: the client's, or a multicast group's,
-- which the client may be in
abbrev pub may_reach : Ipv4Addr → Ipv4Addr → Bool
may_reach client address = eq_by_cmp address_cmp address client || is_group address

-- a flow is of a service at an address
abbrev pub is_of_service : Ipv4Addr → ℕ → EventFlow → Bool
is_of_service server service flow = eq_by_cmp address_cmp flow.sender.ip server && (flow.service == service)

-- a subscription of a client to a service at a server that begins or ends may change who gets a flow: it is of that service from
-- the server, and goes to the client or to a group
abbrev pub is_between : Ipv4Addr → Ipv4Addr → ℕ → EventFlow → Bool
is_between client server service flow = is_of_service server service flow && may_reach client flow.receiver.ip

-- a flow is from an address or to it
abbrev pub is_at : Ipv4Addr → EventFlow → Bool
is_at address flow = eq_by_cmp address_cmp flow.sender.ip address || eq_by_cmp address_cmp flow.receiver.ip address

-- ---- what an event shows

-- the sessions between the last one and this must be lost: this is not the next one, nothing came since the last one by which
-- they may have gone to nobody, and no other receiver got one of them
abbrev pub is_loss : LastEvent → ℕ → Bool
is_loss last session = not (last.is_disturbed || (session == next_session last.session) || is_nearer last.nearest (ahead last.session session))

-- what a session shows by the last one of its flow, where losses are told and where they are not. Of a first one nothing is shown
abbrev pub judged : Bool → Option LastEvent → ℕ → Option Finding
judged losses None session = None
judged losses (Some last) session =
    if session == last.session then Some Repeated
    else if is_behind last.session session then Some Behind
    else if losses && is_loss last session then Some (Gap session (next_session last.session))
    else None

-- the last event of a flow once one came: a repeated one, and one behind the last, leaves what is known as it is
abbrev pub renewed : ℕ → Option LastEvent → LastEvent
renewed session None = record { session = session; is_disturbed = false; nearest = None }
renewed session (Some last) =
    if session == last.session then last
    else if is_behind last.session session then last
    else record { session = session; is_disturbed = false; nearest = None }

-- once another receiver got a session
abbrev pub past : ℕ → LastEvent → LastEvent
past session last = record last { nearest = nearer (ahead last.session session) last.nearest }

-- once something came by which sessions may go to nobody
abbrev pub disturbed : LastEvent → LastEvent
disturbed last = record last { is_disturbed = true }
