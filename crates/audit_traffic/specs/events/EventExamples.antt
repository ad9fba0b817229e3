-- Events of one server to two clients and a multicast group.
use Rattle.std.specs.Prelude.{ℕ, Bool, [], ◌∷◌, Option}
use Rattle.std.specs.declared.net.ipv4_addr.Ipv4Addr.{Ipv4Addr}
use Rattle.std.specs.declared.net.socket_addr.SocketAddrV4.{SocketAddrV4}
use Rattle.audit_traffic.specs.declared.events.flow.EventFlow.{EventFlow}
use Rattle.audit_traffic.specs.declared.events.last_event.LastEvent.{LastEvent}
use Rattle.audit_traffic.specs.declared.events.notification.Notification.{Notification}
use Rattle.audit_traffic.specs.events.EventHistories.{Shown, Came}

-- 192.168.0.n
abbrev pub node : ℕ → Ipv4Addr
node n = record { octets = 192 ∷ 168 ∷ 0 ∷ n ∷ [] }

-- 239.0.0.1
abbrev pub group : Ipv4Addr
group = record { octets = 239 ∷ 0 ∷ 0 ∷ 1 ∷ [] }

abbrev pub endpoint : Ipv4Addr → SocketAddrV4
endpoint address = record { ip = address; port = 30500 }

-- an event of service 4096 at node 9, to an address
abbrev pub flow_to : ℕ → Ipv4Addr → EventFlow
flow_to event address = record { sender = endpoint (node 9); service = 4096; event = event; receiver = endpoint address }

-- event 8001 to an address, with a session
abbrev pub event_to : Ipv4Addr → ℕ → Notification
event_to address session = record { flow = flow_to 0x8001 address; session = session }

-- it came
abbrev pub comes : Ipv4Addr → ℕ → Shown
comes address session = Came (event_to address session)

-- event 8002 came
abbrev pub another_comes : Ipv4Addr → ℕ → Shown
another_comes address session = Came (record { flow = flow_to 0x8002 address; session = session })

-- a last event
abbrev pub last : ℕ → Bool → Option ℕ → LastEvent
last session is_disturbed nearest = record { session = session; is_disturbed = is_disturbed; nearest = nearest }
