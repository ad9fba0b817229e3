-- Subscriptions of two clients at a server.
use Rattle.std.specs.Prelude.{ℕ, [], ◌∷◌, None, Some}
use Rattle.std.specs.declared.net.ipv4_addr.Ipv4Addr.{Ipv4Addr}
use Rattle.std.specs.declared.net.socket_addr.SocketAddrV4.{SocketAddrV4}
use Rattle.someip_tables.specs.declared.deadline.Deadline.TheVariants.{At}
use Rattle.someip_tables.specs.declared.lasting.Lasting.{Lasting}
use Rattle.audit_sd.specs.declared.subscriptions.entry.EntryKind.TheVariants.{Answer, Subscribe}
use Rattle.audit_sd.specs.declared.subscriptions.key.SubscriptionKey.{SubscriptionKey}
use Rattle.audit_sd.specs.declared.receivers.delivery.Delivery.{Delivery}
use Rattle.audit_sd.specs.declared.receivers.entry.ReceiverEntry.{ReceiverEntry}
use Rattle.audit_sd.specs.receivers.ReceiverHistories.{Event, BeganAgain, Delivered, Entry, Withdrawn}

-- 192.168.0.n
abbrev pub node : ℕ → Ipv4Addr
node n = record { octets = 192 ∷ 168 ∷ 0 ∷ n ∷ [] }

abbrev pub endpoint : ℕ → ℕ → SocketAddrV4
endpoint n port = record { ip = node n; port = port }

-- node n subscribes eventgroup 5 of instance 1 of service 4096 at node 9
abbrev pub subscription : ℕ → SubscriptionKey
subscription n = record { client = node n; server = node 9; service = 4096; instance = 1; major = 1; eventgroup = 5; counter = 0 }

-- its Subscribe for a port of its own, for so many seconds
abbrev pub subscribe : ℕ → ℕ → ℕ → ReceiverEntry
subscribe n port ttl = record { key = subscription n; kind = Subscribe; ttl = ttl; endpoint = Some (endpoint n port) }

-- the answer of node 9
abbrev pub answer : ℕ → ℕ → ReceiverEntry
answer n ttl = record { key = subscription n; kind = Answer; ttl = ttl; endpoint = None }

-- what stands for a port of node n until a moment
abbrev pub stands : ℕ → ℕ → ℕ → Lasting SocketAddrV4
stands n port at = record { value = endpoint n port; until = At at }

-- event 8001 of a service at a node, to a port of node n
abbrev pub delivery : ℕ → ℕ → ℕ → ℕ → Delivery
delivery server service n port = record { server = node server; service = service; event = 0x8001; endpoint = endpoint n port }

-- an entry comes at a moment
abbrev pub comes : ℕ → ReceiverEntry → Event
comes at entry = record { at = at; shown = Entry entry }

-- node 9 withdraws an instance of the service at a moment
abbrev pub withdraws : ℕ → ℕ → Event
withdraws at instance = record { at = at; shown = Withdrawn (record { server = node 9; service = 4096; instance = instance; major = 1 }) }

-- a node begins again at a moment
abbrev pub begins_again : ℕ → ℕ → Event
begins_again at n = record { at = at; shown = BeganAgain (node n) }

-- an event goes to an endpoint at a moment
abbrev pub goes : ℕ → Delivery → Event
goes at delivery = record { at = at; shown = Delivered delivery }
