-- Subscribes of two clients at a server.
use Rattle.std.specs.Prelude.{ℕ, [], ◌∷◌}
use Rattle.std.specs.declared.net.ipv4_addr.Ipv4Addr.{Ipv4Addr}
use Rattle.someip_tables.specs.declared.hashed.origin.Origin.{Origin}
use Rattle.audit_sd.specs.declared.subscriptions.entry.Asked.{Asked}
use Rattle.audit_sd.specs.declared.subscriptions.entry.EntryKind.TheVariants.{Answer, Subscribe}
use Rattle.audit_sd.specs.declared.subscriptions.entry.SubscribeEntry.{SubscribeEntry}
use Rattle.audit_sd.specs.declared.subscriptions.key.SubscriptionKey.{SubscriptionKey}
use Rattle.audit_sd.specs.subscriptions.SubscribeHistories.{Event, Entry, BeganAgain}

-- 192.168.0.n
abbrev pub node : ℕ → Ipv4Addr
node n = record { octets = 192 ∷ 168 ∷ 0 ∷ n ∷ [] }

-- datagram k from one node to another
abbrev pub datagram : ℕ → ℕ → ℕ → Origin
datagram k from to = record { numbers = record { datagram = k; frame = k }; from = record { ip = node from; port = 30490 }; to = record { ip = node to; port = 30490 } }

-- node n subscribes eventgroup 5 of instance 1 of service 4096 at node 9, with this counter
abbrev pub subscription : ℕ → ℕ → SubscriptionKey
subscription n counter = record { client = node n; server = node 9; service = 4096; instance = 1; major = 1; eventgroup = 5; counter = counter }

-- datagram k: its Subscribe, for so many seconds
abbrev pub subscribe : ℕ → ℕ → ℕ → SubscribeEntry
subscribe k n ttl = record { key = subscription n 0; kind = Subscribe; ttl = ttl; origin = datagram k n 9 }

-- datagram k: the answer of node 9
abbrev pub answer : ℕ → ℕ → ℕ → SubscribeEntry
answer k n ttl = record { key = subscription n 0; kind = Answer; ttl = ttl; origin = datagram k 9 n }

-- and to a Subscribe with another counter
abbrev pub other_answer : ℕ → ℕ → ℕ → SubscribeEntry
other_answer k n ttl = record { key = subscription n 1; kind = Answer; ttl = ttl; origin = datagram k 9 n }

-- the Subscribe of datagram k of node n waits until a moment
abbrev pub waits : ℕ → ℕ → ℕ → Asked
waits k n at = record { origin = datagram k n 9; until = at }

-- an entry comes at a moment
abbrev pub comes : ℕ → SubscribeEntry → Event
comes at entry = record { at = at; shown = Entry entry }

-- a node begins again at a moment
abbrev pub begins_again : ℕ → ℕ → Event
begins_again at n = record { at = at; shown = BeganAgain (node n) }
