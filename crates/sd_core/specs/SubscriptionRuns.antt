-- Where the subscriptions to an eventgroup begin, in the order of subscriptions.
use Rattle.std.specs.Prelude.{◌≡◌, ℕ, true, [], ◌∷◌, length, is_some}
use Rattle.std.specs.FinMap as finite
use Rattle.std.specs.declared.net.ipv4_addr.Ipv4Addr.{Ipv4Addr}
use Rattle.std.specs.Net.Addr.{ipv4_octets}
use Rattle.std.specs.Net.Socket.{v4_ip}
use Rattle.sd_core.specs.declared.keys.InstanceId.{InstanceId}
use Rattle.sd_core.specs.declared.subscription.Subscription.{Subscription}
use Rattle.sd_core.specs.SubscriberTables.{SubscriberMap}

-- the addresses of a subscription have four octets each, as every address has
abbrev pub HasOctets : Subscription → Type 0
HasOctets s = (length (ipv4_octets s.peer) ≡ 4) × (length (ipv4_octets (v4_ip s.endpoint)) ≡ 4)

-- and so have those of each subscription in a table
abbrev pub AllHaveOctets : SubscriberMap → Type 0
AllHaveOctets table = (s : Subscription) → is_some (finite.get table s) ≡ true → HasOctets s

-- 0.0.0.0
abbrev pub unspecified : Ipv4Addr
unspecified = record { octets = 0 ∷ 0 ∷ 0 ∷ 0 ∷ [] }

-- what no subscription of a peer to an eventgroup of an instance comes before
abbrev pub least_of : InstanceId → ℕ → Ipv4Addr → Subscription
least_of instance eventgroup peer = record { instance = instance; eventgroup = eventgroup; peer = peer; endpoint = record { ip = unspecified; port = 0 }; counter = 0 }

-- what no subscription to an eventgroup of an instance comes before
abbrev pub least_to : InstanceId → ℕ → Subscription
least_to instance eventgroup = least_of instance eventgroup unspecified
