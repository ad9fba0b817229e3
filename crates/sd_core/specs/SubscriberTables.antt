-- The subscriptions that a server accepted (SOME/IP Service Discovery Protocol, "Publish/Subscribe").
use Rattle.std.specs.Prelude.{ℕ, ◌==◌, nat_le, Bool, not, ◌&&◌, if◌then◌else◌, List, map, filter, Option, None, Some}
use Rattle.std.specs.List.{list_any}
use Rattle.std.specs.Ordering.{eq_by_cmp}
use Rattle.std.specs.Coded.{Coded}
use base.Stored.{coded_unit}
use Rattle.std.specs.FinMap as finite
use Rattle.std.specs.FinMap.{FinMap}
use Rattle.std.specs.declared.net.ipv4_addr.Ipv4Addr.{Ipv4Addr}
use Rattle.std.specs.declared.net.socket_addr.SocketAddrV4.{SocketAddrV4}
use Rattle.someip_tables.specs.declared.deadline.Deadline.{Deadline}
use Rattle.someip_tables.specs.declared.lasting.Lasting.{Lasting}
use Rattle.someip_tables.specs.Endpoints.{address_cmp, endpoint_cmp}
use Rattle.someip_tables.specs.Lastings.{unexpired, coded_lasting}
use Rattle.someip_tables.specs.SortedSet.{sorted_set}
use Rattle.sd_core.specs.declared.error.Cause.{Cause}
use Rattle.sd_core.specs.declared.error.Cause.TheVariants.{NotOffered, WrongMajor, UnknownEventgroup, NoEndpoint, Full}
use Rattle.sd_core.specs.declared.error.SubscribeError.{SubscribeError}
use Rattle.sd_core.specs.declared.error.SubscribeError.TheVariants.{Nack, OutOfMemory}
use Rattle.sd_core.specs.declared.keys.InstanceId.{InstanceId}
use Rattle.sd_core.specs.declared.subscribe.Subscribe.{Subscribe}
use Rattle.sd_core.specs.declared.subscribe.SubscribeRules.{SubscribeRules}
use Rattle.sd_core.specs.declared.subscription.Subscription.{Subscription}
use Rattle.sd_core.specs.Keys.{instance_cmp}
use Rattle.sd_core.specs.SubscriptionKeys.{subscription_cmp, coded_subscription}

-- the subscriptions that a server accepted, and until when each stands
abbrev pub SubscriberMap : Type 0
SubscriberMap = FinMap subscription_cmp (Lasting (Unit {0}))

-- a subscription stands until a deadline, and what has expired at a moment is dropped
abbrev pub subscribed_until : Subscription → Deadline → ℕ → SubscriberMap → SubscriberMap
subscribed_until s until now table = unexpired now (finite.insert table s (record { value = tt; until = until }))

-- a subscription is to an instance
abbrev pub is_of_instance : InstanceId → Subscription → Bool
is_of_instance instance s = eq_by_cmp instance_cmp s.instance instance

-- a subscription is to an eventgroup of an instance
abbrev pub is_to : InstanceId → ℕ → Subscription → Bool
is_to instance eventgroup s = is_of_instance instance s && (eventgroup == s.eventgroup)

-- a subscription is to one of several eventgroups of an instance
abbrev pub is_to_any : InstanceId → List ℕ → Subscription → Bool
is_to_any instance eventgroups s = is_of_instance instance s && list_any (λ g. g == s.eventgroup) eventgroups

-- a subscription is of a peer
abbrev pub is_of_peer : Ipv4Addr → Subscription → Bool
is_of_peer peer s = eq_by_cmp address_cmp s.peer peer

-- how many subscriptions to an eventgroup there are
abbrev pub subscriber_count : InstanceId → ℕ → SubscriberMap → ℕ
subscriber_count instance eventgroup table = finite.len (finite.retain_keys table (is_to instance eventgroup))

-- how many subscriptions there are to the eventgroup of one, that one not among them
abbrev pub count_beside : Subscription → SubscriberMap → ℕ
count_beside s table = subscriber_count s.instance s.eventgroup (finite.remove table s)

-- the subscription that a Subscribe asks for, by the endpoint that it has
abbrev pub subscription_at : Subscribe → SocketAddrV4 → Subscription
subscription_at request endpoint = record { instance = request.instance; eventgroup = request.eventgroup; peer = request.peer; endpoint = endpoint; counter = request.counter }

-- why a Subscribe of a known eventgroup is answered by a Nack, if it is, by the endpoint that it has
abbrev pub endpoint_cause : ℕ → Subscribe → Option SocketAddrV4 → SubscriberMap → Option Cause
endpoint_cause limit request None live = Some NoEndpoint
endpoint_cause limit request (Some endpoint) live = if nat_le limit (count_beside (subscription_at request endpoint) live) then Some Full else None

-- why a Subscribe is answered by a Nack, if it is: the first that holds, by the subscriptions that are live
abbrev pub nack_cause : SubscribeRules → Subscribe → SubscriberMap → Option Cause
nack_cause rules request live =
    if not rules.is_offered then Some NotOffered
    else if not rules.is_same_major then Some WrongMajor
    else if not rules.is_known_eventgroup then Some UnknownEventgroup
    else endpoint_cause rules.limit request request.endpoint live

-- the error of a Subscribe: its Nack, and out of memory only where it has none
abbrev pub nack_or_memory : Option Cause → SubscribeError
nack_or_memory None = OutOfMemory
nack_or_memory (Some cause) = Nack cause

-- the endpoints of the subscriptions to any of several eventgroups of an instance: by rising address and then port,
-- each once
abbrev pub endpoints_of : InstanceId → List ℕ → SubscriberMap → List SocketAddrV4
endpoints_of instance eventgroups table = sorted_set endpoint_cmp (map (λ s. s.endpoint) (filter (is_to_any instance eventgroups) (finite.keys table)))

-- codes, by which a proof tells values apart
abbrev pub coded_subscribers : Coded SubscriberMap
coded_subscribers = finite.code coded_subscription (coded_lasting coded_unit)
