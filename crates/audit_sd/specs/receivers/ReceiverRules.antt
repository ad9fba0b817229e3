-- Which subscriptions an event may go by, and what ends them (SOME/IP Service Discovery Protocol, "Publish/Subscribe").
use Rattle.std.specs.Prelude.{ℕ, ◌==◌, Bool, ◌&&◌}
use Rattle.std.specs.Ordering.{eq_by_cmp}
use Rattle.std.specs.declared.net.socket_addr.SocketAddrV4.{SocketAddrV4}
use Rattle.someip_tables.specs.declared.lasting.Lasting.{Lasting}
use Rattle.someip_tables.specs.Deadlines.{deadline_after}
use Rattle.someip_tables.specs.Endpoints.{address_cmp, endpoint_cmp}
use Rattle.audit_sd.specs.declared.subscriptions.key.SubscriptionKey.{SubscriptionKey}
use Rattle.audit_sd.specs.declared.receivers.delivery.Delivery.{Delivery}
use Rattle.audit_sd.specs.declared.receivers.entry.WithdrawnOffer.{WithdrawnOffer}

-- an event may go by a subscription with this endpoint: server, service and endpoint are equal
abbrev pub goes_by : Delivery → SubscriptionKey → SocketAddrV4 → Bool
goes_by delivery key endpoint = eq_by_cmp address_cmp key.server delivery.server && ((key.service == delivery.service) && eq_by_cmp endpoint_cmp endpoint delivery.endpoint)

-- a subscription is to an offer
abbrev pub is_to : WithdrawnOffer → SubscriptionKey → Bool
is_to offer key = eq_by_cmp address_cmp key.server offer.server && ((key.service == offer.service) && ((key.instance == offer.instance) && (key.major == offer.major)))

-- a subscription with this endpoint that stands until a TTL has passed, from a moment
abbrev pub standing_from : ℕ → ℕ → SocketAddrV4 → Lasting SocketAddrV4
standing_from now ttl endpoint = record { value = endpoint; until = deadline_after now ttl }
