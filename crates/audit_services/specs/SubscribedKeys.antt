-- The order of subscriptions, and where they are.
use Rattle.std.specs.Prelude.{ℕ, Option, None, Some}
use Rattle.std.specs.Option.{option_cmp}
use Rattle.std.specs.declared.cmp.Ordering.{Ordering}
use Rattle.std.specs.declared.cmp.Ordering.TheVariants.{Equal}
use Rattle.std.specs.Ordering.{nat_cmp, ordering_then}
use Rattle.std.specs.declared.net.ipv4_addr.Ipv4Addr.{Ipv4Addr}
use Rattle.someip_tables.specs.Endpoints.{address_cmp, endpoint_cmp}
use Rattle.audit_services.specs.declared.subscribed.Asked.{Asked}
use Rattle.audit_services.specs.declared.subscribed.NoTerms.{NoTerms}
use Rattle.audit_services.specs.declared.subscribed.OfferPlace.{OfferPlace}
use Rattle.audit_services.specs.declared.subscribed.Place.{Place}
use Rattle.audit_services.specs.declared.subscribed.Subscribed.{Subscribed}

-- by service, instance, major version, server, eventgroup, client, counter and endpoint
abbrev pub subscribed_cmp : Subscribed → Subscribed → Ordering
subscribed_cmp a b =
    ordering_then (nat_cmp a.service b.service)
    (ordering_then (nat_cmp a.instance b.instance)
    (ordering_then (nat_cmp a.major b.major)
    (ordering_then (address_cmp a.server b.server)
    (ordering_then (nat_cmp a.eventgroup b.eventgroup)
    (ordering_then (address_cmp a.client b.client)
    (ordering_then (nat_cmp a.counter b.counter) (endpoint_cmp a.endpoint b.endpoint)))))))

abbrev pub no_terms_cmp : NoTerms → NoTerms → Ordering
no_terms_cmp a b = Equal

-- by eventgroup, client and counter
abbrev pub asked_cmp : Asked → Asked → Ordering
asked_cmp a b = ordering_then (nat_cmp a.eventgroup b.eventgroup) (ordering_then (address_cmp a.client b.client) (nat_cmp a.counter b.counter))

-- by service, instance and major version, all before those that an answer is for
abbrev pub offer_place_cmp : OfferPlace → OfferPlace → Ordering
offer_place_cmp a b =
    ordering_then (nat_cmp a.service b.service)
    (ordering_then (nat_cmp a.instance b.instance)
    (ordering_then (nat_cmp a.major b.major) (option_cmp asked_cmp a.asked b.asked)))

-- by address, all before those to an offer
abbrev pub place_cmp : Place → Place → Ordering
place_cmp a b = ordering_then (address_cmp a.address b.address) (option_cmp offer_place_cmp a.offer b.offer)

-- all subscriptions at or of an address
abbrev pub all_of : Ipv4Addr → Place
all_of address = record { address = address; offer = None }

-- those to an offer of a server, or those that one of its answers is for
abbrev pub place_at : Ipv4Addr → ℕ → ℕ → ℕ → Option Asked → Place
place_at server service instance major asked = record { address = server; offer = Some (record { service = service; instance = instance; major = major; asked = asked }) }

-- a subscription is at its server, at its client, among those to its offer, and among those of its answers
abbrev pub places_of_subscribed : Subscribed → (Place × Place) × (Place × Place)
places_of_subscribed key = (
  (all_of key.server, all_of key.client),
  (
    place_at key.server key.service key.instance key.major None,
    place_at key.server key.service key.instance key.major (Some (record { eventgroup = key.eventgroup; client = key.client; counter = key.counter })),
  ),
)
