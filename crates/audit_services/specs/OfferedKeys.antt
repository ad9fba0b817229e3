-- The order of offers, and where they are.
use Rattle.std.specs.declared.cmp.Ordering.{Ordering}
use Rattle.std.specs.Ordering.{nat_cmp, ordering_then}
use Rattle.std.specs.declared.net.ipv4_addr.Ipv4Addr.{Ipv4Addr}
use Rattle.someip_tables.specs.Endpoints.{address_cmp, endpoint_cmp}
use Rattle.audit_services.specs.declared.offered.OfferTerms.{OfferTerms}
use Rattle.audit_services.specs.declared.offered.Offered.{Offered}

-- by service, instance, major version and sender
abbrev pub offered_cmp : Offered → Offered → Ordering
offered_cmp a b =
    ordering_then (nat_cmp a.service b.service)
    (ordering_then (nat_cmp a.instance b.instance)
    (ordering_then (nat_cmp a.major b.major) (address_cmp a.sender b.sender)))

-- by minor version and endpoint
abbrev pub terms_cmp : OfferTerms → OfferTerms → Ordering
terms_cmp a b = ordering_then (nat_cmp a.minor b.minor) (endpoint_cmp a.endpoint b.endpoint)

-- an offer is at its sender
abbrev pub places_of_offered : Offered → (Ipv4Addr × Ipv4Addr) × (Ipv4Addr × Ipv4Addr)
places_of_offered key = ((key.sender, key.sender), (key.sender, key.sender))
