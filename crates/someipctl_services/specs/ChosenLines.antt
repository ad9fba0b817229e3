-- Which offers and subscriptions are told.
use Rattle.std.specs.Prelude.{ℕ, Bool, true, ◌==◌, ◌&&◌, ◌||◌, List, Option, None, Some}
use Rattle.std.specs.List.{list_any}
use Rattle.std.specs.Int.{from_be_bytes, w32}
use Rattle.std.specs.Net.Addr.{ipv4_octets}
use Rattle.std.specs.Net.Socket.{v4_ip}
use Rattle.std.specs.declared.net.ipv4_addr.Ipv4Addr.{Ipv4Addr}
use Rattle.audit_services.specs.declared.offered.OfferTerms.{OfferTerms}
use Rattle.audit_services.specs.declared.offered.Offered.{Offered}
use Rattle.audit_services.specs.declared.stay.Ended.{Ended}
use Rattle.audit_services.specs.declared.subscribed.NoTerms.{NoTerms}
use Rattle.audit_services.specs.declared.subscribed.Subscribed.{Subscribed}
use Rattle.someip_services.specs.declared.told.Told.{Told}
use Rattle.someip_services.specs.declared.told.Told.TheVariants.{Full, Offer, Subscription}
use Rattle.someipctl_recordings.specs.Wanted.{WantedValue, is_in_span as is_time_in_span}
use Rattle.someipctl_audit.specs.AuditText.{time_at}
use Rattle.someipctl_audit.specs.Subjects.{about_service, is_of_client, is_of_services}

-- an address as a number, the highest byte first
abbrev pub number_of : Ipv4Addr → ℕ
number_of address = from_be_bytes w32 (ipv4_octets address)

-- an address is one of those that are named; where none is, each is
abbrev pub is_at : Option (List ℕ) → Ipv4Addr → Bool
is_at None address = true
is_at (Some addresses) address = list_any (λ a. a == number_of address) addresses

-- a service is one of those that are named. An interval has no Client ID
abbrev pub is_of_service : WantedValue → ℕ → Bool
is_of_service w service = is_of_services w.services (about_service service) && is_of_client w.client (about_service service)

-- an interval from one moment until another does not end before the first time, and begins before the last
abbrev pub is_in_span : WantedValue → ℕ → ℕ → Bool
is_in_span w from until = is_time_in_span w.from None (Some (time_at until)) && is_time_in_span None w.until (Some (time_at from))

-- by its service, by its sender or its endpoint, and by its times
abbrev pub is_offer_chosen : WantedValue → Ended Offered OfferTerms → Bool
is_offer_chosen w e =
    is_of_service w e.key.service && ((is_at w.addresses e.key.sender || is_at w.addresses (v4_ip e.interval.value.endpoint)) && is_in_span w e.interval.from e.interval.until)

-- by its service, by its server, its client or its endpoint, and by its times
abbrev pub is_subscription_chosen : WantedValue → Ended Subscribed NoTerms → Bool
is_subscription_chosen w e =
    is_of_service w e.key.service
    && ((is_at w.addresses e.key.server || (is_at w.addresses e.key.client || is_at w.addresses (v4_ip e.key.endpoint))) && is_in_span w e.interval.from e.interval.until)

-- that something is full is always told
abbrev pub is_chosen : WantedValue → Told → Bool
is_chosen w (Offer ended) = is_offer_chosen w ended
is_chosen w (Subscription ended) = is_subscription_chosen w ended
is_chosen w (Full book) = true
