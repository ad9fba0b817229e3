-- What an entry makes of the offer that stands under its key (SOME/IP Service Discovery Protocol, "Offer Service entry",
-- "Stop Offer Service entry", "TTL").
use Rattle.std.specs.Prelude.{ℕ, Bool, not, ◌&&◌, if◌then◌else◌, Option, None, Some}
use Rattle.std.specs.Ordering.{eq_by_cmp}
use Rattle.std.specs.declared.net.ipv4_addr.Ipv4Addr.{Ipv4Addr}
use Rattle.std.specs.declared.net.socket_addr.SocketAddrV4.{SocketAddrV4}
use Rattle.std.specs.Net.Socket.{v4_ip}
use Rattle.someip_tables.specs.Deadlines.{deadline_after, has_passed, millis_of}
use Rattle.someip_tables.specs.Endpoints.{address_cmp, endpoint_cmp}
use Rattle.someip_tables.specs.Retained.{kept_if}
use Rattle.audit_sd.specs.declared.offers.entry.OfferEntry.{OfferEntry}
use Rattle.audit_sd.specs.declared.offers.entry.Standing.{Standing}
use Rattle.audit_sd.specs.declared.offers.finding.Finding.{Finding}
use Rattle.audit_sd.specs.declared.offers.key.OfferKey.{OfferKey}
use Rattle.audit_sd.specs.declared.offers.finding.Finding.TheVariants.{Moved}

-- an offer is of a sender
abbrev pub is_of : Ipv4Addr → Standing → Bool
is_of sender offer = eq_by_cmp address_cmp (v4_ip offer.origin.from) sender

-- its sender owns it
abbrev pub owners_of : OfferKey → Standing → Ipv4Addr × Ipv4Addr
owners_of key offer = (v4_ip offer.origin.from, v4_ip offer.origin.from)

-- the sender of an entry
abbrev pub sender_of : OfferEntry → Ipv4Addr
sender_of entry = v4_ip entry.origin.from

-- an Offer renews an offer: it is of the same sender, with the same endpoint
abbrev pub is_renewed_by : OfferEntry → SocketAddrV4 → Standing → Bool
is_renewed_by entry endpoint offer = is_of (sender_of entry) offer && eq_by_cmp endpoint_cmp offer.endpoint endpoint

-- what is told of an Offer, by the offer that stands: that this moved, where it is not renewed
abbrev pub moved_by : OfferEntry → SocketAddrV4 → Option Standing → Option Finding
moved_by entry endpoint None = None
moved_by entry endpoint (Some offer) = if is_renewed_by entry endpoint offer then None else Some Moved

-- what stands once an Offer came: it, until its TTL has passed
abbrev pub offered_at : ℕ → OfferEntry → SocketAddrV4 → Standing
offered_at now entry endpoint = record { endpoint = endpoint; origin = entry.origin; until = deadline_after now entry.ttl }

-- an offer that is not of a sender, who ended his
abbrev pub unless_of : Ipv4Addr → Option Standing → Option Standing
unless_of sender = kept_if (λ offer. not (is_of sender offer))

-- the moment at which the TTL of an offer has passed, if it passes
abbrev pub passes_at : Standing → Option ℕ
passes_at offer = millis_of offer.until

-- an offer has expired: its TTL has passed
abbrev pub has_expired : ℕ → Standing → Bool
has_expired now offer = has_passed now offer.until

-- an offer, unless it has expired
abbrev pub unless_expired : ℕ → Option Standing → Option Standing
unless_expired now = kept_if (λ offer. not (has_expired now offer))
