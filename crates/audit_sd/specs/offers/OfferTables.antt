-- The offers that stand.
use Rattle.std.specs.Prelude.{◌≡◌, ℕ, ◌==◌, ◌≤◌, Bool, true, false, not, ◌&&◌, if◌then◌else◌, Option, None, Some, is_some, refl}
use Rattle.std.specs.Coded.{Coded, code_by, coded×, coded_ℕ, coded_bool}
use Rattle.std.specs.FinMap as finite
use Rattle.std.specs.FinMap.{FinMap}
use Rattle.std.specs.declared.net.ipv4_addr.Ipv4Addr.{Ipv4Addr}
use Rattle.std.specs.declared.net.socket_addr.SocketAddrV4.{SocketAddrV4}
use Rattle.someip_tables.specs.declared.deadline.Deadline.{Deadline}
use Rattle.someip_tables.specs.Deadlines.{coded_deadline}
use Rattle.someip_tables.specs.Endpoints.{coded_endpoint}
use Rattle.someip_tables.specs.Retained.{kept_if, retain}
use Rattle.someip_tables.specs.hashed.Dues.{IsFirstDue}
use Rattle.audit_sd.specs.declared.offers.entry.OfferEntry.{OfferEntry}
use Rattle.someip_tables.specs.declared.hashed.origin.Origin.{Origin}
use Rattle.someip_tables.specs.hashed.Origins.{coded_origin}
use Rattle.someip_tables.specs.hashed.Rooms.{may_hold, told_when_full}
use Rattle.audit_sd.specs.declared.offers.entry.Standing.{Standing}
use Rattle.audit_sd.specs.declared.offers.finding.Expired.{Expired}
use Rattle.audit_sd.specs.declared.offers.finding.Finding.{Finding}
use Rattle.audit_sd.specs.declared.offers.finding.Finding.TheVariants.{Full}
use Rattle.audit_sd.specs.declared.offers.key.OfferKey.{OfferKey}
use Rattle.audit_sd.specs.offers.OfferKeys.{offer_cmp, coded_key}
use Rattle.audit_sd.specs.offers.OfferRules.{has_expired, is_of, moved_by, offered_at, passes_at, sender_of}

-- the offers that stand, and until when each does
abbrev pub Offers : Type 0
Offers = FinMap offer_cmp Standing

-- what a book holds, how many offers it may hold, and whether it told that it is full
pub record OfferTable : Type 0 where
  pub limit : ℕ
  pub standing : Offers
  pub told_full : Bool

-- ---- an entry

-- what is told of an Offer, by its endpoint if it has one
abbrev pub told_of_offer : OfferEntry → Option SocketAddrV4 → OfferTable → Option Finding
told_of_offer entry None book = None
told_of_offer entry (Some endpoint) book =
    if may_hold book.limit book.standing entry.key then moved_by entry endpoint (finite.get book.standing entry.key)
    else told_when_full Full book.told_full

-- what is told of an entry: of a StopOffer nothing
abbrev pub told_by : OfferEntry → OfferTable → Option Finding
told_by entry book = if entry.ttl == 0 then None else told_of_offer entry entry.endpoint book

-- the book once an Offer came: it stands in place of an earlier one
abbrev pub after_offer : ℕ → OfferEntry → Option SocketAddrV4 → OfferTable → OfferTable
after_offer now entry None book = book
after_offer now entry (Some endpoint) book =
    if may_hold book.limit book.standing entry.key then record book { standing = finite.insert book.standing entry.key (offered_at now entry endpoint) }
    else record book { told_full = true }

-- the offer under a key is of a sender
abbrev pub is_offered_by : Ipv4Addr → Option Standing → Bool
is_offered_by sender None = false
is_offered_by sender (Some offer) = is_of sender offer

-- the offers once a StopOffer came: it ends the offer of its sender
abbrev pub stopped : OfferEntry → Offers → Offers
stopped entry offers = if is_offered_by (sender_of entry) (finite.get offers entry.key) then finite.remove offers entry.key else offers

-- the offer that a StopOffer ends
abbrev pub ended_by : OfferEntry → OfferTable → Option Standing
ended_by entry book = kept_if (is_of (sender_of entry)) (finite.get book.standing entry.key)

-- the book once an entry came
abbrev pub after_entry : ℕ → OfferEntry → OfferTable → OfferTable
after_entry now entry book =
    if entry.ttl == 0 then record book { standing = stopped entry book.standing }
    else after_offer now entry entry.endpoint book

-- an entry is stored: it is an Offer with an endpoint, and may be held
abbrev pub is_stored : OfferEntry → OfferTable → Bool
is_stored entry book = not (entry.ttl == 0) && is_some entry.endpoint && may_hold book.limit book.standing entry.key

-- ---- a reboot

-- the book once a sender began again: its offers end
abbrev pub without_sender : Ipv4Addr → OfferTable → OfferTable
without_sender sender book = record book { standing = retain book.standing (λ _ offer. not (is_of sender offer)) }

-- ---- what falls due

-- what is told of the offers once a moment came: the first to expire, by deadline and then by key, if it has; else none has
abbrev pub FallsDue : ℕ → Offers → Option Expired → Type 0
FallsDue now offers None = (key : OfferKey) (offer : Standing) → finite.get offers key ≡ Some offer → has_expired now offer ≡ false
FallsDue now offers (Some told) =
    IsFirstDue passes_at offers (Some (record { at = told.at; key = told.key })) × (finite.get offers told.key ≡ Some told.offer) × (told.at ≤ now)

-- the book once it was told: it stands no more
abbrev pub after_due : Option Expired → OfferTable → OfferTable
after_due None book = book
after_due (Some told) book = record book { standing = finite.remove book.standing told.key }

-- ---- codes, by which a proof tells values apart

abbrev pub coded_standing : Coded Standing
coded_standing =
    code_by (SocketAddrV4 × (Origin × Deadline)) (coded× coded_endpoint (coded× coded_origin coded_deadline)) (λ s. (s.endpoint, (s.origin, s.until)))
    (λ c. record { endpoint = c.0; origin = c.1.0; until = c.1.1 }) (λ _. refl)

abbrev pub coded_offers : Coded OfferTable
coded_offers =
    code_by (ℕ × (Offers × Bool)) (coded× coded_ℕ (coded× (finite.code coded_key coded_standing) coded_bool))
    (λ b. (b.limit, (b.standing, b.told_full))) (λ c. record { limit = c.0; standing = c.1.0; told_full = c.1.1 }) (λ _. refl)
