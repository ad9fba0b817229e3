-- Which offers stand after all that a recording showed so far, without a table. A list has the newest first.
use Rattle.std.specs.Prelude.{ℕ, ◌==◌, false, not, if◌then◌else◌, List, [], ◌∷◌, Option, None, Some}
use Rattle.std.specs.Ordering.{eq_by_cmp}
use Rattle.std.specs.FinMap as finite
use Rattle.std.specs.declared.net.ipv4_addr.Ipv4Addr.{Ipv4Addr}
use Rattle.std.specs.declared.net.socket_addr.SocketAddrV4.{SocketAddrV4}
use Rattle.someip_tables.specs.Retained.{kept_if, retain}
use Rattle.audit_sd.specs.declared.offers.entry.OfferEntry.{OfferEntry}
use Rattle.audit_sd.specs.declared.offers.entry.Standing.{Standing}
use Rattle.audit_sd.specs.declared.offers.finding.Finding.{Finding}
use Rattle.audit_sd.specs.declared.offers.key.OfferKey.{OfferKey}
use Rattle.audit_sd.specs.offers.OfferKeys.{offer_cmp}
use Rattle.audit_sd.specs.offers.OfferRules.{has_expired, moved_by, offered_at, sender_of, unless_expired, unless_of}
use Rattle.audit_sd.specs.offers.OfferTables.{OfferTable, after_entry, without_sender}

-- what a recording shows of offers: an entry, or that a sender began again
pub data Shown : Type 0 where
  Entry : OfferEntry → Shown
  BeganAgain : Ipv4Addr → Shown

-- at a moment
pub record Event : Type 0 where
  pub at : ℕ
  pub shown : Shown

-- the offer under its key once an Offer came, by its endpoint if it has one
abbrev pub offered : ℕ → OfferEntry → Option SocketAddrV4 → Option Standing → Option Standing
offered now entry None before = before
offered now entry (Some endpoint) before = Some (offered_at now entry endpoint)

-- the offer under its key once an entry came
abbrev pub standing_after : ℕ → OfferEntry → Option Standing → Option Standing
standing_after now entry before = if entry.ttl == 0 then unless_of (sender_of entry) before else offered now entry entry.endpoint before

-- the offer under a key once something was shown
abbrev pub changed_by : ℕ → Shown → OfferKey → Option Standing → Option Standing
changed_by now (Entry entry) key before = if eq_by_cmp offer_cmp key entry.key then standing_after now entry before else before
changed_by now (BeganAgain sender) key before = unless_of sender before

-- the offer that stands under a key after these events. One that has expired by the next event stands no more then
abbrev pub standing_in : List Event → OfferKey → Option Standing
standing_in [] key = None
standing_in (event ∷ earlier) key = changed_by event.at event.shown key (unless_expired event.at (standing_in earlier key))

-- the offer under a key that expires after these events, by a moment before which nothing else comes
abbrev pub expiring_in : List Event → ℕ → OfferKey → Option Standing
expiring_in events now key = kept_if (has_expired now) (standing_in events key)

-- what an Offer shows after these events, by its endpoint if it has one
abbrev pub shown_by_offer : List Event → ℕ → OfferEntry → Option SocketAddrV4 → Option Finding
shown_by_offer events now entry None = None
shown_by_offer events now entry (Some endpoint) = moved_by entry endpoint (unless_expired now (standing_in events entry.key))

-- what an entry shows after these events: a StopOffer nothing
abbrev pub shown_by : List Event → ℕ → OfferEntry → Option Finding
shown_by events now entry = if entry.ttl == 0 then None else shown_by_offer events now entry entry.endpoint

-- the book once something was shown
abbrev pub book_after : ℕ → Shown → OfferTable → OfferTable
book_after now (Entry entry) book = after_entry now entry book
book_after now (BeganAgain sender) book = without_sender sender book

-- the book without what has expired
abbrev pub without_expired : ℕ → OfferTable → OfferTable
without_expired now book = record book { standing = retain book.standing (λ _ offer. not (has_expired now offer)) }

-- the book after these events, where before each it was asked for all that fell due
abbrev pub book_of : ℕ → List Event → OfferTable
book_of limit [] = record { limit = limit; standing = finite.empty; told_full = false }
book_of limit (event ∷ earlier) = book_after event.at event.shown (without_expired event.at (book_of limit earlier))
