-- Why something is told of an offer, in plain words. A list of events has the newest first.
use Rattle.std.specs.Prelude.{◌≡◌, ℕ, ◌==◌, Bool, true, false, not, ◌||◌, if◌then◌else◌, List, [], ◌∷◌, ◌++◌, Some}
use Rattle.std.specs.Option.{is_none}
use Rattle.std.specs.Ordering.{eq_by_cmp}
use Rattle.std.specs.declared.net.socket_addr.SocketAddrV4.{SocketAddrV4}
use Rattle.audit_sd.specs.declared.offers.entry.OfferEntry.{OfferEntry}
use Rattle.audit_sd.specs.declared.offers.entry.Standing.{Standing}
use Rattle.audit_sd.specs.declared.offers.key.OfferKey.{OfferKey}
use Rattle.audit_sd.specs.offers.OfferKeys.{offer_cmp}
use Rattle.audit_sd.specs.offers.OfferRules.{has_expired, is_of, is_renewed_by, offered_at, sender_of}
use Rattle.audit_sd.specs.offers.OfferHistories.{BeganAgain, Entry, Event, Shown}

-- what is shown leaves an offer as it is: it is of another key, or the StopOffer or the reboot of another sender, or an
-- Offer without an endpoint
abbrev pub leaves : OfferKey → Standing → Shown → Bool
leaves key offer (Entry entry) = not (eq_by_cmp offer_cmp key entry.key) || (if entry.ttl == 0 then not (is_of (sender_of entry) offer) else is_none entry.endpoint)
leaves key offer (BeganAgain sender) = not (is_of sender offer)

-- each of these events came before the offer expired, and left it as it is
abbrev pub NoneSince : OfferKey → Standing → List Event → Type 0
NoneSince key offer [] = Unit {0}
NoneSince key offer (event ∷ newer) = (has_expired event.at offer ≡ false) × (leaves key offer event.shown ≡ true) × NoneSince key offer newer

-- among the events an Offer of a key came with an endpoint, by which this offer stands. Since then it did not expire before
-- the last of them, and no Offer, StopOffer or reboot ended it
abbrev pub IsStanding : OfferKey → Standing → List Event → Type 0
IsStanding key offer events =
    (newer : List Event) × (at : ℕ) × (entry : OfferEntry) × (place : SocketAddrV4) × (older : List Event)
    × (events ≡ newer ++ record { at = at; shown = Entry entry } ∷ older) × (entry.key ≡ key) × ((entry.ttl == 0) ≡ false) × (entry.endpoint ≡ Some place)
    × (offered_at at entry place ≡ offer) × NoneSince key offer newer

-- an Offer moves an offer: one stands by the events and has not expired, of another sender or with another endpoint
abbrev pub Moves : ℕ → OfferEntry → List Event → Type 0
Moves now entry events =
    (place : SocketAddrV4) × (offer : Standing) × ((entry.ttl == 0) ≡ false) × (entry.endpoint ≡ Some place) × IsStanding entry.key offer events
    × (has_expired now offer ≡ false) × (is_renewed_by entry place offer ≡ false)
