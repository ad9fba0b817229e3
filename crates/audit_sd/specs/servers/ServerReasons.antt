-- Why something is told of a server, in plain words. A list of events has the newest first.
use Rattle.std.specs.Prelude.{◌≡◌, ℕ, ◌==◌, Bool, true, false, not, ◌&&◌, ◌||◌, List, [], ◌∷◌, ◌++◌}
use Rattle.std.specs.Ordering.{eq_by_cmp}
use Rattle.someip_tables.specs.Deadlines.{deadline_after, has_passed}
use Rattle.someip_tables.specs.Endpoints.{address_cmp}
use Rattle.audit_sd.specs.declared.servers.message.ServerMessage.{ServerMessage}
use Rattle.audit_sd.specs.declared.servers.offer.ServerOffer.{ServerOffer}
use Rattle.audit_sd.specs.servers.ServerKeys.{server_cmp}
use Rattle.audit_sd.specs.servers.ServerHistories.{BeganAgain, Event, MessageCame, OfferCame, OfferEnded, Shown}

-- ---- the newest Offer

-- what is shown leaves an Offer the newest of its server: it is no Offer of that, nor a reboot of its sender
abbrev pub leaves : ServerOffer → Shown → Bool
leaves offer (OfferCame other) = not (eq_by_cmp server_cmp offer.server other.server)
leaves offer (OfferEnded server served) = true
leaves offer (BeganAgain sender) = not (eq_by_cmp address_cmp offer.sender sender)
leaves offer (MessageCame message) = true

abbrev pub NoneSince : ServerOffer → List Event → Type 0
NoneSince offer [] = Unit {0}
NoneSince offer (event ∷ newer) = (leaves offer event.shown ≡ true) × NoneSince offer newer

-- among the events an Offer came at a moment, and these newer ones leave it the newest of its server
abbrev pub IsNewest : ℕ → ServerOffer → List Event → List Event → Type 0
IsNewest at offer newer events = (older : List Event) × (events ≡ newer ++ record { at = at; shown = OfferCame offer } ∷ older) × NoneSince offer newer

-- ---- its end

-- a StopOffer ends it: of its instance and major version, at its server
abbrev pub stops : ServerOffer → Shown → Bool
stops offer (OfferCame other) = false
stops offer (OfferEnded server served) = eq_by_cmp server_cmp offer.server server && (served.instance == offer.served.instance) && (served.major == offer.served.major)
stops offer (BeganAgain sender) = false
stops offer (MessageCame message) = false

-- one of the newer events does
abbrev pub was_stopped : ServerOffer → List Event → Bool
was_stopped offer [] = false
was_stopped offer (event ∷ newer) = stops offer event.shown || was_stopped offer newer

-- the server of an Offer that came at a moment has ended after the newer events: by a StopOffer, or since its TTL has passed
abbrev pub has_ended : ℕ → ServerOffer → List Event → ℕ → Bool
has_ended at offer newer now = was_stopped offer newer || has_passed now (deadline_after at offer.ttl)

-- a REQUEST goes to its server
abbrev pub asks : ServerOffer → Shown → Bool
asks offer (OfferCame other) = false
asks offer (OfferEnded server served) = false
asks offer (BeganAgain sender) = false
asks offer (MessageCame message) = eq_by_cmp server_cmp offer.server message.server && message.is_request

-- one of the newer events is a REQUEST to its server that came after this had ended
abbrev pub was_asked : ℕ → ServerOffer → List Event → Bool
was_asked at offer [] = false
was_asked at offer (event ∷ newer) = (asks offer event.shown && has_ended at offer newer event.at) || was_asked at offer newer

-- ---- the findings

-- a message has another Interface Version than the major version of the newest Offer of its server, which has not ended
abbrev pub IsOfVersion : ℕ → ServerMessage → ℕ → List Event → Type 0
IsOfVersion now message expected events =
    (at : ℕ) × (offer : ServerOffer) × (newer : List Event) × IsNewest at offer newer events × (offer.server ≡ message.server) × (was_asked at offer newer ≡ false)
    × (has_ended at offer newer now ≡ false) × (offer.served.major ≡ expected) × ((message.interface == expected) ≡ false)

-- a message is a REQUEST to a server that has ended since its newest Offer, and none came since it had
abbrev pub IsNotOffered : ℕ → ServerMessage → List Event → Type 0
IsNotOffered now message events =
    (at : ℕ) × (offer : ServerOffer) × (newer : List Event) × IsNewest at offer newer events × (offer.server ≡ message.server) × (was_asked at offer newer ≡ false)
    × (has_ended at offer newer now ≡ true) × (message.is_request ≡ true)
