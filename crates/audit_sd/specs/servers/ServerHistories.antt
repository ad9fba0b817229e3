-- What is known of servers after all that a recording showed so far, without a table. A list has the newest first.
use Rattle.std.specs.Prelude.{ℕ, if◌then◌else◌, List, [], ◌∷◌, Option, None, Some, option_map}
use Rattle.std.specs.Ordering.{eq_by_cmp}
use Rattle.std.specs.declared.net.ipv4_addr.Ipv4Addr.{Ipv4Addr}
use Rattle.audit_sd.specs.declared.servers.finding.Finding.{Finding}
use Rattle.audit_sd.specs.declared.servers.key.ServerKey.{ServerKey}
use Rattle.audit_sd.specs.declared.servers.message.ServerMessage.{ServerMessage}
use Rattle.audit_sd.specs.declared.servers.offer.Served.{Served}
use Rattle.audit_sd.specs.declared.servers.offer.ServerOffer.{ServerOffer}
use Rattle.audit_sd.specs.declared.servers.server.Server.{Server}
use Rattle.audit_sd.specs.servers.ServerKeys.{server_cmp}
use Rattle.audit_sd.specs.servers.ServerRules.{ended, is_not_offered, is_same_served, offered_at, unless_of, was_told}
use Rattle.audit_sd.specs.servers.ServerTables.{ServerTable, after_message, after_offer, after_stop, judged_of, no_servers, without_sender}

-- what a recording shows of servers: an Offer, that a StopOffer ended an offer at a server, that a sender began again, or a message
pub data Shown : Type 0 where
  OfferCame : ServerOffer → Shown
  OfferEnded : ServerKey → Served → Shown
  BeganAgain : Ipv4Addr → Shown
  MessageCame : ServerMessage → Shown

-- at a moment
pub record Event : Type 0 where
  pub at : ℕ
  pub shown : Shown

-- a server once a StopOffer ended an offer at it, and once a message came
abbrev pub once_stopped : Served → Server → Server
once_stopped served server = if is_same_served served server then ended server else server

abbrev pub once_heard : ℕ → ServerMessage → Server → Server
once_heard now message server = if is_not_offered now message server then was_told server else server

-- what is known of a server once something was shown
abbrev pub changed_by : ℕ → Shown → ServerKey → Option Server → Option Server
changed_by now (OfferCame offer) key before = if eq_by_cmp server_cmp key offer.server then Some (offered_at now offer) else before
changed_by now (OfferEnded server served) key before = if eq_by_cmp server_cmp key server then option_map (once_stopped served) before else before
changed_by now (BeganAgain sender) key before = unless_of sender before
changed_by now (MessageCame message) key before = if eq_by_cmp server_cmp key message.server then option_map (once_heard now message) before else before

-- what is known of a server after these events
abbrev pub server_in : List Event → ServerKey → Option Server
server_in [] key = None
server_in (event ∷ earlier) key = changed_by event.at event.shown key (server_in earlier key)

-- what a message shows after these events
abbrev pub shown_by : List Event → ℕ → ServerMessage → Option Finding
shown_by events now message = judged_of now message (server_in events message.server)

-- the book once something was shown
abbrev pub book_after : ℕ → Shown → ServerTable → ServerTable
book_after now (OfferCame offer) book = after_offer now offer book
book_after now (OfferEnded server served) book = after_stop server served book
book_after now (BeganAgain sender) book = without_sender sender book
book_after now (MessageCame message) book = after_message now message book

-- the book after these events
abbrev pub book_of : ℕ → List Event → ServerTable
book_of limit [] = no_servers limit
book_of limit (event ∷ earlier) = book_after event.at event.shown (book_of limit earlier)
