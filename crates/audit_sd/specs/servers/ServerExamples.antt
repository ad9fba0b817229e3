-- Servers of two nodes.
use Rattle.std.specs.Prelude.{ℕ, true, false}
use Rattle.audit_sd.specs.declared.servers.key.ServerKey.{ServerKey}
use Rattle.audit_sd.specs.declared.servers.message.ServerMessage.{ServerMessage}
use Rattle.audit_sd.specs.declared.servers.offer.Served.{Served}
use Rattle.audit_sd.specs.offers.OfferExamples.{endpoint, node}
use Rattle.audit_sd.specs.servers.ServerHistories.{BeganAgain, Event, MessageCame, OfferCame, OfferEnded}

-- the server of service 4096 at a port of a node
abbrev pub at_port : ℕ → ℕ → ServerKey
at_port n port = record { service = 4096; endpoint = endpoint n port }

-- an instance with a major version
abbrev pub version : ℕ → ℕ → Served
version instance major = record { instance = instance; major = major }

-- at a moment node n offers an instance with a major version at port 40000, for so many seconds
abbrev pub offers_it : ℕ → ℕ → ℕ → ℕ → ℕ → Event
offers_it at n instance major ttl =
    record { at = at; shown = OfferCame (record { server = at_port n 40000; served = version instance major; ttl = ttl; sender = node n }) }

-- a StopOffer ends the offer of an instance with a major version there
abbrev pub ends_it : ℕ → ℕ → ℕ → ℕ → Event
ends_it at n instance major = record { at = at; shown = OfferEnded (at_port n 40000) (version instance major) }

-- a node begins again
abbrev pub begins_again : ℕ → ℕ → Event
begins_again at n = record { at = at; shown = BeganAgain (node n) }

-- a REQUEST to its server with an Interface Version, and a message that is none
abbrev pub request : ℕ → ℕ → ServerMessage
request n interface = record { server = at_port n 40000; interface = interface; is_request = true }

abbrev pub other : ℕ → ℕ → ServerMessage
other n interface = record { server = at_port n 40000; interface = interface; is_request = false }

-- it comes
abbrev pub asks_it : ℕ → ℕ → Event
asks_it at n = record { at = at; shown = MessageCame (request n 1) }
