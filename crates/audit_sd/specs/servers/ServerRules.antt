-- What an Offer, a StopOffer and a message make of a server (SOME/IP Service Discovery Protocol, "Offer Service entry", "Stop
-- Offer Service entry", "TTL").
use Rattle.std.specs.Prelude.{ℕ, Bool, true, false, not, ◌&&◌, ◌==◌, if◌then◌else◌, Option, None, Some}
use Rattle.std.specs.Ordering.{eq_by_cmp}
use Rattle.std.specs.declared.net.ipv4_addr.Ipv4Addr.{Ipv4Addr}
use Rattle.someip_tables.specs.Deadlines.{deadline_after, has_passed}
use Rattle.someip_tables.specs.Endpoints.{address_cmp}
use Rattle.someip_tables.specs.Retained.{kept_if}
use Rattle.audit_sd.specs.declared.servers.finding.Finding.{Finding}
use Rattle.audit_sd.specs.declared.servers.finding.Finding.TheVariants.{Interface, NotOffered}
use Rattle.audit_sd.specs.declared.servers.message.ServerMessage.{ServerMessage}
use Rattle.audit_sd.specs.declared.servers.offer.Served.{Served}
use Rattle.audit_sd.specs.declared.servers.offer.ServerOffer.{ServerOffer}
use Rattle.audit_sd.specs.declared.servers.server.Server.{Server}
use Rattle.audit_sd.specs.declared.servers.server.ServerState.{ServerState}
use Rattle.audit_sd.specs.declared.servers.server.ServerState.TheVariants.{Offered, Ended, Told}

-- ---- a server

-- it is offered: its TTL has not passed, and no StopOffer ended it
abbrev pub is_offered : ℕ → ServerState → Bool
is_offered now (Offered until) = not (has_passed now until)
is_offered now Ended = false
is_offered now Told = false

-- it had ended, and a REQUEST to it was told
abbrev pub is_told : ServerState → Bool
is_told (Offered until) = false
is_told Ended = false
is_told Told = true

-- its newest Offer is of a sender
abbrev pub is_of : Ipv4Addr → Server → Bool
is_of sender server = eq_by_cmp address_cmp server.sender sender

-- its newest Offer offers this instance with this major version
abbrev pub is_same_served : Served → Server → Bool
is_same_served served server = (served.instance == server.served.instance) && (served.major == server.served.major)

-- ---- what becomes of it

-- once an Offer came it is offered, until its TTL has passed
abbrev pub offered_at : ℕ → ServerOffer → Server
offered_at now offer = record { served = offer.served; sender = offer.sender; state = Offered (deadline_after now offer.ttl) }

-- once a StopOffer ended its offer it has ended. A REQUEST that was told stays told
abbrev pub ended_state : ServerState → ServerState
ended_state (Offered until) = Ended
ended_state Ended = Ended
ended_state Told = Told

abbrev pub ended : Server → Server
ended server = record { served = server.served; sender = server.sender; state = ended_state server.state }

-- once a REQUEST to it was told
abbrev pub was_told : Server → Server
was_told server = record { served = server.served; sender = server.sender; state = Told }

-- a server that is not of a sender, who began again
abbrev pub unless_of : Ipv4Addr → Option Server → Option Server
unless_of sender = kept_if (λ server. not (is_of sender server))

-- ---- a message

-- it is a REQUEST to a server that has ended, and none was told since
abbrev pub is_not_offered : ℕ → ServerMessage → Server → Bool
is_not_offered now message server = message.is_request && (not (is_offered now server.state) && not (is_told server.state))

-- what it shows by its Interface Version: that the server is offered with another major version
abbrev pub told_of_version : ℕ → ServerMessage → Server → Option Finding
told_of_version now message server =
    if is_offered now server.state && not (message.interface == server.served.major) then Some (Interface server.served.major) else None

-- what it shows of its server
abbrev pub judged : ℕ → ServerMessage → Server → Option Finding
judged now message server = if is_not_offered now message server then Some NotOffered else told_of_version now message server
