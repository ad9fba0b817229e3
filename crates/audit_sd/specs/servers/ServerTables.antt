-- The servers of which something is known.
use Rattle.std.specs.Prelude.{◌≡◌, ℕ, Bool, true, false, not, if◌then◌else◌, Option, None, Some, refl}
use Rattle.std.specs.Coded.{Coded, code_by, coded×, coded_ℕ, coded_bool, coded_option}
use Rattle.std.specs.FinMap as finite
use Rattle.std.specs.FinMap.{FinMap}
use Rattle.std.specs.declared.net.ipv4_addr.Ipv4Addr.{Ipv4Addr}
use Rattle.someip_tables.specs.declared.deadline.Deadline.{Deadline}
use Rattle.someip_tables.specs.Deadlines.{coded_deadline}
use Rattle.someip_tables.specs.Endpoints.{coded_address}
use Rattle.someip_tables.specs.Retained.{retain}
use Rattle.someip_tables.specs.hashed.Rooms.{may_hold}
use Rattle.audit_sd.specs.declared.servers.finding.Finding.{Finding}
use Rattle.audit_sd.specs.declared.servers.key.ServerKey.{ServerKey}
use Rattle.audit_sd.specs.declared.servers.message.ServerMessage.{ServerMessage}
use Rattle.audit_sd.specs.declared.servers.offer.Served.{Served}
use Rattle.audit_sd.specs.declared.servers.offer.ServerOffer.{ServerOffer}
use Rattle.audit_sd.specs.declared.servers.server.Server.{Server}
use Rattle.audit_sd.specs.declared.servers.server.ServerState.{ServerState}
use Rattle.audit_sd.specs.declared.servers.server.ServerState.TheVariants.{Offered, Ended, Told}
use Rattle.audit_sd.specs.servers.ServerKeys.{server_cmp, coded_key}
use Rattle.audit_sd.specs.servers.ServerRules.{ended, is_not_offered, is_of, is_same_served, judged, offered_at, was_told}

-- the servers, each with its newest Offer and whether that has ended
abbrev pub Servers : Type 0
Servers = FinMap server_cmp Server

-- what a book holds, how many servers it may hold, and whether it told that it is full
pub record ServerTable : Type 0 where
  pub limit : ℕ
  pub known : Servers
  pub told_full : Bool

-- a book for so many that holds none
abbrev pub no_servers : ℕ → ServerTable
no_servers limit = record { limit = limit; known = finite.empty; told_full = false }

-- whether a TTL has passed is asked where a message comes
abbrev pub waits_for_none : Server → Option ℕ
waits_for_none server = None

-- the sender of its newest Offer owns it
abbrev pub owners_of : ServerKey → Server → Ipv4Addr × Ipv4Addr
owners_of key server = (server.sender, server.sender)

-- something is known of a server, and its newest Offer is of a sender
abbrev pub IsOfSender : Ipv4Addr → Option Server → Type 0
IsOfSender sender None = ⊥
IsOfSender sender (Some server) = server.sender ≡ sender

-- ---- an Offer

-- that the book is full is told at the first Offer that there is no room for
abbrev pub tells_full : ServerOffer → ServerTable → Bool
tells_full offer book = if may_hold book.limit book.known offer.server then false else not book.told_full

-- the book once it came: its server is offered, in place of what was known of it
abbrev pub after_offer : ℕ → ServerOffer → ServerTable → ServerTable
after_offer now offer book =
    if may_hold book.limit book.known offer.server then record book { known = finite.insert book.known offer.server (offered_at now offer) }
    else record book { told_full = true }

-- ---- a StopOffer, a message and a reboot

-- what is known of a server changes, where it passes a test
abbrev pub changed_if : (Server → Bool) → (Server → Server) → ServerKey → Option Server → Servers → Servers
changed_if test change key None servers = servers
changed_if test change key (Some server) servers = if test server then finite.insert servers key (change server) else servers

-- the book once a StopOffer ended an offer at a server: where that is what the newest Offer offers, the server has ended
abbrev pub after_stop : ServerKey → Served → ServerTable → ServerTable
after_stop key served book = record book { known = changed_if (is_same_served served) ended key (finite.get book.known key) book.known }

-- what is told of a message, by what is known of its server
abbrev pub judged_of : ℕ → ServerMessage → Option Server → Option Finding
judged_of now message None = None
judged_of now message (Some server) = judged now message server

abbrev pub told_by : ℕ → ServerMessage → ServerTable → Option Finding
told_by now message book = judged_of now message (finite.get book.known message.server)

-- the book once a message came: of a REQUEST to a server that has ended it is noted that it was told
abbrev pub after_message : ℕ → ServerMessage → ServerTable → ServerTable
after_message now message book =
    record book { known = changed_if (is_not_offered now message) was_told message.server (finite.get book.known message.server) book.known }

-- the book once a sender began again: of the servers whose newest Offer is of this sender nothing is known
abbrev pub without_sender : Ipv4Addr → ServerTable → ServerTable
without_sender sender book = record book { known = retain book.known (λ _ server. not (is_of sender server)) }

-- ---- codes, by which a proof tells values apart

-- a state is stored as its deadline, if it has one, and whether a REQUEST was told
abbrev pub state_parts : ServerState → Option Deadline × Bool
state_parts (Offered until) = (Some until, false)
state_parts Ended = (None, false)
state_parts Told = (None, true)

abbrev pub state_from : Option Deadline → Bool → ServerState
state_from (Some until) told = Offered until
state_from None true = Told
state_from None false = Ended

pub state_from-parts : (state : ServerState) → state_from (state_parts state).0 (state_parts state).1 ≡ state
state_from-parts (Offered until) = refl
state_from-parts Ended = refl
state_from-parts Told = refl

abbrev pub coded_state : Coded ServerState
coded_state = code_by (Option Deadline × Bool) (coded× (coded_option coded_deadline) coded_bool) state_parts (λ p. state_from p.0 p.1) state_from-parts

abbrev pub coded_server : Coded Server
coded_server =
    code_by ((ℕ × ℕ) × (Ipv4Addr × ServerState)) (coded× (coded× coded_ℕ coded_ℕ) (coded× coded_address coded_state))
    (λ s. ((s.served.instance, s.served.major), (s.sender, s.state)))
    (λ c. record { served = record { instance = c.0.0; major = c.0.1 }; sender = c.1.0; state = c.1.1 }) (λ _. refl)

abbrev pub coded_servers : Coded ServerTable
coded_servers =
    code_by (ℕ × (Servers × Bool)) (coded× coded_ℕ (coded× (finite.code coded_key coded_server) coded_bool))
    (λ b. (b.limit, (b.known, b.told_full))) (λ c. record { limit = c.0; known = c.1.0; told_full = c.1.1 }) (λ _. refl)
