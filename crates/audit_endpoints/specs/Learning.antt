-- Which endpoints the datagrams of a recording name.
use Rattle.std.specs.Prelude.{if◌then◌else◌, ◌||◌, Bool, ℕ, List, [], ◌∷◌, Option, None, Some, Result, Ok, Err}
use Rattle.std.specs.declared.net.socket_addr.SocketAddrV4.{SocketAddrV4}
use Rattle.sd_wire.specs.contents.Endpoints.{first_udp_endpoint, options_of}
use Rattle.sd_wire.specs.contents.Values.{ReadValue, SdValue, good, bad_run}
use Rattle.sd_wire.specs.declared.error.SdError.{SdError}
use Rattle.sd_wire.specs.decoding.Program.{reading}
use Rattle.someip_tables.specs.declared.hashed.origin.Origin.{Origin}
use Rattle.someip_wire.specs.Reading.{items_of}
use Rattle.someip_wire.specs.Spelling.{MessageValue}
use Rattle.someip_wire.specs.declared.error.WireError.{WireError}
use Rattle.audit_endpoints.specs.DiscoveryMessages.{is_sd}
use Rattle.audit_endpoints.specs.NamedEndpoints.{named_endpoint}
use Rattle.audit_endpoints.specs.WatchedEndpoints.{Watch, is_looked_at, once_named}

-- the endpoint that an entry names: that of an Offer or a Subscribe, if its options are known and it has one
abbrev pub named_by : ReadValue → Option SocketAddrV4
named_by (good entry) = named_endpoint entry.head (first_udp_endpoint (options_of entry))
named_by (bad_run head) = None

-- it is learnt
abbrev pub once_named_by : Option SocketAddrV4 → Watch → Watch
once_named_by None watched = watched
once_named_by (Some endpoint) watched = once_named endpoint watched

-- what entries name is learnt, in order
abbrev pub learnt_of : List ReadValue → Watch → Watch
learnt_of [] watched = watched
learnt_of (entry ∷ entries) watched = learnt_of entries (once_named_by (named_by entry) watched)

-- of a payload that has a fault nothing is
abbrev pub learnt_of_payload : Result SdValue SdError → Watch → Watch
learnt_of_payload (Ok sd) watched = learnt_of sd.entries watched
learnt_of_payload (Err fault) watched = watched

-- of the items of a datagram only messages of Service Discovery name any
abbrev pub learnt_of_item : Origin → Result MessageValue WireError → Watch → Watch
learnt_of_item origin (Ok message) watched = if is_sd origin message.header then learnt_of_payload (reading message.payload) watched else watched
learnt_of_item origin (Err fault) watched = watched

abbrev pub learnt_of_items : Origin → List (Result MessageValue WireError) → Watch → Watch
learnt_of_items origin [] watched = watched
learnt_of_items origin (item ∷ items) watched = learnt_of_items origin items (learnt_of_item origin item watched)

-- what a datagram names is learnt
abbrev pub learnt_in : Origin → List ℕ → Watch → Watch
learnt_in origin bytes watched = learnt_of_items origin (items_of bytes) watched

-- a datagram is looked at; where no more endpoints may be learnt each is
abbrev pub is_looked_at_or_full : Watch → Origin → Bool
is_looked_at_or_full watched origin = watched.told_full || is_looked_at watched origin
