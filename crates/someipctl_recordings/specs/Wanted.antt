-- Which datagrams of recordings are asked for.
use Rattle.std.specs.Prelude.{ℕ, ◌+◌, ◌*◌, Bool, true, false, nat_le, nat_lt, ◌==◌, ◌&&◌, ◌||◌, List, [], Option, Some, None, Result, Ok, Err, option_map}
use Rattle.std.specs.List.{list_any}
use Rattle.std.specs.Int.{w32, from_be_bytes}
use Rattle.recording.specs.declared.Endpoint.{Endpoint}
use Rattle.recording.specs.declared.Time.{Time}
use Rattle.recording.specs.Packets.{DatagramValue}
use Rattle.recording_packets.specs.Chosen.{ChosenValue, all_packets}
use Rattle.recording_packets.specs.View.{view_chosen}
use Rattle.someip_wire.specs.declared.Header.{Header}
use Rattle.someip_wire.specs.declared.WireError.{WireError}
use Rattle.someip_wire.specs.Spelling.{MessageValue}
use Rattle.someip_wire.specs.Reading.{items_of}
use Rattle.someipctl_show.specs.Services.{asks_header}
use Rattle.someipctl_show.specs.declared.services.AskedService.{AskedService}
use Rattle.someipctl_recordings.specs.declared.wanted.Wanted.{Wanted}

-- which packets are looked at; whether datagrams at learned endpoints are asked for beside those at the ports; the ports, the addresses, the services, the client and the times whose datagrams are asked
-- for, where they are named
pub record WantedValue : Type 0 where
  pub packets : ChosenValue
  pub learned : Bool
  pub ports : Option (List ℕ)
  pub addresses : Option (List ℕ)
  pub services : Option (List AskedService)
  pub client : Option ℕ
  pub from : Option Time
  pub until : Option Time

-- nothing is named
abbrev pub all_wanted : WantedValue
all_wanted = record {
  packets = all_packets;
  learned = false;
  ports = None;
  addresses = None;
  services = None;
  client = None;
  from = None;
  until = None;
}

-- ---- by its endpoints

-- the datagram came from or went to one of the ports; without ports all are asked for
abbrev pub is_at_port : Option (List ℕ) → DatagramValue → Bool
is_at_port None d = true
is_at_port (Some ports) d = list_any (λ port. port == d.from.port) ports || list_any (λ port. port == d.to.port) ports

-- an address as a number, the highest byte first
abbrev pub address_of : Endpoint → ℕ
address_of e = from_be_bytes w32 e.ip

-- the ports that are named, if any are
abbrev pub ports_of : Option (List ℕ) → List ℕ
ports_of None = []
ports_of (Some ports) = ports

-- the same of addresses
abbrev pub is_at_address : Option (List ℕ) → DatagramValue → Bool
is_at_address None d = true
is_at_address (Some addresses) d =
    list_any (λ a. a == address_of d.from) addresses || list_any (λ a. a == address_of d.to) addresses

-- ---- by its time

abbrev pub nanoseconds_of : Time → ℕ
nanoseconds_of t = t.seconds * 1000000000 + t.nanoseconds

-- a time is not before this one, where one is named
abbrev pub is_late : Option Time → Time → Bool
is_late None t = true
is_late (Some from) t = nat_le (nanoseconds_of from) (nanoseconds_of t)

-- it is before that one
abbrev pub is_early : Option Time → Time → Bool
is_early None t = true
is_early (Some until) t = nat_lt (nanoseconds_of t) (nanoseconds_of until)

-- a datagram of this time was recorded within both; one without a time only where none is named
abbrev pub is_in_span : Option Time → Option Time → Option Time → Bool
is_in_span None None time = true
is_in_span (Some from) until None = false
is_in_span None (Some until) None = false
is_in_span (Some from) until (Some t) = is_late (Some from) t && is_early until t
is_in_span None (Some until) (Some t) = is_late None t && is_early (Some until) t

-- ---- by its messages

-- a message with this header is of one of the services; without services each is
abbrev pub asks_services : Option (List AskedService) → Header → Bool
asks_services None h = true
asks_services (Some services) h = list_any (asks_header h) services

abbrev pub is_client : Option ℕ → ℕ → Bool
is_client None found = true
is_client (Some client) found = client == found

-- an item is a message of one of the services and of the client
abbrev pub asks_message : Option (List AskedService) → Option ℕ → Result MessageValue WireError → Bool
asks_message services client (Ok m) = asks_services services m.header && is_client client m.header.client
asks_message services client (Err fault) = false

-- the datagram has such a message; where neither services nor a client are named all are asked for
abbrev pub asks_messages : Option (List AskedService) → Option ℕ → List ℕ → Bool
asks_messages None None datagram = true
asks_messages (Some services) client datagram = list_any (asks_message (Some services) client) (items_of datagram)
asks_messages None (Some client) datagram = list_any (asks_message None (Some client)) (items_of datagram)

-- ---- together

-- where endpoints are learned, ports are looked at beside them, and leave out no others
abbrev pub is_wanted : WantedValue → DatagramValue → Bool
is_wanted w d =
    (w.learned || is_at_port w.ports d) && is_at_address w.addresses d && is_in_span w.from w.until d.time && asks_messages w.services w.client d.payload

-- ---- the program's values

abbrev pub view_wanted : Wanted → WantedValue
view_wanted w = record {
  packets = view_chosen w.packets;
  learned = w.learned;
  ports = option_map (λ p. p.now) w.ports;
  addresses = option_map (λ a. a.now) w.addresses;
  services = option_map (λ s. s.now) w.services;
  client = w.client;
  from = w.from;
  until = w.until;
}
