-- The services whose datagrams are asked for.
use Rattle.std.specs.Prelude.{ℕ, ◌==◌, ◌&&◌, Bool, true, false, if◌then◌else◌, List, [], ◌∷◌, Option, Some, None, Result, Ok, Err, option_map, filter}
use Rattle.std.specs.List.{list_any}
use Rattle.std.specs.Int.{w16, from_be_bytes}
use Rattle.std.specs.Option.{option_and_then}
use Rattle.std.specs.Result.{result_ok}
use Rattle.hex.specs.Hex.{decode_sized}
use Rattle.someip_wire.specs.declared.Header.{Header}
use Rattle.someip_wire.specs.declared.WireError.{WireError}
use Rattle.someip_wire.specs.Spelling.{MessageValue}
use Rattle.someip_wire.specs.Reading.{items_of}
use Rattle.someipctl_show.specs.declared.services.AskedService.{AskedService}

-- ---- what a text names

-- the ID that four hex digits write
abbrev pub id_in : List ℕ → Option ℕ
id_in digits = option_map (from_be_bytes w16) (result_ok (decode_sized digits 2))

-- all of a service
abbrev pub all_of : ℕ → AskedService
all_of service = record { service = service; method = None }

-- a method or an event of a service
abbrev pub one_of : ℕ → ℕ → AskedService
one_of service method = record { service = service; method = Some method }

-- the service that a word names: an ID, or an ID, a dot (2e) and an ID
abbrev pub service_in : List ℕ → Option AskedService
service_in (a ∷ b ∷ c ∷ d ∷ []) = option_map all_of (id_in (a ∷ b ∷ c ∷ d ∷ []))
service_in (a ∷ b ∷ c ∷ d ∷ dot ∷ e ∷ f ∷ g ∷ h ∷ []) =
    if dot == 0x2e
    then option_and_then (λ service. option_map (one_of service) (id_in (e ∷ f ∷ g ∷ h ∷ []))) (id_in (a ∷ b ∷ c ∷ d ∷ []))
    else None
service_in _ = None

-- ---- the datagrams that are asked for

-- the method or event is asked for, where one is named
abbrev pub asks_method : Option ℕ → ℕ → Bool
asks_method None method = true
asks_method (Some asked) method = asked == method

-- a message with this header is of the service, and of its method or event where one is named
abbrev pub asks_header : Header → AskedService → Bool
asks_header h s = s.service == h.service && asks_method s.method h.method

-- an item is a message of one of the services
abbrev pub asks_item : List AskedService → Result MessageValue WireError → Bool
asks_item services (Ok m) = list_any (asks_header m.header) services
asks_item services (Err fault) = false

-- the datagram has a message of one of the services; without services all are asked for
abbrev pub is_asked_by : Option (List AskedService) → List ℕ → Bool
is_asked_by None datagram = true
is_asked_by (Some services) datagram = list_any (asks_item services) (items_of datagram)

-- the datagrams that are asked for
abbrev pub asked_among : Option (List AskedService) → List (List ℕ) → List (List ℕ)
asked_among services datagrams = filter (is_asked_by services) datagrams
