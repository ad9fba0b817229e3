-- What the messages of a capture hold for Service Discovery, in order.
use Rattle.std.specs.Prelude.{◌≡◌, ℕ, List, ◌++◌, Result}
use Rattle.std.specs.List.{flat_map}
use Rattle.std.specs.Option.{option_to_list}
use Rattle.someip_wire.specs.declared.WireError.{WireError}
use Rattle.someip_wire.specs.Spelling.{MessageValue}
use Rattle.someip_wire.specs.Reading.{items_of}
use Rattle.sd_wire.specs.declared.SdError.{SdError}
use Rattle.sd_wire.specs.contents.Values.{SdValue}
use Rattle.someipctl_io.specs.Discovery.{discovery_in}

-- what items hold for Service Discovery, in order
abbrev pub readings_in : List (Result MessageValue WireError) → List (Result SdValue SdError)
readings_in items = flat_map (λ item. option_to_list (discovery_in item)) items

-- the same of datagrams
abbrev pub readings_of : List (List ℕ) → List (Result SdValue SdError)
readings_of datagrams = flat_map (λ datagram. readings_in (items_of datagram)) datagrams

-- these begin with those
abbrev pub BeginWith : List (Result SdValue SdError) → List (Result SdValue SdError) → Type 0
BeginWith readings front = (others : List (Result SdValue SdError)) × (readings ≡ front ++ others)
