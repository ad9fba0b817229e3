-- The options of an entry, and the endpoint among them (SOME/IP Service Discovery, "Referencing Options from Entries").
use Rattle.std.specs.Prelude.{◌==◌, if◌then◌else◌, List, [], ◌∷◌, ◌++◌, Option, Some, None}
use Rattle.std.specs.Option.{option_or}
use Rattle.std.specs.declared.net.socket_addr.SocketAddrV4.{SocketAddrV4}
use Rattle.sd_wire.specs.declared.option.SdOption.{SdOption}
use Rattle.sd_wire.specs.declared.option.SdOption.TheVariants.{Endpoint4}
use Rattle.sd_wire.specs.contents.Values.{EntryValue}

-- the options of an entry in order: those of the first run, and then those of the second
abbrev pub options_of : EntryValue → List SdOption
options_of e = e.first ++ e.second

-- address and port of an IPv4 endpoint option (type 04) over UDP (protocol 11)
abbrev pub udp_endpoint : SdOption → Option SocketAddrV4
udp_endpoint (Endpoint4 e) = if e.protocol.0 == 0x11 then Some e.socket else None
udp_endpoint _ = None

-- the first of them among options
abbrev pub first_udp_endpoint : List SdOption → Option SocketAddrV4
first_udp_endpoint [] = None
first_udp_endpoint (o ∷ options) = option_or (udp_endpoint o) (first_udp_endpoint options)
