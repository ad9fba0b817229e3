-- The first endpoint of options one after the other.
use Rattle.std.proofs.Common.{◌≡◌, List, [], ◌∷◌, ◌++◌, Option, Some, None, refl}
use Rattle.std.specs.Option.{option_or}
use Rattle.std.specs.declared.net.socket_addr.SocketAddrV4.{SocketAddrV4}
use Rattle.sd_wire.specs.declared.option.SdOption.{SdOption}
use Rattle.sd_wire.specs.contents.Endpoints.{udp_endpoint, first_udp_endpoint}

chosen : (a b c : Option SocketAddrV4) → option_or a (option_or b c) ≡ option_or (option_or a b) c
chosen None b c = refl
chosen (Some x) b c = refl

-- that of the first ones, or else that of the others
pub first_of_both : (first second : List SdOption) → first_udp_endpoint (first ++ second) ≡ option_or (first_udp_endpoint first) (first_udp_endpoint second)
first_of_both [] second = refl
first_of_both (o ∷ first) second = rw (first_of_both first second) (chosen (udp_endpoint o) (first_udp_endpoint first) (first_udp_endpoint second))
