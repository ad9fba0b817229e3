-- What a node gives, beside the bytes that it is written as.
use Rattle.std.specs.Prelude.{List, [], ◌∷◌, map}
use Rattle.std.specs.declared.net.socket_addr.SocketAddrV4.{SocketAddrV4}
use Rattle.someip_wire.specs.Spelling.{MessageValue, spelling}
use Rattle.someip_reassembly.specs.Sent.{PieceValue, piece_message, sent}
use Rattle.sd_wire.specs.contents.Values.{EntryValue}
use Rattle.sd_session.specs.declared.stamp.Stamp.{Stamp}
use Rattle.someip_node_rules.specs.declared.output.Output.{Output}
use Rattle.someip_node_rules.specs.declared.output.Output.TheVariants.{Sent}
use Rattle.someip_node_rules.specs.forms.Entries.{discovery_message}

-- a message that is sent from an endpoint to another, a message of Service Discovery with its stamp and its entries, or
-- what is handed up or told
pub data Given : Type 0 where
  Sends : SocketAddrV4 → SocketAddrV4 → MessageValue → Given
  Announces : SocketAddrV4 → SocketAddrV4 → Stamp → List EntryValue → Given
  Tells : Output → Given

-- the datagram of a piece of a message
abbrev pub datagram_of : SocketAddrV4 → SocketAddrV4 → PieceValue → Output
datagram_of from to piece = Sent from to (spelling (piece_message piece))

-- a message as it is sent: in one datagram, or one for each of its segments
abbrev pub datagrams_of : SocketAddrV4 → SocketAddrV4 → MessageValue → List Output
datagrams_of from to m = map (datagram_of from to) (sent m)

-- as it stands among the outputs
abbrev pub written : Given → List Output
written (Sends from to m) = datagrams_of from to m
written (Announces from to stamp entries) = Sent from to (spelling (discovery_message stamp entries)) ∷ []
written (Tells output) = output ∷ []
