-- The datagrams that a trace tells of.
use Rattle.std.specs.Prelude.{ℕ, zero, suc, List, Option, None, Some, slice_get}
use Rattle.std.specs.List.{filter_map}
use Rattle.std.specs.declared.net.socket_addr.SocketAddrV4.{SocketAddrV4}
use Rattle.someip_node_rules.specs.declared.output.Output.{Output}
use Rattle.someip_node_rules.specs.declared.output.Output.TheVariants.{Sent}
use Rattle.someip_world_rules.specs.declared.line.Line.{Line}
use Rattle.someip_world_rules.specs.declared.line.Told.{Told}
use Rattle.someip_world_rules.specs.declared.line.Told.TheVariants.{Gave, Refused}

-- a datagram that was sent, from an endpoint to another
pub record SentDatagram : Type 0 where
  pub from : SocketAddrV4
  pub to : SocketAddrV4
  pub bytes : List ℕ

-- the datagram that is sent with an output
abbrev pub sent_with : Output → Option SentDatagram
sent_with (Sent from to bytes) = Some (record { from = from; to = to; bytes = bytes })
sent_with output = None

-- the datagram that a line tells of
abbrev pub told_datagram : Told → Option SentDatagram
told_datagram (Gave output) = sent_with output
told_datagram (Refused refusal) = None

abbrev pub datagram_in : Line → Option SentDatagram
datagram_in line = told_datagram line.told

-- the datagrams that some lines tell of, in order
abbrev pub datagrams_in : List Line → List SentDatagram
datagrams_in lines = filter_map datagram_in lines

-- the datagram of a number: they count from 1
abbrev pub datagram_at : List Line → ℕ → Option SentDatagram
datagram_at lines zero = None
datagram_at lines (suc n) = slice_get (datagrams_in lines) n
