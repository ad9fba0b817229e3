-- The reassembly keys of messages, by their numbers.
use Rattle.someip_wire.specs.Kinds.{kind_byte}
use Rattle.someip_reassembly.specs.declared.key.ReassemblyKey.{ReassemblyKey}
use Rattle.someip_world_verdict.specs.declared.stream.Stream.{Stream}

-- the fields of a reassembly key, its Message Type as a number
abbrev pub stream_of : ReassemblyKey → Stream
stream_of key = record {
  source = key.source;
  destination = key.destination;
  message = record { service = key.service; method = key.method };
  client = key.client;
  session = key.session;
  interface = key.interface;
  kind = kind_byte key.kind;
  code = key.code.0;
}
