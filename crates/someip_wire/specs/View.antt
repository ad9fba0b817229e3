-- What clauses see of a message: not where its payload lies.
use Rattle.std.specs.Prelude.{Result, Ok, Err}
use Rattle.someip_wire.specs.declared.error.WireError.{WireError}
use Rattle.someip_wire.specs.declared.message.Message.{Message}
use Rattle.someip_wire.specs.Spelling.{MessageValue}

-- the header and the payload's bytes
abbrev pub view : Message → MessageValue
view m = record { header = m.header; payload = m.payload.now }

-- the same of an item of a datagram
abbrev pub view_item : Result Message WireError → Result MessageValue WireError
view_item (Ok m) = Ok (view m)
view_item (Err fault) = Err fault
