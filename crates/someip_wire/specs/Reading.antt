-- The plain program: the messages of a datagram, read one after the other. The laws of this crate join it to `Datagram`.
use Rattle.std.specs.Prelude.{ℕ, zero, suc, ◌+◌, List, [], ◌∷◌, length, drop, slice_index, slice_range, Option, Some, None, Result, Ok, Err, unwrap_or}
use Rattle.std.specs.Int.{w16, from_be_bytes}
use Rattle.someip_wire.specs.declared.error.WireError.{WireError}
use Rattle.someip_wire.specs.declared.header.Header.{Header}
use Rattle.someip_wire.specs.declared.header.MessageType.{MessageType}
use Rattle.someip_wire.specs.declared.header.MessageType.TheVariants.{Request}
use Rattle.someip_wire.specs.Kinds.{kind_of}
use Rattle.someip_wire.specs.Spelling.{MessageValue}
use Rattle.someip_wire.specs.Faults.{length_field, fault_at}

-- the number in the two bytes at a place
abbrev pub field16 : List ℕ → ℕ → ℕ
field16 bytes i = from_be_bytes w16 (slice_range bytes i (i + 2))

-- the type in byte 14, where that is one
abbrev pub kind_in : List ℕ → MessageType
kind_in bytes = unwrap_or (kind_of (slice_index bytes 14)) Request

-- the header in the first 16 bytes
abbrev pub header_in : List ℕ → Header
header_in bytes = record {
  service = field16 bytes 0;
  method = field16 bytes 2;
  client = field16 bytes 8;
  session = field16 bytes 10;
  interface = slice_index bytes 13;
  kind = kind_in bytes;
  code = record { 0 = slice_index bytes 15 };
}

-- the message at the front, where there is no fault
abbrev pub message_in : List ℕ → MessageValue
message_in bytes = record { header = header_in bytes; payload = slice_range bytes 16 (length_field bytes + 8) }

-- the fault, if there is one, and else the message
abbrev pub or_fault : Option WireError → MessageValue → Result MessageValue WireError
or_fault None m = Ok m
or_fault (Some fault) m = Err fault

-- what is read of bytes from place p of a datagram on: a message, or the first fault
abbrev pub item_at : ℕ → List ℕ → Result MessageValue WireError
item_at p bytes = or_fault (fault_at p bytes) (message_in bytes)

-- a fault alone, or a message and the others after it
abbrev pub items_after : (ℕ → List ℕ → List (Result MessageValue WireError)) → ℕ → List ℕ → Result MessageValue WireError → List (Result MessageValue WireError)
items_after others p bytes (Err fault) = Err fault ∷ []
items_after others p bytes (Ok m) = Ok m ∷ others (p + (length_field bytes + 8)) (drop (length_field bytes + 8) bytes)

-- the messages and the fault, if there is one, in n steps at most. Each message has 16 bytes at least, so n
-- steps are enough for n bytes.
unfoldable pub items_within : ℕ → ℕ → List ℕ → List (Result MessageValue WireError)
items_within zero p bytes = []
items_within (suc n) p [] = []
items_within (suc n) p (b ∷ bytes) = items_after (items_within n) p (b ∷ bytes) (item_at p (b ∷ bytes))

-- the messages and the fault, if there is one, of the bytes from place p of a datagram on
abbrev pub items_from : ℕ → List ℕ → List (Result MessageValue WireError)
items_from p bytes = items_within (length bytes) p bytes

-- the messages and the fault, if there is one, of a datagram
abbrev pub items_of : List ℕ → List (Result MessageValue WireError)
items_of bytes = items_from 0 bytes
