-- The lines of the items of a datagram.
use Rattle.std.specs.Prelude.{ℕ, ◌+◌, Bool, true, ◌&&◌, ◌||◌, List, ◌++◌, length, Result, Ok, Err}
use Rattle.someip_wire.specs.declared.WireError.{WireError}
use Rattle.someip_wire.specs.Kinds.{has_tp_flag}
use Rattle.someip_wire.specs.Spelling.{MessageValue, spelling}
use Rattle.someip_wire.specs.Faults.{fault_name, fault_place}
use Rattle.someipctl_io.specs.Lines.{message_line, segment_lines, has_no_tp_header, fault_line}
use Rattle.someipctl_io.specs.Discovery.{discovery_in, discovery_lines, has_sd_fault}

-- the lines of an item that begins at this place of the k-th datagram; what is told of a message's value stands right
-- after its line
abbrev pub item_lines : ℕ → ℕ → List ℕ → Result MessageValue WireError → List ℕ
item_lines k place value (Ok message) =
    message_line k message ++ (value ++ (segment_lines k (place + 16) message ++ discovery_lines k (place + 16) (discovery_in (Ok message))))
item_lines k place value (Err fault) = fault_line k (fault_name fault) (fault_place fault)

-- how many bytes of its datagram an item takes: a message those of its spelling. Nothing comes after a fault
abbrev pub item_len : Result MessageValue WireError → ℕ
item_len (Ok message) = length (spelling message)
item_len (Err fault) = 0

-- a fault is shown of an item: the item is one, or it is a segment whose payload has no room for the TP
-- header, or a message of Service Discovery whose payload has a fault
abbrev pub is_faulty : Result MessageValue WireError → Bool
is_faulty (Ok message) = (has_tp_flag message.header.kind && has_no_tp_header message.payload) || has_sd_fault (discovery_in (Ok message))
is_faulty (Err fault) = true
