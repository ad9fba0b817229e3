-- The lines of `show`, byte for byte.
use Rattle.std.specs.Prelude.{ℕ, ◌+◌, nat_lt, Bool, true, false, if◌then◌else◌, List, [], ◌∷◌, ◌++◌, length, drop, codes, decimal}
use Rattle.std.specs.List.{flat_map}
use Rattle.someip_wire.specs.declared.MessageType.{MessageType}
use Rattle.someip_wire.specs.declared.MessageType.TheVariants.{Request, RequestNoReturn, Notification, Response, Error, TpRequest, TpRequestNoReturn, TpNotification, TpResponse, TpError}
use Rattle.someip_wire.specs.Kinds.{has_tp_flag}
use Rattle.someip_wire.specs.Spelling.{MessageValue}
use Rattle.someip_reassembly.specs.TpHeader.{offset_of, more_of, tp_header_in}
use Rattle.someip_texts.specs.Words.{bytes_text, hex2, hex4}

-- the texts one after the other
abbrev pub joined : List (List ℕ) → List ℕ
joined texts = flat_map (λ text. text) texts

-- the name of a message type
abbrev pub type_name : MessageType → List ℕ
type_name Request = codes "REQUEST"
type_name RequestNoReturn = codes "REQUEST_NO_RETURN"
type_name Notification = codes "NOTIFICATION"
type_name Response = codes "RESPONSE"
type_name Error = codes "ERROR"
type_name TpRequest = codes "TP_REQUEST"
type_name TpRequestNoReturn = codes "TP_REQUEST_NO_RETURN"
type_name TpNotification = codes "TP_NOTIFICATION"
type_name TpResponse = codes "TP_RESPONSE"
type_name TpError = codes "TP_ERROR"

-- the word of a line that tells a message, its Message ID, and what stands before its length
abbrev pub ids_by : List ℕ → ℕ → ℕ → List ℕ
ids_by word service method = word ++ hex4 service ++ codes "." ++ hex4 method ++ codes " length "

-- the line of the k-th datagram that tells a message, which begins with these IDs
abbrev pub line_behind : List ℕ → ℕ → MessageValue → List ℕ
line_behind ids k m = joined (
    decimal k ∷ ids ∷ decimal (8 + length m.payload)
    ∷ codes " client " ∷ hex4 m.header.client ∷ codes " session " ∷ hex4 m.header.session
    ∷ codes " interface " ∷ hex2 m.header.interface ∷ codes " type " ∷ type_name m.header.kind
    ∷ codes " code " ∷ hex2 m.header.code.0 ∷ codes " payload " ∷ bytes_text m.payload ∷ codes "\n" ∷ [])

-- the line of a message in the k-th datagram
abbrev pub message_line : ℕ → MessageValue → List ℕ
message_line k m = line_behind (ids_by (codes " message ") m.header.service m.header.method) k m

-- the line of a message that a segment in the k-th datagram makes whole
abbrev pub whole_line : ℕ → MessageValue → List ℕ
whole_line k m = line_behind (ids_by (codes " whole ") m.header.service m.header.method) k m

-- the line of a segment in the k-th datagram that is not put together, and why
abbrev pub dropped_line : ℕ → List ℕ → List ℕ
dropped_line k name = joined (decimal k ∷ codes " dropped " ∷ name ∷ codes "\n" ∷ [])

-- the line of a fault of the k-th datagram: its name, and its place in the datagram
abbrev pub fault_line : ℕ → List ℕ → ℕ → List ℕ
fault_line k name place = joined (decimal k ∷ codes " fault " ∷ name ∷ codes " at " ∷ decimal place ∷ codes "\n" ∷ [])

-- the line of the k-th datagram where that is empty
abbrev pub empty_line : ℕ → List ℕ
empty_line k = joined (decimal k ∷ codes " empty\n" ∷ [])

-- a flag as a digit
abbrev pub flag_text : Bool → List ℕ
flag_text true = codes "1"
flag_text false = codes "0"

-- the line of a segment with this payload: the offset in bytes and More Segments, which its TP header says, and the
-- bytes of the slice after it
abbrev pub segment_line : ℕ → List ℕ → List ℕ
segment_line k payload = joined (
    decimal k ∷ codes " segment offset " ∷ decimal (offset_of (tp_header_in payload))
    ∷ codes " more " ∷ flag_text (more_of (tp_header_in payload))
    ∷ codes " bytes " ∷ decimal (length (drop 4 payload)) ∷ codes "\n" ∷ [])

-- a payload has no room for the TP header of a segment
abbrev pub has_no_tp_header : List ℕ → Bool
has_no_tp_header payload = nat_lt (length payload) 4

-- what stands after the line of a message whose payload begins at this place: nothing, or where the message is
-- a segment its line, or the fault that its payload has no room for the TP header
abbrev pub segment_lines : ℕ → ℕ → MessageValue → List ℕ
segment_lines k place m =
    if has_tp_flag m.header.kind then (if has_no_tp_header m.payload then fault_line k (codes "NoHeader") place else segment_line k m.payload)
    else []
