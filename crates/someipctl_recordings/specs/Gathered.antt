-- Messages that are put together from the segments of a recording (SOME/IP Protocol, "SOME/IP-TP", reassembly).
use Rattle.std.specs.Prelude.{⊤, ℕ, ◌==◌, ◌||◌, Bool, false, not, is_ok, if◌then◌else◌, List, Option, Some, None, option_map, Result, Ok, Err}
use Rattle.std.specs.declared.net.socket_addr.SocketAddrV4.{SocketAddrV4}
use Rattle.someip_wire.specs.declared.Header.{Header}
use Rattle.someip_wire.specs.declared.WireError.{WireError}
use Rattle.someip_wire.specs.Kinds.{has_tp_flag, without_tp_flag}
use Rattle.someip_wire.specs.Spelling.{MessageValue}
use Rattle.someip_reassembly.specs.declared.TpError.{TpError}
use Rattle.someip_reassembly.specs.TpHeader.{segment_in}
use Rattle.someip_reassembly.specs.declared.ReassemblyKey.{ReassemblyKey}
use Rattle.someip_reassembly.specs.declared.Offered.{Offered}
use Rattle.someip_reassembly.specs.declared.Offered.TheVariants.{Part, Whole}
use Rattle.someip_reassembly.specs.Keys.{segment_key}
use Rattle.someip_reassembly.specs.Parts.{Limits, NoneAfter, Parts}
use Rattle.someip_reassembly.specs.SegmentOffers.{SegmentOffer, offer, judgement, parts_after, message_at, parts_less}
use Rattle.recording.specs.declared.Endpoint.{Endpoint}
use Rattle.recording.specs.Packets.{DatagramValue}
use Rattle.someipctl_recordings.specs.declared.reassembly.Piece.{Piece}
use Rattle.someipctl_recordings.specs.declared.reassembly.Told.{Told}
use Rattle.someipctl_recordings.specs.declared.reassembly.Told.TheVariants as told

-- what contracts see of a store of messages that have come in part
pub record StoreValue : Type 0 where
  pub limits : Limits
  pub parts : Parts

-- ---- the segments that are put together

-- an endpoint, as reassembly keys have it
abbrev pub socket_of : Endpoint → SocketAddrV4
socket_of e = record { ip = record { octets = e.ip }; port = e.port }

-- a datagram came from or went to the port of Service Discovery, at which segments are not put together
abbrev pub is_at_discovery : DatagramValue → Bool
is_at_discovery d = d.from.port == 30490 || d.to.port == 30490

-- the segment that the payload of a message says, if it has room for the TP header, under its reassembly key
abbrev pub offer_in : DatagramValue → Header → Result (ℕ × Bool × List ℕ) TpError → Option SegmentOffer
offer_in d h (Ok s) = Some (offer (segment_key (socket_of d.from) (socket_of d.to) h) s.0 s.1 s.2)
offer_in d h (Err refusal) = None

-- the segment that a message of a datagram is, if it is put together
abbrev pub segment_of : DatagramValue → MessageValue → Option SegmentOffer
segment_of d m = if is_at_discovery d || not (has_tp_flag m.header.kind) then None else offer_in d m.header (segment_in m.payload)

-- ---- what is told of a segment

-- the message of segments with this header, without the TP flag
abbrev pub whole_message : Header → List ℕ → MessageValue
whole_message h bytes = record { header = record h { kind = without_tp_flag h.kind }; payload = bytes }

-- what is told of a segment that is judged so, where this is whole under its key then: a whole message, or why it is
-- refused; nothing while bytes are still to come
abbrev pub told_by : Header → Result Offered TpError → Option (List ℕ) → Option (Result MessageValue TpError)
told_by h (Ok Part) whole = None
told_by h (Ok Whole) whole = option_map (λ bytes. Ok (whole_message h bytes)) whole
told_by h (Err refusal) whole = Some (Err refusal)

-- the parts after it: a whole message is taken
abbrev pub parts_by : Result Offered TpError → ReassemblyKey → Parts → Parts
parts_by (Ok Part) key parts = parts
parts_by (Ok Whole) key parts = parts_less parts key
parts_by (Err refusal) key parts = parts

-- what is told of a segment that comes at a moment
abbrev pub told_of_offer : StoreValue → ℕ → Header → Option SegmentOffer → Option (Result MessageValue TpError)
told_of_offer s now h None = None
told_of_offer s now h (Some o) = told_by h (judgement s.limits now o s.parts) (message_at (parts_after s.limits now o s.parts) o.key)

abbrev pub store_after_offer : StoreValue → ℕ → Option SegmentOffer → StoreValue
store_after_offer s now None = s
store_after_offer s now (Some o) =
    record { limits = s.limits; parts = parts_by (judgement s.limits now o s.parts) o.key (parts_after s.limits now o s.parts) }

-- ---- items

-- what is told of an item of a datagram that comes at a moment, where messages are put together
abbrev pub told_of_item : StoreValue → ℕ → DatagramValue → Result MessageValue WireError → Option (Result MessageValue TpError)
told_of_item s now d (Ok m) = told_of_offer s now m.header (segment_of d m)
told_of_item s now d (Err fault) = None

abbrev pub store_after_item : StoreValue → ℕ → DatagramValue → Result MessageValue WireError → StoreValue
store_after_item s now d (Ok m) = store_after_offer s now (segment_of d m)
store_after_item s now d (Err fault) = s

-- the same where messages may not be put together
abbrev pub told_of : Option StoreValue → ℕ → DatagramValue → Result MessageValue WireError → Option (Result MessageValue TpError)
told_of None now d item = None
told_of (Some s) now d item = told_of_item s now d item

abbrev pub store_after : Option StoreValue → ℕ → DatagramValue → Result MessageValue WireError → Option StoreValue
store_after None now d item = None
store_after (Some s) now d item = Some (store_after_item s now d item)

-- ---- where memory is taken

-- a segment is accepted: memory is taken for no other, and for no other item
abbrev pub is_accepted_offer : StoreValue → ℕ → Option SegmentOffer → Bool
is_accepted_offer s now None = false
is_accepted_offer s now (Some o) = is_ok (judgement s.limits now o s.parts)

abbrev pub is_accepted_item : StoreValue → ℕ → DatagramValue → Result MessageValue WireError → Bool
is_accepted_item s now d (Ok m) = is_accepted_offer s now (segment_of d m)
is_accepted_item s now d (Err fault) = false

abbrev pub is_accepted : Option StoreValue → ℕ → DatagramValue → Result MessageValue WireError → Bool
is_accepted None now d item = false
is_accepted (Some s) now d item = is_accepted_item s now d item

-- ---- the program's values

-- what the program tells of a segment, where these are the bytes of the message that it took
abbrev pub view_told : Told → List ℕ → Option (Result MessageValue TpError)
view_told told.Nothing bytes = None
view_told (told.Whole h) bytes = Some (Ok (record { header = h; payload = bytes }))
view_told (told.Dropped refusal) bytes = Some (Err refusal)

-- what contracts see of a store, by what it says of itself
abbrev pub store_by : {S : Type 0} → (S → Limits) → (S → Parts) → S → StoreValue
store_by limits parts s = record { limits = limits s; parts = parts s }

abbrev pub view_store : {S : Type 0} → (S → Limits) → (S → Parts) → Option S → Option StoreValue
view_store limits parts None = None
view_store limits parts (Some s) = Some (store_by limits parts s)

-- no part of the store had a segment after this moment
abbrev pub IsInTime : {S : Type 0} → (S → Parts) → ℕ → Option S → Type 0
IsInTime parts now None = ⊤
IsInTime parts now (Some s) = NoneAfter now (parts s)

-- the offer of a segment
abbrev pub piece_offer : Piece → SegmentOffer
piece_offer p = offer p.key p.offset p.more p.slice.now
