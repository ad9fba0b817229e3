-- A book of segments, and what a message makes of it (SOME/IP Protocol, "SOME/IP-TP", reassembly).
use Rattle.std.specs.Prelude.{◌≡◌, ℕ, ◌+◌, nat_lt, Bool, true, not, if◌then◌else◌, List, Option, None, Some, option_map, is_ok, Result, Ok, Err, refl}
use Rattle.std.specs.Coded.{Coded, code_by, coded×, coded_ℕ}
use Rattle.std.specs.FinMap as finite
use Rattle.std.specs.declared.cmp.Ordering.{Ordering}
use Rattle.std.specs.declared.net.socket_addr.SocketAddrV4.{SocketAddrV4}
use Rattle.someip_wire.specs.declared.header.Header.{Header}
use Rattle.someip_wire.specs.Kinds.{has_tp_flag, without_tp_flag}
use Rattle.someip_wire.specs.Spelling.{MessageValue}
use Rattle.someip_tables.specs.declared.hashed.origin.Numbers.{Numbers}
use Rattle.someip_tables.specs.hashed.Origins.{coded_numbers}
use Rattle.someip_reassembly.specs.declared.error.TpError.{TpError}
use Rattle.someip_reassembly.specs.declared.error.TpError.TheVariants.{Conflict}
use Rattle.someip_reassembly.specs.TpHeader.{segment_in}
use Rattle.someip_reassembly.specs.declared.key.ReassemblyKey.{ReassemblyKey}
use Rattle.someip_reassembly.specs.declared.reassembly.Offered.{Offered}
use Rattle.someip_reassembly.specs.declared.reassembly.Offered.TheVariants.{Part, Whole}
use Rattle.someip_reassembly.specs.Keys.{segment_key, coded_key}
use Rattle.someip_reassembly.specs.Parts.{Limits, Part as PartValue, Parts, coded_limits, coded_parts}
use Rattle.someip_reassembly.specs.SegmentOffers.{SegmentOffer, offer, judgement, parts_after, message_at, parts_less}
use Rattle.someip_tables.specs.hashed.Dues.{due_cmp}
use Rattle.audit_traffic.specs.declared.segments.key.MessageKey.{MessageKey}
use Rattle.audit_traffic.specs.declared.segments.told.Missing.{Missing}
use Rattle.audit_traffic.specs.declared.segments.told.SegmentTold.{SegmentTold}
use Rattle.audit_traffic.specs.declared.segments.told.SegmentTold.TheVariants as told
use Rattle.audit_traffic.specs.declared.segments.waiting.Waiting.{Waiting}
use Rattle.audit_traffic.specs.segments.MessageKeys.{message_key, message_cmp}
use Rattle.audit_traffic.specs.segments.SegmentWaits.{WaitTable}

-- the limits of the store, the latest moment, the messages that have come in part, and the timeouts of these
pub record Book : Type 0 where
  pub limits : Limits
  pub latest : ℕ
  pub parts : Parts
  pub waiting : WaitTable

-- a book at a moment without parts
abbrev pub empty_book : Limits → ℕ → Book
empty_book limits now = record { limits = limits; latest = now; parts = finite.empty; waiting = finite.empty }

-- ---- the segment that a message is

-- the segment that this payload says, if it has room for the TP header
abbrev pub offer_in : ReassemblyKey → Result (ℕ × Bool × List ℕ) TpError → Option SegmentOffer
offer_in key (Ok s) = Some (offer key s.0 s.1 s.2)
offer_in key (Err refusal) = None

-- the segment that a message from one endpoint to another is, if it is one
abbrev pub segment_of : SocketAddrV4 → SocketAddrV4 → MessageValue → Option SegmentOffer
segment_of from to message = if has_tp_flag message.header.kind then offer_in (segment_key from to message.header) (segment_in message.payload) else None

-- ---- what is told of it

-- the message of segments with this header, without the TP flag
abbrev pub whole_message : Header → List ℕ → MessageValue
whole_message h bytes = record { header = record h { kind = without_tp_flag h.kind }; payload = bytes }

-- what is told of a segment that is judged so, where this is whole under its key then: a whole message, or why it is refused
abbrev pub told_by : Header → Result Offered TpError → Option (List ℕ) → Option (Result MessageValue TpError)
told_by h (Ok Part) whole = None
told_by h (Ok Whole) whole = option_map (λ bytes. Ok (whole_message h bytes)) whole
told_by h (Err refusal) whole = Some (Err refusal)

abbrev pub told_of : Header → Option SegmentOffer → ℕ → Book → Option (Result MessageValue TpError)
told_of h None now book = None
told_of h (Some o) now book = told_by h (judgement book.limits now o book.parts) (message_at (parts_after book.limits now o book.parts) o.key)

-- what the program tells, where these are the bytes of the message that it took
abbrev pub view_told : SegmentTold → List ℕ → Option (Result MessageValue TpError)
view_told told.Nothing bytes = None
view_told (told.Whole h) bytes = Some (Ok (record { header = h; payload = bytes }))
view_told (told.Refused refusal) bytes = Some (Err refusal)

-- ---- the book then

-- the parts: a whole message is taken
abbrev pub parts_by : Result Offered TpError → ReassemblyKey → Parts → Parts
parts_by (Ok Part) key parts = parts
parts_by (Ok Whole) key parts = parts_less parts key
parts_by (Err refusal) key parts = parts

-- the numbers of the datagram that a message began with: an earlier one, while it waits, and else this
abbrev pub first_of : ℕ → Numbers → Option Waiting → Numbers
first_of now numbers None = numbers
first_of now numbers (Some waiting) = if nat_lt now waiting.until then waiting.numbers else numbers

-- the timeouts: an accepted segment begins that of its message anew, and a message that is whole, or that a conflict ends,
-- waits no more
abbrev pub waiting_by : Result Offered TpError → ℕ → ℕ → Numbers → ReassemblyKey → WaitTable → WaitTable
waiting_by (Ok Part) timeout now numbers key waiting =
    finite.insert waiting (message_key key) (record { numbers = first_of now numbers (finite.get waiting (message_key key)); until = now + timeout })
waiting_by (Ok Whole) timeout now numbers key waiting = finite.remove waiting (message_key key)
waiting_by (Err Conflict) timeout now numbers key waiting = finite.remove waiting (message_key key)
waiting_by (Err refusal) timeout now numbers key waiting = waiting

-- the book after a segment came in a datagram with these numbers
abbrev pub book_after : Option SegmentOffer → ℕ → Numbers → Book → Book
book_after None now numbers book = book
book_after (Some o) now numbers book =
    record {
      limits = book.limits;
      latest = now;
      parts = parts_by (judgement book.limits now o book.parts) o.key (parts_after book.limits now o book.parts);
      waiting = waiting_by (judgement book.limits now o book.parts) book.limits.timeout now numbers o.key book.waiting;
    }

-- a segment is accepted
abbrev pub is_accepted : Option SegmentOffer → ℕ → Book → Bool
is_accepted None now book = not true
is_accepted (Some o) now book = is_ok (judgement book.limits now o book.parts)

-- ---- what falls due

-- a message waits, and would be told so
abbrev pub IsWaiting : WaitTable → Missing → Type 0
IsWaiting waiting missing = finite.get waiting (message_key missing.key) ≡ Some (record { numbers = missing.numbers; until = missing.until })

-- by timeout, and then by key
abbrev pub missing_cmp : Missing → Missing → Ordering
missing_cmp a b = due_cmp message_cmp (record { at = a.until; key = message_key a.key }) (record { at = b.until; key = message_key b.key })

-- a message stands in part, and its timeout is as long after its last segment as it may stay so
abbrev pub IsInPart : Limits → Parts → Missing → Type 0
IsInPart limits parts missing = (part : PartValue) × (finite.get parts missing.key ≡ Some part) × (missing.until ≡ part.last + limits.timeout)

-- the timeouts once the next of these was told, or none
abbrev pub waiting_after_due : Option Missing → WaitTable → WaitTable
waiting_after_due None waiting = waiting
waiting_after_due (Some missing) waiting = finite.remove waiting (message_key missing.key)

-- and the book then
abbrev pub book_after_due : ℕ → Option Missing → Book → Book
book_after_due now told book = record book { latest = now; waiting = waiting_after_due told book.waiting }

-- ---- codes, by which a proof tells values apart

abbrev pub coded_waiting : Coded Waiting
coded_waiting = code_by (Numbers × ℕ) (coded× coded_numbers coded_ℕ) (λ w. (w.numbers, w.until)) (λ p. record { numbers = p.0; until = p.1 }) (λ _. refl)

abbrev pub coded_message_key : Coded MessageKey
coded_message_key = code_by ReassemblyKey coded_key (λ k. k.0) message_key (λ _. refl)

abbrev pub coded_book : Coded Book
coded_book =
    code_by ((Limits × ℕ) × (Parts × WaitTable)) (coded× (coded× coded_limits coded_ℕ) (coded× coded_parts (finite.code coded_message_key coded_waiting)))
    (λ b. ((b.limits, b.latest), (b.parts, b.waiting))) (λ p. record { limits = p.0.0; latest = p.0.1; parts = p.1.0; waiting = p.1.1 }) (λ _. refl)
