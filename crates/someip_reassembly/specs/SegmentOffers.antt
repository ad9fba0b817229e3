-- What an offered segment is judged to be, and the parts after it (SOME/IP Protocol, "SOME/IP-TP", reassembly; the
-- steps and their order are our own).
use Rattle.std.specs.Prelude.{ℕ, ◌+◌, ◌%◌, Bool, false, not, ◌&&◌, ◌||◌, ◌==◌, nat_lt, nat_le, if◌then◌else◌, List, [], ◌∷◌, map, length, Option, Some, None, is_some, is_none, unwrap_or, option_and_then, Result, Ok, Err}
use Rattle.std.specs.List.{list_any, list_all, range_with_len}
use Rattle.std.specs.Ordering.{nat_cmp}
use Rattle.std.specs.FinMap.{FinMap, get, insert, remove, contains_key, keys, len, empty}
use Rattle.someip_reassembly.specs.declared.key.ReassemblyKey.{ReassemblyKey}
use Rattle.someip_reassembly.specs.declared.reassembly.Offered.{Offered}
use Rattle.someip_reassembly.specs.declared.reassembly.Offered.TheVariants.{Part as InPart, Whole}
use Rattle.someip_reassembly.specs.declared.error.TpError.{TpError}
use Rattle.someip_reassembly.specs.declared.error.TpError.TheVariants.{Unaligned, TooLong, Conflict, NoSlot}
use Rattle.someip_reassembly.specs.Parts.{Limits, Part, Parts, parts_at}

-- a segment that is offered: the key of its message, its offset in bytes, More Segments, and its slice
pub record SegmentOffer : Type 0 where
  pub key : ReassemblyKey
  pub offset : ℕ
  pub more : Bool
  pub bytes : List ℕ

abbrev pub offer : ReassemblyKey → ℕ → Bool → List ℕ → SegmentOffer
offer key offset more bytes = record { key = key; offset = offset; more = more; bytes = bytes }

-- the bytes of a slice at their places
abbrev pub placed : ℕ → List ℕ → List (ℕ × ℕ)
placed offset [] = []
placed offset (b ∷ bs) = (offset, b) ∷ placed (offset + 1) bs

-- the bytes with more of them
abbrev pub added : FinMap nat_cmp ℕ → List (ℕ × ℕ) → FinMap nat_cmp ℕ
added bytes [] = bytes
added bytes (e ∷ es) = added (insert bytes e.0 e.1) es

-- the total that a segment tells, which only the last one does
abbrev pub total_of : SegmentOffer → Option ℕ
total_of o = if o.more then None else Some (o.offset + length o.bytes)

-- both are known, and differ
abbrev pub differ : Option ℕ → Option ℕ → Bool
differ (Some a) (Some b) = not (a == b)
differ (Some a) None = false
differ None b = false

-- one of these places is at or past the total, if that is known
abbrev pub passes : Option ℕ → List ℕ → Bool
passes (Some total) places = list_any (nat_le total) places
passes None places = false

-- a segment contradicts a part: another byte is held at a place of its slice, or a place of its slice is at or past
-- the known total, or it tells another total, or one at or below a held place
abbrev pub conflicts : Part → SegmentOffer → Bool
conflicts part o =
    list_any (λ e. differ (get part.bytes e.0) (Some e.1)) (placed o.offset o.bytes)
    || passes part.total (map (λ e. e.0) (placed o.offset o.bytes))
    || differ part.total (total_of o)
    || passes (total_of o) (keys part.bytes)

-- a part of which nothing has come
abbrev pub no_part : Part
no_part = record { bytes = empty; total = None; last = 0 }

-- what has come under a key
abbrev pub part_under : Parts → ReassemblyKey → Part
part_under parts key = unwrap_or (get parts key) no_part

-- the part with the bytes of a segment more, its total where it tells one, accepted at this moment
abbrev pub with_offer : Part → ℕ → SegmentOffer → Part
with_offer part now o =
    record {
      bytes = added part.bytes (placed o.offset o.bytes);
      total = if o.more then part.total else total_of o;
      last = now;
    }

-- the places of these bytes are exactly those below the total
abbrev pub are_exactly_below : ℕ → FinMap nat_cmp ℕ → Bool
are_exactly_below total bytes =
    list_all (contains_key bytes) (range_with_len 0 total) && not (list_any (nat_le total) (keys bytes))

-- the message of a whole part: its places are exactly those below its total
abbrev pub message_of : Part → Option (List ℕ)
message_of part =
    option_and_then
    (λ total. if are_exactly_below total part.bytes then Some (map (λ place. unwrap_or (get part.bytes place) 0) (range_with_len 0 total)) else None)
    part.total

-- what an accepted segment made of its message
abbrev pub part_or_whole : Part → Offered
part_or_whole part = if is_some (message_of part) then Whole else InPart

-- a slice that is not the last one has a length that is no multiple of 16
abbrev pub is_unaligned : SegmentOffer → Bool
is_unaligned o = o.more && not (length o.bytes % 16 == 0)

-- a segment goes past the message limit
abbrev pub is_too_long : ℕ → SegmentOffer → Bool
is_too_long limit o = nat_lt limit (o.offset + length o.bytes)

-- what a segment of fit length is judged to be among the parts that are left
abbrev pub judged_among : ℕ → ℕ → SegmentOffer → Parts → Result Offered TpError
judged_among slots now o parts =
    if is_none (get parts o.key) && nat_le slots (len parts) then Err NoSlot
    else (if conflicts (part_under parts o.key) o then Err Conflict
    else Ok (part_or_whole (with_offer (part_under parts o.key) now o)))

-- what a segment is judged to be among the parts that are left
abbrev pub judged : Limits → ℕ → SegmentOffer → Parts → Result Offered TpError
judged limits now o parts =
    if is_unaligned o then Err Unaligned
    else (if is_too_long limits.limit o then Err TooLong
    else judged_among limits.slots now o parts)

-- the parts after that judgement: an accepted segment is in its part, a conflict ends the part, and the other refusals
-- leave all parts
abbrev pub kept : Result Offered TpError → ℕ → SegmentOffer → Parts → Parts
kept (Ok offered) now o parts = insert parts o.key (with_offer (part_under parts o.key) now o)
kept (Err Conflict) now o parts = remove parts o.key
kept (Err refusal) now o parts = parts

-- what a segment is judged to be at a moment: first the parts go whose time is over
unfoldable pub judgement : Limits → ℕ → SegmentOffer → Parts → Result Offered TpError
judgement limits now o parts = judged limits now o (parts_at limits now parts)

-- the parts after a segment was offered
unfoldable pub parts_after : Limits → ℕ → SegmentOffer → Parts → Parts
parts_after limits now o parts =
    let left = parts_at limits now parts in kept (judged limits now o left) now o left

-- the whole message under a key, if there is one
unfoldable pub message_at : Parts → ReassemblyKey → Option (List ℕ)
message_at parts key = option_and_then message_of (get parts key)

-- the parts after the message under a key was taken, if it is whole
unfoldable pub parts_less : Parts → ReassemblyKey → Parts
parts_less parts key = if is_some (message_at parts key) then remove parts key else parts
