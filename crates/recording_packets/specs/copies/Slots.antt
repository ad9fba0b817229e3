-- The turns of packets, in the slots of their digests and among the others.
use Rattle.std.specs.Prelude.{ℕ, ◌-◌, ◌/◌, ◌%◌, ◌^◌, nat_le, nat_lt, Bool, false, ◌&&◌, ◌==◌, if◌then◌else◌, List, [], ◌∷◌, Option, None, Some, slice_index_or}
use Rattle.std.specs.Option.{option_or}
use Rattle.std.specs.BTreeMap as tree
use Rattle.std.specs.Cmp.Lexicographic.{slice_cmp}
use Rattle.std.specs.Ordering.{nat_cmp, ordering_then}
use Rattle.std.specs.declared.cmp.Ordering.{Ordering}
use Rattle.recording_packets.specs.copies.Remembered.{is_same}
use Rattle.recording_packets.specs.copies.Owned.{packet_of}
use Rattle.recording_packets.specs.declared.copies.owned.OwnedPacket.{OwnedPacket}
use Rattle.recording_packets.specs.declared.copies.owned.SharedPacket.{SharedPacket}
use Rattle.recording_packets.specs.declared.copies.turns.Place.{Place}
use Rattle.recording_packets.specs.declared.copies.turns.Turns.{Turns}
use Rattle.recording_packets.specs.declared.copies.turns.TheConstants.{FIRST_SHIFT, LEAST_SHIFT, SLOTS_PER_PACKET}

-- the order of packets: field by field, those first in which two mostly differ
abbrev pub packet_cmp : OwnedPacket → OwnedPacket → Ordering
packet_cmp a b =
    ordering_then (nat_cmp a.identification b.identification)
    (ordering_then (nat_cmp a.fragment b.fragment)
    (ordering_then (nat_cmp a.protocol b.protocol)
    (ordering_then (slice_cmp nat_cmp a.payload.items b.payload.items)
    (ordering_then (slice_cmp nat_cmp a.source b.source) (slice_cmp nat_cmp a.destination b.destination)))))

-- the same, with the marks before the fields
abbrev pub shared_cmp : SharedPacket → SharedPacket → Ordering
shared_cmp a b = ordering_then (nat_cmp a.mark b.mark) (packet_cmp a.owned.value b.owned.value)

-- the slot of a packet: its mark without so many of the lower bits
abbrev pub slot_of : ℕ → SharedPacket → ℕ
slot_of shift packet = packet.mark / 2 ^ (shift % 64)

-- what stands in the slot of a packet
abbrev pub place_in : Turns → SharedPacket → Option Place
place_in turns packet = slice_index_or turns.slots.items (slot_of turns.shift packet) None

-- the turn of a packet by what stands in its slot
abbrev pub turn_at : Option Place → SharedPacket → Option ℕ
turn_at None packet = None
turn_at (Some place) packet =
    if is_same (packet_of place.packet.owned.value) (packet_of packet.owned.value) then Some place.turn else None

-- the turn of a packet: in its slot, else among the others
abbrev pub turn_in : Turns → SharedPacket → Option ℕ
turn_in turns packet = option_or (turn_at (place_in turns packet) packet) (tree.get shared_cmp turns.others packet)

-- a packet with this mark stands in a slot at this turn
abbrev pub is_place : ℕ → ℕ → Option Place → Bool
is_place mark turn None = false
is_place mark turn (Some place) = place.packet.mark == mark && place.turn == turn

-- what stands in a slot, at another turn
abbrev pub with_turn : ℕ → Option Place → Option Place
with_turn turn None = None
with_turn turn (Some place) = Some (record place { turn = turn })

-- there are few slots for so many packets, and not yet the most
abbrev pub is_crowded : ℕ → ℕ → Bool
is_crowded shift packets =
    nat_lt LEAST_SHIFT shift && nat_le shift FIRST_SHIFT
    && nat_lt ((2 ^ 64 - 1) / 2 ^ (shift % 64) / SLOTS_PER_PACKET) packets

-- where there are two slots for one, what stands in it stands in the second
abbrev pub is_second : ℕ → Option Place → Bool
is_second shift None = false
is_second shift (Some place) = slot_of shift place.packet % 2 == 1

-- the two slots for one
abbrev pub halves : ℕ → Option Place → List (Option Place)
halves shift place = if is_second shift place then None ∷ place ∷ [] else place ∷ None ∷ []
