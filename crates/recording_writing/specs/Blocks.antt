-- The blocks in which packets are written: pcapng, the lowest byte of each number first.
use Rattle.std.specs.Prelude.{ℕ, suc, ◌+◌, ◌-◌, ◌*◌, ◌/◌, ◌%◌, ◌^◌, nat_lt, ◌==◌, ◌&&◌, ◌||◌, Bool, false, if◌then◌else◌, List, [], ◌∷◌, ◌++◌, length, replicate, Option, Some, None, is_none}
use Rattle.std.specs.List.{flat_map}
use Rattle.recording.specs.declared.number.ByteOrder.TheVariants.{Little}
use Rattle.recording.specs.declared.time.Time.{Time}
use Rattle.recording.specs.Captured.{RecordValue}
use Rattle.recording.specs.Held.{held_limit}
use Rattle.recording_writing.specs.declared.writer.Put.{Put}
use Rattle.recording_writing.specs.declared.writer.Put.TheVariants.{Exact, Untimed, TooLong}
use Rattle.recording.specs.Spelling.{SpelledBlock, head, plain, body_by, bytes32}

-- numbers of 32 bits, one after the other
abbrev pub numbers : List ℕ → List ℕ
numbers ns = flat_map (bytes32 Little) ns

-- the head of a section of version 1.0, whose length is not said
abbrev pub section_block : SpelledBlock
section_block = head Little (numbers (1 ∷ 0xffffffff ∷ 0xffffffff ∷ []))

-- the description of an interface: its link type, no limit of captured bytes, and the option `if_tsresol`, of one byte,
-- which says nanoseconds, before the end of options
abbrev pub interface_block : ℕ → SpelledBlock
interface_block link = plain 1 (numbers (link ∷ 0 ∷ 0x10009 ∷ 9 ∷ 0 ∷ []))

-- ---- which interface a packet has

-- the number of the interface of a link type, where these have interfaces so far: that of the first that is it, or else
-- the next number
abbrev pub number_of : List ℕ → ℕ → ℕ
number_of [] link = 0
number_of (l ∷ links) link = if link == l then 0 else suc (number_of links link)

-- the link type has no interface yet
abbrev pub is_new : List ℕ → ℕ → Bool
is_new links link = number_of links link == length links

-- the link types with an interface, and this one
abbrev pub links_with : List ℕ → ℕ → List ℕ
links_with links link = if is_new links link then links ++ link ∷ [] else links

-- ---- when it was recorded

-- the nanoseconds since 1970
abbrev pub ticks : Time → ℕ
ticks t = t.seconds * 1000000000 + t.nanoseconds

-- the file can say the time: there is one, and its nanoseconds fit 64 bits
abbrev pub has_ticks : Option Time → Bool
has_ticks None = false
has_ticks (Some t) = nat_lt (ticks t) (2 ^ 64)

-- the nanoseconds that it says: 0 where it cannot say the time
abbrev pub file_ticks : Option Time → ℕ
file_ticks None = 0
file_ticks (Some t) = if nat_lt (ticks t) (2 ^ 64) then ticks t else 0

-- ---- a packet

-- it needs no time, as a packet of the interface with this number: it has none, and it is of the first interface, and
-- was not cut, as a simple packet is
abbrev pub is_simple : ℕ → RecordValue → Bool
is_simple number k = is_none k.time && (number == 0 && k.original == length k.bytes)

-- the zeros that fill so many bytes up to whole groups of 4
abbrev pub padding : ℕ → List ℕ
padding n = replicate ((4 - n % 4) % 4) 0

-- a simple packet: how many bytes it had, and these
abbrev pub simple_block : RecordValue → SpelledBlock
simple_block k = plain 3 (numbers (k.original ∷ []) ++ (k.bytes ++ padding (length k.bytes)))

-- an enhanced packet of the interface with this number: the upper and the lower half of its nanoseconds, how many bytes
-- were captured, how many it had, and those that were captured
abbrev pub enhanced_block : ℕ → RecordValue → SpelledBlock
enhanced_block number k =
    plain 6 (numbers (number ∷ file_ticks k.time / 2 ^ 32 ∷ file_ticks k.time % 2 ^ 32 ∷ length k.bytes ∷ k.original ∷ [])
    ++ (k.bytes ++ padding (length k.bytes)))

-- the block of a packet of the interface with this number
abbrev pub packet_block : ℕ → RecordValue → SpelledBlock
packet_block number k = if is_simple number k then simple_block k else enhanced_block number k

-- its block would have more bytes than a reader holds
abbrev pub is_too_long : ℕ → RecordValue → Bool
is_too_long number k = nat_lt held_limit (12 + length (body_by (packet_block number k)))

-- what is told of it: left out, written as it is, or with the time 0, since the file cannot say its time
abbrev pub put_of : ℕ → RecordValue → Put
put_of number k =
    if is_too_long number k then TooLong
    else (if is_simple number k || has_ticks k.time then Exact
    else Untimed)

-- ---- what is written of a packet, where these link types have interfaces so far

-- the description of the interface of a link type that is new
abbrev pub description : List ℕ → ℕ → List SpelledBlock
description links link = if is_new links link then interface_block link ∷ [] else []

-- that of its interface, and its block; nothing of one that is too long
abbrev pub blocks_for : List ℕ → RecordValue → List SpelledBlock
blocks_for links k =
    if is_too_long (number_of links k.link) k then []
    else description links k.link ++ packet_block (number_of links k.link) k ∷ []

-- the link types with an interface after it, in the order of their descriptions
abbrev pub links_after : List ℕ → RecordValue → List ℕ
links_after links k = if is_too_long (number_of links k.link) k then links else links_with links k.link
