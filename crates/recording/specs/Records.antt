-- The records of a recording: those of its packets or blocks, one after the other, and the fault that ends them.
use Rattle.std.specs.Prelude.{◌≡◌, ℕ, zero, suc, ◌+◌, nat_lt, ◌==◌, if◌then◌else◌, List, [], ◌∷◌, length, drop, Option, Some, None, Result, Ok, Err}
use Rattle.recording.specs.declared.error.RecordingError.{RecordingError}
use Rattle.recording.specs.declared.error.RecordingError.TheVariants.{NotRecording}
use Rattle.recording.specs.declared.number.ByteOrder.TheVariants.{Big}
use Rattle.recording.specs.declared.classic.Classic as declared_classic
use Rattle.recording.specs.declared.format.Format.{Format}
use Rattle.recording.specs.declared.format.Format.TheVariants.{Classic, Blocks}
use Rattle.recording.specs.declared.interface.Interface.{Interface}
use Rattle.recording.specs.Numbers.{number32}
use Rattle.recording.specs.Captured.{RecordValue}
use Rattle.recording.specs.Classic.{classic_in, packet_len, packet_fault, packet_record}
use Rattle.recording.specs.Blocks.{block_len, block_fault, block_in, order_in}
use Rattle.recording.specs.Sections.{Meaning, IsDescription, meaning_of, interfaces_after}

-- a record, or the fault that ends the recording
abbrev pub Item : Type 0
Item = Result RecordValue RecordingError

-- ---- one packet or block: how long it is, what it says, and the format and the interfaces after it

-- how many bytes the packet or the block at the front has
abbrev pub part_len : Format → List ℕ → ℕ
part_len (Classic c) bytes = packet_len c bytes
part_len (Blocks order) bytes = block_len order bytes

-- the fault, if there is one, and else what is meant
abbrev pub or_fault : Option RecordingError → Meaning → Meaning
or_fault (Some fault) meaning = Err fault
or_fault None meaning = meaning

-- what the bytes from place p of the file on begin with
abbrev pub part_meaning : Format → List Interface → ℕ → List ℕ → Meaning
part_meaning (Classic c) interfaces p bytes = or_fault (packet_fault c p bytes) (Ok (Some (packet_record c bytes)))
part_meaning (Blocks order) interfaces p bytes = or_fault (block_fault order p bytes) (meaning_of interfaces p (block_in order bytes))

-- the format after the packet or the block at the front: the same, but for the order of numbers that the head of a
-- section tells
abbrev pub format_after : Format → List ℕ → Format
format_after (Classic c) bytes = Classic c
format_after (Blocks order) bytes = Blocks (order_in order bytes)

-- the interfaces after the packet or the block at the front: a packet of classic pcap changes none
abbrev pub section_after : Format → List Interface → List ℕ → List Interface
section_after (Classic c) interfaces bytes = interfaces
section_after (Blocks order) interfaces bytes = interfaces_after interfaces (block_in order bytes)

-- the bytes from place p of the file on begin with the description of an interface
abbrev pub DescribesInterface : Format → ℕ → List ℕ → Type 0
DescribesInterface (Classic c) p bytes = ⊥
DescribesInterface (Blocks order) p bytes = (block_fault order p bytes ≡ None) × IsDescription (block_in order bytes)

-- ---- all of them

-- a fault alone, or the record, if there is one, and the others after it
abbrev pub items_after : Meaning → List Item → List Item
items_after (Err fault) others = Err fault ∷ []
items_after (Ok None) others = others
items_after (Ok (Some r)) others = Ok r ∷ others

-- what is meant by the packet or the block at place p of a file, with which these bytes begin, behind these interfaces
abbrev pub PartMeaning : Type 0
PartMeaning = Format → List Interface → ℕ → List ℕ → Meaning

-- the items of n packets or blocks at most, by what is meant by each. Each has 12 bytes at least, so n steps are enough
-- for n bytes.
unfoldable pub items_within : PartMeaning → ℕ → Format → List Interface → ℕ → List ℕ → List Item
items_within means zero format interfaces p bytes = []
items_within means (suc n) format interfaces p [] = []
items_within means (suc n) format interfaces p (b ∷ bytes) =
    items_after (means format interfaces p (b ∷ bytes))
    (items_within means n (format_after format (b ∷ bytes)) (section_after format interfaces (b ∷ bytes))
    (p + part_len format (b ∷ bytes)) (drop (part_len format (b ∷ bytes)) (b ∷ bytes)))

-- the items of the bytes from place p of a file on
abbrev pub items_from : Format → List Interface → ℕ → List ℕ → List Item
items_from format interfaces p bytes = items_within part_meaning (length bytes) format interfaces p bytes

-- ---- the file

-- the format of classic pcap, whose packets begin at place 24, if the header is one
abbrev pub classic_format : Option declared_classic.Classic → Option (Format × ℕ)
classic_format None = None
classic_format (Some c) = Some (Classic c, 24)

-- the format of a file and the place of its first packet or block: of pcapng, if it begins with the head of a section,
-- or of classic pcap
abbrev pub format_of : List ℕ → Option (Format × ℕ)
format_of file =
    if nat_lt (length file) 12 then None
    else (if number32 Big file 0 == 0x0a0d0d0a then Some (Blocks Big, 0)
    else (if nat_lt (length file) 24 then None
    else classic_format (classic_in file)))

-- the items of a file after its start
abbrev pub items_behind : List ℕ → Option (Format × ℕ) → Result (List Item) RecordingError
items_behind file None = Err (NotRecording 0)
items_behind file (Some start) = Ok (items_from start.0 [] start.1 (drop start.1 file))

-- the items of a file: pcapng, if it begins with the head of a section, or classic pcap
abbrev pub items_of : List ℕ → Result (List Item) RecordingError
items_of file = items_behind file (format_of file)
