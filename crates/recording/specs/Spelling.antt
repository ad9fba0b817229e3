-- What the bytes of a recording are: files as they are written. The laws of this crate join it to what is read.
use Rattle.std.specs.Prelude.{◌≡◌, ◌≢◌, ◌⊎◌, ℕ, ◌+◌, ◌*◌, ◌%◌, ◌^◌, ◌<◌, ◌≤◌, if◌then◌else◌, List, [], ◌∷◌, ◌++◌, map, length, take, slice_index, Option, Some, None, Ok, Err}
use Rattle.std.specs.Int.{w32, to_be_bytes, to_le_bytes}
use Rattle.std.specs.List.{flat_map, AllByRecursion}
use Rattle.recording.specs.declared.error.RecordingError.{RecordingError}
use Rattle.recording.specs.declared.number.ByteOrder.{ByteOrder}
use Rattle.recording.specs.declared.number.ByteOrder.TheVariants.{Big, Little}
use Rattle.recording.specs.declared.classic.Classic.{Classic}
use Rattle.recording.specs.declared.interface.Interface.{Interface}
use Rattle.recording.specs.Times.{classic_time}
use Rattle.recording.specs.Captured.{RecordValue}
use Rattle.recording.specs.Classic.{packet_fault}
use Rattle.recording.specs.Blocks.{BlockValue, kind_of, block_fault}
use Rattle.recording.specs.Sections.{meaning_of, interfaces_after}
use Rattle.recording.specs.Records.{Item, items_after}

-- the four bytes of a number
abbrev pub bytes32 : ByteOrder → ℕ → List ℕ
bytes32 Big n = to_be_bytes w32 n
bytes32 Little n = to_le_bytes w32 n

-- the fault that ends a file, if there is one, as an item
abbrev pub ending : Option RecordingError → List Item
ending None = []
ending (Some fault) = Err fault ∷ []

-- ---- classic pcap

-- a packet: when it was recorded, how many bytes it had, and those that were captured
pub record PacketValue : Type 0 where
  pub seconds : ℕ
  pub fraction : ℕ
  pub original : ℕ
  pub bytes : List ℕ

-- its numbers fit their fields
pub record PacketFits (k : PacketValue) : Type 0 where
  pub seconds : k.seconds < 2 ^ 32
  pub fraction : k.fraction < 2 ^ 32
  pub captured : length k.bytes < 2 ^ 32
  pub original : k.original < 2 ^ 32

-- its bytes
abbrev pub packet_bytes : ByteOrder → PacketValue → List ℕ
packet_bytes order k =
    bytes32 order k.seconds ++ (bytes32 order k.fraction ++ (bytes32 order (length k.bytes) ++ (bytes32 order k.original ++ k.bytes)))

-- the bytes of a header: the magic number, 16 bytes that are not looked at, and the link type, above which its number
-- has something else
abbrev pub header_bytes : Classic → List ℕ → ℕ → List ℕ
header_bytes c free upper =
    bytes32 c.order (if c.micro then 0xa1b2c3d4 else 0xa1b23c4d) ++ (free ++ bytes32 c.order (upper * 0x10000 + c.link))

-- what a packet gives
abbrev pub given_by : Classic → PacketValue → RecordValue
given_by c k = record {
  time = Some (classic_time (if c.micro then 1000 else 1) k.seconds k.fraction);
  interface = 0;
  link = c.link;
  original = k.original;
  bytes = k.bytes;
}

-- how the rest after the last packet, at place p, ends the file: nothing is left, or no whole packet
abbrev pub EndsAt : Classic → ℕ → List ℕ → Option RecordingError → Type 0
EndsAt c p rest None = rest ≡ []
EndsAt c p rest (Some fault) = (rest ≢ []) × (packet_fault c p rest ≡ Some fault)

-- the file is these packets under a header, and this end
pub record IsClassic (c : Classic) (packets : List PacketValue) (end : Option RecordingError) (file : List ℕ) : Type 0 where
  pub free : List ℕ
  pub upper : ℕ
  pub rest : List ℕ
  pub is : file ≡ header_bytes c free upper ++ (flat_map (packet_bytes c.order) packets ++ rest)
  pub free_len : length free ≡ 16
  pub upper_fits : upper < 2 ^ 16
  pub link_fits : c.link < 2 ^ 16
  pub packets_fit : AllByRecursion PacketFits packets
  pub ends : EndsAt c (24 + length (flat_map (packet_bytes c.order) packets)) rest end

-- the records of the packets, and the fault that ends the file, if there is one
abbrev pub classic_list : Classic → List PacketValue → Option RecordingError → List Item
classic_list c packets end = map (λ k. Ok (given_by c k)) packets ++ ending end

-- ---- pcapng

-- a block: the head of a section in this order, with what its body has after the byte-order magic; or one of another
-- type with its body, in the order of its section
pub data SpelledBlock : Type 0 where
  head : ByteOrder → List ℕ → SpelledBlock
  plain : ℕ → List ℕ → SpelledBlock

-- the order of a block's numbers, after blocks of this order
abbrev pub order_by : ByteOrder → SpelledBlock → ByteOrder
order_by order (head own rest) = own
order_by order (plain number body) = order

abbrev pub number_by : SpelledBlock → ℕ
number_by (head own rest) = 0x0a0d0d0a
number_by (plain number body) = number

abbrev pub body_by : SpelledBlock → List ℕ
body_by (head own rest) = bytes32 own 0x1a2b3c4d ++ rest
body_by (plain number body) = body

-- the type, the total length, the body, the total length
abbrev pub framed : ByteOrder → ℕ → List ℕ → List ℕ
framed order number body =
    bytes32 order number ++ (bytes32 order (12 + length body) ++ (body ++ bytes32 order (12 + length body)))

abbrev pub block_bytes : ByteOrder → SpelledBlock → List ℕ
block_bytes order b = framed (order_by order b) (number_by b) (body_by b)

-- the type of the head of a section is that of no other block
abbrev pub IsTold : SpelledBlock → Type 0
IsTold (head own rest) = Unit {0}
IsTold (plain number body) = number ≢ 0x0a0d0d0a

-- the body has whole groups of 4 bytes, and the numbers fit their fields
pub record BlockFits (b : SpelledBlock) : Type 0 where
  pub number : number_by b < 2 ^ 32
  pub len : 12 + length (body_by b) < 2 ^ 32
  pub padded : length (body_by b) % 4 ≡ 0
  pub told : IsTold b

-- the block as it is read
abbrev pub value_by : ByteOrder → SpelledBlock → BlockValue
value_by order b = record { kind = kind_of (number_by b); order = order_by order b; body = body_by b }

-- the bytes of blocks, one after the other
abbrev pub blocks_bytes : ByteOrder → List SpelledBlock → List ℕ
blocks_bytes order [] = []
blocks_bytes order (b ∷ blocks) = block_bytes order b ++ blocks_bytes (order_by order b) blocks

-- the order after blocks
abbrev pub last_order : ByteOrder → List SpelledBlock → ByteOrder
last_order order [] = order
last_order order (b ∷ blocks) = last_order (order_by order b) blocks

-- how the rest after the last block, at place p, ends the file: nothing is left, or no whole block
abbrev pub BlocksEndAt : ByteOrder → ℕ → List ℕ → Option RecordingError → Type 0
BlocksEndAt order p rest None = rest ≡ []
BlocksEndAt order p rest (Some fault) = (rest ≢ []) × (block_fault order p rest ≡ Some fault)

-- the file is these blocks, the first of which is the head of a section, and this end. The order that is not said
-- before the first is not looked at.
pub record IsBlocks (blocks : List SpelledBlock) (end : Option RecordingError) (file : List ℕ) : Type 0 where
  pub rest : List ℕ
  pub is : file ≡ blocks_bytes Big blocks ++ rest
  pub begins : take 4 file ≡ 0x0a ∷ 0x0d ∷ 0x0d ∷ 0x0a ∷ []
  pub long : 12 ≤ length file
  pub blocks_fit : AllByRecursion BlockFits blocks
  pub ends : BlocksEndAt (last_order Big blocks) (length (blocks_bytes Big blocks)) rest end

-- what blocks from place p of the file on say, one after the other, in a section with these interfaces: their records
-- up to the first fault, and then the fault that ends the file, if there is one
abbrev pub blocks_list : ByteOrder → List Interface → ℕ → List SpelledBlock → Option RecordingError → List Item
blocks_list order interfaces p [] end = ending end
blocks_list order interfaces p (b ∷ blocks) end =
    items_after (meaning_of interfaces p (value_by order b))
    (blocks_list (order_by order b) (interfaces_after interfaces (value_by order b)) (p + length (block_bytes order b)) blocks end)

-- ---- a recording

-- every element is a byte
abbrev pub IsBytes : List ℕ → Type 0
IsBytes bytes = (i : ℕ) → slice_index bytes i < 256

-- the file is a recording that holds these items: of the packets of classic pcap, or of the blocks of pcapng
abbrev pub IsRecording : List Item → List ℕ → Type 0
IsRecording items file =
    ((c : Classic) × (packets : List PacketValue) × (end : Option RecordingError) × IsClassic c packets end file × (items ≡ classic_list c packets end))
    ⊎ ((blocks : List SpelledBlock) × (end : Option RecordingError) × IsBlocks blocks end file × (items ≡ blocks_list Big [] 0 blocks end))
