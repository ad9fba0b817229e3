-- Files of packets: what is written of packets, one after the other, and what is read of that.
use Rattle.std.specs.Prelude.{ℕ, ◌<◌, ◌^◌, if◌then◌else◌, List, [], ◌∷◌, ◌++◌, map, nat_eq, Option, Some, None, Ok}
use Rattle.std.specs.List.{AllByRecursion, IsDistinct}
use Rattle.recording.specs.declared.number.ByteOrder.TheVariants.{Big}
use Rattle.recording.specs.declared.time.Time.{Time}
use Rattle.recording.specs.Times.{time_of}
use Rattle.recording.specs.Captured.{RecordValue}
use Rattle.recording.specs.Records.{Item}
use Rattle.recording.specs.Spelling.{SpelledBlock, blocks_bytes}
use Rattle.recording_writing.specs.Blocks.{section_block, number_of, file_ticks, is_simple, is_too_long, blocks_for, links_after}

-- ---- what is written

-- the blocks of packets, where these link types have interfaces so far
abbrev pub packets_blocks : List ℕ → List RecordValue → List SpelledBlock
packets_blocks links [] = []
packets_blocks links (k ∷ ks) = blocks_for links k ++ packets_blocks (links_after links k) ks

-- the link types with an interface after packets
abbrev pub links_of : List ℕ → List RecordValue → List ℕ
links_of links [] = links
links_of links (k ∷ ks) = links_of (links_after links k) ks

-- the file of packets: the head of its one section, and the blocks of each
abbrev pub file_blocks : List RecordValue → List SpelledBlock
file_blocks ks = section_block ∷ packets_blocks [] ks

abbrev pub file_of : List RecordValue → List ℕ
file_of ks = blocks_bytes Big (file_blocks ks)

-- ---- what is read

-- the time that is read: none of a simple packet
abbrev pub time_read : ℕ → RecordValue → Option Time
time_read number k = if is_simple number k then None else Some (time_of (file_ticks k.time))

-- the packet as it is read: with its interface, and the time that the file says
abbrev pub packet_read : ℕ → RecordValue → RecordValue
packet_read number k = record k { time = time_read number k; interface = number }

-- the packets as they are read, without those that are too long, each of the interface of its link type
abbrev pub packets_read : List ℕ → List RecordValue → List RecordValue
packets_read links [] = []
packets_read links (k ∷ ks) =
    (if is_too_long (number_of links k.link) k then [] else packet_read (number_of links k.link) k ∷ [])
    ++ packets_read (links_after links k) ks

-- the items of their recording
abbrev pub items_read : List RecordValue → List Item
items_read ks = map (λ k. Ok k) (packets_read [] ks)

-- ---- of which packets

-- the numbers of a packet fit their fields
pub record IsPacket (k : RecordValue) : Type 0 where
  pub link : k.link < 2 ^ 16
  pub original : k.original < 2 ^ 32

-- link types, each of which stands there once
pub record AreLinkTypes (links : List ℕ) : Type 0 where
  pub fit : AllByRecursion (λ l. l < 2 ^ 16) links
  pub apart : IsDistinct nat_eq links
