-- What the blocks of a pcapng section say.
use Rattle.std.specs.Prelude.{◌≡◌, ◌≤◌, ℕ, ◌+◌, ◌-◌, ◌*◌, min, nat_lt, ◌==◌, if◌then◌else◌, List, [], ◌∷◌, ◌++◌, length, slice_get, slice_range, Option, Some, None, Result, Ok, Err}
use Rattle.recording.specs.declared.error.RecordingError.{RecordingError}
use Rattle.recording.specs.declared.error.RecordingError.TheVariants.{BlockLength, UnknownInterface}
use Rattle.recording.specs.declared.block.BlockKind.{BlockKind}
use Rattle.recording.specs.declared.block.BlockKind.TheVariants as kinds
use Rattle.recording.specs.declared.block.BlockKind.TheVariants.{Section, OldPacket, SimplePacket, EnhancedPacket, Other}
use Rattle.recording.specs.declared.interface.Interface.{Interface}
use Rattle.recording.specs.declared.time.Time.{Time}
use Rattle.recording.specs.Numbers.{number16, number32}
use Rattle.recording.specs.Times.{tick_time}
use Rattle.recording.specs.Captured.{RecordValue}
use Rattle.recording.specs.Blocks.{BlockValue}
use Rattle.recording.specs.Interfaces.{interface_in}

-- the record in a block, if there is one, or the fault of the block
abbrev pub Meaning : Type 0
Meaning = Result (Option RecordValue) RecordingError

-- how many bytes the body has at least
abbrev pub least_body : BlockKind → ℕ
least_body Section = 16
least_body kinds.Interface = 8
least_body OldPacket = 20
least_body SimplePacket = 4
least_body EnhancedPacket = 20
least_body Other = 0

-- ---- packets with a time: drops or the interface's upper half, the ticks, captured and original length, the bytes

-- where the captured bytes end
abbrev pub captured_end : BlockValue → ℕ
captured_end b = 20 + number32 b.order b.body 12

-- the time: the upper half of the ticks stands first, in either order
abbrev pub block_time : Interface → BlockValue → Time
block_time i b =
    tick_time i.resolution i.offset (number32 b.order b.body 4 * 0x100000000 + number32 b.order b.body 8)

-- a packet with a time, of the interface with this number
abbrev pub timed_packet : BlockValue → ℕ → Interface → RecordValue
timed_packet b index i = record {
  time = Some (block_time i b);
  interface = index;
  link = i.link;
  original = number32 b.order b.body 16;
  bytes = slice_range b.body 20 (captured_end b);
}

-- the same, if the section has the interface
abbrev pub timed_of : ℕ → BlockValue → ℕ → Option Interface → Meaning
timed_of p b index None = Err (UnknownInterface p)
timed_of p b index (Some i) = Ok (Some (timed_packet b index i))

-- what a packet with a time says, of the interface of an index, unless its body is too short for the captured bytes
abbrev pub timed_record : List Interface → ℕ → BlockValue → ℕ → Meaning
timed_record interfaces p b index =
    if nat_lt (length b.body) (captured_end b) then Err (BlockLength p)
    else timed_of p b index (slice_get interfaces index)

-- ---- packets without a time: the original length, the bytes

-- how many bytes were captured: all, but at most what the interface has for a limit, where it has one, and at most what
-- the block holds
abbrev pub captured_len : ℕ → ℕ → ℕ → ℕ
captured_len snap original room = if snap == 0 then min original room else min (min original room) snap

-- a packet without a time, of the first interface
abbrev pub simple_packet : BlockValue → Interface → RecordValue
simple_packet b i = record {
  time = None;
  interface = 0;
  link = i.link;
  original = number32 b.order b.body 0;
  bytes = slice_range b.body 4 (4 + captured_len i.snap (number32 b.order b.body 0) (length b.body - 4));
}

-- the same, if the section has an interface
abbrev pub simple_of : ℕ → BlockValue → Option Interface → Meaning
simple_of p b None = Err (UnknownInterface p)
simple_of p b (Some i) = Ok (Some (simple_packet b i))

-- what a simple packet says: it has no time, and at most the snap length of the section's first interface, if that has
-- one
abbrev pub simple_record : List Interface → ℕ → BlockValue → Meaning
simple_record interfaces p b = simple_of p b (slice_get interfaces 0)

-- ---- the description of an interface

-- the block describes an interface, with as many bytes as it must have
abbrev pub IsDescription : BlockValue → Type 0
IsDescription b = (b.kind ≡ kinds.Interface) × (least_body kinds.Interface ≤ length b.body)

-- ---- all blocks

-- what a block of a kind, whose body has the bytes that it must have, says
abbrev pub meaning_by : BlockKind → List Interface → ℕ → BlockValue → Meaning
meaning_by Section interfaces p b = Ok None
meaning_by kinds.Interface interfaces p b = Ok None
meaning_by OldPacket interfaces p b = timed_record interfaces p b (number16 b.order b.body 0)
meaning_by SimplePacket interfaces p b = simple_record interfaces p b
meaning_by EnhancedPacket interfaces p b = timed_record interfaces p b (number32 b.order b.body 0)
meaning_by Other interfaces p b = Ok None

-- what a block at place p of the file says in a section with these interfaces
abbrev pub meaning_of : List Interface → ℕ → BlockValue → Meaning
meaning_of interfaces p b =
    if nat_lt (length b.body) (least_body b.kind) then Err (BlockLength p)
    else meaning_by b.kind interfaces p b

-- the interfaces of the section after a block of a kind
abbrev pub interfaces_by : BlockKind → List Interface → BlockValue → List Interface
interfaces_by Section interfaces b = []
interfaces_by kinds.Interface interfaces b = interfaces ++ interface_in b.order b.body ∷ []
interfaces_by OldPacket interfaces b = interfaces
interfaces_by SimplePacket interfaces b = interfaces
interfaces_by EnhancedPacket interfaces b = interfaces
interfaces_by Other interfaces b = interfaces

-- the interfaces of the section after a block: none after the head of a section, and one more after an interface
-- description
abbrev pub interfaces_after : List Interface → BlockValue → List Interface
interfaces_after interfaces b = interfaces_by b.kind interfaces b
