-- Classic pcap: the header of a file, and its packets.
use Rattle.std.specs.Prelude.{ℕ, ◌+◌, ◌%◌, Bool, true, false, nat_lt, ◌==◌, if◌then◌else◌, List, length, slice_range, Option, Some, None}
use Rattle.recording.specs.declared.error.RecordingError.{RecordingError}
use Rattle.recording.specs.declared.error.RecordingError.TheVariants.{Truncated}
use Rattle.recording.specs.declared.number.ByteOrder.{ByteOrder}
use Rattle.recording.specs.declared.number.ByteOrder.TheVariants.{Big, Little}
use Rattle.recording.specs.declared.classic.Classic.{Classic}
use Rattle.recording.specs.declared.time.Time.{Time}
use Rattle.recording.specs.Numbers.{number32}
use Rattle.recording.specs.Times.{classic_time}
use Rattle.recording.specs.Captured.{RecordValue}

-- the header of a file whose numbers stand in this order, with microseconds or nanoseconds. The link type is the lower
-- half of its number.
abbrev pub header_in : ByteOrder → Bool → List ℕ → Classic
header_in order micro file = record { order = order; micro = micro; link = number32 order file 20 % 0x10000 }

-- the header by the magic number: a1b2c3d4 or a1b23c4d, in either order
abbrev pub classic_in : List ℕ → Option Classic
classic_in file =
    if number32 Big file 0 == 0xa1b2c3d4 then Some (header_in Big true file)
    else (if number32 Big file 0 == 0xa1b23c4d then Some (header_in Big false file)
    else (if number32 Big file 0 == 0xd4c3b2a1 then Some (header_in Little true file)
    else (if number32 Big file 0 == 0x4d3cb2a1 then Some (header_in Little false file)
    else None)))

-- how many bytes the packet at the front has: seconds, fraction, captured and original length, captured bytes
abbrev pub packet_len : Classic → List ℕ → ℕ
packet_len c bytes = number32 c.order bytes 8 + 16

-- the fault of the packet at the front, at place p of the file
abbrev pub packet_fault : Classic → ℕ → List ℕ → Option RecordingError
packet_fault c p bytes =
    if nat_lt (length bytes) 16 then Some (Truncated p)
    else (if nat_lt (length bytes) (packet_len c bytes) then Some (Truncated p)
    else None)

-- the time of the packet at the front
abbrev pub packet_time : Classic → List ℕ → Time
packet_time c bytes = classic_time (if c.micro then 1000 else 1) (number32 c.order bytes 0) (number32 c.order bytes 4)

-- the packet at the front. Its file has one interface.
abbrev pub packet_record : Classic → List ℕ → RecordValue
packet_record c bytes = record {
  time = Some (packet_time c bytes);
  interface = 0;
  link = c.link;
  original = number32 c.order bytes 12;
  bytes = slice_range bytes 16 (packet_len c bytes);
}
