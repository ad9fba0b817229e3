-- One packet or block, as a reader holds it.
use Rattle.std.specs.Prelude.{ℕ, ◌<◌, ◌≤◌, Bool, nat_lt, not, ◌&&◌, if◌then◌else◌, List, length, is_none, Ok, Err}
use Rattle.recording.specs.declared.error.RecordingError.TheVariants.{BlockTooLong, TooManyInterfaces}
use Rattle.recording.specs.declared.format.Format.{Format}
use Rattle.recording.specs.declared.format.Format.TheVariants.{Classic, Blocks}
use Rattle.recording.specs.declared.interface.Interface.{Interface}
use Rattle.recording.specs.Blocks.{head_fault}
use Rattle.recording.specs.Sections.{Meaning}
use Rattle.recording.specs.Records.{part_len, part_meaning, section_after}

-- the most bytes of a packet or block, with its header, that are held, and the most interfaces of a section
abbrev pub held_limit : ℕ
held_limit = 16777216

abbrev pub interface_limit : ℕ
interface_limit = 65536

-- ---- what is meant

-- how many bytes its head has, which tells its length
abbrev pub head_len : Format → ℕ
head_len (Classic c) = 16
head_len (Blocks order) = 12

-- its head is there and tells a length: that of a block has no fault, at whatever place
abbrev pub tells_len : Format → List ℕ → Bool
tells_len (Classic c) bytes = not (nat_lt (length bytes) 16)
tells_len (Blocks order) bytes = is_none (head_fault order 0 bytes)

-- its head tells a length that is not held
abbrev pub is_too_long : Format → List ℕ → Bool
is_too_long format bytes = tells_len format bytes && nat_lt held_limit (part_len format bytes)

-- what is meant, unless the section then has more interfaces than are held
abbrev pub with_interfaces : ℕ → List Interface → Meaning → Meaning
with_interfaces p interfaces (Err fault) = Err fault
with_interfaces p interfaces (Ok given) = if nat_lt interface_limit (length interfaces) then Err (TooManyInterfaces p) else Ok given

-- what the bytes from place p of the file on begin with, as `part_meaning`, but for what is not held
abbrev pub held_meaning : Format → List Interface → ℕ → List ℕ → Meaning
held_meaning format interfaces p bytes =
    if is_too_long format bytes then Err (BlockTooLong p)
    else with_interfaces p (section_after format interfaces bytes) (part_meaning format interfaces p bytes)

-- ---- how many bytes tell it

-- how many bytes have to be held before the next item is told: those of the head, and then all that it says
abbrev pub wanted : Format → List ℕ → ℕ
wanted format bytes = if tells_len format bytes then part_len format bytes else head_len format

-- fewer bytes are held than are wanted, and as many as are wanted can be held
abbrev pub LacksBytes : List ℕ → ℕ → Type 0
LacksBytes held wanted = (length held < wanted) × (wanted ≤ held_limit)
