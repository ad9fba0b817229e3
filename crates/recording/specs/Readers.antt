-- A recording that is read as it comes: what is seen of a reader, and what each call does to it.
use Rattle.std.specs.Prelude.{◌≡◌, ⊤, ℕ, ◌+◌, ◌*◌, ◌<◌, ◌≤◌, Bool, true, false, List, [], ◌∷◌, ◌++◌, length, drop, Option, Some, None, Ok}
use Rattle.std.specs.Io.KnownBytes.{Consumes, IsAtEnd}
use Rattle.recording.specs.declared.format.Format.{Format}
use Rattle.recording.specs.declared.interface.Interface.{Interface}
use Rattle.recording.specs.declared.stage.Stage.{Stage}
use Rattle.recording.specs.declared.stage.Stage.TheVariants.{Head, Inside, Over}
use Rattle.recording.specs.declared.reader.Next.{Next}
use Rattle.recording.specs.declared.reader.Next.TheVariants.{Record, Unread, End}
use Rattle.recording.specs.Captured.{RecordValue}
use Rattle.recording.specs.Records.{Item, format_of, DescribesInterface}
use Rattle.recording.specs.Held.{held_limit, interface_limit, wanted, LacksBytes}
use Rattle.recording.specs.HeldItems.{held_from, held_behind}

-- how many bytes one call reads at most
abbrev pub read_limit : ℕ
read_limit = 65536

-- how many bytes of a recording are in memory at most: those that are held, as many that were taken, and one read
abbrev pub memory_limit : ℕ
memory_limit = 2 * held_limit + read_limit

-- ---- what is seen of it

-- what is seen of a reader: how far it is, the interfaces of its section, the place in the recording of the first byte
-- that is held and not taken yet, those bytes, how many that were taken stand before them in memory, whether those that
-- are held are the last, and the record that was taken last
pub record ReaderValue : Type 0 where
  pub stage : Stage
  pub interfaces : List Interface
  pub place : ℕ
  pub held : List ℕ
  pub taken : ℕ
  pub is_whole : Bool
  pub current : Option RecordValue

-- the items of the bytes from place p of a recording on
abbrev pub items_by : Stage → List Interface → ℕ → List ℕ → List Item
items_by Head interfaces p bytes = held_behind interfaces p bytes (format_of bytes)
items_by (Inside format) interfaces p bytes = held_from format interfaces p bytes
items_by Over interfaces p bytes = []

-- the items that are to come, where these bytes follow those that are held
abbrev pub to_come : ReaderValue → List ℕ → List Item
to_come r rest = items_by r.stage r.interfaces r.place (r.held ++ rest)

-- these bytes can follow those that are held, which are the last or not
abbrev pub CanFollow : Bool → List ℕ → Type 0
CanFollow true rest = rest ≡ []
CanFollow false rest = ⊤

-- memory ran out for the description of an interface, where these bytes from place p of a recording on are held, the
-- last or not, and this is left by those that follow them: the description stands among the bytes that are held, where
-- the same is left, and one more interface may be held
pub record LacksMemory (is_whole : Bool) (p : ℕ) (held : List ℕ) (left : List ℕ → List Item) : Type 0 where
  pub format : Format
  pub interfaces : List Interface
  pub len : ℕ
  pub describes : DescribesInterface format (p + len) (drop len held)
  pub fewer : length interfaces < interface_limit
  pub same : (rest : List ℕ) → CanFollow is_whole rest → left rest ≡ held_from format interfaces (p + len) (drop len held ++ rest)

-- the same reader where a packet or a block begins
abbrev pub inside : Format → ReaderValue → ReaderValue
inside format r = record r { stage = Inside format }

-- how many bytes a reader wants to hold before it tells the next item: at first the header of classic pcap
abbrev pub wanted_by : Stage → List ℕ → ℕ
wanted_by Head bytes = 24
wanted_by (Inside format) bytes = wanted format bytes
wanted_by Over bytes = 0

-- ---- what a call does to it

-- what comes next of a reader, as this is answered: a record, which has some bytes, and the others are to come; nothing
-- that is known yet, since too few bytes are held and others may follow, of which no more are wanted than can be held;
-- nothing. Only after a record the reader has one.
abbrev pub IsNext : ReaderValue → ReaderValue → Next → Type 0
IsNext before after Record =
    (r : RecordValue) × (after.current ≡ Some r) × (before.place < after.place)
    × ((rest : List ℕ) → CanFollow before.is_whole rest → to_come before rest ≡ Ok r ∷ to_come after rest)
IsNext before after Unread =
    (before.is_whole ≡ false) × LacksBytes after.held (wanted_by after.stage after.held)
    × ((rest : List ℕ) → to_come before rest ≡ to_come after rest) × (after.current ≡ None)
IsNext before after End =
    ((rest : List ℕ) → CanFollow before.is_whole rest → (to_come before rest ≡ []) × (to_come after rest ≡ []))
    × (after.current ≡ None)

-- what a read changed: its source had these bytes before those that remain of it, and they are held. At least one was
-- read, unless there is none, or as much is held as a packet or block may have: then none is read. Where one may be, no
-- more bytes that were taken stay in memory than were held.
pub record IsAfterRead (before after : ReaderValue) (were are : Option (List ℕ)) : Type 0 where
  pub bytes : List ℕ
  pub consumed : Consumes were are bytes
  pub is : after ≡ record before { held = before.held ++ bytes; taken = after.taken; is_whole = after.is_whole; current = None }
  pub whole : before.is_whole ≡ true → (after.is_whole ≡ true) × (bytes ≡ [])
  pub end : before.is_whole ≡ false → after.is_whole ≡ true → (bytes ≡ []) × IsAtEnd are
  pub more : after.is_whole ≡ false → bytes ≡ [] → held_limit ≤ length before.held
  pub most : length bytes ≤ read_limit
  pub full : held_limit ≤ length before.held → bytes ≡ []
  pub forgets : before.is_whole ≡ false → length before.held < held_limit → after.taken ≤ length before.held
