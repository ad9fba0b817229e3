-- The texts of which `recording` prints one of a recording.
use Rattle.std.specs.Prelude.{ℕ, ◌≡◌, ◌+◌, Bool, true, false, ◌==◌, ◌||◌, if◌then◌else◌, List, [], ◌∷◌, ◌++◌, codes, decimal, Option, Some, None, Result, Ok, Err}
use Rattle.std.specs.Option.{option_map}
use Rattle.std.specs.FinMap.{empty}
use Rattle.std.specs.Net.Text.{ipv4_text}
use Rattle.recording.specs.declared.Time.{Time}
use Rattle.recording.specs.declared.Endpoint.{Endpoint}
use Rattle.recording.specs.Packets.{DatagramValue}
use Rattle.recording_packets.specs.Intake.{ArrivalValue}
use Rattle.someip_wire.specs.declared.WireError.{WireError}
use Rattle.someip_wire.specs.Spelling.{MessageValue}
use Rattle.someip_wire.specs.Reading.{items_of}
use Rattle.someip_reassembly.specs.declared.TpError.{TpError}
use Rattle.someip_reassembly.specs.Names.{error_name}
use Rattle.someip_reassembly.specs.Parts.{Limits}
use Rattle.someipctl_io.specs.Items.{item_len}
use Rattle.someipctl_io.specs.declared.form.Form.{Form}
use Rattle.someipctl_io.specs.declared.form.Form.TheVariants.{Plain, Json}
use Rattle.someipctl_io.specs.Lines.{dropped_line, empty_line, whole_line}
use Rattle.someipctl_io.specs.Parts.{seconds_text}
use Rattle.someipctl_io.specs.ToldLines.{ToldField, line_text}
use Rattle.someipctl_io.specs.ToldItems.{dropped_told, empty_told, head_from}
use Rattle.someip_texts.specs.Words.{spaced}
use Rattle.someipctl_show.specs.types.Types.{TypesValue}
use Rattle.someipctl_show.specs.types.ValueLine.{IsValueLine, has_value_fault}
use Rattle.someipctl_show.specs.ShownForms.{AreWholeObjects, IsItemTextFrom}
use Rattle.someipctl_show.specs.ShownText.{shows_fault}
use Rattle.someipctl_show.specs.TextKinds.{Joined}
use Rattle.someipctl_recordings.specs.Moments.{moment_of}
use Rattle.someipctl_recordings.specs.Gathered.{StoreValue, told_of, store_after}
use Rattle.someipctl_recordings.specs.declared.asked.Heads.{Heads}
use Rattle.someipctl_recordings.specs.Asked.{AskedValue}
use Rattle.someipctl_recordings.specs.Origins.{origin_in}

-- ---- what stands before a line

-- a time in seconds, and `-` where there is none
abbrev pub time_text : Option Time → List ℕ
time_text None = codes "-"
time_text (Some t) = seconds_text t.seconds t.nanoseconds

abbrev pub endpoint_text : Endpoint → List ℕ
endpoint_text e = ipv4_text e.ip ++ codes ":" ++ decimal e.port

-- the time of a datagram, where it came from and where it went to, and a space after each
abbrev pub head_text : DatagramValue → List ℕ
head_text d = time_text d.time ++ (spaced (endpoint_text d.from ∷ endpoint_text d.to ∷ []) ++ codes " ")

-- the number of a packet, and a space after it
abbrev pub frame_text : ℕ → List ℕ
frame_text n = codes "#" ++ decimal n ++ codes " "

-- a text where it is asked for
abbrev pub text_if : Bool → List ℕ → List ℕ
text_if true text = text
text_if false text = []

-- nothing
abbrev pub no_heads : Heads
no_heads = record { frame = false; endpoints = false }

-- what stands before each line of a datagram
abbrev pub line_head : Heads → ArrivalValue → List ℕ
line_head heads a = text_if heads.frame (frame_text a.frame) ++ text_if heads.endpoints (head_text a.datagram)

-- the text with a head before each of its lines, which end at a line feed; whether one begins here
abbrev pub with_heads : List ℕ → Bool → List ℕ → List ℕ
with_heads head begins [] = []
with_heads head begins (b ∷ bytes) = (if begins then head else []) ++ b ∷ with_heads head (b == 0x0a) bytes

-- ---- a datagram

-- a datagram that is shown: the types of messages, the form of its lines, the fields that say where objects came from, its
-- number, its moment, and the datagram
pub record Scene : Type 0 where
  pub types : TypesValue
  pub form : Form
  pub origin : List ToldField
  pub k : ℕ
  pub now : ℕ
  pub datagram : DatagramValue

-- the lines of a whole message and of its value
abbrev pub IsWholeText : Form → List ToldField → TypesValue → ℕ → MessageValue → List ℕ → Type 0
IsWholeText Plain origin types k m text = (value : List ℕ) × IsValueLine types k 0 m value × (text ≡ whole_line k m ++ value)
IsWholeText Json origin types k m text = AreWholeObjects types (head_from origin k) m text

-- the line of a segment that is not put together
abbrev pub dropped_in : Form → List ToldField → ℕ → List ℕ → List ℕ
dropped_in Plain origin k name = dropped_line k name
dropped_in Json origin k name = line_text Json (head_from origin k) (dropped_told name)

-- the lines of what is told of a segment that is put together, with one of the value of a whole message
abbrev pub IsGatheredText : Scene → Option (Result MessageValue TpError) → List ℕ → Type 0
IsGatheredText c None text = text ≡ []
IsGatheredText c (Some (Ok m)) text = IsWholeText c.form c.origin c.types c.k m text
IsGatheredText c (Some (Err refusal)) text = text ≡ dropped_in c.form c.origin c.k (error_name refusal)

-- a fault is shown of the value of the whole message
abbrev pub gathers_fault : TypesValue → Option (Result MessageValue TpError) → Bool
gathers_fault types None = false
gathers_fault types (Some (Ok m)) = has_value_fault types m
gathers_fault types (Some (Err refusal)) = false

-- the lines of an item that begins at this place, where the store is this one before it
abbrev pub AreItemLines : Scene → Option StoreValue → ℕ → Result MessageValue WireError → List ℕ → Type 0
AreItemLines c store place item text =
    Joined (IsItemTextFrom c.form c.origin c.types c.k place item) (IsGatheredText c (told_of store c.now c.datagram item)) text

abbrev pub records_fault : Scene → Option StoreValue → Result MessageValue WireError → Bool
records_fault c store item = shows_fault c.types item || gathers_fault c.types (told_of store c.now c.datagram item)

-- those of the items of the datagram in order, the first of which begins at this place
abbrev pub AreLinesWith : Scene → Option StoreValue → ℕ → List (Result MessageValue WireError) → List ℕ → Type 0
AreLinesWith c store place [] text = text ≡ []
AreLinesWith c store place (item ∷ items) text =
    Joined (AreItemLines c store place item) (AreLinesWith c (store_after store c.now c.datagram item) (place + item_len item) items) text

abbrev pub has_fault_with : Scene → Option StoreValue → List (Result MessageValue WireError) → Bool
has_fault_with c store [] = false
has_fault_with c store (item ∷ items) = records_fault c store item || has_fault_with c (store_after store c.now c.datagram item) items

-- the store after the items of a datagram at a moment
abbrev pub store_after_all : Option StoreValue → ℕ → DatagramValue → List (Result MessageValue WireError) → Option StoreValue
store_after_all store now d [] = store
store_after_all store now d (item ∷ items) = store_after_all (store_after store now d item) now d items

-- the line of an empty datagram
abbrev pub empty_from : Form → List ToldField → ℕ → List ℕ
empty_from Plain origin k = empty_line k
empty_from Json origin k = line_text Json (head_from origin k) empty_told

-- the lines of the datagram with these bytes, or that it is empty
abbrev pub AreLinesOf : Scene → Option StoreValue → List ℕ → List ℕ → Type 0
AreLinesOf c store [] text = text ≡ empty_from c.form c.origin c.k
AreLinesOf c store (b ∷ bytes) text = AreLinesWith c store 0 (items_of (b ∷ bytes)) text

abbrev pub IsSceneText : Scene → Option StoreValue → List ℕ → Type 0
IsSceneText c store text = AreLinesOf c store c.datagram.payload text

-- ---- the text

-- how far the datagrams that are asked for are shown: how many, the moment of the last, the store after it, and whether a
-- fault was shown
pub record Progress : Type 0 where
  pub datagrams : ℕ
  pub now : ℕ
  pub store : Option StoreValue
  pub is_faulty : Bool

-- the next datagram
abbrev pub scene_of : AskedValue → Progress → ArrivalValue → Scene
scene_of asked p a = record {
  types = asked.types;
  form = asked.form;
  origin = origin_in asked.form asked.heads a;
  k = p.datagrams + 1;
  now = moment_of p.now a.datagram.time;
  datagram = a.datagram;
}

-- a text, with what stands before each of its lines
abbrev pub headed_text : Heads → ArrivalValue → List ℕ → List ℕ
headed_text heads a text = if heads.frame || heads.endpoints then with_heads (line_head heads a) true text else text

-- the same of one of some texts
abbrev pub Headed : Heads → ArrivalValue → (List ℕ → Type 0) → List ℕ → Type 0
Headed heads a Kind text = (lines : List ℕ) × Kind lines × (text ≡ headed_text heads a lines)

-- what stands before each line in a form: objects have it as fields
abbrev pub heads_in : Form → Heads → Heads
heads_in Plain heads = heads
heads_in Json heads = no_heads

-- a text of the next datagram
abbrev pub IsRecordedText : AskedValue → Progress → ArrivalValue → List ℕ → Type 0
IsRecordedText asked p a text = Headed (heads_in asked.form asked.heads) a (IsSceneText (scene_of asked p a) p.store) text

abbrev pub after_datagram : AskedValue → Progress → ArrivalValue → Progress
after_datagram asked p a = record {
  datagrams = p.datagrams + 1;
  now = moment_of p.now a.datagram.time;
  store = store_after_all p.store (moment_of p.now a.datagram.time) a.datagram (items_of a.datagram.payload);
  is_faulty = p.is_faulty || has_fault_with (scene_of asked p a) p.store (items_of a.datagram.payload);
}

-- texts of the next datagrams, in order
abbrev pub AreRecorded : AskedValue → Progress → List ArrivalValue → List ℕ → Type 0
AreRecorded asked p [] text = text ≡ []
AreRecorded asked p (a ∷ others) text = Joined (IsRecordedText asked p a) (AreRecorded asked (after_datagram asked p a) others) text

abbrev pub after_all : AskedValue → Progress → List ArrivalValue → Progress
after_all asked p [] = p
after_all asked p (a ∷ others) = after_all asked (after_datagram asked p a) others

-- before the first datagram nothing has come in part
abbrev pub empty_store : Limits → StoreValue
empty_store limits = record { limits = limits; parts = empty }

abbrev pub at_first : AskedValue → Progress
at_first asked = record { datagrams = 0; now = 0; store = option_map empty_store asked.whole; is_faulty = false }
