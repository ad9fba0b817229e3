-- The texts of which `show` prints one for a capture.
use Rattle.std.specs.Prelude.{◌≡◌, ◌≢◌, ⊤, ℕ, ◌+◌, Bool, false, ◌||◌, List, [], ◌∷◌, Result, Ok, Err}
use Rattle.std.specs.List.{list_any}
use Rattle.someip_wire.specs.declared.WireError.{WireError}
use Rattle.someip_wire.specs.Spelling.{MessageValue}
use Rattle.someip_wire.specs.Reading.{items_of}
use Rattle.someipctl_io.specs.declared.fault.PrintFault.{PrintFault}
use Rattle.someipctl_io.specs.declared.fault.PrintFault.TheVariants.{CannotWrite, OutOfMemory}
use Rattle.someipctl_io.specs.declared.outcome.Outcome.{Outcome}
use Rattle.someipctl_io.specs.Outcomes.{fault_outcome}
use Rattle.someipctl_io.specs.Lines.{empty_line}
use Rattle.someipctl_io.specs.Items.{item_len, item_lines, is_faulty}
use Rattle.someipctl_show.specs.types.Types.{TypesValue}
use Rattle.someipctl_show.specs.types.ValueLine.{IsValueLine, has_value_fault}
use Rattle.someipctl_show.specs.TextKinds.{Joined}

-- ---- values

-- without a types file
abbrev pub no_types : TypesValue
no_types = []

-- a line of the value of an item that begins at this place of the k-th datagram: an empty one where the item is no message,
-- or no type names it
abbrev pub IsValueOfItem : TypesValue → ℕ → ℕ → Result MessageValue WireError → List ℕ → Type 0
IsValueOfItem types k place (Ok m) line = IsValueLine types k place m line
IsValueOfItem types k place (Err fault) line = line ≡ []

-- that line tells a fault
abbrev pub has_value_fault_in : TypesValue → Result MessageValue WireError → Bool
has_value_fault_in types (Ok m) = has_value_fault types m
has_value_fault_in types (Err fault) = false

-- out of memory comes only of the value of a message that types name
abbrev pub ComesWith : TypesValue → PrintFault → Type 0
ComesWith types CannotWrite = ⊤
ComesWith types OutOfMemory = types ≢ []

-- ---- datagrams

-- the lines of an item that begins at this place of the k-th datagram, with one of its value
abbrev pub IsItemText : TypesValue → ℕ → ℕ → Result MessageValue WireError → List ℕ → Type 0
IsItemText types k place item text = (value : List ℕ) × IsValueOfItem types k place item value × (text ≡ item_lines k place value item)

-- the lines of these items in order, the first of which begins at this place
abbrev pub AreLines : TypesValue → ℕ → ℕ → List (Result MessageValue WireError) → List ℕ → Type 0
AreLines types k place [] text = text ≡ []
AreLines types k place (item ∷ items) text = Joined (IsItemText types k place item) (AreLines types k (place + item_len item) items) text

-- a fault is shown of an item, or of its value
abbrev pub shows_fault : TypesValue → Result MessageValue WireError → Bool
shows_fault types item = has_value_fault_in types item || is_faulty item

-- a text of the k-th datagram: the lines of its messages, and of the fault that ends it, if there is one
abbrev pub IsDatagramText : TypesValue → ℕ → List ℕ → List ℕ → Type 0
IsDatagramText types k [] text = text ≡ empty_line k
IsDatagramText types k (b ∷ bytes) text = AreLines types k 0 (items_of (b ∷ bytes)) text

-- texts of these datagrams in order, the first of which is the k-th
abbrev pub AreTexts : TypesValue → ℕ → List (List ℕ) → List ℕ → Type 0
AreTexts types k [] text = text ≡ []
AreTexts types k (datagram ∷ others) text = Joined (IsDatagramText types k datagram) (AreTexts types (k + 1) others) text

-- a text of a capture's datagrams, which count from 1
abbrev pub IsShownText : TypesValue → List (List ℕ) → List ℕ → Type 0
IsShownText types datagrams text = AreTexts types 1 datagrams text

-- a fault is shown of a datagram: one ends it, a segment in it has no room for the TP header, or a payload of Service
-- Discovery in it has one, or one whose value is told
abbrev pub has_fault : TypesValue → List ℕ → Bool
has_fault types datagram = list_any (shows_fault types) (items_of datagram)

-- the outcome of showing these datagrams: a fault was shown exactly where one of them has one
abbrev pub shown_outcome : TypesValue → List (List ℕ) → Outcome
shown_outcome types datagrams = fault_outcome (list_any (has_fault types) datagrams)
