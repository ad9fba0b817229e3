-- The texts of which `show` prints one for a capture, in each form.
use Rattle.std.specs.Prelude.{◌≡◌, ◌≢◌, ◌⊎◌, ℕ, ◌+◌, List, [], ◌∷◌, ◌++◌, Option, Result, Ok, Err}
use Rattle.std.specs.Io.KnownBytes.{Appends, Keeps}
use Rattle.someip_wire.specs.declared.WireError.{WireError}
use Rattle.someip_wire.specs.Spelling.{MessageValue}
use Rattle.someip_wire.specs.Reading.{items_of}
use Rattle.someipctl_io.specs.declared.fault.Fault.{Fault}
use Rattle.someipctl_io.specs.declared.fault.Fault.TheVariants.{Refused, CannotRead, CannotWrite, OutOfMemory}
use Rattle.someipctl_io.specs.declared.form.Form.{Form}
use Rattle.someipctl_io.specs.declared.form.Form.TheVariants.{Plain, Json}
use Rattle.someipctl_io.specs.declared.outcome.Outcome.{Outcome}
use Rattle.someipctl_io.specs.Inputs.{WasLeft}
use Rattle.someipctl_io.specs.Items.{item_len}
use Rattle.someipctl_io.specs.Lines.{empty_line}
use Rattle.someipctl_io.specs.ToldLines.{ToldField, ToldHead, line_text}
use Rattle.someipctl_io.specs.ToldItems.{datagram_head, empty_told, head_from, item_text, value_lines, whole_told}
use Rattle.someipctl_show.specs.declared.capture.BadCaptureLine.{BadCaptureLine}
use Rattle.someipctl_show.specs.declared.services.AskedService.{AskedService}
use Rattle.someipctl_show.specs.Services.{asked_among}
use Rattle.someipctl_show.specs.ShownText.{IsItemText, shown_outcome}
use Rattle.someipctl_show.specs.ShowResult.{IsFirstBad, SaysDatagrams}
use Rattle.someipctl_show.specs.TextKinds.{Joined}
use Rattle.someipctl_show.specs.types.Types.{TypesValue}
use Rattle.someipctl_show.specs.types.ValueFields.{AreValueFields, IsFieldsText}

-- the fields of the line of the value of an item that begins at this place of its datagram: none where the item is no message,
-- or no type names it
abbrev pub AreFieldsOfItem : TypesValue → ℕ → Result MessageValue WireError → List ToldField → Type 0
AreFieldsOfItem types place (Ok m) fields = AreValueFields types place m fields
AreFieldsOfItem types place (Err fault) fields = fields ≡ []

-- the objects of an item that begins at this place, behind a head, with one of its value
abbrev pub AreItemObjects : TypesValue → ToldHead → ℕ → Result MessageValue WireError → List ℕ → Type 0
AreItemObjects types head place item text = (value : List ℕ) × IsFieldsText (AreFieldsOfItem types place item) value × (text ≡ item_text Json head place value item)

-- the objects of a message that a segment makes whole, behind a head: its own, and that of its value
abbrev pub AreWholeObjects : TypesValue → ToldHead → MessageValue → List ℕ → Type 0
AreWholeObjects types head m text =
    (value : List ℕ) × IsFieldsText (AreValueFields types 0 m) value × (text ≡ line_text Json head (whole_told m) ++ value_lines Json head value)

-- the lines of an item of the k-th datagram; objects have the fields that say where they came from
abbrev pub IsItemTextFrom : Form → List ToldField → TypesValue → ℕ → ℕ → Result MessageValue WireError → List ℕ → Type 0
IsItemTextFrom Plain origin types k place item text = IsItemText types k place item text
IsItemTextFrom Json origin types k place item text = AreItemObjects types (head_from origin k) place item text

-- the same of a capture, which does not say where a datagram came from
abbrev pub IsItemTextIn : Form → TypesValue → ℕ → ℕ → Result MessageValue WireError → List ℕ → Type 0
IsItemTextIn form types k place item text = IsItemTextFrom form [] types k place item text

-- the lines of these items in order, the first of which begins at this place
abbrev pub AreLinesIn : Form → TypesValue → ℕ → ℕ → List (Result MessageValue WireError) → List ℕ → Type 0
AreLinesIn form types k place [] text = text ≡ []
AreLinesIn form types k place (item ∷ items) text = Joined (IsItemTextIn form types k place item) (AreLinesIn form types k (place + item_len item) items) text

-- the line of the k-th datagram where that is empty
abbrev pub empty_in : Form → ℕ → List ℕ
empty_in Plain k = empty_line k
empty_in Json k = line_text Json (datagram_head k) empty_told

-- a text of the k-th datagram: the lines of its messages, and of the fault that ends it, if there is one
abbrev pub IsDatagramTextIn : Form → TypesValue → ℕ → List ℕ → List ℕ → Type 0
IsDatagramTextIn form types k [] text = text ≡ empty_in form k
IsDatagramTextIn form types k (b ∷ bytes) text = AreLinesIn form types k 0 (items_of (b ∷ bytes)) text

-- texts of these datagrams in order, the first of which is the k-th
abbrev pub AreTextsIn : Form → TypesValue → ℕ → List (List ℕ) → List ℕ → Type 0
AreTextsIn form types k [] text = text ≡ []
AreTextsIn form types k (datagram ∷ others) text = Joined (IsDatagramTextIn form types k datagram) (AreTextsIn form types (k + 1) others) text

-- a text of a capture's datagrams, which count from 1
abbrev pub IsShownTextIn : Form → TypesValue → List (List ℕ) → List ℕ → Type 0
IsShownTextIn form types datagrams text = AreTextsIn form types 1 datagrams text

-- ---- the command

-- a text in the form of the datagrams of the capture that are asked for was written whole, and the outcome says whether a
-- fault is in it
pub record ShowsIn (form : Form) (input : Option (List ℕ)) (services : Option (List AskedService)) (types : TypesValue) (outcome : Outcome) (before after : Option (List ℕ)) : Type 0 where
  pub capture : List ℕ
  pub left : WasLeft input capture
  pub datagrams : List (List ℕ)
  pub says : SaysDatagrams capture datagrams
  pub text : List ℕ
  pub shows : IsShownTextIn form types (asked_among services datagrams) text
  pub wrote : Appends before after text
  pub tells : outcome ≡ shown_outcome types (asked_among services datagrams)

-- a beginning of such a text was written
pub record ShowsBeginningIn (form : Form) (input : Option (List ℕ)) (services : Option (List AskedService)) (types : TypesValue) (before after : Option (List ℕ)) : Type 0 where
  pub capture : List ℕ
  pub left : WasLeft input capture
  pub datagrams : List (List ℕ)
  pub says : SaysDatagrams capture datagrams
  pub sent : List ℕ
  pub unsent : List ℕ
  pub wrote : Appends before after sent
  pub shows : IsShownTextIn form types (asked_among services datagrams) (sent ++ unsent)

-- what an error says of a capture, and of what was written
abbrev pub RefusesShowIn : Form → Option (List ℕ) → Option (List AskedService) → TypesValue → Fault BadCaptureLine → Option (List ℕ) → Option (List ℕ) → Type 0
RefusesShowIn form input services types (Refused bad) before after = IsFirstBad input bad.0 × Keeps before after
RefusesShowIn form input services types CannotRead before after = Keeps before after
RefusesShowIn form input services types CannotWrite before after = ShowsBeginningIn form input services types before after
RefusesShowIn form input services types OutOfMemory before after = Keeps before after ⊎ ((types ≢ []) × ShowsBeginningIn form input services types before after)
