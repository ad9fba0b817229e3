-- Names on the way to being judged.
use Rattle.std.specs.Prelude.{◌≡◌, ℕ, ◌+◌, ◌-◌, ◌≤◌, ◌⊎◌, true, codes, if◌then◌else◌, length, drop, List, [], ◌∷◌, ◌++◌, Option, Some, None, Ok, String, string_bytes}
use Rattle.std.specs.BTreeSet.{BTreeSet, contains_text}
use Rattle.std.specs.declared.alloc.Global.{Global}
use Rattle.std.specs.Str.{bytes_eq}
use Rattle.toml.specs.Data.{Data, table, Members, no_members, member, get_member, as_str}
use Rattle.someip_payload_values.specs.Check.{checked, depth}
use Rattle.someip_payload_values.specs.Data.{Form}
use Rattle.someip_payload.specs.Named.{NamedForms, form_named}
use Rattle.someip_payload.specs.ShapeText.{IsTextIn}
use Rattle.someipctl_show.specs.declared.types.error.TypesError.{TypesError}
use Rattle.someipctl_show.specs.declared.types.error.TypesError.TheVariants.{Types, Named, OutOfMemory}
use Rattle.someipctl_show.specs.declared.types.key_error.KeyError.{KeyError}
use Rattle.someipctl_show.specs.declared.types.key_error.KeyError.TheVariants as parts
use Rattle.someipctl_show.specs.declared.types.names.Names.{Names}
use Rattle.someipctl_show.specs.declared.types.names.Step.{Step}
use Rattle.someipctl_show.specs.declared.types.names.Way.{Way}
use Rattle.someipctl_show.specs.types.Faults.{FailsFirst, IsFirstNoName, IsFirstNoText, TextFails}
use Rattle.someipctl_show.specs.types.Keys.{text_at}
use Rattle.someipctl_show.specs.types.Names.{AllStand, AreAll, GoesDown, most_written, types_at, written_now}
use Rattle.someipctl_show.specs.types.References.{Knows, KnowsAll, RefersFirst, references, written_out}

-- no two keys are the same
abbrev pub AreApart : Members → Type 0
AreApart no_members = Unit {0}
AreApart (member key d ms) = (get_member key ms ≡ None) × AreApart ms

-- the names that the texts of names refer to are names as well
abbrev pub AreClosed : NamedForms → Members → Type 0
AreClosed names no_members = Unit {0}
AreClosed names (member key d ms) = (Knows names key → (text : List ℕ) → as_str d ≡ Some text → KnowsAll names (references text)) × AreClosed names ms

-- the names that were judged: each stands for what it stands for, and those that its text refers to are among them. What is
-- written out in their texts was counted
pub record Judged (types : Data) (names : Names) : Type 0 where
  pub stand : AllStand types names.shapes
  pub members : Members
  pub is : types ≡ table members
  pub apart : AreApart members
  pub closed : AreClosed names.shapes members
  pub budget : names.left + written_now names.shapes types ≡ most_written

-- the names of a table of texts: all that there are, each with the form that it stands for
pub record AllNames (types : Data) (names : Names) : Type 0 where
  pub stand : AllStand types names.shapes
  pub all : AreAll types names.shapes
  pub budget : names.left + written_now names.shapes types ≡ most_written

-- those of a tree
abbrev pub HasNames : Data → Names → Type 0
HasNames tree names = (texts : Data) × (types_at tree ≡ Some texts) × AllNames texts names

-- what was judged stays so
abbrev pub KnowsMore : NamedForms → NamedForms → Type 0
KnowsMore old new = (n : List ℕ) → Knows old n → Knows new n

-- ---- a text

-- the form that is read of a text, and how many forms may still be written out
pub record ReadsIn (names : NamedForms) (left : ℕ) (text : List ℕ) (f : Form) (rest : ℕ) : Type 0 where
  pub known : KnowsAll names (references text)
  pub counted : rest + written_out names text ≡ left
  pub says : IsTextIn names f text
  pub only : (g : Form) → IsTextIn names g text → depth g ≤ 64 → g ≡ f
  pub within : depth f ≤ 64

-- why no form is: a name stands for none, or else too many would be written out, or it is the text of none
abbrev pub NotRead : NamedForms → ℕ → List ℕ → KeyError → Type 0
NotRead names left text (parts.Unknown key) = RefersFirst names text (string_bytes key) × (form_named names (string_bytes key) ≡ None)
NotRead names left text parts.TooMany = KnowsAll names (references text) × (left + 1 ≤ written_out names text)
NotRead names left text (parts.BadText place) = KnowsAll names (references text) × ((f : Form) → IsTextIn names f text → depth f ≤ 64 → ⊥)
NotRead names left text parts.OutOfMemory = Unit {0}
NotRead names left text error = ⊥

-- a name was given the form of its text, unless it had it
abbrev pub IsPut : Names → Names → List ℕ → List ℕ → Type 0
IsPut old new name text =
    (Knows old.shapes name × (new ≡ old))
    ⊎ ((f : Form) × (form_named old.shapes name ≡ None) × ReadsIn old.shapes old.left text f new.left
    × ((n : List ℕ) → form_named new.shapes n ≡ (if bytes_eq name n then Some f else form_named old.shapes n)))

-- a name that has no form has none by its text
abbrev pub NoShape : Names → List ℕ → List ℕ → TypesError → Type 0
NoShape names name text (Named n parts.OutOfMemory) = ⊥
NoShape names name text (Named n error) = (string_bytes n ≡ name) × (form_named names.shapes name ≡ None) × NotRead names.shapes names.left text error
NoShape names name text OutOfMemory = Unit {0}
NoShape names name text error = ⊥

-- the first member of a table that is no text by a name has the fault that is told
abbrev pub TextsFail : Members → TypesError → Type 0
TextsFail ms (Types (parts.UnknownKey key)) = IsFirstNoName ms (string_bytes key)
TextsFail ms (Named name (parts.WrongKind key)) = (key.now ≡ codes "shape") × IsFirstNoText ms (string_bytes name)
TextsFail ms OutOfMemory = Unit {0}
TextsFail ms error = ⊥

-- a form is refused as one that payloads cannot have, or memory ran out
abbrev pub RefusesForm : Form → KeyError → Type 0
RefusesForm f parts.BadShape = checked f ≡ Ok tt → ⊥
RefusesForm f parts.OutOfMemory = Unit {0}
RefusesForm f error = ⊥

-- ---- the way down to a name

-- the names before a place in the text of a step were judged, but for the next step, which is the last of them
abbrev pub AreJudged : NamedForms → List (List ℕ) → Option (List ℕ) → Type 0
AreJudged names front None = KnowsAll names front
AreJudged names front (Some next) = (others : List (List ℕ)) × (front ≡ others ++ next ∷ []) × KnowsAll names others

-- a step of the way: what the text of a name refers to before some place
pub record StepFits (types : Data) (names : NamedForms) (step : Step) (next : Option (List ℕ)) : Type 0 where
  pub text : List ℕ
  pub is : text_at (string_bytes step.name) types ≡ Some text
  pub within : step.from ≤ length text
  pub front : List (List ℕ)
  pub parts : references text ≡ front ++ references (drop step.from text)
  pub judged : AreJudged names front next

-- the name of the next step, if there is one
abbrev pub next_of : List Step → Option (List ℕ) → Option (List ℕ)
next_of [] next = next
next_of (step ∷ steps) next = Some (string_bytes step.name)

-- each step fits
abbrev pub PathFits : Data → NamedForms → List Step → Option (List ℕ) → Type 0
PathFits types names [] next = Unit {0}
PathFits types names (step ∷ steps) next = StepFits types names step (next_of steps next) × PathFits types names steps next

-- a name is that of a step
abbrev pub IsOn : List Step → List ℕ → Type 0
IsOn [] n = ⊥
IsOn (step ∷ steps) n = (string_bytes step.name ≡ n) ⊎ IsOn steps n

-- the way fits, and each name that was opened was judged, or is on the way, or the next
pub record WayFits (types : Data) (names : NamedForms) (way : Way) (next : Option (List ℕ)) : Type 0 where
  pub path : PathFits types names way.path.items next
  pub opened : (n : List ℕ) → contains_text way.opened n ≡ true → Knows names n ⊎ (IsOn way.path.items n ⊎ (next ≡ Some n))

-- the way begins with this name, if it has a step
abbrev pub BeginsWith : List Step → List ℕ → Type 0
BeginsWith [] first = Unit {0}
BeginsWith (step ∷ steps) first = string_bytes step.name ≡ first

-- what was opened stays so
abbrev pub OpensMore : Way → Way → Type 0
OpensMore old new = (n : List ℕ) → contains_text old.opened n ≡ true → contains_text new.opened n ≡ true

-- ---- how long the way may still be

abbrev pub length_of : Option (List ℕ) → ℕ
length_of None = 0
length_of (Some text) = length text

-- how much of its text a step may still look through, and one more for its end
abbrev pub step_weight : Data → Step → ℕ
step_weight types step = length_of (text_at (string_bytes step.name) types) + 1 - step.from

abbrev pub path_weight : Data → List Step → ℕ
path_weight types [] = 0
path_weight types (step ∷ steps) = step_weight types step + path_weight types steps

-- the same of the names that were not opened, and one more for each
abbrev pub unopened : BTreeSet (String Global) → Members → ℕ
unopened opened no_members = 0
unopened opened (member key d ms) = (if contains_text opened key then 0 else length_of (as_str d) + 2) + unopened opened ms

abbrev pub unopened_in : BTreeSet (String Global) → Data → ℕ
unopened_in opened (table ms) = unopened opened ms
unopened_in opened _ = 0

abbrev pub way_weight : Data → Way → ℕ
way_weight types way = unopened_in way.opened types + path_weight types way.path.items

-- ---- faults

-- an error tells a fault of the text of this name, where these stand for forms, or that memory ran out
abbrev pub TellsOf : Data → NamedForms → List ℕ → TypesError → Type 0
TellsOf types names name (Named n error) = (string_bytes n ≡ name) × TextFails types names name error
TellsOf types names name OutOfMemory = Unit {0}
TellsOf types names name error = ⊥

-- a name fails to which this one goes down, where these and perhaps more stand for forms
pub record FailsIn (types : Data) (old : NamedForms) (first name : List ℕ) (error : KeyError) : Type 0 where
  pub names : NamedForms
  pub stand : AllStand types names
  pub more : KnowsMore old names
  pub down : GoesDown types names first name
  pub fails : TextFails types names name error

abbrev pub TellsIn : Data → NamedForms → List ℕ → TypesError → Type 0
TellsIn types old first (Named n error) = FailsIn types old first (string_bytes n) error
TellsIn types old first OutOfMemory = Unit {0}
TellsIn types old first error = ⊥

-- the first fault of names
abbrev pub TellsName : Data → TypesError → Type 0
TellsName types (Named n error) = FailsFirst types (string_bytes n) error
TellsName types OutOfMemory = Unit {0}
TellsName types error = ⊥

-- why the next name on the way is none to go on with
abbrev pub NoStep : Data → NamedForms → Way → List ℕ → List ℕ → TypesError → Type 0
NoStep types names way name other (Named n (parts.Unknown key)) = (string_bytes n ≡ name) × (string_bytes key ≡ other) × (text_at other types ≡ None)
NoStep types names way name other (Named n (parts.Cycle key)) =
    (string_bytes n ≡ name) × (string_bytes key ≡ other) × (contains_text way.opened other ≡ true) × (form_named names other ≡ None)
NoStep types names way name other OutOfMemory = Unit {0}
NoStep types names way name other error = ⊥
