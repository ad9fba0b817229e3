-- What the arguments of `encode` say.
use Rattle.std.specs.Prelude.{◌≡◌, ◌≢◌, ◌≤◌, ℕ, List, ◌++◌, length, codes, Option, Ok, Err}
use Rattle.std.specs.Io.KnownBytes.{Appends, Keeps}
use Rattle.hex.specs.Hex.{encode_lower}
use Rattle.someip_payload_values.specs.declared.PayloadError.{PayloadError}
use Rattle.someip_payload_values.specs.declared.PayloadError.TheVariants as faults
use Rattle.someip_payload_values.specs.Data.{Data, Form}
use Rattle.someip_payload_values.specs.Writing.{encoded}
use Rattle.someip_payload.specs.ShapeText.{IsTextOf}
use Rattle.someip_payload.specs.ValueReading.{IsTextOfValue}
use Rattle.someipctl_io.specs.declared.fault.Fault.{Fault}
use Rattle.someipctl_io.specs.declared.fault.Fault.TheVariants.{Refused, CannotRead, CannotWrite, OutOfMemory}
use Rattle.someipctl_io.specs.declared.outcome.Outcome.{Outcome}
use Rattle.someipctl_io.specs.declared.outcome.Outcome.TheVariants.{Done, FaultShown}
use Rattle.someipctl_show.specs.declared.payload.PayloadRefusal.{PayloadRefusal}
use Rattle.someipctl_show.specs.declared.payload.PayloadRefusal.TheVariants.{BadShape, BadHex, BadValue}
use Rattle.someipctl_show.specs.Payload.{IsRefusedShape, fault_text}

-- what is printed of a value: its bytes in hex, or why it has none
abbrev pub IsEncoded : Form → Data → List ℕ → Outcome → Type 0
IsEncoded shape d text Done = (bytes : List ℕ) × (encoded shape d ≡ Ok bytes) × (text ≡ encode_lower bytes ++ codes "\n")
IsEncoded shape d text FaultShown = (fault : PayloadError) × (fault ≢ faults.OutOfMemory) × (encoded shape d ≡ Err fault) × (text ≡ fault_text fault)

-- what the two arguments say, and what is printed of it
pub record AnswersValue (shape_text value_text text : List ℕ) (outcome : Outcome) : Type 0 where
  pub shape : Form
  pub named : IsTextOf shape shape_text
  pub said : Data
  pub says : IsTextOfValue shape said value_text
  pub told : IsEncoded shape said text outcome

-- that text was written whole
abbrev pub ShowsEncoded : List ℕ → List ℕ → Outcome → Option (List ℕ) → Option (List ℕ) → Type 0
ShowsEncoded shape_text value_text outcome before after = (text : List ℕ) × AnswersValue shape_text value_text text outcome × Appends before after text

-- a beginning of that text was written
abbrev pub ShowsEncodedBeginning : List ℕ → List ℕ → Option (List ℕ) → Option (List ℕ) → Type 0
ShowsEncodedBeginning shape_text value_text before after =
    (sent unsent : List ℕ) × (outcome : Outcome) × AnswersValue shape_text value_text (sent ++ unsent) outcome × Appends before after sent

-- the text says no value of the shape, and this is a place in it
abbrev pub IsRefusedValue : Form → List ℕ → ℕ → Type 0
IsRefusedValue shape text place = (place ≤ length text) × ((d : Data) → IsTextOfValue shape d text → ⊥)

-- what a fault says of the text of a value
abbrev pub RefusesText : Form → List ℕ → Fault PayloadRefusal → Type 0
RefusesText shape text (Refused (BadValue place)) = IsRefusedValue shape text place
RefusesText shape text OutOfMemory = Unit {0}
RefusesText shape text fault = ⊥

-- what a fault says of the arguments, and what it leaves written. SHAPE is read before VALUE
abbrev pub RefusesValue : List ℕ → List ℕ → Fault PayloadRefusal → Option (List ℕ) → Option (List ℕ) → Type 0
RefusesValue shape_text value_text (Refused (BadShape place)) before after = IsRefusedShape shape_text place × Keeps before after
RefusesValue shape_text value_text (Refused (BadValue place)) before after =
    ((shape : Form) × IsTextOf shape shape_text × IsRefusedValue shape value_text place) × Keeps before after
RefusesValue shape_text value_text (Refused BadHex) before after = ⊥
RefusesValue shape_text value_text CannotRead before after = ⊥
RefusesValue shape_text value_text CannotWrite before after = ShowsEncodedBeginning shape_text value_text before after
RefusesValue shape_text value_text OutOfMemory before after = Keeps before after
