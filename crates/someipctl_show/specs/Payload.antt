-- What the arguments of `payload` say.
use Rattle.std.specs.Prelude.{◌≡◌, ◌≢◌, ◌⊎◌, ◌≤◌, ℕ, ◌==◌, if◌then◌else◌, List, [], ◌++◌, length, take, codes, decimal, Option, Some, None, Ok, Err}
use Rattle.std.specs.Io.KnownBytes.{Appends, Keeps}
use Rattle.someip_payload_values.specs.declared.Value.{Value}
use Rattle.someip_payload_values.specs.declared.PayloadError.{PayloadError}
use Rattle.someip_payload_values.specs.declared.PayloadError.TheVariants as faults
use Rattle.someip_payload_values.specs.Data.{Form}
use Rattle.someip_payload_values.specs.ToldText.{SaysData}
use Rattle.someip_payload_values.specs.View.{data_of}
use Rattle.someip_payload_codec.specs.Grammar.{Reads}
use Rattle.someip_payload_values.specs.Check.{checked, depth}
use Rattle.someip_payload_values.specs.Names.{fault_name, fault_place}
use Rattle.someip_payload_codec.specs.Faults.{FaultIn, whole}
use Rattle.someip_payload.specs.ShapeText.{IsTextOf}
use Rattle.someipctl_io.specs.declared.fault.Fault.{Fault}
use Rattle.someipctl_io.specs.declared.fault.Fault.TheVariants.{Refused, CannotRead, CannotWrite, OutOfMemory}
use Rattle.someipctl_io.specs.declared.outcome.Outcome.{Outcome}
use Rattle.someipctl_io.specs.declared.outcome.Outcome.TheVariants.{Done, FaultShown}
use Rattle.std.specs.Result.{result_ok}
use Rattle.hex.specs.Hex.{decode_of}
use Rattle.someip_payload.specs.declared.ShapeTextError.{ShapeTextError}
use Rattle.someip_payload.specs.declared.ShapeTextError.TheVariants as shapes
use Rattle.someipctl_show.specs.declared.payload.PayloadRefusal.{PayloadRefusal}
use Rattle.someipctl_show.specs.declared.payload.PayloadRefusal.TheVariants.{BadShape, BadHex, BadValue}
use Rattle.someipctl_show.specs.Capture.{is_dash}

-- the bytes that an argument says: none for `-`, else those of its hex digits, of which there is one at least
abbrev pub argument_bytes : List ℕ → Option (List ℕ)
argument_bytes text = if length text == 0 then None else (if is_dash text then Some [] else result_ok (decode_of text))

-- why a shape is not read
abbrev pub refusal_of_shape : ShapeTextError → Fault PayloadRefusal
refusal_of_shape (shapes.BadShape place) = Refused (BadShape place)
refusal_of_shape shapes.OutOfMemory = OutOfMemory

-- what is printed of a value, told in this text, that took n of so many bytes
abbrev pub value_lines : List ℕ → ℕ → ℕ → List ℕ
value_lines told n all = codes "value " ++ told ++ codes "\n" ++ (codes "used " ++ decimal n ++ codes " of " ++ decimal all ++ codes "\n")

-- what is printed of a fault: its name and its place
abbrev pub fault_text : PayloadError → List ℕ
fault_text fault = codes "fault " ++ fault_name fault ++ codes " at " ++ decimal (fault_place fault) ++ codes "\n"

-- the shape is refused so, or it is accepted and this is the first fault of the bytes
abbrev pub IsFaultOf : Form → List ℕ → PayloadError → Type 0
IsFaultOf shape bytes fault = (checked shape ≡ Err fault) ⊎ ((checked shape ≡ Ok tt) × FaultIn shape fault (whole bytes))

-- a front of n bytes is read as the value, by a shape that is accepted
abbrev pub ReadsFront : Form → List ℕ → Value → ℕ → Type 0
ReadsFront shape bytes value n = (checked shape ≡ Ok tt) × (n ≤ length bytes) × Reads shape (data_of value) (take n bytes)

-- what was found of the bytes by the shape and is printed: the value of a front of them, or their fault
abbrev pub IsTold : Form → List ℕ → List ℕ → Outcome → Type 0
IsTold shape bytes text Done = (value : Value) × (n : ℕ) × ReadsFront shape bytes value n × (told : List ℕ) × SaysData shape (data_of value) told × (text ≡ value_lines told n (length bytes))
IsTold shape bytes text FaultShown = (fault : PayloadError) × (fault ≢ faults.OutOfMemory) × IsFaultOf shape bytes fault × (text ≡ fault_text fault)

-- what the two arguments say, and what is printed of it
pub record AnswersPayload (shape_text hex text : List ℕ) (outcome : Outcome) : Type 0 where
  pub shape : Form
  pub named : IsTextOf shape shape_text
  pub bytes : List ℕ
  pub says : argument_bytes hex ≡ Some bytes
  pub told : IsTold shape bytes text outcome

-- that text was written whole
abbrev pub ShowsPayload : List ℕ → List ℕ → Outcome → Option (List ℕ) → Option (List ℕ) → Type 0
ShowsPayload shape_text hex outcome before after = (text : List ℕ) × AnswersPayload shape_text hex text outcome × Appends before after text

-- a beginning of that text was written
abbrev pub ShowsPayloadBeginning : List ℕ → List ℕ → Option (List ℕ) → Option (List ℕ) → Type 0
ShowsPayloadBeginning shape_text hex before after =
    (sent unsent : List ℕ) × (outcome : Outcome) × AnswersPayload shape_text hex (sent ++ unsent) outcome × Appends before after sent

-- no shape has the text, but for shapes of which more than 64 lie inside each other, and this is a place in it
abbrev pub IsRefusedShape : List ℕ → ℕ → Type 0
IsRefusedShape text place = (place ≤ length text) × ((shape : Form) → IsTextOf shape text → depth shape ≤ 64 → ⊥)

-- what a fault says of the arguments, and what it leaves written. SHAPE is read before HEX
abbrev pub RefusesPayload : List ℕ → List ℕ → Fault PayloadRefusal → Option (List ℕ) → Option (List ℕ) → Type 0
RefusesPayload shape_text hex (Refused (BadShape place)) before after = IsRefusedShape shape_text place × Keeps before after
RefusesPayload shape_text hex (Refused BadHex) before after = ((shape : Form) × IsTextOf shape shape_text) × (argument_bytes hex ≡ None) × Keeps before after
RefusesPayload shape_text hex (Refused (BadValue place)) before after = ⊥
RefusesPayload shape_text hex CannotRead before after = ⊥
RefusesPayload shape_text hex CannotWrite before after = ShowsPayloadBeginning shape_text hex before after
RefusesPayload shape_text hex OutOfMemory before after = Keeps before after
