-- What is told of a payload.
use Rattle.std.proofs.Common.{◌≡◌, ◌≢◌, ◌⊎◌, ℕ, List, take, drop, Result, Ok, Err, Option, inl, inr, refl, sym, subst}
use Rattle.std.specs.Io.KnownBytes.{Appends, Keeps}
use Rattle.std.proofs.lemmas.List.{take-append-drop}
use Rattle.someip_payload_values.specs.declared.PayloadError.{PayloadError}
use Rattle.someip_payload_values.specs.declared.PayloadError.TheVariants as faults
use Rattle.someip_payload_values.specs.Data.{Form, Data}
use Rattle.someip_payload_values.specs.Check.{checked}
use Rattle.someip_payload_codec.specs.Faults.{FaultIn, IsFirstFault, whole}
use Rattle.someip_payload_values.specs.Steps.{Fails}
use Rattle.someipctl_io.specs.declared.fault.Fault.{Fault}
use Rattle.someipctl_io.specs.declared.fault.Fault.TheVariants.{Refused, CannotRead, CannotWrite, OutOfMemory}
use Rattle.someipctl_io.specs.declared.outcome.Outcome.{Outcome}
use Rattle.someipctl_show.specs.declared.payload.PayloadRefusal.{PayloadRefusal}
use Rattle.someipctl_show.specs.declared.payload.PayloadRefusal.TheVariants.{BadShape, BadHex, BadValue}
use Rattle.someip_payload.specs.ShapeText.{IsTextOf}
use Rattle.someipctl_show.specs.Encoding.{AnswersValue, RefusesText, RefusesValue, ShowsEncodedBeginning}
use Rattle.someipctl_show.specs.Payload.{AnswersPayload, IsFaultOf, ShowsPayloadBeginning}

-- two answers of a reading are one fault
abbrev AreOneFault : PayloadError → PayloadError → Type 0
AreOneFault f e = let both : Result (Data × ℕ) PayloadError = Err f in both ≡ Err e

-- a fault that comes wherever the shape is refused is that refusal, or the shape is accepted
fault_by : (shape : Form) (bytes : List ℕ) (e : PayloadError) (r : Result (Unit {0}) PayloadError) → checked shape ≡ r
    → (checked shape ≡ Err e) ⊎ FaultIn shape e (whole bytes)
    → ((f : PayloadError) → checked shape ≡ Err f → AreOneFault f e) → IsFaultOf shape bytes e
fault_by shape bytes e (Ok tt) is (inl refusal) refused = absurd (cc)
fault_by shape bytes e (Ok tt) is (inr fault) refused = inr (is, fault)
fault_by shape bytes e (Err f) is found refused = inl (let same = refused f is in cc)

-- the fault that `decode` answers, unless memory ran out
pub fault_told : (shape : Form) (bytes : List ℕ) (e : PayloadError) → IsFirstFault shape bytes e
    → ((f : PayloadError) → checked shape ≡ Err f → Fails {Y = Data × ℕ} e (Err f)) → e ≢ faults.OutOfMemory → IsFaultOf shape bytes e
fault_told shape bytes (faults.Truncated p) first refused other = fault_by shape bytes (faults.Truncated p) (checked shape) refl first refused
fault_told shape bytes (faults.BadText p) first refused other = fault_by shape bytes (faults.BadText p) (checked shape) refl first refused
fault_told shape bytes (faults.NoTerminator p) first refused other = fault_by shape bytes (faults.NoTerminator p) (checked shape) refl first refused
fault_told shape bytes (faults.UnknownVariant p) first refused other = fault_by shape bytes (faults.UnknownVariant p) (checked shape) refl first refused
fault_told shape bytes (faults.LengthMismatch p) first refused other = fault_by shape bytes (faults.LengthMismatch p) (checked shape) refl first refused
fault_told shape bytes (faults.TooMany p) first refused other = fault_by shape bytes (faults.TooMany p) (checked shape) refl first refused
fault_told shape bytes (faults.TooDeep p) first refused other = fault_by shape bytes (faults.TooDeep p) (checked shape) refl first refused
fault_told shape bytes (faults.NotOfShape p) first refused other = fault_by shape bytes (faults.NotOfShape p) (checked shape) refl first refused
fault_told shape bytes (faults.TooLong p) first refused other = fault_by shape bytes (faults.TooLong p) (checked shape) refl first refused
fault_told shape bytes (faults.BadShape p) first refused other = fault_by shape bytes (faults.BadShape p) (checked shape) refl first refused
fault_told shape bytes (faults.DuplicateMember p) first refused other = fault_by shape bytes (faults.DuplicateMember p) (checked shape) refl first refused
fault_told shape bytes (faults.WrongWireType p) first refused other = fault_by shape bytes (faults.WrongWireType p) (checked shape) refl first refused
fault_told shape bytes (faults.MissingMember p) first refused other = fault_by shape bytes (faults.MissingMember p) (checked shape) refl first refused
fault_told shape bytes faults.OutOfMemory first refused other = absurd (other refl)

-- a beginning was written of the text that answers the arguments
pub beginning_told : (shape_text hex text : List ℕ) (outcome : Outcome) (a b : Option (List ℕ)) (n : ℕ) → AnswersPayload shape_text hex text outcome
    → Appends a b (take n text) → ShowsPayloadBeginning shape_text hex a b
beginning_told shape_text hex text outcome a b n answers wrote =
    (take n text, drop n text, outcome, subst (λ t. AnswersPayload shape_text hex t outcome) (sym (take-append-drop n text)) answers, wrote)

-- the same of the text that answers the arguments of `encode`
pub beginning_encoded : (shape_text value_text text : List ℕ) (outcome : Outcome) (a b : Option (List ℕ)) (n : ℕ) → AnswersValue shape_text value_text text outcome
    → Appends a b (take n text) → ShowsEncodedBeginning shape_text value_text a b
beginning_encoded shape_text value_text text outcome a b n answers wrote =
    (take n text, drop n text, outcome, subst (λ t. AnswersValue shape_text value_text t outcome) (sym (take-append-drop n text)) answers, wrote)

-- a text that says no value of the shape is refused, and nothing was written
pub refused_value : (shape_text text : List ℕ) (shape : Form) (fault : Fault PayloadRefusal) (a b : Option (List ℕ)) → IsTextOf shape shape_text → RefusesText shape text fault
    → Keeps a b → RefusesValue shape_text text fault a b
refused_value shape_text text shape (Refused (BadValue place)) a b named refused keeps = ((shape, named, refused), keeps)
refused_value shape_text text shape (Refused (BadShape place)) a b named refused keeps = absurd refused
refused_value shape_text text shape (Refused BadHex) a b named refused keeps = absurd refused
refused_value shape_text text shape CannotRead a b named refused keeps = absurd refused
refused_value shape_text text shape CannotWrite a b named refused keeps = absurd refused
refused_value shape_text text shape OutOfMemory a b named refused keeps = keeps
