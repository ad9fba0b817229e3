use Rattle.std.proofs.Common.{◌≡◌, ℕ, List, Result, Ok, Err, refl, sym, ◌∙◌, inl, inr}
use Rattle.std.specs.Prelude.{◌⊎◌}
use Rattle.sd_wire.specs.declared.error.SdError.{SdError}
use Rattle.sd_wire.specs.layout.Fields.{IsBytes}
use Rattle.sd_wire.specs.contents.Values.{SdValue}
use Rattle.sd_wire.specs.decoding.Reading.{Sd}
use Rattle.sd_wire.specs.decoding.Faults.{SdFault}
use Rattle.sd_wire.specs.decoding.Program.{reading}
use Rattle.sd_wire.proofs.decoding.SdLemmas.{reading_holds, holds_read}
use Rattle.sd_wire.proofs.decoding.FaultLemmas.{fault_read, read_fault}
use Rattle.sd_wire.proofs.laws.bytes_hold_one_message_or_a_fault.Goals as goal

some : (bytes : List ℕ) → IsBytes bytes → ((v : SdValue) × Sd v bytes) ⊎ ((fault : SdError) × SdFault fault bytes)
some bytes fits =
    let P : Result SdValue SdError → Type 0 = λ r. reading bytes ≡ r → ((v : SdValue) × Sd v bytes) ⊎ ((fault : SdError) × SdFault fault bytes) in
    (elim (reading bytes) as P [
      | Ok v ↦ λ is. inl (v, reading_holds bytes v fits is)
      | Err e ↦ λ is. inr (e, read_fault bytes e fits is)
    ]) refl

pub returns-clause-some : goal.returns-clause-some
returns-clause-some c = some

pub returns-clause-one : goal.returns-clause-one
returns-clause-one c = λ bytes v other a b. let same = sym (holds_read v bytes a) ∙ holds_read other bytes b in cc

pub returns-clause-not_both : goal.returns-clause-not_both
returns-clause-not_both c = λ bytes v fault a b. let same = sym (holds_read v bytes a) ∙ fault_read bytes fault b in cc

pub returns-clause-one_fault : goal.returns-clause-one_fault
returns-clause-one_fault c = λ bytes fault other a b. let same = sym (fault_read bytes fault a) ∙ fault_read bytes other b in cc
