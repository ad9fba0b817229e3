use Rattle.std.proofs.Common.{ℕ, List, Ok, Err, subst, arith, Result}
use Rattle.std.specs.Prelude.{IfOk, IfErr}
use Rattle.sd_wire.specs.declared.error.SdError.{SdError}
use Rattle.sd_wire.specs.declared.message.SdRead.{SdRead}
use Rattle.sd_wire.specs.layout.Fields.{IsBytes}
use Rattle.sd_wire.specs.contents.Values.{SdValue, view_sd}
use Rattle.sd_wire.specs.decoding.Reading.{Sd}
use Rattle.sd_wire.specs.decoding.Faults.{IsFirstFault}
use Rattle.sd_wire.specs.decoding.Steps.{Gives}
use Rattle.sd_wire.specs.decoding.Program.{reading}
use Rattle.sd_wire.proofs.decoding.SdLemmas.{reading_holds, holds_read}
use Rattle.sd_wire.proofs.decoding.FaultLemmas.{fault_read, first_fault}
use Rattle.sd_wire.proofs.decoding.PlaceLemmas.{few, places}
use Rattle.sd_wire.proofs.reading.read_sd.Goals as goal

found : (bytes : List ℕ) (r : Result SdRead SdError) → IsBytes bytes → Gives view_sd r (reading bytes) → IfOk r (λ x. Sd (view_sd x) bytes)
found bytes (Ok x) fits is = reading_holds bytes (view_sd x) fits is
found bytes (Err e) fits is = tt

faults : (bytes : List ℕ) (r : Result SdRead SdError) → IsBytes bytes → Gives view_sd r (reading bytes) → IfErr r (λ e. IsFirstFault e bytes)
faults bytes (Ok x) fits is = tt
faults bytes (Err e) fits is = first_fault bytes e fits is

pub returns-clause-found : goal.returns-clause-found
returns-clause-found c = found c.args.bytes.now c.read.result (λ i. omega (arith, c.type_inv.bytes i)) c.read.ensures.exact

pub returns-clause-only : goal.returns-clause-only
returns-clause-only c = λ v holds. subst (λ (r : Result SdValue SdError). Gives view_sd c.read.result r) (holds_read v c.args.bytes.now holds) c.read.ensures.exact

pub returns-clause-fault : goal.returns-clause-fault
returns-clause-fault c = faults c.args.bytes.now c.read.result (λ i. omega (arith, c.type_inv.bytes i)) c.read.ensures.exact

pub returns-clause-faulty : goal.returns-clause-faulty
returns-clause-faulty c = λ e fault. subst (λ (r : Result SdValue SdError). Gives view_sd c.read.result r) (fault_read c.args.bytes.now e fault) c.read.ensures.exact

pub returns-clause-places : goal.returns-clause-places
returns-clause-places c = places c.args.bytes.now c.read.result c.read.ensures.exact

pub returns-clause-few : goal.returns-clause-few
returns-clause-few c = few c.args.bytes.now c.read.result c.read.ensures.exact
