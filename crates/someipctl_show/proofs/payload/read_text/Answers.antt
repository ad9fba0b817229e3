use Rattle.std.proofs.Common.{◌≢◌, rules}
use Rattle.someip_payload_values.specs.declared.PayloadError.TheVariants as faults
use Rattle.someip_payload_values.specs.View.{form}
use Rattle.someipctl_show.proofs.PayloadLemmas.{fault_told}
use Rattle.someipctl_show.proofs.payload.read_text.Goals as goal

pub returns-in_ok-writeln-in-Err : goal.returns-in_ok-writeln-in-Err
returns-in_ok-writeln-in-Err c =
    let other : c.in-Err.fault ≢ faults.OutOfMemory = search rules in (
      c.in-Err.fault,
      other,
      fault_told (form c.args.shape.now) c.args.bytes.now c.in-Err.fault c.in-Err.ensures.fault c.in-Err.ensures.refused other,
      search rules,
    )
