use Rattle.std.proofs.Common.{arith}
use Rattle.someip_payload_values.specs.View.{form}
use Rattle.someipctl_show.proofs.about_types.PlaceLemmas.{fault_within}
use Rattle.someipctl_show.proofs.types.value_line.put_payload_line.Goals as goal

pub overflow_add-place-in-Err : goal.overflow_add-place-in-Err
overflow_add-place-in-Err c =
    let within = fault_within (form c.args.table.now.shape) c.args.payload.now c.in-Err.fault c.in-Err.ensures.fault in
    omega (arith, within, c.place.ensures)
