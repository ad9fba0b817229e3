use Rattle.std.proofs.Common.{subst, arith}
use Rattle.someip_payload_values.specs.View.{form, data_of}
use Rattle.someip_payload_values.specs.Steps.{Gives}
use Rattle.someip_payload_codec.proofs.whole.Whole.{is_found, is_first, decoded_only}
use Rattle.someip_payload_codec.proofs.whole.ErrorKinds.{reading_faults}
use Rattle.someip_payload_codec.proofs.whole.Exact.{decoded_bad, decoded_refused}
use Rattle.someip_payload_codec.proofs.reading.decode.Goals as goal

pub returns-clause-found : goal.returns-clause-found
returns-clause-found c = is_found (form c.args.shape.now) c.args.bytes.now c.decode_front.result (record { each = λ i. omega (arith, c.type_inv.bytes i) }) c.decode_front.ensures

pub returns-clause-only : goal.returns-clause-only
returns-clause-only c = λ d n good le reads. subst (λ r. Gives (λ x. (data_of x.0, x.1)) c.decode_front.result r) (decoded_only (form c.args.shape.now) c.args.bytes.now d n good le reads) c.decode_front.ensures

pub returns-clause-fault : goal.returns-clause-fault
returns-clause-fault c = is_first (form c.args.shape.now) c.args.bytes.now c.decode_front.result (record { each = λ i. omega (arith, c.type_inv.bytes i) }) c.decode_front.ensures

pub returns-clause-errors : goal.returns-clause-errors
returns-clause-errors c = reading_faults (form c.args.shape.now) c.args.bytes.now c.decode_front.result (record { each = λ i. omega (arith, c.type_inv.bytes i) }) c.decode_front.ensures

pub returns-clause-refused : goal.returns-clause-refused
returns-clause-refused c = λ e bad. subst (λ r. Gives (λ x. (data_of x.0, x.1)) c.decode_front.result r) (decoded_refused (form c.args.shape.now) c.args.bytes.now e bad) c.decode_front.ensures

pub returns-clause-faulty : goal.returns-clause-faulty
returns-clause-faulty c = λ e good fault. subst (λ r. Gives (λ x. (data_of x.0, x.1)) c.decode_front.result r) (decoded_bad (form c.args.shape.now) c.args.bytes.now e (record { each = λ i. omega (arith, c.type_inv.bytes i) }) good fault) c.decode_front.ensures
