use Rattle.someip_payload_values.specs.View.{form, data_of}
use Rattle.someip_payload_values.proofs.ErrorKinds.{refusals}
use Rattle.someip_payload_values.proofs.writing.encode.Goals as goal

pub returns-clause-errors : goal.returns-clause-errors
returns-clause-errors c = refusals (form c.args.shape.now) (data_of c.args.value.now) c.args.out.now.items c.encode_whole.new.out.items c.encode_whole.result c.encode_whole.ensures
