use Rattle.std.proofs.Common.{sym}
use Rattle.someip_payload_values.proofs.FloatsSaid.{double_nan_test}
use Rattle.someip_payload_values.proofs.float_text.is_double_nan.Goals as goal

pub returns : goal.returns
returns c = sym (double_nan_test c.args.bits)
