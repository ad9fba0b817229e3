use Rattle.std.proofs.Common.{sym}
use Rattle.std.specs.Float.{binary32}
use lib.Ieee.Bits.{nan_bits_above}
use Rattle.someip_payload.proofs.value_floats.is_single_nan.Goals as goal

pub returns : goal.returns
returns c = sym (nan_bits_above binary32 c.args.bits)
