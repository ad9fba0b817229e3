use Rattle.someip_payload_codec.proofs.whole.Whole.{takes_some}
use Rattle.someip_payload_codec.proofs.laws.a_value_takes_a_byte.Goals as goal

pub returns : goal.returns
returns c = takes_some
