use Rattle.std.proofs.Common.{refl}
use Rattle.someip_payload_codec.specs.Reading.{decoded}
use Rattle.someip_payload_codec.proofs.reading.decode_front.Goals as goal

pub returns : goal.returns
unfolding decoded
returns c = rw (c.in_ok-check_shape.ensures.exact, c.in_ok-value.ensures) refl
