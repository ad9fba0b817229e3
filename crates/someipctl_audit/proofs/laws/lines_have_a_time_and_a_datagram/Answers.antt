use Rattle.std.proofs.Common.{refl}
use Rattle.std.specs.Fmt.{digits}
use Rattle.hex.specs.Hex.{encode_with}
use Rattle.someipctl_audit.proofs.laws.lines_have_a_time_and_a_datagram.Goals as goal

pub returns : goal.returns
unfolding digits encode_with
returns c = record {
  found = refl;
  without_time = refl;
  frame = refl;
  unanswered = refl;
  frame_of_call = refl;
  missing = refl;
  expired = refl;
  subscribe = refl;
  lost = refl;
  allowed = refl;
  allowed_frame = refl;
}
