use Rattle.someip_payload_codec.proofs.whole.Whole.{written_again}
use Rattle.someip_payload_codec.proofs.laws.what_is_written_is_read_again.Goals as goal

pub returns : goal.returns
returns c = written_again
