use Rattle.someip_payload_codec.proofs.whole.Whole.{written_reads}
use Rattle.someip_payload_codec.proofs.laws.what_is_written_is_spelled_so.Goals as goal

pub returns : goal.returns
returns c = written_reads
