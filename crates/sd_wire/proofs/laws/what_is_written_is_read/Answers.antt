use Rattle.sd_wire.proofs.encoding.WriteLemmas.{written_is_read}
use Rattle.sd_wire.proofs.laws.what_is_written_is_read.Goals as goal

pub returns : goal.returns
returns c = written_is_read
