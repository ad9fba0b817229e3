use Rattle.sd_wire.proofs.encoding.EncodingLemmas.{written_bytes, bytes_written, refused_bytes, bytes_refused}
use Rattle.sd_wire.proofs.laws.a_message_has_its_bytes.Goals as goal

pub returns-clause-some : goal.returns-clause-some
returns-clause-some c = written_bytes

pub returns-clause-text : goal.returns-clause-text
returns-clause-text c = bytes_written

pub returns-clause-none : goal.returns-clause-none
returns-clause-none c = refused_bytes

pub returns-clause-refused : goal.returns-clause-refused
returns-clause-refused c = bytes_refused
