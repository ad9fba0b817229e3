use Rattle.recording_writing.proofs.FileLemmas.{file_spelled, file_read, file_held}
use Rattle.recording_writing.proofs.laws.what_is_written_is_read.Goals as goal

pub returns-clause-blocks : goal.returns-clause-blocks
returns-clause-blocks c = λ ks fits. file_spelled ks

pub returns-clause-read : goal.returns-clause-read
returns-clause-read c = file_read

pub returns-clause-held : goal.returns-clause-held
returns-clause-held c = file_held
