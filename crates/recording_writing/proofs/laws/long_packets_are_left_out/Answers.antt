use Rattle.recording_writing.proofs.BlockLemmas.{short, long}
use Rattle.recording_writing.proofs.FileLemmas.{nothing_of, blocks_held}
use Rattle.recording_writing.proofs.laws.long_packets_are_left_out.Goals as goal

pub returns-clause-nothing : goal.returns-clause-nothing
returns-clause-nothing c = nothing_of

pub returns-clause-held : goal.returns-clause-held
returns-clause-held c = blocks_held

pub returns-clause-short : goal.returns-clause-short
returns-clause-short c = short

pub returns-clause-long : goal.returns-clause-long
returns-clause-long c = long
