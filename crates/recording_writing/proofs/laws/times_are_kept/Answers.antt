use Rattle.recording_writing.proofs.BlockLemmas.{kept_time, simple_time, lost_time}
use Rattle.recording_writing.proofs.laws.times_are_kept.Goals as goal

pub returns-clause-kept : goal.returns-clause-kept
returns-clause-kept c = kept_time

pub returns-clause-none : goal.returns-clause-none
returns-clause-none c = simple_time

pub returns-clause-lost : goal.returns-clause-lost
returns-clause-lost c = lost_time
