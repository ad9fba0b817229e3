use Rattle.recording.proofs.RecordingLemmas.{recording_found, recording_same, recording_read}
use Rattle.recording.proofs.laws.each_recording_is_read_in_one_way.Goals as goal

pub returns-clause-some : goal.returns-clause-some
returns-clause-some c = recording_found

pub returns-clause-one : goal.returns-clause-one
returns-clause-one c = recording_same

pub returns-clause-read : goal.returns-clause-read
returns-clause-read c = recording_read
