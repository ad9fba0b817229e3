use Rattle.someipctl_recordings.proofs.recordings.store_for.Goals as goal

pub returns-in-Ok-clause-in_time : goal.returns-in-Ok-clause-in_time
returns-in-Ok-clause-in_time g c = c.in-Ok.ensures.moments 0
