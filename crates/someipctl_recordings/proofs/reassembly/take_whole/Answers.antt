use Rattle.someipctl_recordings.proofs.reassembly.take_whole.Goals as goal

pub returns-in-Ok-true-clause-in_time : goal.returns-in-Ok-true-clause-in_time
returns-in-Ok-true-clause-in_time g c = c.take.ensures.moments c.args.now c.requires

pub returns-in-Ok-false-clause-in_time : goal.returns-in-Ok-false-clause-in_time
returns-in-Ok-false-clause-in_time g c = c.take.ensures.moments c.args.now c.requires
