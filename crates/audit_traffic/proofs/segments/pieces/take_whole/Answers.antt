use Rattle.audit_traffic.proofs.segments.pieces.take_whole.Goals as goal

pub returns-in-Ok-true-clause-moments : goal.returns-in-Ok-true-clause-moments
returns-in-Ok-true-clause-moments g c = c.take.ensures.moments c.args.now c.requires

pub returns-in-Ok-false-clause-moments : goal.returns-in-Ok-false-clause-moments
returns-in-Ok-false-clause-moments g c = c.take.ensures.moments c.args.now c.requires
