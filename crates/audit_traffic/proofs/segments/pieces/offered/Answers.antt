use Rattle.std.proofs.Common.{arith}
use Rattle.audit_traffic.proofs.segments.pieces.offered.Goals as goal

pub returns-in-Err-OutOfMemory-clause-moments : goal.returns-in-Err-OutOfMemory-clause-moments
returns-in-Err-OutOfMemory-clause-moments g c = c.offer.ensures.moments c.args.now (omega arith) c.requires.moments

pub returns-in_default-clause-moments : goal.returns-in_default-clause-moments
returns-in_default-clause-moments g c = c.offer.ensures.moments c.args.now (omega arith) c.requires.moments

pub returns-in_default-2-clause-moments : goal.returns-in_default-2-clause-moments
returns-in_default-2-clause-moments g c = c.offer.ensures.moments c.args.now (omega arith) c.requires.moments
