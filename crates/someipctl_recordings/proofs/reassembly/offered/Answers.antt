use Rattle.std.proofs.Common.{arith}
use Rattle.someipctl_recordings.proofs.reassembly.offered.Goals as goal

pub returns-in-Err-OutOfMemory-clause-in_time : goal.returns-in-Err-OutOfMemory-clause-in_time
returns-in-Err-OutOfMemory-clause-in_time g c = c.offer.ensures.moments c.args.now (omega arith) c.requires.in_time

pub returns-in_default-clause-in_time : goal.returns-in_default-clause-in_time
returns-in_default-clause-in_time g c = c.offer.ensures.moments c.args.now (omega arith) c.requires.in_time

pub returns-in_default-2-clause-in_time : goal.returns-in_default-2-clause-in_time
returns-in_default-2-clause-in_time g c = c.offer.ensures.moments c.args.now (omega arith) c.requires.in_time
