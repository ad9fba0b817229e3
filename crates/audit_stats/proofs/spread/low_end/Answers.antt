use Rattle.std.proofs.Common.{min, arith}
use Rattle.audit_stats.proofs.BucketLemmas.{begun, found, halved}
use Rattle.audit_stats.proofs.spread.low_end.Goals as goal

pub loop-rest-init : goal.loop-rest-init
loop-rest-init c = rw c.min-rest.ensures (begun (min c.args.value 4294967295) (omega arith))

pub loop-rest-preserved : goal.loop-rest-preserved
loop-rest-preserved c = halved (min c.args.value 4294967295) c.loop-rest.rest c.loop-rest.width c.loop-rest.invariant c.loop-rest-test.true

pub returns : goal.returns
returns c = found (min c.args.value 4294967295) c.loop-rest.rest c.loop-rest.width c.loop-rest.invariant c.loop-rest-test.false
