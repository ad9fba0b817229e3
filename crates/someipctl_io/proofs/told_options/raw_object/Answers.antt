use Rattle.std.proofs.Common.{arith}
use Rattle.someipctl_io.proofs.ObjectLemmas.{raw-text}
use Rattle.someipctl_io.proofs.told_options.raw_object.Goals as goal

pub returns : goal.returns
returns c = raw-text c.args.kind c.args.bytes.now c.ranges.kind.fits (λ i. omega (arith, c.type_inv.bytes i))
