use Rattle.std.proofs.Common.{arith}
use Rattle.someipctl_io.proofs.EscapeLemmas.{escape-hex, quoted-plain}
use Rattle.someipctl_io.proofs.objects.quoted_bytes.Goals as goal

pub returns : goal.returns
returns c = quoted-plain _ (escape-hex c.args.bytes.now (λ i. omega (arith, c.type_inv.bytes i)))
