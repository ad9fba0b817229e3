use Rattle.std.proofs.Common.{arith, refl}
use Rattle.someipctl_io.proofs.EscapeLemmas.{escape-hex}
use Rattle.someipctl_io.proofs.MessageObjectLemmas.{escape-type}
use Rattle.someipctl_io.proofs.message_objects.member_parts.Goals as goal

pub returns : goal.returns
returns c = rw (c.name_of_type.ensures, escape-type c.args.kind, escape-hex c.args.payload.now (λ i. omega (arith, c.type_inv.payload i))) refl
