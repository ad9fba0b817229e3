use Rattle.someipctl_io.proofs.EscapeLemmas.{escape-hex4, quoted-plain}
use Rattle.someipctl_io.proofs.objects.quoted_id.Goals as goal

pub returns : goal.returns
returns c = quoted-plain _ (escape-hex4 c.args.id)
