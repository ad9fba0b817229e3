use Rattle.someipctl_io.proofs.EscapeLemmas.{escape-hex2, quoted-plain}
use Rattle.someipctl_io.proofs.objects.quoted_byte.Goals as goal

pub returns : goal.returns
returns c = quoted-plain _ (escape-hex2 c.args.byte c.ranges.byte.fits)
