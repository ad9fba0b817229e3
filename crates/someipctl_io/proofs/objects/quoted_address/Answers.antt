use Rattle.std.proofs.Common.{◌∙◌}
use Rattle.std.specs.Net.Addr.{ipv4_octets}
use Rattle.someipctl_io.proofs.EscapeLemmas.{escape-ipv4, quoted-plain}
use Rattle.someipctl_io.proofs.objects.quoted_address.Goals as goal

pub returns : goal.returns
returns c = c.address_between.ensures.text ∙ quoted-plain _ (escape-ipv4 (ipv4_octets c.args.address) c.address_between.ensures.octets)
