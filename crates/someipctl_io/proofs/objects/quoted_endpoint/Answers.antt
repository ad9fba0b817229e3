use Rattle.std.proofs.Common.{◌∙◌}
use Rattle.someipctl_io.proofs.EscapeLemmas.{escape-socket, quoted-plain}
use Rattle.someipctl_io.proofs.objects.quoted_endpoint.Goals as goal

pub returns : goal.returns
returns c = c.endpoint_between.ensures.text ∙ quoted-plain _ (escape-socket c.args.endpoint c.endpoint_between.ensures.octets c.endpoint_between.ensures.port)
