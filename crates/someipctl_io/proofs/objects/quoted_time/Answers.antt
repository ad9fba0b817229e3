use Rattle.std.proofs.Common.{◌∙◌, arith}
use Rattle.someipctl_io.proofs.EscapeLemmas.{escape-seconds, quoted-plain}
use Rattle.someipctl_io.proofs.objects.quoted_time.Goals as goal

pub returns : goal.returns
returns c = c.time_between.ensures ∙ quoted-plain _ (escape-seconds c.args.seconds c.args.nanoseconds c.ranges.seconds.fits c.ranges.nanoseconds.fits)
