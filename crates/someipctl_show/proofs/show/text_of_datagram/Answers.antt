use Rattle.std.proofs.Common.{rules}
use Rattle.someipctl_show.specs.ShownText.{no_types}
use Rattle.someipctl_show.proofs.FormLemmas.{plain_datagram}
use Rattle.someipctl_show.proofs.show.text_of_datagram.Goals as goal

pub returns : goal.returns
returns c = plain_datagram no_types 1 c.args.datagram.now _ (search rules)
