use Rattle.someipctl_io.proofs.ObjectLemmas.{load-text}
use Rattle.someipctl_io.proofs.told_options.load_object.Goals as goal

pub returns : goal.returns
returns c = load-text c.args.priority c.args.weight
