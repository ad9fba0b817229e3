use Rattle.toml.specs.View.{view}
use Rattle.someipctl_show.proofs.about_types.TextLemmas.{without_names}
use Rattle.someipctl_show.proofs.types.names.names_in.Goals as goal

pub returns-in_default-clause-ok : goal.returns-in_default-clause-ok
returns-in_default-clause-ok c = without_names (view c.args.tree.now) c.no_names.result c.in_default.ensures c.no_names.ensures.0 c.no_names.ensures.1
