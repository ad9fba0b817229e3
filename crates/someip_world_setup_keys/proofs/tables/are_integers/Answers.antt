use Rattle.std.proofs.Common.{◌∙◌, sym}
use Rattle.std.proofs.lemmas.List.Folds.{list_all-map}
use Rattle.toml.specs.View.{view}
use Rattle.someip_world_setup_keys.specs.Lists.{is_integer}
use Rattle.someip_world_setup_keys.proofs.tables.are_integers.Goals as goal

pub returns : goal.returns
returns c = c.is_each_integer.ensures ∙ sym (list_all-map is_integer view c.args.list.now)
