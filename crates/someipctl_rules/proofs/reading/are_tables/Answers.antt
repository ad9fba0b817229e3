use Rattle.std.proofs.Common.{◌∙◌, sym}
use Rattle.std.proofs.lemmas.List.Folds.{list_all-map}
use Rattle.toml.specs.View.{view}
use Rattle.someipctl_show.specs.types.Tables.{is_table}
use Rattle.someipctl_rules.proofs.reading.are_tables.Goals as goal

pub returns : goal.returns
returns c = c.is_each_table.ensures ∙ sym (list_all-map is_table view c.args.values.now)
