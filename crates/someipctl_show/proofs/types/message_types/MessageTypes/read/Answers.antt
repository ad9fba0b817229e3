use Rattle.std.proofs.Common.{rules, ◌≡◌, Some}
use Rattle.toml.proofs.Views.{view-Table}
use Rattle.toml.specs.Data.{table}
use Rattle.toml.specs.View.{table_view}
use Rattle.someipctl_show.specs.types.Says.{tree_of}
use Rattle.someipctl_show.proofs.about_types.ReadLemmas.{text_fault}
use Rattle.someipctl_show.proofs.types.message_types.MessageTypes.read.Goals as goal

pub returns-in-Ok-clause-fault : goal.returns-in-Ok-clause-fault
returns-in-Ok-clause-fault c =
    let is : tree_of c.args.text.now ≡ Some (table (table_view c.in-Ok.table)) = search rules in
    text_fault (tree_of c.args.text.now) (table (table_view c.in-Ok.table)) c.types_in.result is (rw (view-Table c.in-Ok.table) at c.types_in.ensures.fault)
