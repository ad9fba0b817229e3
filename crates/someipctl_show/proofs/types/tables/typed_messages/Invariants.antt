use Rattle.std.proofs.Common.{◌≤◌}
use Rattle.someipctl_show.specs.types.Views.{types_view}
use Rattle.someipctl_show.proofs.about_types.TableLemmas.{HasReadTo}
use Rattle.someipctl_show.proofs.types.tables.typed_messages.Given as goal

abbrev pub invariant-loop-i : goal.invariant-loop-i
invariant-loop-i l = HasReadTo l.names.shapes l.names.left l.left (types_view l.messages.items) l.i l.tables × (l.left ≤ l.names.left)
