use Rattle.std.proofs.Common.{map}
use Rattle.sd_wire.specs.contents.Values.{view_entry}
use Rattle.sd_wire.proofs.fronts.SplitLemmas.{same_fronts}
use Rattle.sd_wire.proofs.fronts.FrontLemmas.{are_lengths}
use Rattle.sd_wire.proofs.splitting.split_entries.Goals as goal

pub returns-clause-only : goal.returns-clause-only
returns-clause-only c = λ lengths are. same_fronts (map view_entry c.args.entries.now) c.in_ok-lengths.lengths.items lengths c.in_ok-lengths.ensures are

pub returns-clause-exact : goal.returns-clause-exact
returns-clause-exact c = are_lengths (map view_entry c.args.entries.now) c.in_ok-lengths.lengths.items c.in_ok-lengths.ensures
