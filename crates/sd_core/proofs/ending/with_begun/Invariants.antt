use Rattle.std.proofs.Common.{drop}
use Rattle.someip_tables.specs.Tables.{map_of}
use Rattle.sd_core.specs.Eventgroups.{eventgroup_cmp}
use Rattle.sd_core.proofs.WishLemmas.{IsGathered}
use Rattle.sd_core.proofs.ending.with_begun.Given as goal

abbrev pub invariant-loop-instance : goal.invariant-loop-instance
invariant-loop-instance l = IsGathered l.others l.instances (drop l.instance-index l.instances) (map_of eventgroup_cmp l.table) l.all
