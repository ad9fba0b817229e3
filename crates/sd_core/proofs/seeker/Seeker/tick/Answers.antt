use Rattle.std.proofs.Common.{sym}
use Rattle.someip_tables.specs.Tables.{map_of}
use Rattle.sd_core.specs.Keys.{instance_cmp}
use Rattle.someip_tables.proofs.Outcomes.{on_err}
use Rattle.sd_core.proofs.SeekLemmas.{knows_wanted, quiet}
use Rattle.sd_core.proofs.seeker.Seeker.tick.Goals as goal

pub returns-clause-wanted : goal.returns-clause-wanted
returns-clause-wanted c = rw (sym c.self.view_is) (knows_wanted (map_of instance_cmp c.self.inside.wants))

pub returns-in_err-due-clause-wanted : goal.returns-in_err-due-clause-wanted
returns-in_err-due-clause-wanted c = rw (sym c.self.view_is) (knows_wanted (map_of instance_cmp c.self.inside.wants))

pub returns-in_err-due-clause-grows : goal.returns-in_err-due-clause-grows
returns-in_err-due-clause-grows c =
    on_err c.from_residual.result (rw (← c.self.view_is) (λ is. c.in_err-due.ensures.grows (quiet c.args.now (map_of instance_cmp c.self.inside.wants) is)))

pub returns-in_err-ticked-clause-wanted : goal.returns-in_err-ticked-clause-wanted
returns-in_err-ticked-clause-wanted c = rw (sym c.self.view_is) (knows_wanted (map_of instance_cmp c.self.inside.wants))
