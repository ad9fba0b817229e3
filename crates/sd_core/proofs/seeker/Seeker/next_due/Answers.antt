use Rattle.someip_tables.specs.Tables.{map_of}
use Rattle.sd_core.specs.Keys.{instance_cmp}
use Rattle.sd_core.proofs.SeekLemmas.{knows_wanted, none_is_quiet, quiet}
use Rattle.sd_core.proofs.seeker.Seeker.next_due.Goals as goal

pub returns-clause-due : goal.returns-clause-due
returns-clause-due c = λ now.
    rw (← c.self.view_is) (
      (λ due is. (c.first_due.ensures now).0 due (quiet now (map_of instance_cmp c.self.inside.wants) is)),
      (λ some. (c.first_due.ensures now).1 (λ none. some (none_is_quiet now (map_of instance_cmp c.self.inside.wants) none))),
    )

pub returns-clause-wanted : goal.returns-clause-wanted
returns-clause-wanted c = rw (← c.self.view_is) (knows_wanted (map_of instance_cmp c.self.inside.wants))
