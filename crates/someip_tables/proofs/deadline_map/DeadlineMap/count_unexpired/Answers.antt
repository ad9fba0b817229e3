use Rattle.std.proofs.Common.{◌∙◌, not}
use Rattle.someip_tables.specs.Deadlines.{has_passed}
use Rattle.someip_tables.proofs.Entries.{length-filter_is}
use Rattle.someip_tables.proofs.Trees.{rising_distinct}
use Rattle.someip_tables.proofs.deadline_map.DeadlineMap.count_unexpired.Goals as goal

pub returns : goal.returns
returns g c = λ test answers.
    rw (← c.self.view_is)
    (c.count_unexpired.ensures.counted test answers
    ∙ length-filter_is g.met.K.Ord.total g.met.K.Key.exact (λ _ lasting. not (has_passed c.args.now lasting.until)) test c.self.inside.held.entries (rising_distinct g.met.K.Ord.total g.met.K.Key.exact c.self.inside.held.entries c.count_unexpired.ensures.ordered))
