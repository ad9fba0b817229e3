use Rattle.std.proofs.Common.{None, Some, ap, ◌∙◌, rules}
use Rattle.someip_tables.specs.Tables.{map_of}
use Rattle.sd_core.specs.Keys.{instance_cmp}
use Rattle.sd_core.specs.SeekTables.{seek_of, searching_from}
use Rattle.sd_core.proofs.SeekLemmas.{all_searched}
use Rattle.sd_core.proofs.seeker.Seeker.start.Goals as goal

pub returns : goal.returns
returns c =
    rw (← c.self.view_is) (ap seek_of (c.change_all.ensures (λ _ w. record { major = w.major; known = None; finding = Some c.first_at-first.result }) (λ key value answer said. search rules))
    ∙ all_searched c.first_at-first.result (map_of instance_cmp c.self.inside.wants)
    ∙ ap (λ first. searching_from first (seek_of (map_of instance_cmp c.self.inside.wants))) c.first_at-first.ensures)
