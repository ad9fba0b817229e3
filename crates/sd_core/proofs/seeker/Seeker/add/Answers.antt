use Rattle.std.proofs.Common.{None, ap, ◌∙◌}
use Rattle.std.proofs.lemmas.Result.{on_ok_weaker, on_err_weaker}
use Rattle.someip_tables.specs.Tables.{map_of}
use Rattle.sd_core.specs.Keys.{instance_cmp}
use Rattle.sd_core.specs.SeekTables.{seek_of}
use Rattle.sd_core.proofs.SeekLemmas.{wanted_is, added}
use Rattle.sd_core.proofs.seeker.Seeker.add.Goals as goal

pub returns-clause-ok : goal.returns-clause-ok
returns-clause-ok c =
    rw (← c.self.view_is) (on_ok_weaker c.insert.result (λ is. ap seek_of is ∙ added (map_of instance_cmp c.self.inside.wants) c.args.instance c.args.major) c.insert.ensures.ok)

pub returns-clause-err : goal.returns-clause-err
returns-clause-err c = rw (← c.self.view_is) (on_err_weaker c.insert.result (λ is. ap seek_of is) c.insert.ensures.err)

pub returns-clause-grows : goal.returns-clause-grows
returns-clause-grows c =
    rw (← c.self.view_is) (on_err_weaker c.insert.result (λ none. wanted_is (map_of instance_cmp c.self.inside.wants) c.args.instance None none) c.insert.ensures.grows)
