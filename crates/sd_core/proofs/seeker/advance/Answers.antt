use Rattle.std.proofs.Common.{ap, ◌∙◌, rules}
use Rattle.someip_tables.specs.Tables.{map_of}
use Rattle.sd_core.specs.Keys.{instance_cmp}
use Rattle.sd_core.specs.SeekTables.{seek_of}
use Rattle.sd_core.proofs.SeekLemmas.{want_is_due, ticked_want, due_ticked}
use Rattle.sd_core.proofs.seeker.advance.Goals as goal

pub returns : goal.returns
returns c =
    ap seek_of (c.change_those.ensures (λ _ w. ticked_want c.args.phases c.args.now w) (want_is_due c.args.now) (λ key value answer said. search rules) c.requires)
    ∙ due_ticked c.args.phases c.args.now (map_of instance_cmp c.args.wants.now)
