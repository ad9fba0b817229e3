use Rattle.std.proofs.Common.{ap, sym, ◌∙◌, rules}
use Rattle.someip_tables.specs.Tables.{map_of}
use Rattle.sd_core.specs.Keys.{instance_cmp}
use Rattle.sd_core.specs.SeekTables.{seek_of}
use Rattle.sd_core.proofs.SeekLemmas.{is_of, forgetful_want, peer_keys, peer_forgotten}
use Rattle.sd_core.proofs.seeker.forget.Goals as goal

pub returns : goal.returns
returns c =
    ap seek_of (c.change_those.ensures (λ _ w. forgetful_want c.args.peer c.args.now w) (is_of c.args.peer c.args.now) (λ key value answer said. search rules)
    (c.requires ∙ sym (peer_keys c.args.peer c.args.now (map_of instance_cmp c.args.wants.now))))
    ∙ peer_forgotten c.args.peer c.args.now (map_of instance_cmp c.args.wants.now)
