use Rattle.someip_tables.specs.Tables.{map_of}
use Rattle.audit_sd.specs.sessions.SessionBooks.{pair_cmp}
use Rattle.audit_sd.proofs.about_sessions.OtherLemmas.{all_others}
use Rattle.audit_sd.proofs.sessions.others.forget_others.Goals as goal

pub returns : goal.returns
returns c =
    all_others c.args.sender c.args.destination (map_of pair_cmp c.args.last.now.entries) (map_of pair_cmp c.forget_after.new.last.entries) (map_of pair_cmp c.forget_before.new.last.entries)
    c.forget_after.ensures.less c.forget_after.ensures.none c.forget_before.ensures.less c.forget_before.ensures.none
