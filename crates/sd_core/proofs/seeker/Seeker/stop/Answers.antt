use Rattle.std.proofs.Common.{◌≡◌, true, false, Some, None, sym, ap, ◌∙◌, rules}
use Rattle.std.specs.Option.{is_some}
use Rattle.std.specs.FinMap as finite
use Rattle.someip_tables.specs.Tables.{map_of}
use Rattle.sd_core.specs.Keys.{instance_cmp}
use Rattle.sd_core.specs.SeekTables.{seek_of}
use Rattle.sd_core.proofs.SeekLemmas.{stopped_is, lost}
use Rattle.sd_core.proofs.seeker.Seeker.stop.Goals as goal

pub returns-in_default-clause-ended : goal.returns-in_default-clause-ended
returns-in_default-clause-ended c =
    let none : finite.get (map_of instance_cmp c.self.inside.wants) c.args.instance ≡ None = search rules in
    rw (← c.self.view_is) (sym (stopped_is c.args.instance c.args.major c.args.peer c.args.now (map_of instance_cmp c.self.inside.wants) None none))

pub returns-then-not-is_stopped_by-clause-ended : goal.returns-then-not-is_stopped_by-clause-ended
returns-then-not-is_stopped_by-clause-ended c =
    let some : finite.get (map_of instance_cmp c.self.inside.wants) c.args.instance ≡ Some c.in-Some.want = search rules in
    let no : c.is_stopped_by.result ≡ false = search rules in
    rw (← c.self.view_is) (sym (stopped_is c.args.instance c.args.major c.args.peer c.args.now (map_of instance_cmp c.self.inside.wants) (Some c.in-Some.want) some
    ∙ sym c.is_stopped_by.ensures ∙ no))

pub returns-clause-ended : goal.returns-clause-ended
returns-clause-ended c =
    let some : finite.get (map_of instance_cmp c.self.inside.wants) c.args.instance ≡ Some c.in-Some.want = search rules in
    let stopped : c.is_stopped_by.result ≡ true = search rules in
    rw (← c.self.view_is) (sym (stopped_is c.args.instance c.args.major c.args.peer c.args.now (map_of instance_cmp c.self.inside.wants) (Some c.in-Some.want) some
    ∙ sym c.is_stopped_by.ensures ∙ stopped))

pub returns-clause-gone : goal.returns-clause-gone
returns-clause-gone c =
    let some : finite.get (map_of instance_cmp c.self.inside.wants) c.args.instance ≡ Some c.in-Some.want = search rules in
    let there : c.replace.result ≡ true = c.replace.ensures.held ∙ ap is_some some in
    rw (← c.self.view_is) (ap seek_of (rw there at c.replace.ensures.changed) ∙ lost (map_of instance_cmp c.self.inside.wants) c.args.instance c.in-Some.want some)
