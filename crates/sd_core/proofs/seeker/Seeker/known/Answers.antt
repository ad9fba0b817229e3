use Rattle.std.proofs.Common.{◌≡◌, Some, None, sym, ap, ◌∙◌, rules}
use Rattle.std.specs.FinMap as finite
use Rattle.someip_tables.specs.Tables.{map_of}
use Rattle.sd_core.specs.Keys.{instance_cmp}
use Rattle.sd_core.specs.SeekTables.{known_at}
use Rattle.sd_core.proofs.SeekLemmas.{known_is}
use Rattle.sd_core.proofs.seeker.Seeker.known.Goals as goal

pub returns-in-Some : goal.returns-in-Some
returns-in-Some c =
    let found : finite.get (map_of instance_cmp c.self.inside.wants) c.args.instance ≡ Some c.in-Some.want.now = search rules in
    rw (← c.self.view_is)
    (c.known_at.ensures ∙ sym (ap (known_at c.args.now) (known_is (map_of instance_cmp c.self.inside.wants) c.args.instance (Some c.in-Some.want.now) found)))

pub returns-in-None : goal.returns-in-None
returns-in-None c =
    let none : finite.get (map_of instance_cmp c.self.inside.wants) c.args.instance ≡ None = search rules in
    rw (← c.self.view_is) (sym (ap (known_at c.args.now) (known_is (map_of instance_cmp c.self.inside.wants) c.args.instance None none)))
