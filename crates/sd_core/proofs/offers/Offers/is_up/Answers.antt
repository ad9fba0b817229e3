use Rattle.std.proofs.Common.{◌≡◌, Some, None, sym, ap, ◌∙◌, rules}
use Rattle.std.specs.Option.{is_some}
use Rattle.std.specs.FinMap as finite
use Rattle.someip_tables.specs.Tables.{map_of}
use Rattle.sd_core.specs.Keys.{instance_cmp}
use Rattle.sd_core.proofs.OfferLemmas.{sending_is}
use Rattle.sd_core.proofs.offers.Offers.is_up.Goals as goal

pub returns-in-Some : goal.returns-in-Some
returns-in-Some c =
    let found : finite.get (map_of instance_cmp c.self.inside.offerings) c.args.instance ≡ Some c.in-Some.offering.now = search rules in
    rw (← c.self.view_is) (c.is_some.ensures ∙ sym (ap is_some (sending_is (map_of instance_cmp c.self.inside.offerings) c.args.instance (Some c.in-Some.offering.now) found)))

pub returns-in-None : goal.returns-in-None
returns-in-None c =
    let none : finite.get (map_of instance_cmp c.self.inside.offerings) c.args.instance ≡ None = search rules in
    rw (← c.self.view_is) (sym (ap is_some (sending_is (map_of instance_cmp c.self.inside.offerings) c.args.instance None none)))
