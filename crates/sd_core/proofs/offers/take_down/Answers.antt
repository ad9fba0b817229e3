use Rattle.std.proofs.Common.{◌≡◌, Some, None, true, sym, ap, ◌∙◌, rules}
use Rattle.std.specs.Option.{is_some}
use Rattle.std.specs.FinMap as finite
use Rattle.someip_tables.specs.Tables.{map_of}
use Rattle.sd_core.specs.Keys.{instance_cmp}
use Rattle.sd_core.specs.OfferTables.{offers_of}
use Rattle.sd_core.proofs.OfferLemmas.{sending_is, absent_without, taken_down}
use Rattle.sd_core.proofs.offers.take_down.Goals as goal

pub returns-in_default-clause-was_up : goal.returns-in_default-clause-was_up
returns-in_default-clause-was_up c =
    let none : finite.get (map_of instance_cmp c.args.offerings.now) c.args.instance ≡ None = search rules in
    sym (ap is_some (sending_is (map_of instance_cmp c.args.offerings.now) c.args.instance None none))

pub returns-in_default-clause-down : goal.returns-in_default-clause-down
returns-in_default-clause-down c =
    let none : finite.get (map_of instance_cmp c.args.offerings.now) c.args.instance ≡ None = search rules in
    absent_without (map_of instance_cmp c.args.offerings.now) c.args.instance none

pub returns-clause-was_up : goal.returns-clause-was_up
returns-clause-was_up c =
    let found : finite.get (map_of instance_cmp c.args.offerings.now) c.args.instance ≡ Some c.in-Some.offering = search rules in
    c.is_some.ensures ∙ sym (ap is_some (sending_is (map_of instance_cmp c.args.offerings.now) c.args.instance (Some c.in-Some.offering) found))

pub returns-clause-down : goal.returns-clause-down
returns-clause-down c =
    let found : finite.get (map_of instance_cmp c.args.offerings.now) c.args.instance ≡ Some c.in-Some.offering = search rules in
    let there : c.replace.result ≡ true = c.replace.ensures.held ∙ ap is_some found in
    ap offers_of (rw there at c.replace.ensures.changed) ∙ taken_down (map_of instance_cmp c.args.offerings.now) c.args.instance c.in-Some.offering found
