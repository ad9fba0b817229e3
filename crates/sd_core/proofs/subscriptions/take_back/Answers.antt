use Rattle.std.proofs.Common.{◌≡◌, Some, None, sym, ap, ◌∙◌}
use Rattle.std.specs.FinMap as finite
use Rattle.std.specs.Option.{option_copied}
use Rattle.someip_tables.specs.Tables.{map_of}
use Rattle.sd_core.specs.Eventgroups.{eventgroup_cmp}
use Rattle.sd_core.specs.EventgroupOrder.{eventgroups_total, exact_eventgroups}
use Rattle.sd_core.specs.Wishes.{unwished}
use Rattle.sd_core.proofs.ChangedLemmas.{replaced, absent-changed}
use Rattle.sd_core.proofs.subscriptions.take_back.Goals as goal

pub returns-in_err-wish-clause-unwished : goal.returns-in_err-wish-clause-unwished
returns-in_err-wish-clause-unwished c =
    let none : finite.get (map_of eventgroup_cmp c.args.table.now) c.args.eventgroup ≡ None = sym c.get.ensures ∙ ap option_copied c.in_err-wish.was in
    absent-changed eventgroups_total exact_eventgroups unwished (map_of eventgroup_cmp c.args.table.now) c.args.eventgroup none

pub returns-clause-unwished : goal.returns-clause-unwished
returns-clause-unwished c =
    let found : finite.get (map_of eventgroup_cmp c.args.table.now) c.args.eventgroup ≡ Some c.in_ok-wish.field-0.now = sym c.get.ensures ∙ ap option_copied c.in_ok-wish.was in
    replaced eventgroups_total exact_eventgroups unwished (map_of eventgroup_cmp c.args.table.now) (map_of eventgroup_cmp c.replace.new.self) c.args.eventgroup c.in_ok-wish.field-0.now c.unwished.result c.replace.result
    found c.unwished.ensures c.replace.ensures.held c.replace.ensures.changed
