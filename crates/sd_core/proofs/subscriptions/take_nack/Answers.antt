use Rattle.std.proofs.Common.{◌≡◌, Some, None, sym, ap, ◌∙◌}
use Rattle.std.specs.FinMap as finite
use Rattle.std.specs.Option.{option_copied}
use Rattle.someip_tables.specs.Tables.{map_of}
use Rattle.sd_core.specs.Eventgroups.{eventgroup_cmp}
use Rattle.sd_core.specs.EventgroupOrder.{eventgroups_total, exact_eventgroups}
use Rattle.sd_core.specs.Wishes.{nacked_wish}
use Rattle.sd_core.proofs.ChangedLemmas.{replaced, absent-changed}
use Rattle.sd_core.proofs.subscriptions.take_nack.Goals as goal

pub returns-in_default-clause-nacked : goal.returns-in_default-clause-nacked
returns-in_default-clause-nacked c =
    let none : finite.get (map_of eventgroup_cmp c.args.table.now) c.args.answer.now.eventgroup ≡ None = sym c.get.ensures ∙ ap option_copied c.in_default.is in
    absent-changed eventgroups_total exact_eventgroups (nacked_wish c.args.now c.args.answer.now) (map_of eventgroup_cmp c.args.table.now) c.args.answer.now.eventgroup none

pub returns-clause-nacked : goal.returns-clause-nacked
returns-clause-nacked c =
    let found : finite.get (map_of eventgroup_cmp c.args.table.now) c.args.answer.now.eventgroup ≡ Some c.in-Some.field-0.now = sym c.get.ensures ∙ ap option_copied c.in-Some.is in
    replaced eventgroups_total exact_eventgroups (nacked_wish c.args.now c.args.answer.now) (map_of eventgroup_cmp c.args.table.now) (map_of eventgroup_cmp c.replace.new.self) c.args.answer.now.eventgroup c.in-Some.field-0.now c.nacked.result c.replace.result
    found c.nacked.ensures c.replace.ensures.held c.replace.ensures.changed
