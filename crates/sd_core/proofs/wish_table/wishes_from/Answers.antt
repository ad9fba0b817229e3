use Rattle.std.proofs.Common.{◌≡◌, Bool, true, false, ◌&&◌, filter, refl, sym, ap, ◌∙◌}
use Rattle.std.specs.Ordering.{is_le}
use Rattle.std.specs.FinMap.{entries}
use Rattle.someip_tables.specs.Tables.{map_of}
use Rattle.someip_tables.proofs.Entries.{filter_alike}
use Rattle.someip_tables.proofs.Trees.{entries-map_of}
use Rattle.sd_core.specs.Eventgroups.{eventgroup_cmp}
use Rattle.sd_core.specs.EventgroupOrder.{eventgroups_total, exact_eventgroups}
use Rattle.sd_core.specs.WishTables.{least_of}
use Rattle.sd_core.proofs.wish_table.wishes_from.Goals as goal

and_true : (b : Bool) → (b && true) ≡ b
and_true true = refl
and_true false = refl

pub returns-clause-rest : goal.returns-clause-rest
returns-clause-rest c =
    c.range.ensures.between tt
    ∙ filter_alike _ (λ e. is_le (eventgroup_cmp c.first_of.result e.0)) c.held.result.now.entries (λ e. and_true _)
    ∙ ap (λ k. filter (λ e. is_le (eventgroup_cmp k e.0)) c.held.result.now.entries) c.first_of.ensures
    ∙ ap (filter (λ e. is_le (eventgroup_cmp (least_of c.args.instance) e.0)))
    (sym (entries-map_of eventgroups_total exact_eventgroups c.held.result.now.entries c.range.ensures.ordered) ∙ ap (λ es. entries (map_of eventgroup_cmp es)) c.held.ensures)
