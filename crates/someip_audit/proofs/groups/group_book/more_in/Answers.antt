use Rattle.std.proofs.Common.{◌≡◌, ◌++◌, sym, ap, ◌∙◌}
use Rattle.std.specs.List.{flat_map}
use Rattle.std.proofs.lemmas.List.{append-nil}
use Rattle.someip_tables.proofs.Trees.{entries-map_of}
use Rattle.someip_audit.specs.groups.GroupOrder.{exact_groups, groups_total}
use Rattle.someip_audit.specs.groups.GroupTables.{told_more}
use Rattle.someip_audit.proofs.groups.group_book.more_in.Goals as goal

pub returns : goal.returns
returns c =
    let groups = c.loop-key.groups.items in
    sym (append-nil groups) ∙ sym (ap (λ es. groups ++ flat_map told_more es) c.in-None.ensures.steps.0) ∙ c.loop-key.invariant
    ∙ ap (flat_map told_more) (sym (entries-map_of groups_total exact_groups c.args.numbers.now.entries c.iter-key-items.ensures.ordered))
