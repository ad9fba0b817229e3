use Rattle.std.proofs.Common.{◌++◌, sym, ap, ◌∙◌}
use Rattle.std.specs.List.{flat_map}
use Rattle.std.proofs.lemmas.List.{append-nil}
use Rattle.someip_tables.specs.Tables.{map_of}
use Rattle.someip_tables.proofs.Trees.{entries-map_of}
use Rattle.audit_traffic.specs.ways.WayKeys.{way_cmp}
use Rattle.audit_traffic.specs.ways.WayOrder.{exact_ways, ways_total}
use Rattle.audit_traffic.specs.ways.WayTables.{told_one_way}
use Rattle.audit_traffic.proofs.ways.way_book.one_ways_in.Goals as goal

pub returns : goal.returns
returns c =
    let ways = c.loop-way.ways.items in
    let f = told_one_way (map_of way_cmp c.args.numbers.now.entries) in
    sym (append-nil ways) ∙ sym (ap (λ es. ways ++ flat_map f es) c.in-None.ensures.steps.0) ∙ c.loop-way.invariant
    ∙ ap (flat_map f) (sym (entries-map_of ways_total exact_ways c.args.numbers.now.entries c.iter-way-items.ensures.ordered))
