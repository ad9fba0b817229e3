use Rattle.std.proofs.Common.{◌≡◌, Some, None, sym, ap, ◌∙◌, rules}
use Rattle.std.specs.BTreeMap as tree
use Rattle.someip_tables.specs.Endpoints.{address_cmp}
use Rattle.someip_tables.specs.EndpointOrder.{addresses_total}
use Rattle.someip_tables.proofs.Trees.{get-map_of}
use Rattle.someip_node_rules.specs.histories.Tables.{stamp_or_first}
use Rattle.someip_node_engine.proofs.announcing.counter_for.Goals as goal

pub returns-in-Some : goal.returns-in-Some
returns-in-Some c =
    let found : Some c.in-Some.counter.now ≡ tree.get address_cmp c.args.unicast.now c.args.peer = search rules in
    ap stamp_or_first (found ∙ sym (get-map_of addresses_total c.args.unicast.now.entries c.args.peer))

pub returns-in-None : goal.returns-in-None
returns-in-None c =
    let none : None ≡ tree.get address_cmp c.args.unicast.now c.args.peer = search rules in
    c.new.ensures ∙ ap stamp_or_first (none ∙ sym (get-map_of addresses_total c.args.unicast.now.entries c.args.peer))
