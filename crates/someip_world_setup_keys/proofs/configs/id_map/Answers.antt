use Rattle.std.proofs.Common.{[], ap, ◌∙◌}
use Rattle.std.specs.Ordering.{nat_cmp}
use Rattle.someip_world_setup_keys.specs.declared.parts.Listed.{Listed}
use Rattle.someip_world_setup_keys.specs.Values.{listed_view}
use Rattle.someip_world_setup_keys.specs.Made.{keys_of_set, keyed_list, set_of, with_entries}
use Rattle.someip_world_setup_keys.proofs.MakingLemmas.{one_entry, all_entries, map_after}
use Rattle.someip_world_setup_keys.proofs.configs.id_map.Goals as goal

pub loop-list-preserved : goal.loop-list-preserved
loop-list-preserved c =
    one_entry nat_cmp keys_of_set (λ x. keyed_list (listed_view x)) c.loop-list.map.entries _ c.loop-list.list-index c.args.lists.now _ _ _ c.loop-list-test.true c.in_ok-insert.ensures.entries
    (ap (λ (x : Listed). x.id) c.list-item.is)
    (c.in_ok-id_set.ensures ∙ ap set_of c.deref.ensures.value ∙ ap (λ (x : Listed). set_of x.members.items) c.list-item.is)
    c.loop-list.invariant

pub returns : goal.returns
returns c =
    all_entries nat_cmp keys_of_set (λ x. keyed_list (listed_view x)) c.loop-list.map.entries c.loop-list.list-index c.args.lists.now c.loop-list-test.false c.loop-list.invariant
    ∙ ap (with_entries nat_cmp []) (map_after (keyed_list) listed_view c.args.lists.now)
