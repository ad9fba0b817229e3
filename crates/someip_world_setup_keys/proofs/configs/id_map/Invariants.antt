use Rattle.std.specs.Ordering.{nat_cmp}
use Rattle.someip_world_setup_keys.specs.Values.{listed_view}
use Rattle.someip_world_setup_keys.specs.Made.{keys_of_set, keyed_list}
use Rattle.someip_world_setup_keys.proofs.MakingLemmas.{HasEntries}
use Rattle.someip_world_setup_keys.proofs.configs.id_map.Given as goal

abbrev pub invariant-loop-list : goal.invariant-loop-list
invariant-loop-list l = HasEntries nat_cmp keys_of_set (λ x. keyed_list (listed_view x)) l.map.entries l.list-index l.lists
