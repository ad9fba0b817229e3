use Rattle.std.proofs.Common.{map, ap, ◌∙◌}
use Rattle.someip_world_setup_keys.specs.Values.{ListedValue, listed_view}
use Rattle.someip_world_setup_keys.specs.declared.parts.Listed.{Listed}
use Rattle.someip_world_setup_keys.proofs.GatheredLemmas.{one_gathered, all_gathered}
use Rattle.someip_world_setup_keys.proofs.MakingLemmas.{map_after}
use Rattle.someip_world_setup_keys.proofs.gathered.ids.Goals as goal

pub returns : goal.returns
returns c =
    all_gathered (λ (x : Listed). x.id) c.loop-list.ids.items c.loop-list.list-index c.args.lists.now (map (λ (x : Listed). x.id) c.args.lists.now) c.loop-list-test.false c.loop-list.invariant
    ∙ map_after (λ (x : ListedValue). x.id) listed_view c.args.lists.now

pub loop-list-preserved : goal.loop-list-preserved
loop-list-preserved c =
    rw c.in_ok-push.ensures.items
    (one_gathered (λ (x : Listed). x.id) c.loop-list.ids.items c.loop-list.list-index c.args.lists.now _ _ _ c.loop-list-test.true (ap (λ (x : Listed). x.id) c.list-item.is) c.loop-list.invariant)
