use Rattle.std.proofs.Common.{map, ap, ◌∙◌}
use Rattle.someip_world_setup_keys.specs.Values.{want_view}
use Rattle.someip_world_setup_keys.specs.declared.parts.WantParts.{WantParts}
use Rattle.someip_world_setup_keys.specs.Clashes.{wanted_id}
use Rattle.someip_world_setup_keys.proofs.GatheredLemmas.{one_gathered, all_gathered}
use Rattle.someip_world_setup_keys.proofs.MakingLemmas.{map_after}
use Rattle.someip_world_setup_keys.proofs.gathered.wanted.Goals as goal

pub returns : goal.returns
returns c =
    let done = rw c.deref-want-items.ensures.value at c.loop-want-test.false in
    all_gathered (λ x. wanted_id (want_view x)) c.loop-want.instances.items c.loop-want.want-index c.args.node.now.wants.items (map (λ x. wanted_id (want_view x)) c.args.node.now.wants.items) done c.loop-want.invariant
    ∙ map_after wanted_id want_view c.args.node.now.wants.items

pub loop-want-preserved : goal.loop-want-preserved
loop-want-preserved c =
    let within = rw c.deref-want-items.ensures.value at c.loop-want-test.true in
    let here = rw c.deref-want-items.ensures.value at c.want-item.is in
    rw c.in_ok-push.ensures.items
    (one_gathered (λ (x : WantParts). wanted_id (want_view x)) c.loop-want.instances.items c.loop-want.want-index c.args.node.now.wants.items _ _ _ within (ap (λ (x : WantParts). wanted_id (want_view x)) here) c.loop-want.invariant)
