use Rattle.std.proofs.Common.{List, map, ◌∷◌, ap, ◌∙◌}
use Rattle.someip_world_setup_keys.specs.Values.{NodeValue, node_view}
use Rattle.std.specs.declared.net.ipv4_addr.Ipv4Addr.{Ipv4Addr}
use Rattle.someip_world_setup_keys.specs.declared.parts.NodeParts.{NodeParts}
use Rattle.someip_world_setup_keys.proofs.GatheredLemmas.{one_gathered, all_gathered}
use Rattle.someip_world_setup_keys.proofs.MakingLemmas.{map_after}
use Rattle.someip_world_setup_keys.proofs.gathered.addresses.Goals as goal

pub returns : goal.returns
returns c =
    all_gathered (λ (n : NodeParts). n.address) c.loop-node.addresses.items c.loop-node.node-index c.args.nodes.now (c.args.group ∷ map (λ (n : NodeParts). n.address) c.args.nodes.now) c.loop-node-test.false c.loop-node.invariant
    ∙ ap (λ (t : List Ipv4Addr). c.args.group ∷ t) (map_after (λ (n : NodeValue). n.address) node_view c.args.nodes.now)

pub loop-node-preserved : goal.loop-node-preserved
loop-node-preserved c =
    rw c.in_ok-push-2.ensures.items
    (one_gathered (λ (n : NodeParts). n.address) c.loop-node.addresses.items c.loop-node.node-index c.args.nodes.now _ _ _ c.loop-node-test.true (ap (λ (n : NodeParts). n.address) c.node-item.is) c.loop-node.invariant)
