use Rattle.someip_world_setup.proofs.laws.nodes_of_a_setup_can_be_started.Goals as goal

pub returns : goal.returns
returns c = λ network good k d lt. let node = good.nodes k d lt in (node.config, node.delay)
