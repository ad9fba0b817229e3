-- What a liar sends breaks nothing.
use Rattle.std.proofs.Common.{ℕ, List}
use Rattle.someip_node_rules.specs.declared.config.Config.{Config}
use Rattle.someip_world_schedule.specs.declared.step.Step.{Step}
use Rattle.someip_world_setup.specs.declared.setup_node.SetupNode.{SetupNode}
use Rattle.someip_world_rules.specs.Datagrams.{SentDatagram}
use Rattle.someip_world_rules.specs.Deliveries.{Delivers, IsInjected}
use Rattle.someip_world_rules.proofs.InjectionLemmas.{no_node_sent}
use Rattle.someip_world_rules.specs.exchanges.CleanReuse.{Breaks, Mixed, Old}

-- a step that delivers it delivers nothing that a node sent
pub breaks_nothing : (nodes : List SetupNode) (configs : List Config) (ss : List Step) (n sent : ℕ) (d : SentDatagram) → Delivers nodes configs ss n sent d
    → IsInjected nodes configs ss sent d → Breaks nodes configs ss n → ⊥
breaks_nothing nodes configs ss n sent d del injected (Old o) = no_node_sent nodes configs ss n sent d del injected o.sent o.datagram o.delivers o.belongs.sent
breaks_nothing nodes configs ss n sent d del injected (Mixed m) = no_node_sent nodes configs ss n sent d del injected m.arrives.sent m.arrives.datagram m.arrives.delivers m.arrives.sends
