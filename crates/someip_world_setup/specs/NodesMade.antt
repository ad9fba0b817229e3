-- The nodes that are made of what a setup says.
use Rattle.std.specs.Prelude.{ℕ, Bool, List, string_bytes}
use Rattle.someip_node_rules.specs.declared.config.Common.{Common}
use Rattle.someip_world_setup.specs.declared.setup_node.SetupNode.{SetupNode}
use Rattle.someip_world_setup_keys.specs.Values.{NodeValue}
use Rattle.someip_world_setup_keys.specs.Made.{ConfigMade, config_view, config_made}

-- a node with its configuration
pub record NodeMade : Type 0 where
  pub name : List ℕ
  pub delay : ℕ
  pub is_liar : Bool
  pub config : ConfigMade

-- the program's nodes as these
abbrev pub made_view : SetupNode → NodeMade
made_view n = record { name = string_bytes n.name; delay = n.delay; is_liar = n.is_liar; config = config_view n.config }

-- of what they are made
abbrev pub node_made : Common → NodeValue → NodeMade
node_made common n = record { name = n.name; delay = n.delay; is_liar = n.liar; config = config_made common n }
