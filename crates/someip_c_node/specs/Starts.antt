-- The start of a node, by a setup's text and a name.
use Rattle.std.specs.Prelude.{◌≡◌, ℕ, true, false, List, [], IsSomeAnd, IsUtf8}
use Rattle.someip_node_rules.specs.forms.GoodConfigs.{is_good_delay, is_within}
use Rattle.someip_node_rules.specs.histories.History.{start_of}
use Rattle.someip_node_rules.specs.steps.Steps.{StandsFor}
use Rattle.someip_world_setup.specs.Readings.{setup_of_text}
use Rattle.someip_world_setup_keys.specs.Values.{SetupValue}
use Rattle.someip_c_node.specs.declared.outcome.Outcome.{Outcome}
use Rattle.someip_c_node.specs.declared.outcome.Outcome.TheVariants.{BadDelay, NotText}
use Rattle.someip_c_node.specs.Calls.{CNodeView}
use Rattle.someip_c_node.specs.Texts.{IsConfigIn, IsRefused, named}

-- a node began its life with the configuration of the node of a name in a text's setup, and gave nothing yet
abbrev pub IsStarted : List ℕ → List ℕ → ℕ → CNodeView → Type 0
IsStarted text name delay c =
    IsUtf8 text × (IsConfigIn text name c.node.config
    × ((is_good_delay c.node.config delay ≡ true) × ((c.waiting ≡ []) × StandsFor c.node (start_of c.node.config delay))))

-- a setup has the node of a name, and its range of first delays is another
abbrev pub RefusesDelay : List ℕ → ℕ → SetupValue → Type 0
RefusesDelay name delay said = IsSomeAnd (named name said.nodes) (λ _. is_within said.common.initial_min said.common.initial_max delay ≡ false)

-- why no node is started
abbrev pub IsNotStarted : List ℕ → List ℕ → ℕ → Outcome → Type 0
IsNotStarted text name delay NotText = IsUtf8 text → ⊥
IsNotStarted text name delay BadDelay = IsUtf8 text × IsSomeAnd (setup_of_text text) (RefusesDelay name delay)
IsNotStarted text name delay outcome = IsUtf8 text × IsRefused text name outcome
