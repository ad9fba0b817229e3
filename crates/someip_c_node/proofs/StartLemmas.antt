-- Why no node is started.
use Rattle.std.proofs.Common.{◌≡◌, ◌∙◌, sym, ap, ℕ, List}
use Rattle.std.specs.Prelude.{false, Option, None, Some, IsSomeAnd, IsUtf8}
use Rattle.someip_node_rules.specs.forms.GoodConfigs.{is_good_delay, is_within}
use Rattle.someip_node_rules.specs.declared.config.Config.{Config}
use Rattle.someip_world_setup.specs.Readings.{setup_of_text}
use Rattle.someip_world_setup_keys.specs.Values.{NodeValue, SetupValue}
use Rattle.someip_c_node.specs.declared.outcome.Outcome.TheVariants.{BadDelay}
use Rattle.someip_c_node.specs.Starts.{IsNotStarted, RefusesDelay}
use Rattle.someip_c_node.specs.Texts.{IsConfigIn, IsConfigOf, IsNamedIn, named}

delay_of : (said : SetupValue) (node : Option NodeValue) (config : Config) (delay : ℕ) → IsSomeAnd node (λ n. IsConfigOf said n config) → is_good_delay config delay ≡ false
    → IsSomeAnd node (λ _. is_within said.common.initial_min said.common.initial_max delay ≡ false)
delay_of said None config delay c bad = absurd c
delay_of said (Some node) config delay c bad = sym (ap (λ common. is_within common.initial_min common.initial_max delay) c.0) ∙ bad

refuses : (said : Option SetupValue) (name : List ℕ) (config : Config) (delay : ℕ) → IsSomeAnd said (IsNamedIn name config) → is_good_delay config delay ≡ false → IsSomeAnd said (RefusesDelay name delay)
refuses None name config delay c bad = absurd c
refuses (Some said) name config delay c bad = delay_of said (named name said.nodes) config delay c bad

-- the delay of a configuration that the text says is outside its range
pub bad_delay : (text name : List ℕ) (config : Config) (delay : ℕ) → IsUtf8 text → IsConfigIn text name config → is_good_delay config delay ≡ false → IsNotStarted text name delay BadDelay
bad_delay text name config delay utf8 c bad = (utf8, refuses (setup_of_text text) name config delay c bad)
