-- The configuration of a name, from the setup that was read.
use Rattle.std.proofs.Common.{◌≡◌, ◌∙◌, sym, ap, subst, ℕ, List}
use Rattle.std.specs.Prelude.{true, Option, None, Some, IsSomeAnd, Result, Ok, Err, IfOk, IfErr}
use Rattle.someip_node_rules.specs.trails.Copies.{IsCopy}
use Rattle.someip_node_rules.specs.forms.GoodConfigs.{is_good}
use Rattle.someip_node_rules.specs.declared.config.Config.{Config}
use Rattle.someip_node_rules.specs.declared.config.Common.{Common}
use Rattle.someip_world_setup.specs.GoodSetups.{IsGoodNetwork, IsGoodNode, Network}
use Rattle.someip_world_setup_keys.specs.Made.{config_made, config_view}
use Rattle.someip_world_setup.specs.Readings.{HasValues, IsOwed, TextHasFault, setup_of_text, tree_of}
use Rattle.someip_world_setup_keys.specs.Values.{NodeValue, SetupValue, common_view}
use Rattle.someip_world_setup_keys.specs.declared.error.SetupError.{SetupError}
use Rattle.someip_world_setup_keys.specs.declared.error.SetupError.TheVariants as setup
use Rattle.someip_world_setup.specs.declared.setup_node.SetupNode.{SetupNode}
use Rattle.someip_c_node.specs.declared.outcome.Outcome.{Outcome}
use Rattle.someip_c_node.specs.declared.outcome.Outcome.TheVariants.{NoSuchNode, OutOfMemory}
use Rattle.someip_c_node.specs.Texts.{IsConfigIn, IsConfigOf, IsCopyIn, IsLacking, IsNamedIn, IsRefused, fault_outcome, first_named, named}
use Rattle.someip_c_node.proofs.CopyLemmas.{same_goodness, same_views}
use Rattle.someip_c_node.proofs.NamedLemmas.{Agree, HoldsOf, agree, found_has}

-- ---- what was found

copied : (network : Network) (v : SetupValue) → common_view network.common ≡ v.common → (found : Option SetupNode) (said : Option NodeValue) → Agree network.common found said
    → (config : Config) → IsSomeAnd found (λ node. IsCopy node.config config) → IsSomeAnd said (λ node. IsConfigOf v node config)
copied network v shared None said a config c = absurd c
copied network v shared (Some node) None a config c = absurd a
copied network v shared (Some node) (Some n) a config c =
    let view : config_view config ≡ config_made network.common n = same_views node.config config c ∙ a in
    let common : config.common ≡ network.common = ap (λ m. m.common) view in
    (ap common_view common ∙ shared, view ∙ ap (λ common. config_made common n) (sym common))

found_in : (network : Network) (name : List ℕ) (config : Config) → IsCopyIn name network.nodes config → (said : Option SetupValue) → IsSomeAnd said (HasValues network) → IsSomeAnd said (IsNamedIn name config)
found_in network name config c None h = absurd h
found_in network name config c (Some v) h = copied network v h.0 (first_named name network.nodes) (named name v.nodes) (agree network.common name network.nodes v.nodes h.1) config c

-- the copy of the node's configuration is that which the text says
pub is_config_in : (network : Network) (text name : List ℕ) (config : Config) → IsSomeAnd (setup_of_text text) (HasValues network) → IsCopyIn name network.nodes config → IsConfigIn text name config
is_config_in network text name config h c = found_in network name config c (setup_of_text text) h

good_copy : (network : Network) (found : Option SetupNode) → HoldsOf (IsGoodNode network.common) found → (config : Config) → IsSomeAnd found (λ node. IsCopy node.config config) → is_good config ≡ true
good_copy network None h config c = absurd c
good_copy network (Some node) h config c = same_goodness node.config config c ∙ h.config

-- and a node can be started with it
pub is_good_in : (network : Network) (name : List ℕ) (config : Config) → IsGoodNetwork network → IsCopyIn name network.nodes config → is_good config ≡ true
is_good_in network name config good c = good_copy network (first_named name network.nodes) (found_has (IsGoodNode network.common) name network.nodes good.nodes) config c

-- ---- refusals

none_said : (common : Common) (found : Option SetupNode) (said : Option NodeValue) → Agree common found said → found ≡ None → said ≡ None
none_said common None said a e = a
none_said common (Some node) said a e = absurd (subst (λ o. IsSomeAnd o (λ _. Unit {0})) e tt)

lacking : (network : Network) (name : List ℕ) → first_named name network.nodes ≡ None → (said : Option SetupValue) → IsSomeAnd said (HasValues network) → IsSomeAnd said (λ v. named name v.nodes ≡ None)
lacking network name e None h = absurd h
lacking network name e (Some v) h = none_said network.common (first_named name network.nodes) (named name v.nodes) (agree network.common name network.nodes v.nodes h.1) e

-- a setup without the node is refused
pub is_lacking : (network : Network) (text name : List ℕ) (outcome : Outcome) → IsSomeAnd (setup_of_text text) (HasValues network) → IsLacking name network.nodes outcome → IsRefused text name outcome
is_lacking network text name OutOfMemory h l = tt
is_lacking network text name NoSuchNode h l = lacking network name l (setup_of_text text) h
is_lacking network text name _ h l = absurd l

-- a text without a setup is refused, with the fault that is there
pub is_refused : (text name : List ℕ) (error : SetupError) → IsOwed (setup_of_text text) error → TextHasFault (tree_of text) error → IsRefused text name (fault_outcome error)
is_refused text name setup.NotToml owed fault = (owed, fault)
is_refused text name (setup.Missing key) owed fault = (owed, fault)
is_refused text name (setup.WrongKind key) owed fault = (owed, fault)
is_refused text name (setup.OutOfRange key) owed fault = (owed, fault)
is_refused text name (setup.UnknownKey key) owed fault = (owed, fault)
is_refused text name (setup.Clash key) owed fault = (owed, fault)
is_refused text name setup.OutOfMemory owed fault = tt

-- ---- results

pub found_ok : (network : Network) (text name : List ℕ) (result : Result Config Outcome) → IsSomeAnd (setup_of_text text) (HasValues network)
    → IfOk result (IsCopyIn name network.nodes) → IfOk result (IsConfigIn text name)
found_ok network text name (Ok config) h c = is_config_in network text name config h c
found_ok network text name (Err outcome) h c = tt

pub good_ok : (network : Network) (name : List ℕ) (result : Result Config Outcome) → IsGoodNetwork network
    → IfOk result (IsCopyIn name network.nodes) → IfOk result (λ config. is_good config ≡ true)
good_ok network name (Ok config) good c = is_good_in network name config good c
good_ok network name (Err outcome) good c = tt

pub refused_err : (network : Network) (text name : List ℕ) (result : Result Config Outcome) → IsSomeAnd (setup_of_text text) (HasValues network)
    → IfErr result (IsLacking name network.nodes) → IfErr result (IsRefused text name)
refused_err network text name (Ok config) h l = tt
refused_err network text name (Err outcome) h l = is_lacking network text name outcome h l
