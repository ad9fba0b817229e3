-- From the setup that was read again to what the log's text says.
use Rattle.std.proofs.Common.{◌≡◌, ◌∙◌, refl, sym, ap, subst, append_assoc, arith, inr, ℕ, ◌+◌, ◌-◌, ◌<◌, List, [], ◌∷◌, ◌++◌}
use Prim.Native.Nat.{suc}
use Rattle.std.specs.Prelude.{Bool, true, false, not, ◌&&◌, bytes_eq, filter, if◌then◌else◌, map, length, String, string_bytes, Option, None, Some, IsSomeAnd}
use Rattle.std.specs.declared.alloc.Global.{Global}
use Rattle.std.specs.List.{range_with_len}
use Rattle.std.specs.Cmp.Lexicographic.{bytes_decides}
use Rattle.someip_node_rules.specs.declared.config.Common.{Common}
use Rattle.someip_node_rules.specs.declared.config.Config.{Config}
use Rattle.someip_world_setup.specs.GoodSetups.{Network}
use Rattle.someip_world_setup.specs.NodesMade.{NodeMade, made_view, node_made}
use Rattle.someip_world_setup.specs.Readings.{HasValues, setup_of_text}
use Rattle.someip_world_setup.specs.declared.setup_node.SetupNode.{SetupNode}
use Rattle.someip_world_setup_keys.specs.Made.{config_made, config_view}
use Rattle.someip_world_setup_keys.specs.Values.{NodeValue, SetupValue, common_view}
use Rattle.someip_c_node.specs.declared.endpoint.Endpoint.{Endpoint}
use Rattle.someip_c_node.specs.LogSetups.{HasMadeRows, HasRows, IsFaultOfPeers, IsLogIn, IsLogOf, IsNoLog, NodeRow, is_other, liar_name, liar_names, made_row, own_row, row_of}
use Rattle.someip_c_node.specs.declared.outcome.Outcome.{Outcome}
use Rattle.someip_c_node.specs.Texts.{IsConfigIn, IsConfigOf, IsNamedIn, first_named, is_node_of, named}
use Rattle.someip_c_node.proofs.NamedLemmas.{Agree, agree}

-- ---- rows

abbrev row_made : NodeMade → NodeRow
row_made m = record { name = m.name; address = m.config.address; delay = m.delay; liar = m.is_liar }

said_rows : (common : Common) (vs : List NodeValue) → map row_of vs ≡ map row_made (map (node_made common) vs)
said_rows common [] = refl
said_rows common (v ∷ vs) = ap (λ rows. row_of v ∷ rows) (said_rows common vs)

made_rows : (ns : List SetupNode) → map row_made (map made_view ns) ≡ map made_row ns
made_rows [] = refl
made_rows (n ∷ ns) = ap (λ rows. made_row n ∷ rows) (made_rows ns)

-- ---- the node

-- the node of a row has its name, and is no liar
is_own : (name : List ℕ) (delay : ℕ) (node : SetupNode) → made_row node ≡ own_row name delay node.config → is_node_of name node ≡ true
is_own name delay node same =
    let its_name : bytes_eq (string_bytes node.name) name ≡ true = (bytes_decides (string_bytes node.name) name).1 (ap (λ row. row.name) same) in
    let honest : node.is_liar ≡ false = ap (λ row. row.liar) same in
    λ i. its_name i && not (honest i)

configured : (network : Network) (v : SetupValue) → common_view network.common ≡ v.common → (node : SetupNode) (config : Config) → config_view node.config ≡ config_view config
    → (said : Option NodeValue) → IsSomeAnd said (λ n. config_view node.config ≡ config_made network.common n) → IsSomeAnd said (λ n. IsConfigOf v n config)
configured network v shared node config same None a = absurd a
configured network v shared node config same (Some n) a =
    let view : config_view config ≡ config_made network.common n = sym same ∙ a in
    let common : config.common ≡ network.common = ap (λ m. m.common) view in
    (ap common_view common ∙ shared, view ∙ ap (λ common. config_made common n) (sym common))

-- the setup that was read has the node with its configuration, and the rows
says : (network : Network) (v : SetupValue) (nodes : List SetupNode) → common_view network.common ≡ v.common → map made_view nodes ≡ map (node_made network.common) v.nodes
    → (name : List ℕ) (delay : ℕ) (names : List (List ℕ)) (peers : List Endpoint) (config : Config) → HasMadeRows name delay names peers config nodes
    → IsNamedIn name config v × HasRows name delay names peers config v
says network v [] shared same name delay names peers config has = absurd has
says network v (node ∷ nodes) shared same name delay names peers config has =
    let own : is_node_of name node ≡ true = is_own name delay node has.0 in
    let found : first_named name (node ∷ nodes) ≡ Some node = ap (λ (b : Bool). if b then Some node else first_named name nodes) own in
    let agreed : Agree network.common (Some node) (named name v.nodes) = subst (λ o. Agree network.common o (named name v.nodes)) found (agree network.common name (node ∷ nodes) v.nodes same) in
    let rows : map row_of v.nodes ≡ made_row node ∷ map made_row nodes = said_rows network.common v.nodes ∙ ap (map row_made) (sym same) ∙ made_rows (node ∷ nodes) in
    let first : made_row node ≡ own_row name delay config = has.0 ∙ ap (λ m. record { name = name; address = m.address; delay = delay; liar = false }) has.1.0 in
    (configured network v shared node config has.1.0 (named name v.nodes) agreed, rows ∙ (λ i. first i ∷ has.1.1 i))

said_of : (network : Network) (name : List ℕ) (delay : ℕ) (names : List (List ℕ)) (peers : List Endpoint) (config : Config) → HasMadeRows name delay names peers config network.nodes
    → (said : Option SetupValue) → IsSomeAnd said (HasValues network) → IsSomeAnd said (IsNamedIn name config) × IsSomeAnd said (HasRows name delay names peers config)
said_of network name delay names peers config has None h = absurd h
said_of network name delay names peers config has (Some v) h = says network v network.nodes h.0 h.1 name delay names peers config has

pub is_log : (network : Network) (log name : List ℕ) (delay : ℕ) (names : List (List ℕ)) (peers : List Endpoint) (config : Config)
    → IsSomeAnd (setup_of_text log) (HasValues network) → HasMadeRows name delay names peers config network.nodes → IsLogIn name delay names peers config log
is_log network log name delay names peers config said has = said_of network name delay names peers config has (setup_of_text log) said

-- ---- names

-- the names from a number on, up to another
abbrev pub names_from : List ℕ → ℕ → ℕ → List (List ℕ)
names_from name number end = filter (is_other name) (map liar_name (range_with_len number (end - number)))

pub next_name : (name : List ℕ) (number end : ℕ) → number < end
    → names_from name number end ≡ (if is_other name (liar_name number) then liar_name number ∷ names_from name (number + 1) end else names_from name (number + 1) end)
next_name name number end less =
    let more : end - number ≡ suc (end - (number + 1)) = omega (arith, less) in
    ap (λ n. filter (is_other name) (map liar_name (range_with_len number n))) more

kept : (b : Bool) (liar : List ℕ) (sofar rest whole : List (List ℕ)) → sofar ++ (if b then liar ∷ rest else rest) ≡ whole → (if b then sofar ++ (liar ∷ []) else sofar) ++ rest ≡ whole
kept true liar sofar rest whole is = append_assoc sofar (liar ∷ []) rest ∙ is
kept false liar sofar rest whole is = is

-- the name of a number is among those so far, unless it is the node's own
pub names_kept : (name liar : List ℕ) (number end : ℕ) (sofar new whole : List (List ℕ)) → number < end → liar ≡ liar_name number → sofar ++ names_from name number end ≡ whole
    → new ≡ (if is_other name liar then sofar ++ (liar ∷ []) else sofar) → new ++ names_from name (number + 1) end ≡ whole
names_kept name liar number end sofar new whole less is before pushed =
    let rest : List (List ℕ) = names_from name (number + 1) end in
    let split : sofar ++ (if is_other name (liar_name number) then liar_name number ∷ rest else rest) ≡ whole = ap (λ names. sofar ++ names) (sym (next_name name number end less)) ∙ before in
    let named : sofar ++ (if is_other name liar then liar ∷ rest else rest) ≡ whole = subst (λ l. sofar ++ (if is_other name l then l ∷ rest else rest) ≡ whole) (sym is) split in
    ap (λ names. names ++ rest) pushed ∙ kept (is_other name liar) liar sofar rest whole named

-- ---- the whole

pub logged_ok : (text name : List ℕ) (delay : ℕ) (peers : List Endpoint) (config : Config) (log : String Global)
    → IsConfigIn text name config → IsLogIn name delay (liar_names name (length peers)) peers config (string_bytes log) → IsLogOf text name delay peers (string_bytes log)
logged_ok text name delay peers config log found says = (config, (found, says))

pub fault_of_peers : (text name : List ℕ) (delay : ℕ) (peers : List Endpoint) (config : Config) (outcome : Outcome) → IsConfigIn text name config
    → IsFaultOfPeers config peers outcome → IsNoLog text name delay peers outcome
fault_of_peers text name delay peers config outcome found fault = inr (config, found, fault)
