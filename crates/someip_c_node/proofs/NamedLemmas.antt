-- The node of a name, among the nodes that were made of a setup.
use Rattle.std.proofs.Common.{◌≡◌, arith, refl, sym, ap, subst, ℕ, List, [], ◌∷◌}
use Prim.Native.Nat.{suc}
use Rattle.std.proofs.Math.Seq.{drop-cons}
use Rattle.std.specs.List.{All, slice_index_or}
use Rattle.std.specs.Prelude.{◌<◌, drop, length, Bool, true, false, bytes_eq, not, ◌&&◌, map, if◌then◌else◌, Option, None, Some, IsSomeAnd}
use Rattle.someip_node_rules.specs.declared.config.Common.{Common}
use Rattle.someip_world_setup_keys.specs.Made.{config_made, config_view}
use Rattle.someip_world_setup.specs.NodesMade.{made_view, node_made}
use Rattle.someip_world_setup_keys.specs.Values.{NodeValue}
use Rattle.someip_world_setup.specs.declared.setup_node.SetupNode.{SetupNode}
use Rattle.someip_c_node.specs.Texts.{first_named, is_node_of, named}

-- what the node that was found is made of, and what it is where none was found
abbrev pub Agree : Common → Option SetupNode → Option NodeValue → Type 0
Agree common None said = said ≡ None
Agree common (Some node) said = IsSomeAnd said (λ n. config_view node.config ≡ config_made common n)

chosen : (common : Common) (n : SetupNode) (v : NodeValue) → config_view n.config ≡ config_made common v
    → (found : Option SetupNode) (said : Option NodeValue) → Agree common found said → (b : Bool) → Agree common (if b then Some n else found) (if b then Some v else said)
chosen common n v e found said a true = e
chosen common n v e found said a false = a

abbrev IsCons : {X : Type 0} → List X → Type 0
IsCons [] = ⊥
IsCons (x ∷ xs) = Unit {0}

abbrev head_or : {X : Type 0} → X → List X → X
head_or y [] = y
head_or y (x ∷ xs) = x

abbrev tail_of : {X : Type 0} → List X → List X
tail_of [] = []
tail_of (x ∷ xs) = xs

pub agree : (common : Common) (name : List ℕ) (nodes : List SetupNode) (values : List NodeValue) → map made_view nodes ≡ map (node_made common) values
    → Agree common (first_named name nodes) (named name values)
agree common name [] [] e = refl
agree common name [] (v ∷ vs) e = absurd (subst IsCons (sym e) tt)
agree common name (n ∷ ns) [] e = absurd (subst IsCons e tt)
agree common name (n ∷ ns) (v ∷ vs) e =
    let same : made_view n ≡ node_made common v = ap (head_or (made_view n)) e in
    let test : Bool = is_node_of name n in
    subst (λ (b : Bool). Agree common (first_named name (n ∷ ns)) (if b then Some v else named name vs)) (ap (λ m. bytes_eq m.name name && not m.is_liar) same)
    (chosen common n v (ap (λ m. m.config) same) (first_named name ns) (named name vs) (agree common name ns vs (ap tail_of e)) test)

-- what holds of all holds of the one that was found
abbrev pub HoldsOf : (SetupNode → Type 0) → Option SetupNode → Type 0
HoldsOf P None = Unit {0}
HoldsOf P (Some node) = P node

holds_of : (P : SetupNode → Type 0) (n : SetupNode) (found : Option SetupNode) → P n → HoldsOf P found → (b : Bool) → HoldsOf P (if b then Some n else found)
holds_of P n found p h true = p
holds_of P n found p h false = h

pub found_has : (P : SetupNode → Type 0) (name : List ℕ) (nodes : List SetupNode) → All P nodes → HoldsOf P (first_named name nodes)
found_has P name [] all = tt
found_has P name (n ∷ ns) all =
    holds_of P n (first_named name ns) (all 0 n (omega arith))
    (found_has P name ns (λ k d less. all (suc k) d (omega (arith, less)))) (is_node_of name n)

-- among those from a place on, the node at the place comes first
pub first_at : (name : List ℕ) (nodes : List SetupNode) (k : ℕ) (d : SetupNode) → k < length nodes
    → first_named name (drop k nodes) ≡ (if is_node_of name (slice_index_or nodes k d) then Some (slice_index_or nodes k d) else first_named name (drop (suc k) nodes))
first_at name nodes k d less = ap (first_named name) (drop-cons nodes k d less)
