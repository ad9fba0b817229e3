-- The addresses of liars: it can be told whose they are, and no node that does something has one.
use Rattle.std.proofs.Common.{◌≡◌, ◌⊎◌, inl, inr, ℕ, zero, suc, Bool, true, false, List, [], ◌∷◌, slice_get, Some, refl, sym, ap, subst, ◌∙◌}
use Rattle.std.specs.declared.net.ipv4_addr.Ipv4Addr.{Ipv4Addr}
use Rattle.someip_tables.proofs.Entries.{same_by_test, own_test}
use Rattle.someip_tables.specs.EndpointOrder.{addresses_total, exact_addresses}
use Rattle.someip_node_rules.specs.declared.config.Config.{Config}
use Rattle.someip_node_rules.specs.rules.Handling.{same_address}
use Rattle.someip_world_schedule.specs.declared.step.Step.{Step}
use Rattle.someip_world_setup.specs.declared.setup_node.SetupNode.{SetupNode}
use Rattle.someip_world_rules.specs.Deliveries.{Does}
use Rattle.someip_world_rules.specs.Liars.{IsHonest, IsOfLiar, is_liar_at}
use Rattle.someip_world_rules.proofs.InjectionLemmas.{taken_by_node}
use Rattle.someip_world_rules.proofs.OriginLemmas.{turn_configured}
use Rattle.someip_world_safety.specs.Addresses.{HaveOwnAddresses, IsOfNode}

-- ---- whose an address is

module _ (n : SetupNode) (nodes : List SetupNode) (c : Config) (configs : List Config) (address : Ipv4Addr) where
  -- an address that is not that of a lying first is that of another, or of none
  later : (n.is_liar ≡ true → c.address ≡ address → ⊥) → IsOfLiar (n ∷ nodes) (c ∷ configs) address → IsOfLiar nodes configs address
  later none of = cases of.place of.lies of.config of.here of.at
    where
      cases : (place : ℕ) → is_liar_at (n ∷ nodes) place ≡ true → (config : Config) → slice_get (c ∷ configs) place ≡ Some config → config.address ≡ address → IsOfLiar nodes configs address
      cases zero lies config here at = let one : c ≡ config = cc in absurd (none lies (ap (λ x. x.address) one ∙ at))
      cases (suc place) lies config here at = record { place = place; lies = lies; config = config; here = here; at = at }

  -- with one more node
  with_first : (lies : Bool) → n.is_liar ≡ lies → (same : Bool) → same_address c.address address ≡ same → IsOfLiar nodes configs address ⊎ IsHonest nodes configs address
      → IsOfLiar (n ∷ nodes) (c ∷ configs) address ⊎ IsHonest (n ∷ nodes) (c ∷ configs) address
  with_first lies l same s (inl of) = inl (record { place = suc of.place; lies = of.lies; config = of.config; here = of.here; at = of.at })
  with_first true l true s (inr none) = inl (record { place = 0; lies = l; config = c; here = refl; at = same_by_test exact_addresses c.address address s })
  with_first true l false s (inr none) =
      inr (λ of. none (later (λ lies at.
      let own = own_test addresses_total address in
      let other : same_address address address ≡ false = ap (λ a. same_address a address) (sym at) ∙ s in
      let clash = sym own ∙ other in absurd cc) of))
  with_first false l same s (inr none) = inr (λ of. none (later (λ lies at. let clash = sym l ∙ lies in absurd cc) of))

-- an address is that of a liar, or of none
pub liar_or_honest : (nodes : List SetupNode) (configs : List Config) (address : Ipv4Addr) → IsOfLiar nodes configs address ⊎ IsHonest nodes configs address
liar_or_honest [] configs address = inr (λ of. let lies = of.lies in absurd cc)
liar_or_honest (n ∷ nodes) [] address = inr (λ of. let here = of.here in absurd cc)
liar_or_honest (n ∷ nodes) (c ∷ configs) address =
    with_first n nodes c configs address n.is_liar refl (same_address c.address address) refl (liar_or_honest nodes configs address)

-- a liar has a place among the nodes
pub liar_of_setup : (nodes : List SetupNode) (configs : List Config) (address : Ipv4Addr) → IsOfLiar nodes configs address → IsOfNode configs address
liar_of_setup nodes configs address of = (of.place, of.config, of.here, of.at)

-- ---- nodes that are no liars

-- one has an address that is no liar's, where nodes have addresses of their own
pub honest_address : (nodes : List SetupNode) (configs : List Config) → HaveOwnAddresses configs → (place : ℕ) (config : Config) → slice_get configs place ≡ Some config → is_liar_at nodes place ≡ false
    → IsHonest nodes configs config.address
honest_address nodes configs own place config here honest of =
    let same : of.place ≡ place = own of.place place of.config config of.here here of.at in
    let lies : is_liar_at nodes place ≡ true = subst (λ p. is_liar_at nodes p ≡ true) same of.lies in
    let clash = sym lies ∙ honest in absurd cc

-- so has the node of each step that takes an input
pub does_honestly : (nodes : List SetupNode) (configs : List Config) (ss : List Step) → HaveOwnAddresses configs → (n : ℕ) (does : Does nodes configs ss n) → IsHonest nodes configs does.turn.history.config.address
does_honestly nodes configs ss own n does =
    let t = does.turn in
    honest_address nodes configs own t.place t.history.config (turn_configured nodes configs ss n does.step t) (taken_by_node nodes configs ss n does)
