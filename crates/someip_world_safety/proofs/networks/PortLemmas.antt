-- In a network that was read, instances that a node offers at one endpoint are one.
use Rattle.std.proofs.Common.{◌≡◌, ℕ, suc, ◌+◌, ◌≤◌, Bool, true, false, cond, List, [], ◌∷◌, length, map, Option, None, Some, arith, refl, sym, ap, subst, ◌∙◌}
use Rattle.std.specs.FinMap.{contains_key, find, from_entries, get, get-from_entries, insert, len, len-empty, len-insert}
use Rattle.std.specs.List.{AllByRecursion, AllZip, Contains}
use Rattle.std.specs.Option.{IfSome, is_some}
use Rattle.std.specs.Ordering.{eq_by_cmp, nat_cmp}
use Rattle.std.specs.Cmp.{nat_cmp_total}
use Rattle.std.proofs.lemmas.Bool.{eqb-true}
use Rattle.std.proofs.lemmas.List.Elements.{recursion_from_All}
use Rattle.std.proofs.lemmas.Map.Lookups.{exact_unsigned}
use Rattle.std.proofs.lemmas.Map.Views.{IfSome-get}
use Rattle.someip_tables.proofs.Entries.{own_test, same_by_test}
use Rattle.sd_core.specs.KeyOrder.{exact_instances, instances_total}
use Rattle.sd_core.specs.declared.keys.InstanceId.{InstanceId}
use Rattle.someip_node_rules.proofs.forms.GoodConfigParts.{good_ports}
use Rattle.someip_node_rules.specs.trails.Copies.{IsCopyOfOffer}
use Rattle.someip_node_rules.specs.declared.config.Config.{Config}
use Rattle.someip_node_rules.specs.declared.config.OfferedService.{OfferedService}
use Rattle.someip_node_rules.specs.forms.Setups.{offered_as}
use Rattle.someip_node_rules.proofs.lists.MemberLemmas.{all_weaker, at_member}
use Rattle.someip_world_setup.specs.GoodSetups.{IsGoodNetwork, IsGoodNode, Network}
use Rattle.someip_world_rules.specs.Runs.{AreCopies}
use Rattle.someip_world_rules.proofs.Fronts.{all_got}
use Rattle.someip_world_safety.specs.OwnOffers.{HaveOwnPorts}
use Rattle.someip_world_safety.proofs.networks.OfferLemmas.{copy_at}

-- an offer, under its instance, and an instance under a port
abbrev Offer : Type 0
Offer = InstanceId × OfferedService

abbrev Port : Type 0
Port = ℕ × InstanceId

abbrev port_of : Offer → Port
port_of e = (e.1.rules.endpoint.port, e.0)

-- ---- ports, each once

-- a table has no more entries than were put in
no_more : (es : List Port) → len (from_entries {R = nat_cmp} es) ≤ length es
no_more [] = let none : len (from_entries {K = ℕ} {X = InstanceId} {R = nat_cmp} []) ≡ 0 = len-empty nat_cmp InstanceId in omega (arith, none)
no_more (e ∷ es) = cases (contains_key (from_entries {R = nat_cmp} es) e.0) (len-insert nat_cmp_total (from_entries es) e.0 e.1) (no_more es)
  where
    cases : (b : Bool) → len (insert (from_entries {R = nat_cmp} es) e.0 e.1) ≡ cond b (len (from_entries {R = nat_cmp} es)) (len (from_entries {R = nat_cmp} es) + 1)
        → len (from_entries {R = nat_cmp} es) ≤ length es → len (from_entries {R = nat_cmp} (e ∷ es)) ≤ suc (length es)
    cases true is low = omega (arith, is, low)
    cases false is low = omega (arith, is, low)

-- each is found under its port
abbrev AreFound : List Port → List Port → Type 0
AreFound es = AllByRecursion (λ e. find nat_cmp e.0 es ≡ Some e.1)

none_from : {X : Type 0} (o : Option X) → is_some o ≡ false → o ≡ None
none_from None is = refl
none_from (Some x) is = absurd cc

-- after another one
found_behind : (first : Port) (es : List Port) (e : Port) → find nat_cmp first.0 es ≡ None → find nat_cmp e.0 es ≡ Some e.1 → find nat_cmp e.0 (first ∷ es) ≡ Some e.1
found_behind first es e none found = cases (eq_by_cmp nat_cmp e.0 first.0) refl
  where
    cases : (b : Bool) → eq_by_cmp nat_cmp e.0 first.0 ≡ b → cond b (Some first.1) (find nat_cmp e.0 es) ≡ Some e.1
    cases true is =
        let same : e.0 ≡ first.0 = same_by_test exact_unsigned e.0 first.0 is in
        let clash : Some e.1 ≡ None = sym found ∙ ap (λ k. find nat_cmp k es) same ∙ none in absurd cc
    cases false is = found

-- where as many entries are in the table as were put in, each is found under its port
all_found : (es : List Port) → len (from_entries {R = nat_cmp} es) ≡ length es → AreFound es es
all_found [] is = tt
all_found (e ∷ es) is = cases (contains_key (from_entries {R = nat_cmp} es) e.0) refl (len-insert nat_cmp_total (from_entries es) e.0 e.1) (all_found es)
  where
    less : len (from_entries {R = nat_cmp} es) ≤ length es
    less = no_more es

    here : find nat_cmp e.0 (e ∷ es) ≡ Some e.1
    here = ap (λ b. cond b (Some e.1) (find nat_cmp e.0 es)) (own_test nat_cmp_total e.0)

    cases : (b : Bool) → contains_key (from_entries {R = nat_cmp} es) e.0 ≡ b
        → len (insert (from_entries {R = nat_cmp} es) e.0 e.1) ≡ cond b (len (from_entries {R = nat_cmp} es)) (len (from_entries {R = nat_cmp} es) + 1)
        → (len (from_entries {R = nat_cmp} es) ≡ length es → AreFound es es) → AreFound (e ∷ es) (e ∷ es)
    cases true there counted rest = let low = less in absurd (omega (arith, is, counted, low))
    cases false there counted rest =
        let none : find nat_cmp e.0 es ≡ None = sym (get-from_entries nat_cmp_total es e.0) ∙ none_from (get (from_entries {R = nat_cmp} es) e.0) there in (
          here,
          all_weaker (λ x. find nat_cmp x.0 es ≡ Some x.1) (λ x. find nat_cmp x.0 (e ∷ es) ≡ Some x.1) (λ x found. found_behind e es x none found) es
              (rest (omega (arith, is, counted))),
        )

-- ---- one configuration

-- an offer that is found is among the offers
if_some : {X : Type 0} (P : X → Type 0) (o : Option X) (x : X) → IfSome o P → o ≡ Some x → P x
if_some P None x h is = absurd cc
if_some P (Some y) x h is = let same : y ≡ x = cc in subst P same h

pub among_offers : (config : Config) (instance : InstanceId) (service : OfferedService) → offered_as config instance ≡ Some service → Contains config.offers.entries (instance, service)
among_offers config instance service is =
    if_some (λ s. Contains config.offers.entries (instance, s)) (offered_as config instance) service (IfSome-get instances_total exact_instances config.offers instance) is

-- what holds of each port of some offers holds of the offers
of_ports : (P : Port → Type 0) (es : List Offer) → AllByRecursion P (map port_of es) → AllByRecursion (λ e. P (port_of e)) es
of_ports P [] all = tt
of_ports P (e ∷ es) all = (all.0, of_ports P es all.1)

module _ (config : Config) (ports : len (from_entries {R = nat_cmp} (map port_of config.offers.entries)) ≡ length config.offers.entries) where
  counted : (es : List Offer) → length (map port_of es) ≡ length es
  counted [] = refl
  counted (e ∷ es) = ap suc (counted es)

  -- an instance is found under its port
  at_port : (instance : InstanceId) (service : OfferedService) → offered_as config instance ≡ Some service
      → find nat_cmp service.rules.endpoint.port (map port_of config.offers.entries) ≡ Some instance
  at_port instance service is =
      at_member (λ e. find nat_cmp (port_of e).0 (map port_of config.offers.entries) ≡ Some (port_of e).1) config.offers.entries (instance, service)
      (of_ports (λ e. find nat_cmp e.0 (map port_of config.offers.entries) ≡ Some e.1) config.offers.entries
      (all_found (map port_of config.offers.entries) (ports ∙ sym (counted config.offers.entries)))) (among_offers config instance service is)

  -- so those at one endpoint are one
  one_at_endpoint : (a b : InstanceId) (s t : OfferedService) → offered_as config a ≡ Some s → offered_as config b ≡ Some t → s.rules.endpoint ≡ t.rules.endpoint → a ≡ b
  one_at_endpoint a b s t first second same =
      let port : s.rules.endpoint.port ≡ t.rules.endpoint.port = ap (λ x. x.port) same in
      let both : Some a ≡ Some b = sym (at_port a s first) ∙ ap (λ p. find nat_cmp p (map port_of config.offers.entries)) port ∙ at_port b t second in cc

-- ---- copies

abbrev CopiesOffer : Offer → Offer → Type 0
CopiesOffer a b = (b.0 ≡ a.0) × IsCopyOfOffer a.1 b.1

-- copies have the ports
same_ports : (xs ys : List Offer) → AllZip CopiesOffer xs ys → (map port_of ys ≡ map port_of xs) × (length ys ≡ length xs)
same_ports [] [] all = (refl, refl)
same_ports [] (y ∷ ys) all = absurd all
same_ports (x ∷ xs) [] all = absurd all
same_ports (x ∷ xs) (y ∷ ys) all =
    let rest = same_ports xs ys all.1 in
    let port : y.1.rules.endpoint.port ≡ x.1.rules.endpoint.port = ap (λ r. r.endpoint.port) all.0.1.1.0 in
    ((λ i. (port i, all.0.0 i) ∷ rest.0 i), ap suc rest.1)

pub own_ports : (network : Network) → IsGoodNetwork network → (configs : List Config) → AreCopies network.nodes configs → HaveOwnPorts configs
own_ports network good configs are place config here =
    let a = copy_at network.nodes configs are place config here in
    let node = all_got (IsGoodNode network.common) network.nodes place a.0 (recursion_from_All (IsGoodNode network.common) network.nodes good.nodes) a.1 in
    let same = same_ports a.0.config.offers.entries config.offers.entries a.2.1 in
    let fine = eqb-true _ _ (good_ports a.0.config node.config) in
    one_at_endpoint config (ap (λ ps. len (from_entries {R = nat_cmp} ps)) same.0 ∙ fine ∙ sym same.1)
