-- What the steps of a node keep of its history holds of the history of each node, on the way of a run.
use Rattle.std.proofs.Common.{◌≡◌, ◌≢◌, ℕ, suc, ◌+◌, ◌≤◌, Bool, true, false, eqb, List, length, take, slice_get, slice_set, Some, Result, refl, sym, subst, ◌∙◌}
use Rattle.std.proofs.lemmas.Bool.{eqb-true, eqb-false}
use Rattle.std.specs.declared.net.socket_addr.SocketAddrV4.{SocketAddrV4}
use Rattle.someip_node_rules.specs.declared.config.Config.{Config}
use Rattle.someip_node_rules.specs.declared.error.NodeError.{NodeError}
use Rattle.someip_node_rules.specs.histories.History.{History, start_of}
use Rattle.someip_node_rules.specs.rules.Inputs.{Input}
use Rattle.someip_node_rules.specs.rules.Plans.{Work}
use Rattle.someip_node_rules.specs.steps.Steps.{step}
use Rattle.someip_world_schedule.specs.declared.step.Step.{Step}
use Rattle.someip_world_setup.specs.declared.setup_node.SetupNode.{SetupNode}
use Rattle.someip_world_rules.specs.Deeds.{Deed, Takes, Restarts, Injects, done_with}
use Rattle.someip_world_rules.specs.Deliveries.{Does, Restarted}
use Rattle.someip_world_rules.specs.Runs.{World, history_after, world_after, world_of}
use Rattle.someip_world_rules.specs.Turns.{LeadTo, Turn}
use Rattle.someip_world_rules.proofs.Fronts.{get_set_other, get_set_same, on_the_way}
use Rattle.someip_world_rules.proofs.Deliverings.{one_turn}
use Rattle.someip_world_rules.proofs.Lives.{not_restarted}
use Rattle.someip_world_rules.proofs.OriginLemmas.{begun_so}
use Rattle.someip_world_safety.proofs.runs.SameStep.{same_place}

module _ (nodes : List SetupNode) (configs : List Config) (ss : List Step) (P : ℕ → ℕ → History → Type 0)
    (start : (n place : ℕ) (config : Config) (delay : ℕ) → P n place (start_of config delay))
    (stays : (n place : ℕ) (h : History) → ((does : Does nodes configs ss n) → does.turn.place ≡ place → ⊥) → (Restarted nodes configs ss n place → ⊥) → P n place h → P (suc n) place h)
    (goes : (n : ℕ) (s : Step) (t : Turn nodes configs ss n s) (input : Input) → t.deed ≡ Takes input → (due : Result (Work History) NodeError) → step t.history input ≡ due → P n t.place t.history
    → P (suc n) t.place (history_after t.history due)) where
  -- it holds of the histories of all nodes
  abbrev HoldOf : ℕ → World → Type 0
  HoldOf n w = (place : ℕ) (h : History) → slice_get w.histories place ≡ Some h → P n place h

  -- at the start
  hold_first : HoldOf 0 (world_of nodes configs)
  hold_first place h here = let begun = begun_so nodes configs ss nodes configs place h here in subst (P 0 place) (sym begun.3) (start 0 place begun.0 begun.1)

  module _ (n : ℕ) (s : Step) (t : Turn nodes configs ss n s) (was : HoldOf n t.before) where
    -- after a step at another place: the node at this one takes nothing, and is not started again
    by_other : (place : ℕ) (h : History) → place ≢ t.place → P n place h → P (suc n) place h
    by_other place h ne =
        stays n place h (λ does at. ne (sym at ∙ same_place nodes configs ss n s t does))
        (not_restarted nodes configs ss n place s t (λ at. absurd (ne (sym at))))

    -- and so it is after a step in which a liar sends
    by_liar : (from to : SocketAddrV4) (bytes : List ℕ) → t.deed ≡ Injects from to bytes → P n t.place t.history → P (suc n) t.place t.history
    by_liar from to bytes is =
        stays n t.place t.history
        (λ does at. let one = one_turn nodes configs ss n s t does.step does.turn in
        let clash : Injects from to bytes ≡ Takes does.input = sym is ∙ one.deed ∙ does.takes in absurd cc)
        (not_restarted nodes configs ss n t.place s t (λ at delay restarts. absurd cc))

    -- after what the node of the step does, of this node
    by_deed : (deed : Deed) → t.deed ≡ deed → P (suc n) t.place (history_after t.history (done_with t.history deed))
    by_deed (Takes input) is = goes n s t input is (step t.history input) refl (was t.place t.history t.stands)
    by_deed (Restarts delay) is = start (suc n) t.place t.history.config delay
    by_deed (Injects from to bytes) is = by_liar from to bytes is (was t.place t.history t.stands)

    -- after the step
    hold_next : HoldOf (suc n) (world_after (n + 1) t.place t.before t.history (done_with t.history t.deed))
    hold_next place h here = cases (eqb place t.place) refl
      where
        due : History
        due = history_after t.history (done_with t.history t.deed)

        cases : (k : Bool) → eqb place t.place ≡ k → P (suc n) place h
        cases true e =
            let same : place ≡ t.place = eqb-true place t.place e in
            let now : h ≡ due = get_set_same t.before.histories t.place due h (subst (λ p. slice_get (slice_set t.before.histories t.place due) p ≡ Some h) same here) in
            subst (λ p. P (suc n) p h) (sym same) (subst (P (suc n) t.place) (sym now) (by_deed t.deed refl))
        cases false e =
            let ne = eqb-false place t.place e in
            by_other place h ne (was place h (sym (get_set_other t.before.histories t.place place due ne) ∙ here))

  -- before each step
  pub each_node : (n : ℕ) (w : World) → n ≤ length ss → LeadTo nodes configs (take n ss) w → (place : ℕ) (h : History) → slice_get w.histories place ≡ Some h → P n place h
  each_node = on_the_way nodes configs ss HoldOf hold_first hold_next
