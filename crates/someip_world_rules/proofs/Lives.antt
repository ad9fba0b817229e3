-- Lives of nodes: over which steps they go on.
use Rattle.std.proofs.Common.{◌≡◌, ◌⊎◌, inl, inr, ◌<◌, ◌≤◌, ℕ, zero, suc, List, arith, refl, ◌∙◌, subst}
use Rattle.std.proofs.lemmas.Bool.{cases_lt}
use Rattle.someip_node_rules.specs.declared.config.Config.{Config}
use Rattle.someip_world_schedule.specs.declared.step.Step.{Step}
use Rattle.someip_world_setup.specs.declared.setup_node.SetupNode.{SetupNode}
use Rattle.someip_world_rules.specs.Deeds.{Restarts}
use Rattle.someip_world_rules.specs.Deliveries.{LivesOn, Restarted}
use Rattle.someip_world_rules.specs.Turns.{Turn}
use Rattle.someip_world_rules.proofs.Deliverings.{one_turn}

-- a number below the next one is below this one, or is this one
pub below_next : (k n : ℕ) → k < suc n → (k < n) ⊎ (k ≡ n)
below_next zero zero lt = inr refl
below_next zero (suc n) lt = inl (omega arith)
below_next (suc k) zero lt = absurd (omega (arith, lt))
below_next (suc k) (suc n) lt = cases (below_next k n (omega (arith, lt)))
  where
    cases : (k < n) ⊎ (k ≡ n) → (suc k < suc n) ⊎ (suc k ≡ suc n)
    cases (inl l) = inl (omega (arith, l))
    cases (inr e) = inr (omega (arith, e))

module _ (nodes : List SetupNode) (configs : List Config) (ss : List Step) (n place : ℕ) where
  -- a step since which a node lives on comes after each step that starts it again
  pub after_restart : (i j : ℕ) → LivesOn nodes configs ss place i n → j < n → Restarted nodes configs ss j place → j < i
  after_restart i j lives lt r = cases (cases_lt j i)
    where
      cases : (j < i) ⊎ (i ≤ j) → j < i
      cases (inl l) = l
      cases (inr le) = absurd (lives j le lt r)

  -- a step starts a node again just where it is of that node, and starts it again
  pub not_restarted : (s : Step) (t : Turn nodes configs ss n s) → (t.place ≡ place → (delay : ℕ) → t.deed ≡ Restarts delay → ⊥) → Restarted nodes configs ss n place → ⊥
  not_restarted s t other r = let one = one_turn nodes configs ss n s t r.step r.turn in other (one.place ∙ r.at) r.delay (one.deed ∙ r.restarts)

  module _ (alive : Restarted nodes configs ss n place → ⊥) where
    -- a life goes on over a step that starts nothing again at its place
    pub lives_next : (i : ℕ) → LivesOn nodes configs ss place i n → LivesOn nodes configs ss place i (suc n)
    lives_next i lives k since lt r = cases (below_next k n lt)
      where
        cases : (k < n) ⊎ (k ≡ n) → ⊥
        cases (inl l) = lives k since l r
        cases (inr e) = alive (subst (λ j. Restarted nodes configs ss j place) e r)

    -- and it was the same life before
    pub lives_back : (i : ℕ) → LivesOn nodes configs ss place i (suc n) → LivesOn nodes configs ss place i n
    lives_back i lives k since lt r = lives k since (omega (arith, lt)) r
