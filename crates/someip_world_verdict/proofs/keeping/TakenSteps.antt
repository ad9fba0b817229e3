-- What is kept of keys over a step: a key that the step opens is kept for it, and any other stays. A refusal and a Restart open
-- nothing.
use Rattle.std.proofs.Common.{◌≡◌, ◌⊎◌, inl, inr, ◌<◌, ℕ, suc, arith, List, [], Option, None, Some, Ok, Err, refl, sym, ap, subst, ◌∙◌}
use Rattle.std.specs.FinMap as finite
use Rattle.someip_node_rules.specs.histories.History.{History}
use Rattle.someip_node_rules.specs.rules.Inputs.{Input}
use Rattle.someip_node_rules.specs.steps.Steps.{step}
use Rattle.someip_node_rules.specs.declared.config.Config.{Config}
use Rattle.someip_node_rules.specs.declared.error.NodeError.{NodeError}
use Rattle.someip_world_schedule.specs.declared.step.Step.{Step}
use Rattle.someip_world_schedule.specs.declared.step.Step.TheVariants as steps
use Rattle.someip_world_setup.specs.declared.setup_node.SetupNode.{SetupNode}
use Rattle.someip_world_rules.specs.Deeds.{Takes, Restarts, deed_of}
use Rattle.someip_world_rules.specs.declared.line.Line.{Line}
use Rattle.someip_world_rules.specs.Turns.{Turn}
use Rattle.someip_world_rules.specs.Deliveries.{Does}
use Rattle.someip_world_rules.specs.exchanges.Openings.{Opened, OpensBy}
use Rattle.someip_world_rules.specs.declared.exchanges.exchange_key.ExchangeKey.{ExchangeKey}
use Rattle.someip_world_rules.proofs.Deliverings.{one_turn}
use Rattle.someip_world_rules.proofs.LiarLemmas.{again_at}
use Rattle.someip_world_verdict.specs.Books.{LifeKept, NoteKept, TakenKeys, taken_at}
use Rattle.someip_world_verdict.specs.Booking.{openings_after, publication_in, published_key}
use Rattle.someip_world_verdict.proofs.Kept.{KeepsTaken, KnowsOpening}
use Rattle.someip_world_verdict.proofs.lives.LifeSpans.{none_next}
use Rattle.someip_world_rules.proofs.Lives.{below_next}
use Rattle.someip_world_verdict.proofs.lives.LifeSteps.{refused_does_nothing}
use Rattle.someip_world_verdict.proofs.lives.RestartSteps.{begins_anew, no_restart_if}

-- ---- one key

-- what is kept of a key, where the step of a number may open it: then that step, and else what was kept
abbrev pub IsNext : ℕ → Type 0 → Option ℕ → Option ℕ → Type 0
IsNext n P was now = (P × (now ≡ Some n)) ⊎ ((P → ⊥) × (now ≡ was))

module _ (nodes : List SetupNode) (configs : List Config) (ss : List Step) (n : ℕ) (key : ExchangeKey) where
  -- a key that this step opens
  pub opened_next : Opened nodes configs ss n key → KnowsOpening nodes configs ss (suc n) key (Some n)
  opened_next opened = record { before = omega arith; opened = opened; last = λ k after lt o. omega (arith, after, lt) }

  -- a key that no step has opened
  none_opened : (Opened nodes configs ss n key → ⊥) → KnowsOpening nodes configs ss n key None → (i : ℕ) → i < suc n → Opened nodes configs ss i key → ⊥
  none_opened none knows i lt opened = cases (below_next i n lt)
    where
      cases : (i < n) ⊎ (i ≡ n) → ⊥
      cases (inl l) = knows i l opened
      cases (inr e) = none (subst (λ j. Opened nodes configs ss j key) e opened)

  -- one that it does not open
  pub unopened_next : (Opened nodes configs ss n key → ⊥) → (o : Option ℕ) → KnowsOpening nodes configs ss n key o → KnowsOpening nodes configs ss (suc n) key o
  unopened_next none None knows = none_opened none knows
  unopened_next none (Some i) knows =
      let before = knows.before in
      record { before = omega (arith, before); opened = knows.opened; last = none_next (λ j. Opened nodes configs ss j key) i n knows.last none }

module _ (nodes : List SetupNode) (configs : List Config) (ss : List Step) (n : ℕ) (s : Step) (t : Turn nodes configs ss n s) (input : Input) (is : t.deed ≡ Takes input) where
  -- what the step opens is opened by its input
  pub opened_by_input : (key : ExchangeKey) → Opened nodes configs ss n key → OpensBy t.history input key
  opened_by_input key opened =
      let one = one_turn nodes configs ss n s t opened.does.step opened.does.turn in
      let takes = opened.does.takes in
      let deed = one.deed in
      let deeds : Takes input ≡ Takes opened.does.input = sym is ∙ deed ∙ takes in
      let same : input ≡ opened.does.input = cc in
      subst (λ (p : History × Input). OpensBy p.0 p.1 key) (λ i. (sym one.history i, sym same i)) opened.by

  -- so where the entry of a key is next by that, it is known
  pub next_known : (key : ExchangeKey) → (OpensBy t.history input key → Opened nodes configs ss n key) → (was now : Option ℕ)
      → IsNext n (OpensBy t.history input key) was now → KnowsOpening nodes configs ss n key was → KnowsOpening nodes configs ss (suc n) key now
  next_known key opens was now (inl own) knows =
      subst (KnowsOpening nodes configs ss (suc n) key) (sym own.1) (opened_next nodes configs ss n key (opens own.0))
  next_known key opens was now (inr other) knows =
      subst (KnowsOpening nodes configs ss (suc n) key) (sym other.1)
      (unopened_next nodes configs ss n key (λ o. other.0 (opened_by_input key o)) was knows)

-- ---- a step in which nothing is opened

module _ (config : Config) (life : LifeKept) (h : History) (lines : List Line) (delay : ℕ) where
  -- a Restart publishes nothing
  publishes_none : (s : Step) → deed_of h lines s ≡ Ok (Restarts delay) → publication_in config life s ≡ None
  publishes_none (steps.Publish node instance event payload) is = absurd (no_restart_if _ _ _ delay is)
  publishes_none (steps.PublishTo node group to event payload) is = absurd (no_restart_if _ _ _ delay is)
  publishes_none s is = refl

module _ (nodes : List SetupNode) (configs : List Config) (ss : List Step) (n : ℕ) (s : Step) (t : Turn nodes configs ss n s) where
  -- what is kept of keys stays over a step in which nothing is done
  pub still_taken : (Does nodes configs ss n → ⊥) → (taken : TakenKeys) → KeepsTaken nodes configs ss n taken → KeepsTaken nodes configs ss (suc n) taken
  still_taken none taken kept key = unopened_next nodes configs ss n key (λ o. none o.does) (taken_at taken key) (kept key)

  -- so where the node refuses what is asked of it
  pub taken_refused : (input : Input) → t.deed ≡ Takes input → (refusal : NodeError) → step t.history input ≡ Err refusal
      → (taken : TakenKeys) → KeepsTaken nodes configs ss n taken → KeepsTaken nodes configs ss (suc n) taken
  taken_refused input is refusal refused = still_taken (refused_does_nothing nodes configs ss n s t input is refusal refused)

  module _ (delay : ℕ) (is : t.deed ≡ Restarts delay) where
    -- in a Restart no input is taken
    restart_does_nothing : Does nodes configs ss n → ⊥
    restart_does_nothing does =
        let one = one_turn nodes configs ss n s t does.step does.turn in
        let takes = does.takes in
        let deed = one.deed in
        let both : Restarts delay ≡ Takes does.input = sym is ∙ deed ∙ takes in
        absurd cc

    -- so it opens nothing
    pub taken_restarted : (config : Config) (notes : List NoteKept) (taken : TakenKeys) (life : LifeKept)
        → KeepsTaken nodes configs ss n taken → KeepsTaken nodes configs ss (suc n) (openings_after config notes taken life n s []).taken
    taken_restarted config notes taken life kept =
        let none = publishes_none config life t.history t.before.lines delay s (again_at nodes configs ss n s t delay is).1 in
        subst (λ p. KeepsTaken nodes configs ss (suc n) (published_key n p taken)) (sym none) (still_taken restart_does_nothing taken kept)

    -- and no Subscribe was sent in the new life
    pub counters_restarted : (config : Config) (notes : List NoteKept) (taken : TakenKeys) (life : LifeKept)
        → (openings_after config notes taken life n s []).counters ≡ finite.empty
    counters_restarted config notes taken life =
        let new = begins_anew config notes life t.history t.before.lines delay s (again_at nodes configs ss n s t delay is).1 in
        ap (λ (k : LifeKept). k.counters) new.0
