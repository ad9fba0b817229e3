-- In a life of a node its clock never goes back.
use Rattle.std.proofs.Common.{◌≡◌, ◌<◌, ◌≤◌, ◌⊎◌, inl, inr, arith, ℕ, suc, ◌+◌, Bool, true, false, eqb, List, take, slice_get, slice_set, Some, Result, Ok, Err, refl, sym, ap, subst, ◌∙◌}
use Rattle.std.proofs.lemmas.Bool.{eqb-true, eqb-false}
use Rattle.someip_node_rules.specs.histories.History.{History}
use Rattle.someip_node_rules.specs.rules.Inputs as inputs
use Rattle.someip_node_rules.specs.rules.Inputs.{Input}
use Rattle.someip_node_rules.specs.rules.Plans.{Work}
use Rattle.someip_node_rules.specs.histories.Questions.{clock_at}
use Rattle.someip_node_rules.specs.steps.Steps.{step}
use Rattle.someip_node_rules.specs.declared.config.Config.{Config}
use Rattle.someip_node_rules.specs.declared.error.NodeError.{NodeError}
use Rattle.someip_world_schedule.specs.declared.step.Step.{Step}
use Rattle.someip_world_setup.specs.declared.setup_node.SetupNode.{SetupNode}
use Rattle.someip_world_rules.specs.Deeds.{Deed, Takes, Restarts, Injects, done_with}
use Rattle.someip_world_rules.specs.Runs.{World, history_after, world_after, world_of}
use Rattle.someip_world_rules.specs.Turns.{LeadTo, Turn}
use Rattle.someip_world_rules.specs.Deliveries.{LivesOn}
use Rattle.someip_world_rules.proofs.about_exchanges.runs.ClockLemmas.{other_clock, tick_clock}
use Rattle.someip_world_rules.proofs.Fronts.{get_set_other, get_set_same, on_the_way, one_world, within}
use Rattle.someip_world_rules.proofs.Lives.{below_next}

-- ---- one step

-- an input that is taken does not set the clock back
grows : (h : History) (input : Input) (done : Work History) → step h input ≡ Ok done → clock_at h.items ≤ clock_at done.state.items
grows h (inputs.Tick ms) done is = let after = tick_clock h ms done is in omega (arith, after)
grows h input done is = let after = other_clock h input done refl is in omega (arith, after)

-- nor does one that is refused
grows_after : (h : History) (input : Input) (due : Result (Work History) NodeError) → step h input ≡ due → clock_at h.items ≤ clock_at (history_after h due).items
grows_after h input (Ok done) is = grows h input done is
grows_after h input (Err refusal) is = omega arith

-- ---- a life

module _ (nodes : List SetupNode) (configs : List Config) (ss : List Step) (i : ℕ) (r : Step) (u : Turn nodes configs ss i r) where
  -- in the same life the clock of the node is no less than it was in a step
  abbrev NotBack : ℕ → World → Type 0
  NotBack k w = i ≤ k → LivesOn nodes configs ss u.place i k → (h : History) → slice_get w.histories u.place ≡ Some h → clock_at u.history.items ≤ clock_at h.items

  -- in the step itself it is what it is
  at_own_step : (k : ℕ) (w : World) → LeadTo nodes configs (take k ss) w → i ≡ k → (h : History) → slice_get w.histories u.place ≡ Some h → clock_at u.history.items ≤ clock_at h.items
  at_own_step k w led same h is =
      let world : u.before ≡ w = one_world nodes configs ss (take k ss) u.before w (subst (λ j. LeadTo nodes configs (take j ss) u.before) same u.led) led in
      let both : Some u.history ≡ Some h = sym u.stands ∙ ap (λ (x : World). slice_get x.histories u.place) world ∙ is in
      let one : u.history ≡ h = cc in
      let clock = ap (λ (x : History). clock_at x.items) one in
      omega (arith, clock)

  module _ (k : ℕ) (s : Step) (t : Turn nodes configs ss k s) (before : NotBack k t.before) (le : i ≤ k) (lives : LivesOn nodes configs ss u.place i (suc k)) where
    -- it was the same life before
    lives_before : LivesOn nodes configs ss u.place i k
    lives_before j since lt = lives j since (omega (arith, lt))

    -- a step of the node in its life does not set its clock back
    by_deed : u.place ≡ t.place → (deed : Deed) → t.deed ≡ deed → clock_at t.history.items ≤ clock_at (history_after t.history (done_with t.history deed)).items
    by_deed at (Takes input) is = grows_after t.history input (step t.history input) refl
    by_deed at (Restarts delay) is = absurd (lives k le (omega arith) (record { step = s; turn = t; at = sym at; delay = delay; restarts = is }))
    by_deed at (Injects from to bytes) is = omega arith

    -- and one of another node leaves it
    at_place : (h : History) → (b : Bool) → eqb u.place t.place ≡ b
        → slice_get (slice_set t.before.histories t.place (history_after t.history (done_with t.history t.deed))) u.place ≡ Some h → clock_at u.history.items ≤ clock_at h.items
    at_place h true at is =
        let same : u.place ≡ t.place = eqb-true u.place t.place at in
        let new : h ≡ history_after t.history (done_with t.history t.deed) =
        get_set_same t.before.histories t.place (history_after t.history (done_with t.history t.deed)) h
        (subst (λ p. slice_get (slice_set t.before.histories t.place (history_after t.history (done_with t.history t.deed))) p ≡ Some h) same is) in
        let was = before le lives_before t.history (ap (slice_get t.before.histories) same ∙ t.stands) in
        let goes = by_deed same t.deed refl in
        let clock = ap (λ (x : History). clock_at x.items) new in
        omega (arith, was, goes, clock)
    at_place h false at is =
        before le lives_before h (sym (get_set_other t.before.histories t.place u.place (history_after t.history (done_with t.history t.deed)) (eqb-false u.place t.place at)) ∙ is)

  -- so it goes on over each step
  on_and_on : (k : ℕ) (s : Step) (t : Turn nodes configs ss k s) → NotBack k t.before → NotBack (suc k) (world_after (k + 1) t.place t.before t.history (done_with t.history t.deed))
  on_and_on k s t before le lives h is = cases (below_next i (suc k) (omega (arith, le)))
    where
      after : World
      after = world_after (k + 1) t.place t.before t.history (done_with t.history t.deed)

      cases : (i < suc k) ⊎ (i ≡ suc k) → clock_at u.history.items ≤ clock_at h.items
      cases (inl lt) = at_place k s t before (omega (arith, lt)) lives h (eqb u.place t.place) refl is
      cases (inr same) =
          let counted : k + 1 ≡ suc k = omega arith in
          at_own_step (suc k) after (subst (λ j. LeadTo nodes configs (take j ss) after) counted t.leads) same h is

  -- the clock in a later step of the life
  pub clock_goes_on : (j : ℕ) (s : Step) (t : Turn nodes configs ss j s) → u.place ≡ t.place → i ≤ j → LivesOn nodes configs ss u.place i j
      → clock_at u.history.items ≤ clock_at t.history.items
  clock_goes_on j s t at le lives =
      let inside = within ss j s t.here in
      on_the_way nodes configs ss NotBack (λ none lives h is. at_own_step 0 (world_of nodes configs) refl (omega (arith, none)) h is) on_and_on
      j t.before (omega (arith, inside)) t.led le lives t.history (ap (slice_get t.before.histories) at ∙ t.stands)
