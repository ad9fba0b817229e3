-- What nodes met was met in the steps of the run, in their present lives.
use Rattle.std.proofs.Common.{◌≡◌, ℕ, zero, suc, ◌+◌, ◌≤◌, Bool, true, false, eqb, List, [], ◌∷◌, length, arith, take, slice_get, slice_set, Some, Result, Ok, Err, refl, sym, ap, subst, ◌∙◌}
use Rattle.std.specs.List.{AllByRecursion}
use Rattle.std.proofs.lemmas.Bool.{eqb-true, eqb-false}
use Rattle.someip_node_rules.specs.histories.History.{History, met, start_of}
use Rattle.someip_node_rules.specs.rules.Inputs.{Input}
use Rattle.someip_node_rules.specs.histories.Items.{Item}
use Rattle.someip_node_rules.specs.trails.Meetings.{MetBy}
use Rattle.someip_node_rules.specs.rules.Plans.{Work}
use Rattle.someip_node_rules.specs.steps.Steps.{step}
use Rattle.someip_node_rules.specs.trails.Trails.{after, met_by, trail_of}
use Rattle.someip_node_rules.specs.declared.config.Config.{Config}
use Rattle.someip_node_rules.specs.declared.error.NodeError.{NodeError}
use Rattle.someip_node_rules.proofs.trails.MeetingLemmas.{all_met, state_met}
use Rattle.someip_node_rules.proofs.lists.MemberLemmas.{all_weaker}
use Rattle.someip_node_rules.proofs.rules.StepRules.{config_kept}
use Rattle.someip_world_schedule.specs.declared.step.Step.{Step}
use Rattle.someip_world_setup.specs.declared.setup_node.SetupNode.{SetupNode}
use Rattle.someip_world_rules.specs.Deeds.{Deed, Takes, Restarts, Injects, done_with}
use Rattle.someip_world_rules.specs.Deliveries.{Restarted}
use Rattle.someip_world_rules.specs.Origins.{HasOrigins, WasMet}
use Rattle.someip_world_rules.specs.Runs.{World, history_after, started_nodes, world_after, world_of}
use Rattle.someip_world_rules.specs.Turns.{LeadTo, Turn}
use Rattle.someip_world_rules.proofs.Fronts.{get_set_other, get_set_same, on_the_way, within}
use Rattle.someip_world_rules.proofs.Lives.{lives_next, not_restarted}

all_after : (P : Item → Type 0) (h : History) (xs : List Item) → AllByRecursion P h.items → AllByRecursion P xs → AllByRecursion P (after h xs).items
all_after P h [] old new = old
all_after P h (x ∷ xs) old new = all_after P (met h x) xs (new.0, old) new.1

module _ (nodes : List SetupNode) (configs : List Config) (steps : List Step) where
  pub begun_so : (ns : List SetupNode) (cs : List Config) (place : ℕ) (h : History) → slice_get (started_nodes ns cs) place ≡ Some h
      → (config : Config) × (delay : ℕ) × (slice_get cs place ≡ Some config) × (h ≡ start_of config delay)
  begun_so [] cs place h is = absurd cc
  begun_so (n ∷ ns) [] place h is = absurd cc
  begun_so (n ∷ ns) (c ∷ cs) zero h is = (c, n.delay, refl, cc)
  begun_so (n ∷ ns) (c ∷ cs) (suc place) h is = begun_so ns cs place h is

  -- where a node is not started again, what was met in its life was met in the life that goes on
  met_on : (n place : ℕ) → (Restarted nodes configs steps n place → ⊥) → (item : Item) → WasMet nodes configs steps n place item → WasMet nodes configs steps (suc n) place item
  met_on n place alive item was =
      let before = was.before in
      record {
        i = was.i;
        before = omega (arith, before);
        does = was.does;
        at = was.at;
        by = was.by;
        lives = lives_next nodes configs steps n place alive was.i was.lives;
      }

  origins_on : (n place : ℕ) → (Restarted nodes configs steps n place → ⊥) → (h : History) → HasOrigins nodes configs steps n place h → HasOrigins nodes configs steps (suc n) place h
  origins_on n place alive h old = record {
    configured = old.configured;
    met = all_weaker (WasMet nodes configs steps n place) (WasMet nodes configs steps (suc n) place) (met_on n place alive) h.items old.met;
  }

  module _ (i : ℕ) (s : Step) (t : Turn nodes configs steps i s) (old : HasOrigins nodes configs steps i t.place t.history) where
    met_here : (input : Input) → t.deed ≡ Takes input → (due : Result (Work History) NodeError) → step t.history input ≡ due
        → HasOrigins nodes configs steps (suc i) t.place (history_after t.history due)
    met_here input is due e = cases due e
      where
        alive : Restarted nodes configs steps i t.place → ⊥
        alive = not_restarted nodes configs steps i t.place s t (λ at delay restarts. absurd cc)

        news : List Item
        news = met_by (trail_of t.history input)

        -- what the step meets
        met_now : (done : Work History) → step t.history input ≡ Ok done → (item : Item) → MetBy t.history input item → WasMet nodes configs steps (suc i) t.place item
        met_now done did item by = record {
          i = i;
          before = omega arith;
          does = record { step = s; turn = t; input = input; takes = is; done = done; happened = did };
          at = refl;
          by = by;
          lives = lives_next nodes configs steps i t.place alive i (λ k since lt. absurd (omega (arith, since, lt)));
        }

        cases : (due : Result (Work History) NodeError) → step t.history input ≡ due → HasOrigins nodes configs steps (suc i) t.place (history_after t.history due)
        cases (Err refusal) e = origins_on i t.place alive t.history old
        cases (Ok done) e =
            subst (HasOrigins nodes configs steps (suc i) t.place) (sym (state_met t.history input done e)) (record {
              configured = old.configured ∙ ap Some (sym (config_kept t.history news));
              met = all_after (WasMet nodes configs steps (suc i) t.place) t.history news (origins_on i t.place alive t.history old).met
                  (all_weaker (MetBy t.history input) (WasMet nodes configs steps (suc i) t.place) (met_now done e) news (all_met t.history input));
            })

    met_by_deed : (deed : Deed) → t.deed ≡ deed → HasOrigins nodes configs steps (suc i) t.place (history_after t.history (done_with t.history deed))
    met_by_deed (Takes input) is = met_here input is (step t.history input) refl
    met_by_deed (Restarts delay) is = record { configured = old.configured; met = tt }
    met_by_deed (Injects from to bytes) is = origins_on i t.place (not_restarted nodes configs steps i t.place s t (λ at delay restarts. absurd cc)) t.history old

  -- all nodes have their origins
  abbrev AllHave : ℕ → World → Type 0
  AllHave n w = (place : ℕ) (h : History) → slice_get w.histories place ≡ Some h → HasOrigins nodes configs steps n place h

  origins_first : AllHave 0 (world_of nodes configs)
  origins_first place h is =
      let start = begun_so nodes configs place h is in subst (HasOrigins nodes configs steps 0 place) (sym start.3) (record { configured = start.2; met = tt })

  origins_next : (i : ℕ) (s : Step) (t : Turn nodes configs steps i s) → AllHave i t.before
      → AllHave (suc i) (world_after (i + 1) t.place t.before t.history (done_with t.history t.deed))
  origins_next i s t all place h is = cases (eqb place t.place) refl
    where
      due : History
      due = history_after t.history (done_with t.history t.deed)

      cases : (b : Bool) → eqb place t.place ≡ b → HasOrigins nodes configs steps (suc i) place h
      cases true e =
          let same : place ≡ t.place = eqb-true place t.place e in
          let now : slice_get (slice_set t.before.histories t.place due) t.place ≡ Some h = subst (λ p. slice_get (slice_set t.before.histories t.place due) p ≡ Some h) same is in
          subst (λ p. HasOrigins nodes configs steps (suc i) p h) (sym same)
          (subst (HasOrigins nodes configs steps (suc i) t.place) (sym (get_set_same t.before.histories t.place due h now))
          (met_by_deed i s t (all t.place t.history t.stands) t.deed refl))
      cases false e =
          let other = eqb-false place t.place e in
          origins_on i place (not_restarted nodes configs steps i place s t (λ at. absurd (other (sym at)))) h
          (all place h (sym (get_set_other t.before.histories t.place place due other) ∙ is))

  pub all_origins : (n : ℕ) (w : World) → n ≤ length steps → LeadTo nodes configs (take n steps) w → AllHave n w
  all_origins = on_the_way nodes configs steps AllHave origins_first origins_next

  -- the node of a step has the configuration of its place
  pub turn_configured : (i : ℕ) (s : Step) (t : Turn nodes configs steps i s) → slice_get configs t.place ≡ Some t.history.config
  turn_configured i s t =
      let inside = within steps i s t.here in
      (all_origins i t.before (omega (arith, inside)) t.led t.place t.history t.stands).configured
