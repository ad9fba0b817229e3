-- A run goes on by one step.
use Rattle.std.proofs.Common.{◌≡◌, ℕ, zero, suc, ◌+◌, ◌<◌, ◌≤◌, Bool, true, false, List, [], ◌∷◌, ◌++◌, length, arith, get_or, drop, take, slice_get, slice_set, Some, Result, Ok, Err, refl, sym, ap, subst, ◌∙◌}
use Rattle.std.specs.Global.{Vec}
use Rattle.std.specs.List.{AllZip}
use Rattle.std.proofs.lemmas.List.{at_drop_more, take_more}
use Rattle.std.proofs.Math.ListN.{drop_of_length-le}
use Rattle.std.proofs.lemmas.Option.{slice_get_past}
use Rattle.someip_node_rules.specs.histories.History.{History, start_of}
use Rattle.someip_node_rules.specs.rules.Plans.{Work}
use Rattle.someip_node_rules.specs.steps.Steps.{NodeView, StandsFor}
use Rattle.someip_node_rules.specs.trails.Copies.{IsCopy, IsCopyOfOffer, IsCopyOfWant}
use Rattle.someip_node_rules.specs.declared.config.OfferedService.{OfferedService}
use Rattle.someip_node_rules.specs.declared.config.WantedService.{WantedService}
use Rattle.sd_core.specs.declared.keys.InstanceId.{InstanceId}
use Rattle.someip_node_rules.specs.declared.config.Config.{Config}
use Rattle.someip_node_rules.specs.declared.error.NodeError.{NodeError}
use Rattle.someip_node_rules.specs.declared.output.Output.{Output}
use Rattle.someip_world_schedule.specs.declared.step.Step.{Step}
use Rattle.someip_world_schedule.specs.StepNodes.{node_of}
use Rattle.someip_world_setup.specs.declared.setup_node.SetupNode.{SetupNode}
use Rattle.someip_world_rules.specs.declared.error.RunError.{RunError}
use Rattle.someip_world_rules.specs.declared.error.RunError.TheVariants.{BadStep}
use Rattle.someip_world_rules.specs.declared.error.RunError.TheVariants as errors
use Rattle.someip_world_rules.specs.declared.line.Line.{Line}
use Rattle.someip_world.specs.declared.performing.StepError.{StepError}
use Rattle.someip_world.specs.declared.performing.StepError.TheVariants.{Bad, Refused, OutOfMemory}
use Rattle.someip_world_rules.specs.declared.step_fault.StepFault.{StepFault}
use Rattle.someip_world_rules.specs.declared.step_fault.StepFault.TheVariants.{UnknownNode}
use Rattle.someip_world_rules.specs.Deeds.{Deed, Takes, Restarts, Injects, deed_at, done_with}
use Rattle.someip_world_rules.specs.Liars.{is_liar_at}
use Rattle.someip_world.specs.declared.actor.Actor.{Actor}
use Rattle.someip_world.specs.declared.actor.Actor.TheVariants.{Node, Liar}
use Rattle.someip_world.specs.Acting.{Acts, Did, Lies, actor_of, actors_of}
use Rattle.someip_world.specs.Performing.{Does, Performs, Puts}
use Rattle.someip_world.specs.Running.{AreStarted, Comes, Ends, IsStarted, IsTold, AreOfWorld}
use Rattle.someip_world_rules.specs.Runs.{AreCopies, World, happens, happens_at, told_lines, place_of, run_from, run_of, started_nodes, then_on, run_lines, unless_bad, world_after, world_of}

-- a liar has a copy of its own configuration
copy_offers : (es : List (InstanceId × OfferedService)) → AllZip (λ a b. (b.0 ≡ a.0) × IsCopyOfOffer a.1 b.1) es es
copy_offers [] = tt
copy_offers (e ∷ es) = ((refl, (refl, (refl, refl))), copy_offers es)

copy_wants : (es : List (InstanceId × WantedService)) → AllZip (λ a b. (b.0 ≡ a.0) × IsCopyOfWant a.1 b.1) es es
copy_wants [] = tt
copy_wants (e ∷ es) = ((refl, (refl, refl)), copy_wants es)

out_of_memory : (due : Result World RunError) (lines : List Line) → Ends due (Err errors.OutOfMemory) lines
out_of_memory (Ok w) lines = tt
out_of_memory (Err error) lines = tt

-- what is left begins with the step
next_step : (setup : List SetupNode) (steps : List Step) (i : ℕ) (w : World) (s : Step) → i < length steps → s ≡ get_or steps i s
    → run_from setup (i + 1) w (drop i steps) ≡ then_on (i + 1) (happens setup (i + 1) w s) (λ next. run_from setup (i + 1 + 1) next (drop (i + 1) steps))
next_step setup steps i w s lt is = at_drop_more (run_from setup (i + 1) w) steps i s lt ∙ ap (λ x. run_from setup (i + 1) w (x ∷ drop (i + 1) steps)) (sym is)

-- the outcome of all steps is that of the run
pub run_told : (setup : List SetupNode) (configs : List Config) (steps : List Step) (due : Result World RunError) (lines : List Line) → run_from setup 1 (world_of setup configs) steps ≡ due
    → Ends due (Ok (record {})) lines → run_of setup configs steps ≡ Ok lines
run_told setup configs steps (Ok w) lines is ends = ap run_lines is ∙ ap Ok (sym ends)
run_told setup configs steps (Err error) lines is ends = absurd ends

pub failed : (setup : List SetupNode) (configs : List Config) (steps : List Step) (error : RunError) (lines : List Line) → AreCopies setup configs
    → Ends (run_from setup 1 (world_of setup configs) steps) (Err error) lines → IsTold setup steps (Err error)
failed setup configs steps errors.OutOfMemory lines are ends = record {}
failed setup configs steps (BadStep at fault) lines are ends = (configs, are, cases (run_from setup 1 (world_of setup configs) steps) refl ends)
  where
    cases : (due : Result World RunError) → run_from setup 1 (world_of setup configs) steps ≡ due → Ends due (Err (BadStep at fault)) lines
        → run_of setup configs steps ≡ Err (BadStep at fault)
    cases (Ok w) is e = absurd e
    cases (Err error) is e = ap run_lines is ∙ ap Err e

actors_long : (R : Type 0) (setup : List SetupNode) (hs : List History) → length (actors_of {R = R} setup hs) ≡ length hs
actors_long R [] [] = refl
actors_long R (n ∷ setup) [] = refl
actors_long R [] (h ∷ hs) = ap (λ n. suc n) (actors_long R [] hs)
actors_long R (n ∷ setup) (h ∷ hs) = ap (λ n. suc n) (actors_long R setup hs)

module _ {R : Type 0} where
  -- ---- the start

  push_started : (nodes : List SetupNode) (views : List (Actor R)) (node : SetupNode) (view : Actor R) → AreStarted nodes views → IsStarted node view
      → AreStarted (nodes ++ node ∷ []) (views ++ view ∷ [])
  push_started [] [] node view all one = (one, tt)
  push_started [] (v ∷ views) node view all one = absurd all
  push_started (n ∷ nodes) [] node view all one = absurd all
  push_started (n ∷ nodes) (v ∷ views) node view all one = (all.0, push_started nodes views node view all.1 one)

  -- one node more is started
  pub more_started : (nodes : List SetupNode) (i : ℕ) (node : SetupNode) (views new : List (Actor R)) (view : Actor R) → AreStarted (take i nodes) views
      → i < length nodes → node ≡ get_or nodes i node → IsStarted node view → new ≡ views ++ view ∷ [] → AreStarted (take (i + 1) nodes) new
  more_started nodes i node views new view all lt is one more =
      rw (more, take_more nodes i node lt, sym is) (push_started (take i nodes) views node view all one)

  -- what was started, as copies of the configurations and the histories of their starts
  pub starts : (nodes : List SetupNode) (views : List (Actor R)) → AreStarted nodes views
      → (configs : List Config) × AreCopies nodes configs × (views ≡ actors_of nodes (started_nodes nodes configs))
  starts [] [] all = ([], tt, refl)
  starts [] (v ∷ views) all = absurd all
  starts (n ∷ nodes) [] all = absurd all
  starts (n ∷ nodes) (v ∷ views) all =
      let rest = starts nodes views all.1 in
      (all.0.0 ∷ rest.0, (all.0.1, rest.1), λ i. all.0.2 i ∷ rest.2 i)

  pub liar_started : (node : SetupNode) (actor : Actor R) → node.is_liar ≡ true → actor ≡ Liar node.config.address → IsStarted node actor
  liar_started node actor lies is = (
    node.config,
    (refl, copy_offers node.config.offers.entries, copy_wants node.config.wants.entries),
    is ∙ ap (λ liar. actor_of liar (start_of node.config node.delay)) (sym lies),
  )

  pub node_started : (node : SetupNode) (config : Config) (view : NodeView) (actor : Actor R) → node.is_liar ≡ false → IsCopy node.config config
      → StandsFor view (start_of config node.delay) → actor ≡ Node view → IsStarted node actor
  node_started node config view actor honest copies stands is = (
    config,
    copies,
    is ∙ ap Node stands ∙ ap (λ liar. actor_of liar (start_of config node.delay)) (sym honest),
  )

  -- ---- those who act

  -- who acts at a place
  pub actor_got : (setup : List SetupNode) (hs : List History) (k : ℕ) (actor : Actor R) → slice_get (actors_of setup hs) k ≡ Some actor
      → (h : History) × (slice_get hs k ≡ Some h) × (actor ≡ actor_of (is_liar_at setup k) h)
  actor_got [] [] k actor is = absurd cc
  actor_got (n ∷ setup) [] k actor is = absurd cc
  actor_got [] (h ∷ hs) zero actor is = (h, refl, cc)
  actor_got (n ∷ setup) (h ∷ hs) zero actor is = (h, refl, cc)
  actor_got [] (h ∷ hs) (suc k) actor is = actor_got [] hs k actor is
  actor_got (n ∷ setup) (h ∷ hs) (suc k) actor is = actor_got setup hs k actor is

  -- and who acts there when the history is another
  actor_set : (setup : List SetupNode) (hs : List History) (k : ℕ) (h : History) → slice_set (actors_of {R = R} setup hs) k (actor_of (is_liar_at setup k) h) ≡ actors_of setup (slice_set hs k h)
  actor_set [] [] k h = refl
  actor_set (n ∷ setup) [] k h = refl
  actor_set [] (x ∷ hs) zero h = refl
  actor_set (n ∷ setup) (x ∷ hs) zero h = refl
  actor_set [] (x ∷ hs) (suc k) h = ap (λ others. actor_of false x ∷ others) (actor_set [] hs k h)
  actor_set (n ∷ setup) (x ∷ hs) (suc k) h = ap (λ others. actor_of n.is_liar x ∷ others) (actor_set setup hs k h)

  -- a node does what it does as one that acts
  pub node_acts : (h : History) (due : Result Deed StepFault) (result : Result (Vec Output) StepError) (new : NodeView) (actor : Actor R) → Performs h due result new → actor ≡ Node new
      → Acts false h due result actor
  node_acts h (Err fault) (Err (Bad told)) new actor performs is = performs
  node_acts h (Err fault) (Ok outputs) new actor performs is = absurd performs
  node_acts h (Err fault) (Err (Refused refusal)) new actor performs is = absurd performs
  node_acts h (Err fault) (Err OutOfMemory) new actor performs is = absurd performs
  node_acts h (Ok deed) result new actor performs is = cases (done_with h deed) result performs
    where
      cases : (due : Result (Work History) NodeError) (result : Result (Vec Output) StepError) → Does h due result new → Did false h due result actor
      cases (Ok done) (Ok outputs) does = (does.0, is ∙ ap Node does.1)
      cases (Err refusal) (Err (Refused told)) does = (does.0, is ∙ ap Node does.1)
      cases (Ok done) (Err OutOfMemory) does = tt
      cases (Err refusal) (Err OutOfMemory) does = tt
      cases (Ok done) (Err (Bad fault)) does = absurd does
      cases (Ok done) (Err (Refused told)) does = absurd does
      cases (Err refusal) (Ok outputs) does = absurd does
      cases (Err refusal) (Err (Bad fault)) does = absurd does

  -- and so does a liar
  pub liar_acts : (h : History) (due : Result Deed StepFault) (result : Result (Vec Output) StepError) (actor : Actor R) → Lies due result → actor ≡ Liar h.config.address
      → Acts true h due result actor
  liar_acts h (Err fault) (Err (Bad told)) actor lies is = lies
  liar_acts h (Err fault) (Ok outputs) actor lies is = absurd lies
  liar_acts h (Err fault) (Err (Refused refusal)) actor lies is = absurd lies
  liar_acts h (Err fault) (Err OutOfMemory) actor lies is = absurd lies
  liar_acts h (Ok (Injects from to bytes)) (Ok outputs) actor lies is = (lies, is)
  liar_acts h (Ok (Injects from to bytes)) (Err OutOfMemory) actor lies is = tt
  liar_acts h (Ok (Injects from to bytes)) (Err (Bad fault)) actor lies is = absurd lies
  liar_acts h (Ok (Injects from to bytes)) (Err (Refused refusal)) actor lies is = absurd lies
  liar_acts h (Ok (Takes input)) result actor lies is = absurd lies
  liar_acts h (Ok (Restarts delay)) result actor lies is = absurd lies

  -- ---- a step

  module _ (setup : List SetupNode) (index place : ℕ) (w : World) (s : Step) (actors : List (Actor R)) (h : History) (new : Actor R) where
    stands_then : (state : History) → actors ≡ actors_of setup w.histories → new ≡ actor_of (is_liar_at setup place) state → slice_set actors place new ≡ actors_of setup (slice_set w.histories place state)
    stands_then state stand is = (λ i. slice_set (stand i) place (is i)) ∙ actor_set setup w.histories place state

    -- what was done
    done : (due : Result (Work History) NodeError) (given : Result (Vec Output) StepError) (result : Result (Unit {0}) RunError) (after : List Line)
        → actors ≡ actors_of setup w.histories → Did (is_liar_at setup place) h due given new → Puts index place given w.lines result after
        → Comes setup index (Ok (world_after index place w h due)) result (slice_set actors place new) after
    done (Ok work) (Ok outputs) (Ok _) after stand did told = (stands_then work.state stand did.1, told ∙ ap (λ os. w.lines ++ told_lines index place (Ok os)) did.0)
    done (Err refusal) (Err (Refused error)) (Ok _) after stand did told = (stands_then h stand did.1, told ∙ ap (λ e. w.lines ++ told_lines index place (Err e)) did.0)
    done due given (Err errors.OutOfMemory) after stand did told = tt
    done (Ok work) (Ok outputs) (Err (BadStep at fault)) after stand did told = absurd cc
    done (Ok work) (Err (Bad fault)) result after stand did told = absurd did
    done (Ok work) (Err (Refused error)) result after stand did told = absurd did
    done (Ok work) (Err OutOfMemory) (Ok _) after stand did told = absurd told
    done (Ok work) (Err OutOfMemory) (Err (BadStep at fault)) after stand did told = absurd cc
    done (Err refusal) (Ok outputs) result after stand did told = absurd did
    done (Err refusal) (Err (Bad fault)) result after stand did told = absurd did
    done (Err refusal) (Err (Refused error)) (Err (BadStep at fault)) after stand did told = absurd cc
    done (Err refusal) (Err OutOfMemory) (Ok _) after stand did told = absurd told
    done (Err refusal) (Err OutOfMemory) (Err (BadStep at fault)) after stand did told = absurd cc

    -- what was done, or that the step is bad
    pub came : (deed : Result Deed StepFault) (given : Result (Vec Output) StepError) (result : Result (Unit {0}) RunError) (after : List Line)
        → actors ≡ actors_of setup w.histories → Acts (is_liar_at setup place) h deed given new → Puts index place given w.lines result after
        → Comes setup index (unless_bad index place w h deed) result (slice_set actors place new) after
    came (Ok deed) given result after stand acts told = done (done_with h deed) given result after stand acts told
    came (Err fault) (Err (Bad error)) (Err (BadStep at named)) after stand acts told = (cc, cc)
    came (Err fault) (Err (Bad error)) (Err errors.OutOfMemory) after stand acts told = absurd cc
    came (Err fault) (Err (Bad error)) (Ok _) after stand acts told = absurd told
    came (Err fault) (Ok outputs) result after stand acts told = absurd acts
    came (Err fault) (Err (Refused error)) result after stand acts told = absurd acts
    came (Err fault) (Err OutOfMemory) result after stand acts told = absurd acts

  -- a step happens at a place
  pub happened : (setup : List SetupNode) (index place : ℕ) (w : World) (s : Step) (actors : List (Actor R)) (lines : List Line) (actor new : Actor R) (given : Result (Vec Output) StepError)
      (result : Result (Unit {0}) RunError) (after : List Line) → place_of setup (node_of s) ≡ Some place → AreOfWorld setup actors lines w
      → slice_get actors place ≡ Some actor → ((liar : Bool) (h : History) → actor ≡ actor_of liar h → Acts liar h (deed_at liar h lines s) given new) → Puts index place given lines result after
      → Comes setup index (happens setup index w s) result (slice_set actors place new) after
  happened setup index place w s actors lines actor new given result after named shows here acts told =
      let at = actor_got setup w.histories place actor (ap (λ actors. slice_get actors place) (sym shows.0) ∙ here) in
      rw (named, at.1)
      (came setup index place w s actors at.0 new (deed_at (is_liar_at setup place) at.0 w.lines s) given result after shows.0
      (subst (λ ls. Acts (is_liar_at setup place) at.0 (deed_at (is_liar_at setup place) at.0 ls s) given new) shows.1 (acts (is_liar_at setup place) at.0 at.2))
      (subst (λ ls. Puts index place given ls result after) shows.1 told))

  -- nobody acts at a place past all
  pub nowhere : (setup : List SetupNode) (index place : ℕ) (w : World) (s : Step) (actors : List (Actor R)) (lines : List Line) → AreOfWorld setup actors lines w → length actors ≤ place
      → happens_at (is_liar_at setup place) index w s place (slice_get w.histories place) ≡ Err UnknownNode
  nowhere setup index place w s actors lines shows past =
      rw (slice_get_past w.histories place (omega (arith, past, ap length shows.0, actors_long R setup w.histories))) refl

  -- ---- a run

  module _ (setup : List SetupNode) (first : World) (steps : List Step) where
    -- the run goes on from a world that the nodes and lines show
    pub record GoesOn (nodes : List (Actor R)) (lines : List Line) (i : ℕ) : Type 0 where
      pub now : World
      pub shows : AreOfWorld setup nodes lines now
      pub rest : run_from setup (i + 1) now (drop i steps) ≡ run_from setup 1 first steps

    -- a step was done
    pub goes_on : (i : ℕ) (s : Step) (nodes new : List (Actor R)) (lines after : List Line) → (on : GoesOn nodes lines i) → i < length steps → s ≡ get_or steps i s
        → Comes setup (i + 1) (happens setup (i + 1) on.now s) (Ok (record {})) new after → GoesOn new after (i + 1)
    goes_on i s nodes new lines after on lt is comes = cases (happens setup (i + 1) on.now s) refl comes
      where
        cases : (due : Result World StepFault) → happens setup (i + 1) on.now s ≡ due → Comes setup (i + 1) due (Ok (record {})) new after → GoesOn new after (i + 1)
        cases (Ok w) e c = record {
          now = w;
          shows = c;
          rest = sym (ap (λ d. then_on (i + 1) d (λ next. run_from setup (i + 1 + 1) next (drop (i + 1) steps))) e) ∙ sym (next_step setup steps i on.now s lt is) ∙ on.rest;
        }
        cases (Err fault) e c = absurd c

    -- a step was bad, or memory ran out
    pub stopped : (i : ℕ) (s : Step) (nodes new : List (Actor R)) (lines after : List Line) (error : RunError) → (on : GoesOn nodes lines i) → i < length steps
        → s ≡ get_or steps i s → Comes setup (i + 1) (happens setup (i + 1) on.now s) (Err error) new after → Ends (run_from setup 1 first steps) (Err error) after
    stopped i s nodes new lines after errors.OutOfMemory on lt is comes = out_of_memory (run_from setup 1 first steps) after
    stopped i s nodes new lines after (BadStep at told) on lt is comes = cases (happens setup (i + 1) on.now s) refl comes
      where
        cases : (due : Result World StepFault) → happens setup (i + 1) on.now s ≡ due → Comes setup (i + 1) due (Err (BadStep at told)) new after
            → Ends (run_from setup 1 first steps) (Err (BadStep at told)) after
        cases (Ok w) e c = absurd c
        cases (Err fault) e c =
            subst (λ d. Ends d (Err (BadStep at told)) after) (sym (next_step setup steps i on.now s lt is ∙ ap (λ d. then_on (i + 1) d (λ next. run_from setup (i + 1 + 1) next (drop (i + 1) steps))) e) ∙ on.rest)
            (λ j. BadStep (sym c.0 j) (sym c.1 j))

    -- all steps were done
    pub ended : (i : ℕ) (nodes : List (Actor R)) (lines : List Line) → GoesOn nodes lines i → length steps ≤ i → Ends (run_from setup 1 first steps) (Ok (record {})) lines
    ended i nodes lines on past =
        subst (λ d. Ends d (Ok (record {})) lines) (sym (ap (run_from setup (i + 1) on.now) (drop_of_length-le steps past)) ∙ on.rest) on.shows.1

  -- ---- the whole

  -- the world of a start, as the nodes that were started show it
  pub begun : (setup : List SetupNode) (views nodes : List (Actor R)) (lines : List Line) → views ≡ nodes → (all : AreStarted setup nodes) → lines ≡ []
      → AreOfWorld setup views lines (world_of setup (starts setup nodes all).0)
  begun setup views nodes lines same all none = (same ∙ (starts setup nodes all).2, none)
