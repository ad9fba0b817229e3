-- A run over copies of the configurations tells what a run over these themselves tells.
use Rattle.std.proofs.Common.{◌≡◌, ℕ, zero, suc, ◌+◌, Bool, true, false, List, [], ◌∷◌, ◌++◌, Option, None, Some, Result, Ok, Err, slice_get, slice_set, refl, sym, ap, subst, ◌∙◌}
use Rattle.std.specs.List.{AllZip}
use Rattle.std.specs.BTreeMap.{BTreeMap}
use Rattle.sd_core.specs.declared.keys.InstanceId.{InstanceId}
use Rattle.someip_node_rules.specs.declared.config.Config.{Config}
use Rattle.someip_node_rules.specs.declared.config.OfferedService.{OfferedService}
use Rattle.someip_node_rules.specs.declared.config.WantedService.{WantedService}
use Rattle.someip_node_rules.specs.declared.error.NodeError.{NodeError}
use Rattle.someip_node_rules.specs.histories.History.{History, answers_of}
use Rattle.someip_node_rules.specs.rules.Inputs.{plan_of, refusal_of}
use Rattle.someip_node_rules.specs.rules.Plans.{Work}
use Rattle.someip_node_rules.specs.steps.Steps.{given_in, unless_refused, work_on}
use Rattle.someip_node_rules.specs.trails.Copies.{IsCopy, IsCopyOfOffer, IsCopyOfWant}
use Rattle.someip_world_schedule.specs.declared.step.Step.{Step}
use Rattle.someip_world_schedule.specs.declared.step.Step.TheVariants as steps
use Rattle.someip_world_schedule.specs.StepNodes.{node_of}
use Rattle.someip_world_setup.specs.declared.setup_node.SetupNode.{SetupNode}
use Rattle.someip_world_rules.specs.Datagrams.{SentDatagram, datagram_at}
use Rattle.someip_world_rules.specs.Deeds.{Deed, Takes, Restarts, Injects, deed_at, delivery, done_with}
use Rattle.someip_world_rules.specs.Liars.{is_liar_at}
use Rattle.someip_world_rules.specs.Runs.{AreCopies, ComesTo, World, happens, happens_at, happens_to, history_after, place_of, run_from, run_lines, started_nodes, then_on, told_lines, unless_bad, world_after, world_of}
use Rattle.someip_world_rules.specs.declared.error.RunError.{RunError}
use Rattle.someip_world_rules.specs.declared.error.RunError.TheVariants.{BadStep}
use Rattle.someip_world_rules.specs.declared.line.Line.{Line}
use Rattle.someip_world_rules.specs.declared.step_fault.StepFault.{StepFault}
use Rattle.someip_explore.specs.Traces.{own_configs, trace_of}
use Rattle.someip_explore.proofs.PlanLemmas.{moved, moved_result, run_kept, step_moved}
use Rattle.someip_explore.proofs.RuleLemmas.{with_maps}

-- ---- a deed

same_delivery : (c : Config) (o : BTreeMap InstanceId OfferedService) (w : BTreeMap InstanceId WantedService) (found : Option SentDatagram)
    → delivery (with_maps c o w) found ≡ delivery c found
same_delivery c o w None = refl
same_delivery c o w (Some sent) = refl

same_deed_with : (h : History) (o : BTreeMap InstanceId OfferedService) (w : BTreeMap InstanceId WantedService) (liar : Bool) (lines : List Line) (s : Step)
    → deed_at liar (moved h (with_maps h.config o w)) lines s ≡ deed_at liar h lines s
same_deed_with h o w true lines s = refl
same_deed_with h o w false lines (steps.Tick node ms) = refl
same_deed_with h o w false lines (steps.Deliver number node) = same_delivery h.config o w (datagram_at lines number)
same_deed_with h o w false lines (steps.Call node kind instance method payload) = refl
same_deed_with h o w false lines (steps.Answer node token reply payload) = refl
same_deed_with h o w false lines (steps.Publish node instance event payload) = refl
same_deed_with h o w false lines (steps.PublishTo node eventgroup to event payload) = refl
same_deed_with h o w false lines (steps.Subscribe node eventgroup) = refl
same_deed_with h o w false lines (steps.Unsubscribe node eventgroup) = refl
same_deed_with h o w false lines (steps.StopOffer node instance) = refl
same_deed_with h o w false lines (steps.Restart node delay) = refl
same_deed_with h o w false lines (steps.Inject node port to payload) = refl

same_deed : (h : History) (d : Config) → IsCopy h.config d → (liar : Bool) (lines : List Line) (s : Step) → deed_at liar (moved h d) lines s ≡ deed_at liar h lines s
same_deed h d copy liar lines s = (λ i. deed_at liar (moved h (copy.0 i)) lines s) ∙ same_deed_with h d.offers d.wants liar lines s

same_done : (h : History) (d : Config) → IsCopy h.config d → (deed : Deed) → done_with (moved h d) deed ≡ moved_result d (done_with h deed)
same_done h d copy (Takes input) = step_moved h d copy input
same_done h d copy (Restarts delay) = refl
same_done h d copy (Injects from to bytes) = refl

-- the configuration of a node stays
after_kept : (h : History) (deed : Deed) → (history_after h (done_with h deed)).config ≡ h.config
after_kept h (Takes input) = cases (refusal_of input (answers_of h))
  where
    cases : (refusal : Option NodeError) → (history_after h (unless_refused refusal (plan_of input) h)).config ≡ h.config
    cases (Some refusal) = refl
    cases None = run_kept (plan_of input) (work_on h)
after_kept h (Restarts delay) = refl
after_kept h (Injects from to bytes) = refl

after_moved : (h : History) (d : Config) (done : Result (Work History) NodeError) → history_after (moved h d) (moved_result d done) ≡ moved (history_after h done) d
after_moved h d (Ok done) = refl
after_moved h d (Err refusal) = refl

given_moved : (d : Config) (done : Result (Work History) NodeError) → given_in (moved_result d done) ≡ given_in done
given_moved d (Ok done) = refl
given_moved d (Err refusal) = refl

-- ---- worlds

-- a history over a copy of the configuration of another
abbrev IsMoved : History → History → Type 0
IsMoved h k = (d : Config) × (k ≡ moved h d) × IsCopy h.config d

abbrev SameWorlds : World → World → Type 0
SameWorlds w v = AllZip IsMoved w.histories v.histories × (v.lines ≡ w.lines)

abbrev SameStep : Result World StepFault → Result World StepFault → Type 0
SameStep (Ok w) (Ok v) = SameWorlds w v
SameStep (Err fault) (Err other) = other ≡ fault
SameStep (Ok w) (Err fault) = ⊥
SameStep (Err fault) (Ok v) = ⊥

abbrev SameGot : Option History → Option History → Type 0
SameGot None None = Unit {0}
SameGot (Some h) (Some k) = IsMoved h k
SameGot None (Some k) = ⊥
SameGot (Some h) None = ⊥

set_both : (hs ks : List History) → AllZip IsMoved hs ks → (place : ℕ) (h k : History) → IsMoved h k → AllZip IsMoved (slice_set hs place h) (slice_set ks place k)
set_both [] [] all place h k one = tt
set_both [] (y ∷ ks) all place h k one = absurd all
set_both (x ∷ hs) [] all place h k one = absurd all
set_both (x ∷ hs) (y ∷ ks) all zero h k one = (one, all.1)
set_both (x ∷ hs) (y ∷ ks) all (suc place) h k one = (all.0, set_both hs ks all.1 place h k one)

got_both : (hs ks : List History) → AllZip IsMoved hs ks → (place : ℕ) → SameGot (slice_get hs place) (slice_get ks place)
got_both [] [] all place = tt
got_both [] (y ∷ ks) all place = absurd all
got_both (x ∷ hs) [] all place = absurd all
got_both (x ∷ hs) (y ∷ ks) all zero = all.0
got_both (x ∷ hs) (y ∷ ks) all (suc place) = got_both hs ks all.1 place

module _ (index place : ℕ) (w v : World) (same : SameWorlds w v) where
  done_both : (h : History) (d : Config) → IsCopy h.config d → (deed : Deed)
      → SameWorlds (world_after index place w h (done_with h deed)) (world_after index place v (moved h d) (done_with (moved h d) deed))
  done_both h d copy deed =
      let done = same_done h d copy deed in
      let after : history_after (moved h d) (done_with (moved h d) deed) ≡ moved (history_after h (done_with h deed)) d =
      ap (history_after (moved h d)) done ∙ after_moved h d (done_with h deed) in (
        set_both w.histories v.histories same.0 place (history_after h (done_with h deed)) _ (d, after, subst (λ c. IsCopy c d) (sym (after_kept h deed)) copy),
        λ i. same.1 i ++ told_lines index place ((ap given_in done ∙ given_moved d (done_with h deed)) i),
      )

  unless_both : (h : History) (d : Config) → IsCopy h.config d → (deed : Result Deed StepFault)
      → SameStep (unless_bad index place w h deed) (unless_bad index place v (moved h d) deed)
  unless_both h d copy (Ok deed) = done_both h d copy deed
  unless_both h d copy (Err fault) = refl

  at_both : (liar : Bool) (s : Step) (found other : Option History) → SameGot found other → SameStep (happens_at liar index w s place found) (happens_at liar index v s place other)
  at_both liar s None None got = refl
  at_both liar s None (Some k) got = absurd got
  at_both liar s (Some h) None got = absurd got
  at_both liar s (Some h) (Some k) got =
      let deed : deed_at liar (moved h got.0) v.lines s ≡ deed_at liar h w.lines s =
      (λ i. deed_at liar (moved h got.0) (same.1 i) s) ∙ same_deed h got.0 got.2 liar w.lines s in
      subst (λ k. SameStep (unless_bad index place w h (deed_at liar h w.lines s)) (unless_bad index place v k (deed_at liar k v.lines s))) (sym got.1)
      (subst (λ x. SameStep (unless_bad index place w h (deed_at liar h w.lines s)) (unless_bad index place v (moved h got.0) x)) (sym deed)
      (unless_both h got.0 got.2 (deed_at liar h w.lines s)))

happens_both : (nodes : List SetupNode) (index : ℕ) (w v : World) → SameWorlds w v → (s : Step) → SameStep (happens nodes index w s) (happens nodes index v s)
happens_both nodes index w v same s = cases (place_of nodes (node_of s))
  where
    cases : (place : Option ℕ) → SameStep (happens_to nodes index w s place) (happens_to nodes index v s place)
    cases None = refl
    cases (Some place) =
        at_both index place w v same (is_liar_at nodes place) s (slice_get w.histories place) (slice_get v.histories place) (got_both w.histories v.histories same.0 place)

-- ---- runs

run_both : (nodes : List SetupNode) (index : ℕ) (ss : List Step) (w v : World) → SameWorlds w v → run_lines (run_from nodes index v ss) ≡ run_lines (run_from nodes index w ss)
run_both nodes index [] w v same = λ i. Ok (same.1 i)
run_both nodes index (s ∷ ss) w v same =
    cases (run_both nodes (index + 1) ss) (happens nodes index w s) (happens nodes index v s) (happens_both nodes index w v same s)
  where
    cases : ((x y : World) → SameWorlds x y → run_lines (run_from nodes (index + 1) y ss) ≡ run_lines (run_from nodes (index + 1) x ss))
        → (one other : Result World StepFault) → SameStep one other
        → run_lines (then_on index other (λ next. run_from nodes (index + 1) next ss)) ≡ run_lines (then_on index one (λ next. run_from nodes (index + 1) next ss))
    cases rest (Ok x) (Ok y) both = rest x y both
    cases rest (Err fault) (Err other) both = λ i. Err (BadStep index (both i))
    cases rest (Ok x) (Err fault) both = absurd both
    cases rest (Err fault) (Ok y) both = absurd both

started_both : (nodes : List SetupNode) (configs : List Config) → AreCopies nodes configs
    → AllZip IsMoved (started_nodes nodes (own_configs nodes)) (started_nodes nodes configs)
started_both [] [] copies = tt
started_both [] (c ∷ configs) copies = absurd copies
started_both (n ∷ nodes) [] copies = absurd copies
started_both (n ∷ nodes) (c ∷ configs) copies = ((c, refl, copies.0), started_both nodes configs copies.1)

-- what a schedule comes to is its trace
pub comes_to_trace : (nodes : List SetupNode) (ss : List Step) (due : Result (List Line) RunError) → ComesTo nodes ss due → due ≡ trace_of nodes ss
comes_to_trace nodes ss due comes =
    sym comes.2 ∙ run_both nodes 1 ss (world_of nodes (own_configs nodes)) (world_of nodes comes.0) (started_both nodes comes.0 comes.1, refl)

-- ---- its own configurations

own_offers : (es : List (InstanceId × OfferedService)) → AllZip (λ a b. (b.0 ≡ a.0) × IsCopyOfOffer a.1 b.1) es es
own_offers [] = tt
own_offers (e ∷ es) = ((refl, (refl, (refl, refl))), own_offers es)

own_wants : (es : List (InstanceId × WantedService)) → AllZip (λ a b. (b.0 ≡ a.0) × IsCopyOfWant a.1 b.1) es es
own_wants [] = tt
own_wants (e ∷ es) = ((refl, (refl, refl)), own_wants es)

pub own_copies : (nodes : List SetupNode) → AreCopies nodes (own_configs nodes)
own_copies [] = tt
own_copies (n ∷ nodes) = ((refl, own_offers n.config.offers.entries, own_wants n.config.wants.entries), own_copies nodes)

pub trace_comes : (nodes : List SetupNode) (ss : List Step) → ComesTo nodes ss (trace_of nodes ss)
trace_comes nodes ss = (own_configs nodes, own_copies nodes, refl)
