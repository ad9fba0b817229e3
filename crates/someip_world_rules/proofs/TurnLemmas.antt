-- The steps of a run one by one.
use Rattle.std.proofs.Common.{◌≡◌, ◌≢◌, ◌⊎◌, inl, inr, ℕ, zero, suc, ◌+◌, ◌<◌, ◌≤◌, Bool, true, false, eqb, cond, List, [], ◌∷◌, ◌++◌, length, arith, drop, take, slice_get, Option, None, Some, Result, Ok, Err, refl, sym, ap, subst, append_assoc, ◌∙◌}
use Rattle.std.specs.List.{AllByRecursion}
use Rattle.std.proofs.lemmas.Bool.{eqb-true, eq-eqb}
use Rattle.std.proofs.lemmas.List.{append-nil, length-take}
use Rattle.std.proofs.lemmas.List.Elements.{filter-append}
use Rattle.std.specs.Prelude.{if◌then◌else◌, nat_lt}
use Rattle.std.specs.declared.net.socket_addr.SocketAddrV4.{SocketAddrV4}
use Rattle.sd_core.specs.declared.eventgroup.Eventgroup.{Eventgroup}
use Rattle.sd_core.specs.declared.keys.InstanceId.{InstanceId}
use Rattle.someip_node_rules.specs.histories.History.{History}
use Rattle.someip_node_rules.specs.rules.Inputs.{Input}
use Rattle.someip_node_rules.specs.rules.Inputs as inputs
use Rattle.someip_node_laws.specs.Published.{IsPublished, IsPublishedTo}
use Rattle.someip_node_laws.proofs.rules.PublishedLemmas.{is_published, is_published_to}
use Rattle.someip_node_rules.specs.rules.Plans.{Work}
use Rattle.someip_node_rules.specs.steps.Steps.{step, given_in}
use Rattle.someip_node_rules.specs.declared.config.Config.{Config}
use Rattle.someip_node_rules.specs.declared.error.NodeError.{NodeError}
use Rattle.someip_node_rules.specs.declared.output.Output.{Output}
use Rattle.someip_world_schedule.specs.declared.step.Step.{Step}
use Rattle.someip_world_schedule.specs.declared.step.Step.TheVariants.{Publish, PublishTo}
use Rattle.someip_world_schedule.specs.StepNodes.{node_of}
use Rattle.someip_world_setup.specs.declared.setup_node.SetupNode.{SetupNode}
use Rattle.someip_world_rules.specs.declared.error.RunError.{RunError}
use Rattle.someip_world_rules.specs.declared.line.Line.{Line}
use Rattle.someip_world_rules.specs.declared.step_fault.StepFault.{StepFault}
use Rattle.someip_world_rules.specs.declared.step_fault.StepFault.TheVariants.{PayloadTooLong}
use Rattle.someip_world_rules.specs.Deeds.{Deed, Takes, deed_at, done_with, unless_long}
use Rattle.someip_world_rules.specs.Liars.{is_liar_at}
use Rattle.someip_world_rules.proofs.LiarLemmas.{by_node}
use Rattle.someip_world_rules.specs.Turns.{IsOfRun, LeadTo, TakesIt, ToldTurn, Turn, lines_at}
use Rattle.someip_world_rules.specs.Runs.{ComesTo, World, happens, happens_at, happens_to, told_lines, place_of, run_from, run_of, then_on, run_lines, unless_bad, world_after, world_of}

-- ---- a step that happened

pub record Happened (nodes : List SetupNode) (index : ℕ) (w : World) (s : Step) (next : World) : Type 0 where
  pub place : ℕ
  pub named : place_of nodes (node_of s) ≡ Some place
  pub history : History
  pub stands : slice_get w.histories place ≡ Some history
  pub deed : Deed
  pub due : deed_at (is_liar_at nodes place) history w.lines s ≡ Ok deed
  pub is : next ≡ world_after index place w history (done_with history deed)

module _ (nodes : List SetupNode) (index : ℕ) (w : World) (s : Step) (next : World) where
  by_deed : (place : ℕ) (h : History) (deed : Result Deed StepFault) → place_of nodes (node_of s) ≡ Some place → slice_get w.histories place ≡ Some h
      → deed_at (is_liar_at nodes place) h w.lines s ≡ deed → unless_bad index place w h deed ≡ Ok next → Happened nodes index w s next
  by_deed place h (Ok deed) named stands due is =
      record { place = place; named = named; history = h; stands = stands; deed = deed; due = due; is = cc }
  by_deed place h (Err fault) named stands due is = absurd cc

  by_history : (place : ℕ) (h : Option History) → place_of nodes (node_of s) ≡ Some place → slice_get w.histories place ≡ h
      → happens_at (is_liar_at nodes place) index w s place h ≡ Ok next → Happened nodes index w s next
  by_history place None named stands is = absurd cc
  by_history place (Some h) named stands is = by_deed place h (deed_at (is_liar_at nodes place) h w.lines s) named stands refl is

  by_place : (place : Option ℕ) → place_of nodes (node_of s) ≡ place → happens_to nodes index w s place ≡ Ok next → Happened nodes index w s next
  by_place None named is = absurd cc
  by_place (Some place) named is = by_history place (slice_get w.histories place) named refl is

  pub happened_so : happens nodes index w s ≡ Ok next → Happened nodes index w s next
  happened_so is = by_place (place_of nodes (node_of s)) refl is

-- ---- the lines

-- each of some lines tells of a step from one index on, and below another
abbrev pub AreWithin : ℕ → ℕ → List Line → Type 0
AreWithin from to lines = AllByRecursion (λ line. (from ≤ line.step) × (line.step < to)) lines

within_both : (from to : ℕ) (xs ys : List Line) → AreWithin from to xs → AreWithin from to ys → AreWithin from to (xs ++ ys)
within_both from to [] ys all more = more
within_both from to (x ∷ xs) ys all more = (all.0, within_both from to xs ys all.1 more)

within_wider : (from to wide : ℕ) (xs : List Line) → to ≤ wide → AreWithin from to xs → AreWithin from wide xs
within_wider from to wide [] le all = tt
within_wider from to wide (x ∷ xs) le all =
    let upper = all.0.1 in
    ((all.0.0, omega (arith, le, upper)), within_wider from to wide xs le all.1)

within_more : (from later to : ℕ) (xs : List Line) → from ≤ later → AreWithin later to xs → AreWithin from to xs
within_more from later to [] le all = tt
within_more from later to (x ∷ xs) le all =
    let lower = all.0.0 in
    ((omega (arith, le, lower), all.0.1), within_more from later to xs le all.1)

outputs_within : (index place : ℕ) (outputs : List Output) → AreWithin index (index + 1) (told_lines index place (Ok outputs))
outputs_within index place [] = tt
outputs_within index place (o ∷ outputs) = ((omega arith, omega arith), outputs_within index place outputs)

pub told_within : (index place : ℕ) (given : Result (List Output) NodeError) → AreWithin index (index + 1) (told_lines index place given)
told_within index place (Ok outputs) = outputs_within index place outputs
told_within index place (Err refusal) = ((omega arith, omega arith), tt)

-- those of another step tell nothing of this one
other : (index : ℕ) (line : Line) → line.step ≢ index → (b : Bool) → eqb line.step index ≡ b → b ≡ false
other index line ne true is = absurd (ne (eqb-true line.step index is))
other index line ne false is = refl

pub none_before : (index from : ℕ) (xs : List Line) → AreWithin from index xs → lines_at index xs ≡ []
none_before index from [] all = refl
none_before index from (x ∷ xs) all =
    let below = all.0.1 in
    ap (λ b. cond b (x ∷ lines_at index xs) (lines_at index xs)) (other index x (λ e. omega (arith, e, below)) (eqb x.step index) refl)
    ∙ none_before index from xs all.1

pub none_after : (index to : ℕ) (xs : List Line) → AreWithin (index + 1) to xs → lines_at index xs ≡ []
none_after index to [] all = refl
none_after index to (x ∷ xs) all =
    let above = all.0.0 in
    ap (λ b. cond b (x ∷ lines_at index xs) (lines_at index xs)) (other index x (λ e. omega (arith, e, above)) (eqb x.step index) refl)
    ∙ none_after index to xs all.1

pub all_at : (index : ℕ) (xs : List Line) → AreWithin index (index + 1) xs → lines_at index xs ≡ xs
all_at index [] all = refl
all_at index (x ∷ xs) all =
    let lower = all.0.0 in
    let upper = all.0.1 in
    ap (λ b. cond b (x ∷ lines_at index xs) (lines_at index xs)) (eq-eqb x.step index (omega (arith, lower, upper)))
    ∙ ap (λ ys. x ∷ ys) (all_at index xs all.1)

-- ---- a run, from an index on

-- what a run told after a world: more lines, of its steps
pub record ToldMore (index : ℕ) (w final : World) (count : ℕ) : Type 0 where
  pub more : List Line
  pub is : final.lines ≡ w.lines ++ more
  pub within : AreWithin index (index + count) more

-- a run went through a step: what was before it, and after it
pub record Through (nodes : List SetupNode) (index : ℕ) (first final : World) (steps : List Step) (i : ℕ) (s : Step) : Type 0 where
  pub before : World
  pub next : World
  pub led : run_from nodes index first (take i steps) ≡ Ok before
  pub happened : happens nodes (i + index) before s ≡ Ok next
  pub leads : run_from nodes index first (take (suc i) steps) ≡ Ok next
  pub rest : run_from nodes (i + index + 1) next (drop (suc i) steps) ≡ Ok final

module _ (nodes : List SetupNode) where
  -- the first step of a run
  pub first_step : (index : ℕ) (w final : World) (s : Step) (steps : List Step) → run_from nodes index w (s ∷ steps) ≡ Ok final
      → (next : World) × (happens nodes index w s ≡ Ok next) × (run_from nodes (index + 1) next steps ≡ Ok final)
  first_step index w final s steps is = cases (happens nodes index w s) refl is
    where
      cases : (due : Result World StepFault) → happens nodes index w s ≡ due → then_on index due (λ next. run_from nodes (index + 1) next steps) ≡ Ok final
          → (next : World) × (happens nodes index w s ≡ Ok next) × (run_from nodes (index + 1) next steps ≡ Ok final)
      cases (Ok next) h r = (next, h, r)
      cases (Err fault) h r = absurd cc

  one_more : (index : ℕ) (w next : World) (s : Step) (steps : List Step) (due : Result World RunError) → happens nodes index w s ≡ Ok next
      → run_from nodes (index + 1) next steps ≡ due → run_from nodes index w (s ∷ steps) ≡ due
  one_more index w next s steps due h r = ap (λ d. then_on index d (λ n. run_from nodes (index + 1) n steps)) h ∙ r

  pub told_more : (index : ℕ) (w final : World) (steps : List Step) → run_from nodes index w steps ≡ Ok final → ToldMore index w final (length steps)
  told_more index w final [] is = record { more = []; is = (let e : w ≡ final = cc in ap (λ x. x.lines) (sym e)) ∙ sym (append-nil w.lines); within = tt }
  told_more index w final (s ∷ steps) is =
      let one = first_step index w final s steps is in
      let h = happened_so nodes index w s one.0 one.1 in
      let rest = told_more (index + 1) one.0 final steps one.2 in
      let own : List Line = told_lines index h.place (given_in (done_with h.history h.deed)) in
      record {
        more = own ++ rest.more;
        is = rest.is ∙ ap (λ x. x.lines ++ rest.more) h.is ∙ append_assoc w.lines own rest.more;
        within = within_both index (index + suc (length steps)) own rest.more
            (within_wider index (index + 1) (index + suc (length steps)) own (omega arith) (told_within index h.place (given_in (done_with h.history h.deed))))
            (within_more index (index + 1) (index + suc (length steps)) rest.more (omega arith)
            (within_wider (index + 1) (index + 1 + length steps) (index + suc (length steps)) rest.more (omega arith) rest.within));
      }

  pub went_through : (index : ℕ) (first final : World) (steps : List Step) (i : ℕ) (s : Step) → run_from nodes index first steps ≡ Ok final
      → slice_get steps i ≡ Some s → Through nodes index first final steps i s
  went_through index first final [] i s is here = absurd cc
  went_through index first final (x ∷ steps) zero s is here =
      let one = first_step index first final x steps is in
      let same : x ≡ s = cc in
      let plain : index ≡ 0 + index = omega arith in
      record {
        before = first;
        next = one.0;
        led = refl;
        happened = subst (λ k. happens nodes k first s ≡ Ok one.0) plain (subst (λ y. happens nodes index first y ≡ Ok one.0) same one.1);
        leads = one_more index first one.0 x [] (Ok one.0) one.1 refl;
        rest = subst (λ k. run_from nodes (k + 1) one.0 steps ≡ Ok final) plain one.2;
      }
  went_through index first final (x ∷ steps) (suc i) s is here =
      let one = first_step index first final x steps is in
      let rest = went_through (index + 1) one.0 final steps i s one.2 here in
      let moved : i + (index + 1) ≡ suc i + index = omega arith in
      record {
        before = rest.before;
        next = rest.next;
        led = one_more index first one.0 x (take i steps) (Ok rest.before) one.1 rest.led;
        happened = subst (λ k. happens nodes k rest.before s ≡ Ok rest.next) moved rest.happened;
        leads = one_more index first one.0 x (take (suc i) steps) (Ok rest.next) one.1 rest.leads;
        rest = subst (λ k. run_from nodes (k + 1) rest.next (drop (suc i) steps) ≡ Ok final) moved rest.rest;
      }

-- ---- the whole

-- a trace is the lines of a world to which all steps lead
pub ends_in : (nodes : List SetupNode) (configs : List Config) (steps : List Step) (lines : List Line) → run_of nodes configs steps ≡ Ok lines
    → (final : World) × LeadTo nodes configs steps final × (final.lines ≡ lines)
ends_in nodes configs steps lines is = cases (run_from nodes 1 (world_of nodes configs) steps) refl is
  where
    cases : (due : Result World RunError) → run_from nodes 1 (world_of nodes configs) steps ≡ due → run_lines due ≡ Ok lines
        → (final : World) × LeadTo nodes configs steps final × (final.lines ≡ lines)
    cases (Ok w) e t = (w, e, cc)
    cases (Err error) e t = absurd cc

module _ (nodes : List SetupNode) (configs : List Config) (steps : List Step) (lines : List Line) (i : ℕ) (s : Step) where
  -- the lines of a step in those of the whole
  own_lines : (own before more : List Line) (to : ℕ) → lines ≡ (before ++ own) ++ more → AreWithin 1 (i + 1) before → AreWithin (i + 1) (i + 1 + 1) own
      → AreWithin (i + 1 + 1) to more → lines_at (i + 1) lines ≡ own
  own_lines own before more to is early now late =
      ap (lines_at (i + 1)) is ∙ filter-append (λ line. eqb line.step (i + 1)) (before ++ own) more
      ∙ ap (λ ls. lines_at (i + 1) (before ++ own) ++ ls) (none_after (i + 1) to more late) ∙ append-nil (lines_at (i + 1) (before ++ own))
      ∙ filter-append (λ line. eqb line.step (i + 1)) before own ∙ ap (λ ls. ls ++ lines_at (i + 1) own) (none_before (i + 1) 1 before early)
      ∙ all_at (i + 1) own now

  pub turn_in : (final : World) → LeadTo nodes configs steps final → slice_get steps i ≡ Some s → Turn nodes configs steps i s
  turn_in final is here =
      let way = went_through nodes 1 (world_of nodes configs) final steps i s is here in
      let h = happened_so nodes (i + 1) way.before s way.next way.happened in
      let counted : suc i ≡ i + 1 = omega arith in
      record {
        here = here;
        before = way.before;
        led = way.led;
        place = h.place;
        named = h.named;
        history = h.history;
        stands = h.stands;
        deed = h.deed;
        due = h.due;
        leads = subst (λ k. LeadTo nodes configs (take k steps) (world_after (i + 1) h.place way.before h.history (done_with h.history h.deed))) counted
            (way.leads ∙ ap Ok h.is);
      }

  -- its lines are those of the node
  turn_told : (final : World) → LeadTo nodes configs steps final → final.lines ≡ lines → (t : Turn nodes configs steps i s)
      → lines_at (i + 1) lines ≡ told_lines (i + 1) t.place (given_in (done_with t.history t.deed))
  turn_told final is ends t =
      let next : World = world_after (i + 1) t.place t.before t.history (done_with t.history t.deed) in
      let way = went_through nodes 1 (world_of nodes configs) final steps i s is t.here in
      let counted : suc i ≡ i + 1 = omega arith in
      let same : next ≡ way.next = let leads = subst (λ k. LeadTo nodes configs (take k steps) way.next) counted way.leads in let other = t.leads in cc in
      let early = told_more nodes 1 (world_of nodes configs) t.before (take i steps) t.led in
      let late = told_more nodes (i + 1 + 1) way.next final (drop (suc i) steps) way.rest in
      let own : List Line = told_lines (i + 1) t.place (given_in (done_with t.history t.deed)) in
      own_lines own t.before.lines late.more (i + 1 + 1 + length (drop (suc i) steps))
      (sym ends ∙ late.is ∙ ap (λ x. x.lines ++ late.more) (sym same))
      (within_wider 1 (1 + length (take i steps)) (i + 1) t.before.lines (omega (arith, length-take i steps))
      (subst (AreWithin 1 (1 + length (take i steps))) (sym early.is) early.within))
      (told_within (i + 1) t.place (given_in (done_with t.history t.deed)))
      late.within

  -- what was told before it stands at their front
  front_of : (final : World) → LeadTo nodes configs steps final → final.lines ≡ lines → (t : Turn nodes configs steps i s) → (more : List Line) × (lines ≡ t.before.lines ++ more)
  front_of final is ends t =
      let next : World = world_after (i + 1) t.place t.before t.history (done_with t.history t.deed) in
      let way = went_through nodes 1 (world_of nodes configs) final steps i s is t.here in
      let counted : suc i ≡ i + 1 = omega arith in
      let same : next ≡ way.next = let leads = subst (λ k. LeadTo nodes configs (take k steps) way.next) counted way.leads in let other = t.leads in cc in
      let late = told_more nodes (i + 1 + 1) way.next final (drop (suc i) steps) way.rest in
      let own : List Line = told_lines (i + 1) t.place (given_in (done_with t.history t.deed)) in
      (own ++ late.more, sym ends ∙ late.is ∙ ap (λ x. x.lines ++ late.more) (sym same) ∙ append_assoc t.before.lines own late.more)

  pub told_in_front : run_of nodes configs steps ≡ Ok lines → (t : Turn nodes configs steps i s) → (more : List Line) × (lines ≡ t.before.lines ++ more)
  told_in_front is t = let end = ends_in nodes configs steps lines is in front_of end.0 end.1 end.2 t

  pub told_turn : run_of nodes configs steps ≡ Ok lines → slice_get steps i ≡ Some s → ToldTurn nodes configs steps lines i s
  told_turn is here =
      let end = ends_in nodes configs steps lines is in
      let t = turn_in end.0 end.1 here in
      record { turn = t; told = turn_told end.0 end.1 end.2 t }

-- ---- inputs that are taken

pub if_not_long : (config : Config) (payload : List ℕ) (input : Input) (deed : Deed) → unless_long config payload input ≡ Ok deed → deed ≡ Takes input
if_not_long config payload input deed due = cases (nat_lt config.common.message_limit (length payload)) due
  where
    cases : (long : Bool) → (if long then Err PayloadTooLong else Ok (Takes input)) ≡ Ok deed → deed ≡ Takes input
    cases true due = absurd cc
    cases false due = cc

module _ (nodes : List SetupNode) (configs : List Config) (steps : List Step) (lines : List Line) (i : ℕ) (s : Step) (input : Input) (Gives : History → Work History → Type 0) where
  -- a step at which a node takes an input: it refuses, or what it gives is as it should
  pub takes_it : (m : ToldTurn nodes configs steps lines i s) → m.turn.deed ≡ Takes input → ((h : History) (done : Work History) → step h input ≡ Ok done → Gives h done)
      → TakesIt nodes configs steps lines i s input Gives
  takes_it m is gives = record { turn = m.turn; takes = is; outcome = cases (step m.turn.history input) refl }
    where
      told : (due : Result (Work History) NodeError) → step m.turn.history input ≡ due → lines_at (i + 1) lines ≡ told_lines (i + 1) m.turn.place (given_in due)
      told due e =
          m.told ∙ ap (λ d. told_lines (i + 1) m.turn.place (given_in (done_with m.turn.history d))) is ∙ ap (λ d. told_lines (i + 1) m.turn.place (given_in d)) e

      cases : (due : Result (Work History) NodeError) → step m.turn.history input ≡ due
          → ((refusal : NodeError) × (step m.turn.history input ≡ Err refusal) × (lines_at (i + 1) lines ≡ told_lines (i + 1) m.turn.place (Err refusal)))
          ⊎ ((done : Work History) × (step m.turn.history input ≡ Ok done) × (lines_at (i + 1) lines ≡ told_lines (i + 1) m.turn.place (Ok done.outputs))
          × Gives m.turn.history done)
      cases (Ok done) e = inr (done, e, told (Ok done) e, gives m.turn.history done e)
      cases (Err refusal) e = inl (refusal, e, told (Err refusal) e)

module _ (nodes : List SetupNode) (configs : List Config) (steps : List Step) (lines : List Line) (i : ℕ) (node : List ℕ) (instance : InstanceId) (event : ℕ) (payload : List ℕ) where
  pub published : run_of nodes configs steps ≡ Ok lines → slice_get steps i ≡ Some (Publish node instance event payload)
      → TakesIt nodes configs steps lines i (Publish node instance event payload) (inputs.Publish instance event payload) (λ h done. IsPublished h instance event payload done)
  published is here =
      let m = told_turn nodes configs steps lines i (Publish node instance event payload) is here in
      takes_it nodes configs steps lines i (Publish node instance event payload) (inputs.Publish instance event payload) (λ h done. IsPublished h instance event payload done) m
      (if_not_long m.turn.history.config payload (inputs.Publish instance event payload) m.turn.deed
      (by_node m.turn.history m.turn.before.lines (Publish node instance event payload) (is_liar_at nodes m.turn.place) m.turn.deed refl m.turn.due))
      (λ h done e. is_published h instance event payload done e)

module _ (nodes : List SetupNode) (configs : List Config) (steps : List Step) (lines : List Line) (i : ℕ) (node : List ℕ) (group : Eventgroup) (to : SocketAddrV4) (event : ℕ) (payload : List ℕ) where
  pub published_to : run_of nodes configs steps ≡ Ok lines → slice_get steps i ≡ Some (PublishTo node group to event payload)
      → TakesIt nodes configs steps lines i (PublishTo node group to event payload) (inputs.PublishTo group.instance group.id to event payload)
      (λ h done. IsPublishedTo h group.instance group.id to event payload done)
  published_to is here =
      let m = told_turn nodes configs steps lines i (PublishTo node group to event payload) is here in
      takes_it nodes configs steps lines i (PublishTo node group to event payload) (inputs.PublishTo group.instance group.id to event payload)
      (λ h done. IsPublishedTo h group.instance group.id to event payload done) m
      (if_not_long m.turn.history.config payload (inputs.PublishTo group.instance group.id to event payload) m.turn.deed
      (by_node m.turn.history m.turn.before.lines (PublishTo node group to event payload) (is_liar_at nodes m.turn.place) m.turn.deed refl m.turn.due))
      (λ h done e. is_published_to h group.instance group.id to event payload done e)

-- ---- a trace in hand

pub of_run : (nodes : List SetupNode) (ss : List Step) (lines : List Line) → ComesTo nodes ss (Ok lines) → IsOfRun nodes ss lines
of_run nodes ss lines comes = cases (run_from nodes 1 (world_of nodes comes.0) ss) refl comes.2
  where
    cases : (due : Result World RunError) → run_from nodes 1 (world_of nodes comes.0) ss ≡ due → run_lines due ≡ Ok lines → IsOfRun nodes ss lines
    cases (Ok w) led is =
        let same : w.lines ≡ lines = cc in
        record { configs = comes.0; copies = comes.1; comes = comes.2; world = w; led = led; told = same }
    cases (Err error) led is = absurd cc
