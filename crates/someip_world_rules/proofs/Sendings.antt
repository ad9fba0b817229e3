-- Each datagram was sent by the step whose lines tell of it.
use Rattle.std.proofs.Common.{◌≡◌, inl, inr, ℕ, zero, suc, ◌+◌, ◌<◌, ◌≤◌, List, [], ◌∷◌, length, arith, take, Option, None, Some, Result, Ok, Err, refl, sym, ap, subst}
use Rattle.std.specs.List.{AllByRecursion, Contains, cons_option}
use Rattle.std.specs.Option.{option_map}
use Rattle.std.proofs.lemmas.List.Elements.{filter_map-append}
use Rattle.someip_node_rules.specs.rules.Inputs.{Input}
use Rattle.someip_node_rules.specs.trails.Meanings.{GivenBy}
use Rattle.someip_node_rules.specs.forms.Outputs.{written}
use Rattle.someip_node_rules.specs.rules.Plans.{Work}
use Rattle.someip_node_rules.specs.histories.History.{History}
use Rattle.someip_node_rules.specs.steps.Steps.{step, given_in}
use Rattle.someip_node_rules.specs.trails.Trails.{given_by, trail_of}
use Rattle.someip_node_rules.specs.declared.config.Config.{Config}
use Rattle.someip_node_rules.specs.declared.error.NodeError.{NodeError}
use Rattle.someip_node_rules.specs.declared.output.Output.{Output}
use Rattle.someip_node_rules.specs.declared.output.Output.TheVariants.{Sent}
use Rattle.someip_node_rules.proofs.trails.MeaningLemmas.{all_given, outputs_written}
use Rattle.someip_node_rules.proofs.lists.MemberLemmas.{all_append, all_both, all_flat_map, all_from_members, all_members, all_weaker}
use Rattle.someip_world_schedule.specs.declared.step.Step.{Step}
use Rattle.someip_world_setup.specs.declared.setup_node.SetupNode.{SetupNode}
use Rattle.someip_world_rules.specs.Datagrams.{SentDatagram, sent_with}
use Rattle.someip_world_rules.specs.Deeds.{Deed, Takes, Restarts, Injects, done_with}
use Rattle.someip_world_rules.specs.Runs.{World, told_lines, world_after}
use Rattle.someip_world_rules.specs.Turns.{LeadTo, Turn}
use Rattle.someip_world_rules.specs.declared.line.Line.{Line}
use Rattle.someip_world_rules.specs.Origins.{WasSent}
use Rattle.someip_world_rules.specs.Deliveries.{Dispatch, GoesOut, Delivers, dispatch_in, dispatch_at, dispatches_in}
use Rattle.someip_world_rules.proofs.Fronts.{all_got, on_the_way, within}

-- the output that sends a datagram
pub sends : (o : Output) (d : SentDatagram) → sent_with o ≡ Some d → o ≡ Sent d.from d.to d.bytes
sends (Sent from to bytes) d is = let e : d ≡ record { from = from; to = to; bytes = bytes } = cc in ap (λ x. Sent x.from x.to x.bytes) (sym e)
sends o d is = absurd cc

module _ (P : Dispatch → Type 0) where
  dispatches_of_outputs : (index place : ℕ) (outputs : List Output) → AllByRecursion (λ o. (d : SentDatagram) → sent_with o ≡ Some d → P (record { step = index; datagram = d })) outputs
      → AllByRecursion P (dispatches_in (told_lines index place (Ok outputs)))
  dispatches_of_outputs index place [] all = tt
  dispatches_of_outputs index place (o ∷ outputs) all = cases (sent_with o) refl (dispatches_of_outputs index place outputs all.1)
    where
      rest : List Dispatch
      rest = dispatches_in (told_lines index place (Ok outputs))

      cases : (d : Option SentDatagram) → sent_with o ≡ d → AllByRecursion P rest → AllByRecursion P (cons_option (option_map (λ x. record { step = index; datagram = x }) d) rest)
      cases None is more = more
      cases (Some d) is more = (all.0 d is, more)

module _ (nodes : List SetupNode) (configs : List Config) (steps : List Step) where
  abbrev Known : ℕ → World → Type 0
  Known n w = AllByRecursion (WasSent nodes configs steps n) (dispatches_in w.lines)

  longer : (n m : ℕ) → n ≤ m → (t : Dispatch) → WasSent nodes configs steps n t → WasSent nodes configs steps m t
  longer n m le t was = let less = was.before in record { i = was.i; before = omega (arith, le, less); index = was.index; goes = was.goes }

  module _ (i : ℕ) (s : Step) (t : Turn nodes configs steps i s) where
    here : (input : Input) → t.deed ≡ Takes input → (due : Result (Work History) NodeError) → step t.history input ≡ due
        → AllByRecursion (WasSent nodes configs steps (suc i)) (dispatches_in (told_lines (i + 1) t.place (given_in due)))
    here input is (Err refusal) e = tt
    here input is (Ok done) e =
        dispatches_of_outputs (WasSent nodes configs steps (suc i)) (i + 1) t.place done.outputs
        (subst (AllByRecursion IsOne) (sym (outputs_written t.history input done e))
        (all_flat_map IsOne written (given_by (trail_of t.history input))
        (all_both (GivenBy t.history input) (Contains (given_by (trail_of t.history input))) (λ g. AllByRecursion IsOne (written g))
        (λ g by told. all_from_members IsOne (written g) (λ o among d sent. record {
          i = i;
          before = omega arith;
          index = refl;
          goes = inl (record {
            does = record { step = s; turn = t; input = input; takes = is; done = done; happened = e };
            given = g;
            told = told;
            by = by;
            among = subst (Contains (written g)) (sends o d sent) among;
          });
        })) (given_by (trail_of t.history input)) (all_given t.history input) (all_members (given_by (trail_of t.history input))))))
      where
        IsOne : Output → Type 0
        IsOne o = (d : SentDatagram) → sent_with o ≡ Some d → WasSent nodes configs steps (suc i) (record { step = i + 1; datagram = d })

    by_deed : (deed : Deed) → t.deed ≡ deed → AllByRecursion (WasSent nodes configs steps (suc i)) (dispatches_in (told_lines (i + 1) t.place (given_in (done_with t.history deed))))
    by_deed (Takes input) is = here input is (step t.history input) refl
    by_deed (Restarts delay) is = tt
    by_deed (Injects from to bytes) is = (record { i = i; before = omega arith; index = refl; goes = inr (record { step = s; turn = t; injects = is }) }, tt)

    after : Known i t.before → Known (suc i) (world_after (i + 1) t.place t.before t.history (done_with t.history t.deed))
    after all =
        subst (AllByRecursion (WasSent nodes configs steps (suc i))) (sym (filter_map-append dispatch_in t.before.lines (told_lines (i + 1) t.place (given_in (done_with t.history t.deed)))))
        (all_append (WasSent nodes configs steps (suc i)) (dispatches_in t.before.lines) (dispatches_in (told_lines (i + 1) t.place (given_in (done_with t.history t.deed))))
        (all_weaker (WasSent nodes configs steps i) (WasSent nodes configs steps (suc i)) (longer i (suc i) (omega arith)) (dispatches_in t.before.lines) all)
        (by_deed t.deed refl))

  pub all_sent : (n : ℕ) (w : World) → n ≤ length steps → LeadTo nodes configs (take n steps) w → Known n w
  all_sent = on_the_way nodes configs steps Known tt after

  pub one_sent : (P : Dispatch → Type 0) (lines : List Line) (number : ℕ) (t : Dispatch) → AllByRecursion P (dispatches_in lines) → dispatch_at lines number ≡ Some t → P t
  one_sent P lines zero t all is = absurd cc
  one_sent P lines (suc n) t all is = all_got P (dispatches_in lines) n t all is

  -- what a step delivers was sent by the step that it says, an earlier one
  pub sent_before : (n sent : ℕ) (d : SentDatagram) → Delivers nodes configs steps n sent d → (sent < n) × GoesOut nodes configs steps sent d
  sent_before n sent d del =
      let t = del.turn in
      let inside = within steps n _ t.here in
      let was = one_sent (WasSent nodes configs steps n) t.before.lines del.number (record { step = sent + 1; datagram = d }) (all_sent n t.before (omega (arith, inside)) t.led) del.numbered in
      let index = was.index in
      let less = was.before in
      let same : was.i ≡ sent = omega (arith, index) in
      (omega (arith, same, less), subst (λ k. GoesOut nodes configs steps k d) same was.goes)
