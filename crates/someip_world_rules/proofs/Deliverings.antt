-- A datagram that a node takes was delivered: the step names it by its number.
use Rattle.std.proofs.Common.{◌≡◌, ℕ, zero, suc, ◌+◌, Bool, true, false, if◌then◌else◌, List, [], ◌∷◌, arith, take, slice_get, Option, None, Some, Ok, Err, refl, sym, ap, ◌∙◌}
use Rattle.std.specs.List.{cons_option}
use Rattle.std.specs.Option.{option_map}
use Rattle.someip_node_rules.specs.rules.Inputs as inputs
use Rattle.someip_node_rules.specs.rules.Inputs.{Input}
use Rattle.someip_node_rules.specs.declared.config.Config.{Config}
use Rattle.someip_world_schedule.specs.declared.step.Step.{Step}
use Rattle.someip_world_schedule.specs.declared.step.Step.TheVariants as steps
use Rattle.someip_world_schedule.specs.StepNodes.{node_of}
use Rattle.someip_world_setup.specs.declared.setup_node.SetupNode.{SetupNode}
use Rattle.someip_world_rules.specs.declared.line.Line.{Line}
use Rattle.someip_world_rules.specs.declared.step_fault.StepFault.{StepFault}
use Rattle.someip_world_rules.specs.declared.step_fault.StepFault.TheVariants.{BadDelay, ClockPast, NotAddressed, PayloadTooLong}
use Rattle.someip_world_rules.specs.Datagrams.{SentDatagram, datagram_at, datagram_in, datagrams_in}
use Rattle.someip_world_rules.specs.Deeds.{Takes, Restarts, deed_at, deed_of, delivery, is_addressed}
use Rattle.someip_world_rules.specs.Liars.{is_liar_at}
use Rattle.someip_world_rules.proofs.LiarLemmas.{taken_at}
use Rattle.someip_world_rules.specs.Runs.{place_of}
use Rattle.someip_world_rules.specs.Turns.{Turn}
use Rattle.someip_world_rules.specs.Origins.{WasSent}
use Rattle.someip_world_rules.specs.Deliveries.{Delivers, Dispatch, dispatch_at, dispatches_in}
use Rattle.someip_world_rules.proofs.Fronts.{one_world, within}
use Rattle.someip_world_rules.proofs.Sendings.{all_sent, one_sent}

-- ---- a step at which a node takes a datagram

if_taken : (b : Bool) (input other : Input) (fault : StepFault) → (if b then Err fault else Ok (Takes input)) ≡ Ok (Takes other) → input ≡ other
if_taken true input other fault is = absurd cc
if_taken false input other fault is = cc

if_restarted : (b : Bool) (delay : ℕ) (other : Input) (fault : StepFault) → (if b then Ok (Restarts delay) else Err fault) ≡ Ok (Takes other) → ⊥
if_restarted true delay other fault is = absurd cc
if_restarted false delay other fault is = absurd cc

-- the datagrams with their steps are the datagrams
told_so : (lines : List Line) (n : ℕ) (d : SentDatagram) → slice_get (datagrams_in lines) n ≡ Some d → (step : ℕ) × (slice_get (dispatches_in lines) n ≡ Some (record { step = step; datagram = d }))
told_so [] n d is = absurd cc
told_so (line ∷ lines) n d is = cases n (datagram_in line) (λ k. told_so lines k d) is
  where
    cases : (n : ℕ) (o : Option SentDatagram) → ((k : ℕ) → slice_get (datagrams_in lines) k ≡ Some d → (step : ℕ) × (slice_get (dispatches_in lines) k ≡ Some (record { step = step; datagram = d }))) → slice_get (cons_option o (datagrams_in lines)) n ≡ Some d
        → (step : ℕ) × (slice_get (cons_option (option_map (λ x. record { step = line.step; datagram = x }) o) (dispatches_in lines)) n ≡ Some (record { step = step; datagram = d }))
    cases n None rest is = rest n is
    cases zero (Some x) rest is =
        let same : x ≡ d = cc in (line.step, ap (λ y. Some (record { step = line.step; datagram = y })) same)
    cases (suc n) (Some x) rest is = rest n is

told_as : (lines : List Line) (number : ℕ) (d : SentDatagram) → datagram_at lines number ≡ Some d → (step : ℕ) × (dispatch_at lines number ≡ Some (record { step = step; datagram = d }))
told_as lines zero d is = absurd cc
told_as lines (suc n) d is = told_so lines n d is

module _ (nodes : List SetupNode) (configs : List Config) (ss : List Step) (n : ℕ) (d : SentDatagram) where
  abbrev Came : Input
  Came = inputs.Datagram d.from d.to d.bytes

  -- the delivery of a turn
  pub record DeliveredIn (s : Step) (t : Turn nodes configs ss n s) : Type 0 where
    pub sent : ℕ
    pub delivers : Delivers nodes configs ss n sent d
    pub place : delivers.turn.place ≡ t.place
    pub history : delivers.turn.history ≡ t.history
    pub addressed : is_addressed t.history.config d ≡ true

  if_addressed : (x : SentDatagram) (b : Bool) → (if b then Ok (Takes (inputs.Datagram x.from x.to x.bytes)) else Err NotAddressed) ≡ Ok (Takes Came) → (b ≡ true) × (x ≡ d)
  if_addressed x true is =
      let from : x.from ≡ d.from = cc in
      let to : x.to ≡ d.to = cc in
      let bytes : x.bytes ≡ d.bytes = cc in
      (refl, λ i. record { from = from i; to = to i; bytes = bytes i })
  if_addressed x false is = absurd cc

  by_datagram : (number : ℕ) (node : List ℕ) (t : Turn nodes configs ss n (steps.Deliver number node)) (o : Option SentDatagram) → datagram_at t.before.lines number ≡ o
      → delivery t.history.config o ≡ Ok (Takes Came) → DeliveredIn (steps.Deliver number node) t
  by_datagram number node t None at is = absurd cc
  by_datagram number node t (Some x) at is =
      let both = if_addressed x (is_addressed t.history.config x) is in
      let same = both.1 in
      let there = told_as t.before.lines number d (at ∙ ap Some same) in
      let inside = within ss n _ t.here in
      let was = one_sent nodes configs ss (WasSent nodes configs ss n) t.before.lines number (record { step = there.0; datagram = d })
      (all_sent nodes configs ss n t.before (omega (arith, inside)) t.led) there.1 in
      record {
        sent = was.i;
        delivers = record { number = number; node = node; turn = t; numbered = there.1 ∙ ap (λ k. Some (record { step = k; datagram = d })) was.index };
        place = refl;
        history = refl;
        addressed = ap (is_addressed t.history.config) (sym same) ∙ both.0;
      }

  -- what the step says that the node takes
  due : (s : Step) (t : Turn nodes configs ss n s) → t.deed ≡ Takes Came → deed_of t.history t.before.lines s ≡ Ok (Takes Came)
  due s t is = (taken_at nodes configs ss n s t Came is).1

  pub delivered_in : (s : Step) (t : Turn nodes configs ss n s) → t.deed ≡ Takes Came → DeliveredIn s t
  delivered_in (steps.Deliver number node) t is = by_datagram number node t (datagram_at t.before.lines number) refl (due (steps.Deliver number node) t is)
  delivered_in (steps.Tick node ms) t is = let e = if_taken _ (inputs.Tick ms) Came ClockPast (due (steps.Tick node ms) t is) in absurd cc
  delivered_in (steps.Call node kind instance method payload) t is = let e = if_taken _ (inputs.Call kind instance method payload) Came PayloadTooLong (due (steps.Call node kind instance method payload) t is) in absurd cc
  delivered_in (steps.Answer node token reply payload) t is = let e = if_taken _ (inputs.Answer token reply payload) Came PayloadTooLong (due (steps.Answer node token reply payload) t is) in absurd cc
  delivered_in (steps.Publish node instance event payload) t is = let e = if_taken _ (inputs.Publish instance event payload) Came PayloadTooLong (due (steps.Publish node instance event payload) t is) in absurd cc
  delivered_in (steps.PublishTo node group to event payload) t is =
      let e = if_taken _ (inputs.PublishTo group.instance group.id to event payload) Came PayloadTooLong (due (steps.PublishTo node group to event payload) t is) in absurd cc
  delivered_in (steps.Subscribe node group) t is = let e = due (steps.Subscribe node group) t is in absurd cc
  delivered_in (steps.Unsubscribe node group) t is = let e = due (steps.Unsubscribe node group) t is in absurd cc
  delivered_in (steps.StopOffer node instance) t is = let e = due (steps.StopOffer node instance) t is in absurd cc
  delivered_in (steps.Restart node delay) t is = absurd (if_restarted _ delay Came BadDelay (due (steps.Restart node delay) t is))
  delivered_in (steps.Inject node port to payload) t is = let e = due (steps.Inject node port to payload) t is in absurd cc

-- ---- there is one turn at a place of the schedule

module _ (nodes : List SetupNode) (configs : List Config) (ss : List Step) (n : ℕ) where
  pub record AreOne (s : Step) (t : Turn nodes configs ss n s) (r : Step) (u : Turn nodes configs ss n r) : Type 0 where
    pub step : s ≡ r
    pub before : t.before ≡ u.before
    pub place : t.place ≡ u.place
    pub history : t.history ≡ u.history
    pub deed : t.deed ≡ u.deed

  pub one_turn : (s : Step) (t : Turn nodes configs ss n s) (r : Step) (u : Turn nodes configs ss n r) → AreOne s t r u
  one_turn s t r u =
      let here = t.here in
      let there = u.here in
      let step : s ≡ r = cc in
      let before : t.before ≡ u.before = one_world nodes configs ss (take n ss) t.before u.before t.led u.led in
      let named = t.named in
      let other = u.named in
      let node : node_of s ≡ node_of r = ap node_of step in
      let places : Some t.place ≡ Some u.place = sym named ∙ ap (place_of nodes) node ∙ other in
      let place : t.place ≡ u.place = cc in
      let histories : Some t.history ≡ Some u.history = sym t.stands ∙ (λ i. slice_get (before i).histories (place i)) ∙ u.stands in
      let history : t.history ≡ u.history = cc in
      let deeds : Ok t.deed ≡ Ok u.deed = sym t.due ∙ (λ i. deed_at (is_liar_at nodes (place i)) (history i) (before i).lines (step i)) ∙ u.due in
      let deed : t.deed ≡ u.deed = cc in
      record { step = step; before = before; place = place; history = history; deed = deed }

-- ---- and one delivery

-- what a step sent, as the lines tell it
abbrev dispatch : ℕ → SentDatagram → Dispatch
dispatch sent d = record { step = sent + 1; datagram = d }

same_one : (a b : Dispatch) → Some a ≡ Some b → a ≡ b
same_one a b is = cc

-- one dispatch was sent by one step, and is one datagram
same_dispatch : (sent other : ℕ) (d e : SentDatagram) → Some (dispatch sent d) ≡ Some (dispatch other e) → (sent ≡ other) × (d ≡ e)
same_dispatch sent other d e is =
    let one = same_one (dispatch sent d) (dispatch other e) is in
    let index : sent + 1 ≡ other + 1 = ap (λ (x : Dispatch). x.step) one in
    (omega (arith, index), ap (λ (x : Dispatch). x.datagram) one)

module _ (nodes : List SetupNode) (configs : List Config) (ss : List Step) (n : ℕ) where
  -- the deliveries of a step are one
  pub one_delivery : (sent other : ℕ) (d e : SentDatagram) → Delivers nodes configs ss n sent d → Delivers nodes configs ss n other e → (sent ≡ other) × (d ≡ e)
  one_delivery sent other d e del del2 =
      let one = one_turn nodes configs ss n _ del.turn _ del2.turn in
      let step : steps.Deliver del.number del.node ≡ steps.Deliver del2.number del2.node = one.step in
      let number : del.number ≡ del2.number = cc in
      same_dispatch sent other d e (sym del.numbered ∙ (λ i. dispatch_at (one.before i).lines (number i)) ∙ del2.numbered)
