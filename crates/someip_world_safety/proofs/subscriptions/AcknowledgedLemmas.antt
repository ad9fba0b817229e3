-- Where a client tells that it is subscribed, by an Ack that came from no liar, the subscription is safe.
use Rattle.std.proofs.Common.{◌≡◌, ℕ, suc, ◌<◌, ◌≤◌, Bool, true, false, if◌then◌else◌, ltb, List, Option, None, Some, arith, refl, sym, ap, subst, ◌∙◌}
use Rattle.std.specs.List.{Contains}
use Rattle.std.proofs.lemmas.Bool.{ltb-false, ltb-true}
use Rattle.std.specs.Net.Socket.{v4_ip}
use Rattle.std.specs.declared.net.ipv4_addr.Ipv4Addr.{Ipv4Addr}
use Rattle.sd_wire.specs.declared.entry.EventgroupEntry.{EventgroupEntry}
use Rattle.sd_core.specs.declared.eventgroup.Eventgroup.{Eventgroup}
use Rattle.sd_core.specs.declared.wish.Acked.TheVariants as acked_as
use Rattle.sd_core.specs.declared.wish.Beginning.{Beginning}
use Rattle.sd_core.specs.declared.wish.Stage.TheVariants.{Begun}
use Rattle.sd_core.specs.declared.wish.SubscribeAnswer.{SubscribeAnswer}
use Rattle.sd_core.specs.Wishes.{is_subscribed, told_by_ack}
use Rattle.someip_node_rules.specs.declared.config.Config.{Config}
use Rattle.someip_node_rules.specs.declared.output.Output.TheVariants.{Subscribed}
use Rattle.someip_node_rules.specs.trails.Bringing.{Brings}
use Rattle.someip_node_rules.specs.histories.History.{History, answers_of}
use Rattle.someip_node_rules.specs.rules.Inputs.{Datagram}
use Rattle.someip_node_rules.specs.rules.Learning.{answer_in, eventgroup_in}
use Rattle.someip_node_rules.specs.trails.Meanings.{GivenBy}
use Rattle.someip_node_rules.specs.forms.Outputs.{Tells}
use Rattle.someip_node_rules.specs.trails.Packets.{Packet}
use Rattle.someip_node_rules.specs.rules.Plans.{TakesAck}
use Rattle.someip_node_rules.specs.histories.Questions.{clock_at}
use Rattle.someip_node_rules.specs.trails.Trails.{Done, given_by, trail_of}
use Rattle.someip_node_rules.specs.histories.WishQuestions.{course_at, is_answered_by, is_wished_at, stage_of, wish_at}
use Rattle.someip_node_rules.proofs.trails.MeaningLemmas.{all_given, outputs_written, told_from_output}
use Rattle.someip_node_rules.proofs.lists.MemberLemmas.{at_member}
use Rattle.someip_node_rules.proofs.histories.WishLives.{get-wish}
use Rattle.someip_world_schedule.specs.declared.step.Step.{Step}
use Rattle.someip_world_setup.specs.declared.setup_node.SetupNode.{SetupNode}
use Rattle.someip_world_rules.specs.Deliveries.{Does}
use Rattle.someip_world_rules.specs.Liars.{IsFromLiar, IsHonest}
use Rattle.someip_world_rules.proofs.Fronts.{within}
use Rattle.someip_world_rules.proofs.OriginLemmas.{turn_configured}
use Rattle.someip_world_rules.specs.exchanges.CleanReuse.{IsCleanBefore, Old}
use Rattle.someip_world_rules.specs.exchanges.Namings.{of_subscription}
use Rattle.someip_world_rules.specs.exchanges.Openings.{Opened}
use Rattle.someip_world_rules.specs.declared.exchanges.exchange_key.ExchangeKey.{ExchangeKey}
use Rattle.someip_world_safety.specs.Addresses.{HaveOwnAddresses}
use Rattle.someip_world_safety.specs.Safety.{HonestAcknowledgedAreSafe}
use Rattle.someip_world_safety.specs.Subscriptions.{IsSafeSubscription, IsSafelyAcknowledged}
use Rattle.someip_world_safety.proofs.subscriptions.EntryInputs.{ack_came}
use Rattle.someip_world_safety.proofs.subscriptions.RuleItems.{answered_parts, opens_more}
use Rattle.someip_world_safety.proofs.subscriptions.StandingLemmas.{all_begun, clean_before}
use Rattle.someip_world_safety.proofs.subscriptions.StepStandings.{AckSays, AcksBeginNone, AcksSay, Before, InStep, IsBegun, Now, before_rule}

-- ---- the subscription that an Ack answers

module _ (now : ℕ) (answer : SubscribeAnswer) where
  -- one stands, and has the peer and the counter of the answer
  abbrev Answers : Option Beginning → Type 0
  Answers o = (b : Beginning) × (o ≡ Some b) × (b.peer ≡ answer.peer) × (b.counter ≡ answer.counter)

  by_begun : (b : Beginning) (k : Bool) → is_answered_by now answer b ≡ k
      → (if k then (if is_subscribed now (Begun b) then acked_as.Renewed else acked_as.Subscribed) else acked_as.NotPending) ≡ acked_as.Subscribed → Answers (Some b)
  by_begun b true is told = let parts = answered_parts now answer b is in (b, refl, parts.0, parts.1)
  by_begun b false is told = absurd cc

  by_stage : (wished : Bool) (o : Option Beginning) → told_by_ack now answer (stage_of wished o) ≡ acked_as.Subscribed → Answers o
  by_stage false o told = absurd cc
  by_stage true None told = absurd cc
  by_stage true (Some b) told = by_begun b (is_answered_by now answer b) refl told

-- at a history whose client tells, by an Ack, that it is subscribed
pub answered_course : (at : History) (peer : Ipv4Addr) (head : EventgroupEntry) (q : Eventgroup)
    → told_by_ack (clock_at at.items) (answer_in peer head (answers_of at)) (wish_at at.items q).stage ≡ acked_as.Subscribed
    → (b : Beginning) × ((course_at at.items q).beginning ≡ Some b) × (b.peer ≡ peer) × (b.counter ≡ head.counter)
answered_course at peer head q told = by_stage (clock_at at.items) (answer_in peer head (answers_of at)) (is_wished_at at.items q) (course_at at.items q).beginning told

-- ---- in a step

module _ (nodes : List SetupNode) (configs : List Config) (ss : List Step) (own : HaveOwnAddresses configs) (acks : AcksSay nodes configs ss) (alone : AcksBeginNone nodes configs ss)
    (n : ℕ) (clean : IsCleanBefore nodes configs ss (suc n)) (does : Does nodes configs ss n) where
  abbrev h : History
  h = does.turn.history

  abbrev address : Ipv4Addr
  address = does.turn.history.config.address

  -- the rule that told it, and the Ack that it took
  pub record TellingAck (q : Eventgroup) (counter : ℕ) : Type 0 where
    pub done : Done
    pub among : Contains (trail_of h does.input) done
    pub peer : Ipv4Addr
    pub head : EventgroupEntry
    pub by : done.by ≡ TakesAck peer head
    pub named : q ≡ eventgroup_in head
    pub counted : counter ≡ head.counter
    pub told : told_by_ack (clock_at done.before.state.items) (answer_in peer head (answers_of done.before.state)) (wish_at done.before.state.items q).stage ≡ acked_as.Subscribed
    pub packet : Packet
    pub came : does.input ≡ Datagram packet.from packet.to packet.bytes
    pub source : peer ≡ v4_ip packet.from

  telling_ack : (q : Eventgroup) (counter : ℕ) → Contains does.done.outputs (Subscribed q counter) → TellingAck q counter
  telling_ack q counter stands =
      let g : GivenBy h does.input (Tells (Subscribed q counter)) =
      at_member (GivenBy h does.input) (given_by (trail_of h does.input)) (Tells (Subscribed q counter)) (all_given h does.input)
      (told_from_output (given_by (trail_of h does.input)) (Subscribed q counter) (subst (λ os. Contains os (Subscribed q counter)) (outputs_written h does.input does.done does.happened) stands) refl) in
      let acked = g.holds in
      let came = ack_came h does.input g.brought.earlier acked.0 acked.1 (subst (λ r. Brings h does.input r g.brought.earlier) acked.2 g.brought.brings) in
      record {
        done = g.done;
        among = g.among;
        peer = acked.0;
        head = acked.1;
        by = acked.2;
        named = acked.3;
        counted = acked.4;
        told = ap (λ wish. told_by_ack (clock_at g.done.before.state.items) (answer_in acked.0 acked.1 (answers_of g.done.before.state)) wish.stage) (sym (get-wish g.done.before.state.items q)) ∙ acked.5;
        packet = came.packet;
        came = came.is;
        source = came.entry.1;
      }

  -- what stands before the rules of the step
  standing : (d : Done) → Contains (trail_of h does.input) d → (q : Eventgroup) (b : Beginning) → (course_at d.before.state.items q).beginning ≡ Some b
      → InStep nodes configs ss n does acks alone clean d.before.state q b
  standing d among q b stands =
      let inside = within ss n does.step does.turn.here in
      let was = all_begun nodes configs ss own acks alone n does.turn.before (omega (arith, inside)) does.turn.led (clean_before nodes configs ss own acks alone n clean) in
      before_rule nodes configs ss n does acks alone clean (λ e c there. Before refl (was does.turn.place h e c does.turn.stands there)) d among q b stands

  module _ (q : Eventgroup) (counter : ℕ) (t : TellingAck q counter) (honest : IsHonest nodes configs t.peer) where
    abbrev server : Ipv4Addr
    server = v4_ip t.packet.from

    abbrev key : ExchangeKey
    key = of_subscription address server q counter

    -- the Ack is about this subscription
    says : AckSays nodes configs ss n address server q counter
    says =
        subst (λ p. AckSays nodes configs ss n address p q counter) t.source
        (subst (λ c. AckSays nodes configs ss n address t.peer q c) (sym t.counted)
        (subst (λ e. AckSays nodes configs ss n address t.peer e t.head.counter) (sym t.named) (acks n does t.done t.peer t.head t.among t.by honest)))

    -- its exchange was not taken since, as keys are reused cleanly
    not_later : (a : AckSays nodes configs ss n address server q counter) (i : ℕ) → i < n → Opened nodes configs ss i key → (k : Bool) → ltb a.since i ≡ k → i ≤ a.since
    not_later a i before opened true is =
        absurd (clean n (omega arith)
        (Old (record {
          sent = a.sent;
          datagram = a.datagram;
          delivers = a.delivers;
          key = key;
          since = a.since;
          belongs = a.belongs;
          taken = record { i = i; after = ltb-true a.since i is; before = before; opened = opened };
        })))
    not_later a i before opened false is = ltb-false a.since i is

    -- it is the one that stands
    safe_so : (b : Beginning) → b.peer ≡ t.peer → b.counter ≡ t.head.counter → IsBegun nodes configs ss n does.turn.place address q b
        → AckSays nodes configs ss n address server q counter → IsSafeSubscription nodes configs ss n does.turn.place h q server counter
    safe_so b peer number begun a =
        let from : b.peer ≡ server = peer ∙ t.source in
        let same_number : b.counter ≡ counter = number ∙ sym t.counted in
        let one : of_subscription address b.peer q b.counter ≡ key = (λ i. of_subscription address (from i) q (same_number i)) in
        let opened : Opened nodes configs ss begun.begun key = subst (Opened nodes configs ss begun.begun) one begun.opened in
        let says = opens_more opened.does.turn.history opened.does.input opened.does.done address server q counter opened.does.happened opened.by in
        let early = a.before in
        record {
          begun = begun.begun;
          before = begun.before;
          lives = begun.lives;
          last = λ i after until o. begun.last i after until (subst (Opened nodes configs ss i) (sym one) o);
          since = a.since;
          newest = record {
            opened_in = opened;
            before = not_later a begun.begun begun.before opened (ltb a.since begun.begun) refl;
            last = λ i after until o. begun.last i after (omega (arith, until, early)) (subst (Opened nodes configs ss i) (sym one) o);
          };
          own = own opened.does.turn.place does.turn.place opened.does.turn.history.config h.config (turn_configured nodes configs ss begun.begun opened.does.step opened.does.turn)
              (turn_configured nodes configs ss n does.step does.turn) (sym says.0);
          accepted = a.accepted;
        }

    -- the subscription that the Ack answers is safe
    acknowledged_one : IsSafelyAcknowledged nodes configs ss n q counter
    acknowledged_one =
        let course = answered_course t.done.before.state t.peer t.head q t.told in
        record { does = does; packet = t.packet; came = t.came; safe = cases course.0 course.2 course.3 (standing t.done t.among q course.0 course.1) }
      where
        cases : (b : Beginning) → b.peer ≡ t.peer → b.counter ≡ t.head.counter → InStep nodes configs ss n does acks alone clean t.done.before.state q b
            → IsSafeSubscription nodes configs ss n does.turn.place h q server counter
        cases b peer number (Before count begun) = safe_so b peer number begun says
        cases b peer number (Now opened none e there may) = absurd (alone n does t.done e t.peer t.head t.among t.by there may honest)

  -- each that the step tells of
  pub acknowledged_here : (q : Eventgroup) (counter : ℕ) → Contains does.done.outputs (Subscribed q counter) → (IsFromLiar nodes configs does.input → ⊥) → IsSafelyAcknowledged nodes configs ss n q counter
  acknowledged_here q counter stands honest =
      let t = telling_ack q counter stands in
      acknowledged_one q counter t (subst (IsHonest nodes configs) (sym t.source) (subst (λ x. IsFromLiar nodes configs x → ⊥) t.came honest))

pub acknowledged_are_safe : (nodes : List SetupNode) (configs : List Config) (ss : List Step) → HaveOwnAddresses configs → AcksSay nodes configs ss → AcksBeginNone nodes configs ss
    → (n : ℕ) → IsCleanBefore nodes configs ss (suc n) → HonestAcknowledgedAreSafe nodes configs ss n
acknowledged_are_safe nodes configs ss own acks alone n clean does = acknowledged_here nodes configs ss own acks alone n clean does
