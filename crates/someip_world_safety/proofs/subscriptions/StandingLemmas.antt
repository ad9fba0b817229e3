-- From step to step, a subscription that stands at a client is the newest exchange of its key; and where it was acknowledged by a server that is no liar, that accepted it.
use Rattle.std.proofs.Common.{◌≡◌, ◌⊎◌, inl, inr, ℕ, suc, ◌+◌, ◌<◌, ◌≤◌, Bool, true, false, eqb, List, length, take, slice_get, slice_set, None, Some, Result, Ok, Err, arith, refl, sym, ap, subst, ◌∙◌}
use Rattle.std.proofs.lemmas.Bool.{eqb-true, eqb-false}
use Rattle.std.specs.declared.net.ipv4_addr.Ipv4Addr.{Ipv4Addr}
use Rattle.std.specs.declared.net.socket_addr.SocketAddrV4.{SocketAddrV4}
use Rattle.sd_core.specs.declared.eventgroup.Eventgroup.{Eventgroup}
use Rattle.sd_core.specs.declared.wish.Beginning.{Beginning}
use Rattle.someip_node_rules.specs.declared.config.Config.{Config}
use Rattle.someip_node_rules.specs.declared.error.NodeError.{NodeError}
use Rattle.someip_node_rules.specs.histories.History.{History}
use Rattle.someip_node_rules.specs.rules.Inputs.{Input}
use Rattle.someip_node_rules.specs.rules.Plans.{Work}
use Rattle.someip_node_rules.specs.steps.Steps.{step}
use Rattle.someip_node_rules.specs.trails.Trails.{after, met_by, trail_of}
use Rattle.someip_node_rules.specs.histories.WishQuestions.{course_at}
use Rattle.someip_node_rules.proofs.trails.MeetingLemmas.{state_met}
use Rattle.someip_node_rules.proofs.rules.StepRules.{config_kept}
use Rattle.someip_world_schedule.specs.declared.step.Step.{Step}
use Rattle.someip_world_setup.specs.declared.setup_node.SetupNode.{SetupNode}
use Rattle.someip_world_rules.specs.Deeds.{Deed, Takes, Restarts, Injects, done_with}
use Rattle.someip_world_rules.specs.Runs.{World, history_after, world_after, world_of}
use Rattle.someip_world_rules.specs.Turns.{LeadTo, Turn}
use Rattle.someip_world_rules.specs.Deliveries.{Does, Restarted}
use Rattle.someip_world_rules.proofs.OriginLemmas.{all_origins, begun_so, turn_configured}
use Rattle.someip_world_rules.proofs.Lives.{below_next, lives_next, not_restarted}
use Rattle.someip_world_rules.proofs.Deliverings.{one_turn}
use Rattle.someip_world_rules.proofs.Fronts.{get_set_other, get_set_same, on_the_way, within}
use Rattle.someip_world_rules.specs.exchanges.Namings.{of_subscription}
use Rattle.someip_world_rules.specs.declared.exchanges.exchange_key.ExchangeKey.{ExchangeKey}
use Rattle.someip_world_rules.specs.exchanges.Openings.{Opened}
use Rattle.someip_world_rules.specs.exchanges.CleanReuse.{IsCleanBefore}
use Rattle.someip_world_safety.specs.Addresses.{HaveOwnAddresses}
use Rattle.someip_world_safety.specs.Subscriptions.{HonestSubscriptionsAreSafe, WasAccepted}
use Rattle.someip_world_safety.proofs.subscriptions.RuleItems.{opens_more}
use Rattle.someip_world_safety.proofs.subscriptions.StepStandings.{AcksBeginNone, AcksSay, AreBegun, Before, InStep, IsAcked, IsBegun, Now, all_in_step, key_at}

module _ (nodes : List SetupNode) (configs : List Config) (ss : List Step) where
  -- ---- from step to step

  module _ (own : HaveOwnAddresses configs) (acks : AcksSay nodes configs ss) (alone : AcksBeginNone nodes configs ss) where
    -- what was accepted before a step was accepted before the next
    later_accepted : (n : ℕ) (address peer : Ipv4Addr) (q : Eventgroup) (counter since : ℕ) → WasAccepted nodes configs ss n address peer q counter since
        → WasAccepted nodes configs ss (suc n) address peer q counter since
    later_accepted n address peer q counter since w = let less = w.before in record {
      i = w.i;
      before = omega (arith, less);
      by = w.by;
      is_server = w.is_server;
      sent = w.sent;
      datagram = w.datagram;
      delivers = w.delivers;
      belongs = w.belongs;
    }

    -- the node of a step goes on, or another does
    module _ (n : ℕ) (s : Step) (t : Turn nodes configs ss n s) (clean : IsCleanBefore nodes configs ss (suc n)) (was : AreBegun nodes configs ss n t.before) where
      -- a longer time: this step neither restarts the node nor opens the key anew
      longer : (place : ℕ) (address : Ipv4Addr) (q : Eventgroup) (b : Beginning) → (Restarted nodes configs ss n place → ⊥) → (Opened nodes configs ss n (key_at nodes configs ss address q b) → ⊥)
          → IsBegun nodes configs ss n place address q b → IsBegun nodes configs ss (suc n) place address q b
      longer place address q b alive none begun =
          let early = begun.before in
          record {
            begun = begun.begun;
            before = omega (arith, early);
            opened = begun.opened;
            lives = lives_next nodes configs ss n place alive begun.begun begun.lives;
            last = λ i after until o. last_on i after (below_next i n until) o;
            acked = λ until ends honest. let a = begun.acked until ends honest in let less = a.before in record { since = a.since; from = a.from; before = omega (arith, less); accepted = acc a };
          }
        where
          acc : (a : IsAcked nodes configs ss n address b.peer q b.counter begun.begun) → WasAccepted nodes configs ss (suc n) address b.peer q b.counter a.since
          acc a = later_accepted n address b.peer q b.counter a.since a.accepted

          last_on : (i : ℕ) → begun.begun < i → (i < n) ⊎ (i ≡ n) → Opened nodes configs ss i (key_at nodes configs ss address q b) → ⊥
          last_on i after (inl less) o = begun.last i after less o
          last_on i after (inr same) o = none (subst (λ j. Opened nodes configs ss j (key_at nodes configs ss address q b)) same o)

      -- a step that takes an input starts no node again
      takes_no_restart : (input : Input) → t.deed ≡ Takes input → Restarted nodes configs ss n t.place → ⊥
      takes_no_restart input takes = not_restarted nodes configs ss n t.place s t (λ at delay restarts. absurd cc)

      -- a node has its configuration
      configured : (place : ℕ) (h : History) → slice_get t.before.histories place ≡ Some h → slice_get configs place ≡ Some h.config
      configured place h here = let inside = within ss n s t.here in (all_origins nodes configs ss n t.before (omega (arith, inside)) t.led place h here).configured

      -- an opening in this step is in the node's own step
      opened_here : (address peer : Ipv4Addr) (q : Eventgroup) (counter : ℕ) → Opened nodes configs ss n (of_subscription address peer q counter)
          → (address ≡ t.history.config.address) × ((done : Work History) (input : Input) → t.deed ≡ Takes input → step t.history input ≡ Ok done → (course_at t.history.items q).begun < (course_at done.state.items q).begun)
      opened_here address peer q counter o =
          let does = o.does in
          let one = one_turn nodes configs ss n s t does.step does.turn in
          let says = opens_more does.turn.history does.input does.done address peer q counter does.happened o.by in (
            says.0 ∙ ap (λ x. x.config.address) (sym one.history),
            λ done input takes happened.
                let inputs : Takes input ≡ Takes does.input = sym takes ∙ one.deed ∙ does.takes in
                let input_is : input ≡ does.input = cc in
                let both : Ok done ≡ Ok does.done = sym happened ∙ (λ i. step (one.history i) (input_is i)) ∙ does.happened in
                let done_is : done ≡ does.done = cc in
                let low : (course_at t.history.items q).begun ≡ (course_at does.turn.history.items q).begun = ap (λ x. (course_at x.items q).begun) one.history in
                let high : (course_at done.state.items q).begun ≡ (course_at does.done.state.items q).begun = ap (λ x. (course_at x.state.items q).begun) done_is in
                let more = says.1 in
                omega (arith, low, high, more),
          )

      -- a refused input opens nothing
      refused_opens_none : (refusal : NodeError) (input : Input) → t.deed ≡ Takes input → step t.history input ≡ Err refusal → (key : ExchangeKey) → Opened nodes configs ss n key → ⊥
      refused_opens_none refusal input takes refused key o =
          let does = o.does in
          let one = one_turn nodes configs ss n s t does.step does.turn in
          let inputs : Takes input ≡ Takes does.input = sym takes ∙ one.deed ∙ does.takes in
          let input_is : input ≡ does.input = cc in
          let e = sym refused ∙ (λ i. step (one.history i) (input_is i)) ∙ does.happened in
          absurd cc

      -- after a step in which the node takes an input
      by_due : (input : Input) → t.deed ≡ Takes input → (due : Result (Work History) NodeError) → step t.history input ≡ due → (q : Eventgroup) (b : Beginning)
          → (course_at (history_after t.history due).items q).beginning ≡ Some b → IsBegun nodes configs ss (suc n) t.place t.history.config.address q b
      by_due input takes (Err refusal) due q b is =
          longer t.place t.history.config.address q b (takes_no_restart input takes) (refused_opens_none refusal input takes due (key_at nodes configs ss t.history.config.address q b)) (was t.place t.history q b t.stands is)
      by_due input takes (Ok done) due q b is =
          let does : Does nodes configs ss n = record { step = s; turn = t; input = input; takes = takes; done = done; happened = due } in
          let end = state_met t.history input done due in
          cases (all_in_step nodes configs ss n does acks alone clean (λ e c stands. Before refl (was t.place t.history e c t.stands stands)) q b (subst (λ x. (course_at x.items q).beginning ≡ Some b) end is)) end
        where
          cases : InStep nodes configs ss n (record { step = s; turn = t; input = input; takes = takes; done = done; happened = due }) acks alone clean (after t.history (met_by (trail_of t.history input))) q b
              → done.state ≡ after t.history (met_by (trail_of t.history input)) → IsBegun nodes configs ss (suc n) t.place t.history.config.address q b
          cases (Before count begun) end =
              longer t.place t.history.config.address q b (takes_no_restart input takes)
              (λ o. let more = (opened_here t.history.config.address b.peer q b.counter o).1 done input takes due in
              let same : (course_at done.state.items q).begun ≡ (course_at (after t.history (met_by (trail_of t.history input))).items q).begun = ap (λ x. (course_at x.items q).begun) end in
              omega (arith, more, same, count)) begun
          cases (Now opened none e there may) end = record {
            begun = n;
            before = omega arith;
            opened = opened;
            lives = lives_next nodes configs ss n t.place (takes_no_restart input takes) n (λ i from until. absurd (omega (arith, from, until)));
            last = λ i after until o. absurd (omega (arith, after, until));
            acked = λ until ends honest. let e = sym (none honest) ∙ ends in absurd cc;
          }

      -- after a step in which a liar sends, at its place: nothing is opened there
      by_liar : (from to : SocketAddrV4) (bytes : List ℕ) → t.deed ≡ Injects from to bytes → (q : Eventgroup) (b : Beginning) → (course_at t.history.items q).beginning ≡ Some b
          → IsBegun nodes configs ss (suc n) t.place t.history.config.address q b
      by_liar from to bytes injects q b is =
          longer t.place t.history.config.address q b (not_restarted nodes configs ss n t.place s t (λ at delay restarts. absurd cc))
          (λ o. let one = one_turn nodes configs ss n s t o.does.step o.does.turn in
          let clash : Injects from to bytes ≡ Takes o.does.input = sym injects ∙ one.deed ∙ o.does.takes in absurd cc) (was t.place t.history q b t.stands is)

      -- after a step, at its node
      by_deed : (deed : Deed) → t.deed ≡ deed → (q : Eventgroup) (b : Beginning) → (course_at (history_after t.history (done_with t.history deed)).items q).beginning ≡ Some b
          → IsBegun nodes configs ss (suc n) t.place t.history.config.address q b
      by_deed (Takes input) takes q b is = by_due input takes (step t.history input) refl q b is
      by_deed (Restarts delay) takes q b is = absurd cc
      by_deed (Injects from to bytes) injects q b is = by_liar from to bytes injects q b is

      -- a step leaves the configuration
      config_after : (deed : Deed) → (history_after t.history (done_with t.history deed)).config ≡ t.history.config
      config_after (Takes input) = by_result (step t.history input) refl
        where
          by_result : (due : Result (Work History) NodeError) → step t.history input ≡ due → (history_after t.history due).config ≡ t.history.config
          by_result (Err refusal) due = refl
          by_result (Ok done) due = ap (λ x. x.config) (state_met t.history input done due) ∙ config_kept t.history (met_by (trail_of t.history input))
      config_after (Restarts delay) = refl
      config_after (Injects from to bytes) = refl

      -- after a step, at all nodes
      pub begun_after : AreBegun nodes configs ss (suc n) (world_after (n + 1) t.place t.before t.history (done_with t.history t.deed))
      begun_after place h q b here is = cases (eqb place t.place) refl
        where
          due : History
          due = history_after t.history (done_with t.history t.deed)

          cases : (k : Bool) → eqb place t.place ≡ k → IsBegun nodes configs ss (suc n) place h.config.address q b
          cases true e =
              let same : place ≡ t.place = eqb-true place t.place e in
              let now : h ≡ due = get_set_same t.before.histories t.place due h (subst (λ p. slice_get (slice_set t.before.histories t.place due) p ≡ Some h) same here) in
              let begun = by_deed t.deed refl q b (subst (λ x. (course_at x.items q).beginning ≡ Some b) now is) in
              let address : t.history.config.address ≡ h.config.address = ap (λ c. c.address) (sym (config_after t.deed)) ∙ ap (λ x. x.config.address) (sym now) in
              subst (λ a. IsBegun nodes configs ss (suc n) place a q b) address (subst (λ p. IsBegun nodes configs ss (suc n) p t.history.config.address q b) (sym same) begun)
          cases false e =
              let ne = eqb-false place t.place e in
              let old : slice_get t.before.histories place ≡ Some h = sym (get_set_other t.before.histories t.place place due ne) ∙ here in
              longer place h.config.address q b (not_restarted nodes configs ss n place s t (λ at. absurd (ne (sym at))))
              (λ o. ne (own place t.place h.config t.history.config (configured place h old) (configured t.place t.history t.stands) (opened_here h.config.address b.peer q b.counter o).0))
              (was place h q b old is)

    -- clean up to a step, and so up to the one before
    pub clean_before : (n : ℕ) → IsCleanBefore nodes configs ss (suc n) → IsCleanBefore nodes configs ss n
    clean_before n clean i lt = clean i (omega (arith, lt))

    -- at the start nothing was begun
    none_begun : AreBegun nodes configs ss 0 (world_of nodes configs)
    none_begun place h q b here is = let start = begun_so nodes configs ss nodes configs place h here in
        let none : (course_at h.items q).beginning ≡ None = ap (λ x. (course_at x.items q).beginning) start.3 in let e = sym none ∙ is in absurd cc

    -- before each step
    pub all_begun : (n : ℕ) (w : World) → n ≤ length ss → LeadTo nodes configs (take n ss) w → IsCleanBefore nodes configs ss n → AreBegun nodes configs ss n w
    all_begun =
        on_the_way nodes configs ss (λ n w. IsCleanBefore nodes configs ss n → AreBegun nodes configs ss n w) (λ clean. none_begun)
        (λ n s t was clean. begun_after n s t clean (was (clean_before n clean)))

    -- an exchange of a node's address was opened by this node
    own_place : (n : ℕ) (w : World) → n ≤ length ss → LeadTo nodes configs (take n ss) w → (place : ℕ) (h : History) → slice_get w.histories place ≡ Some h → {peer : Ipv4Addr} → {q : Eventgroup} → {counter : ℕ}
        → (i : ℕ) (o : Opened nodes configs ss i (of_subscription h.config.address peer q counter)) → o.does.turn.place ≡ place
    own_place n w le led place h here {peer} {q} {counter} i o =
        let t = o.does.turn in
        let says = opens_more t.history o.does.input o.does.done h.config.address peer q counter o.does.happened o.by in
        sym
        (own place t.place h.config t.history.config (all_origins nodes configs ss n w le led place h here).configured
        (turn_configured nodes configs ss i o.does.step t) says.0)

    -- each subscription that a client counts on is safe, where its server is no liar
    pub subscriptions_are_safe : (n : ℕ) (w : World) → n ≤ length ss → LeadTo nodes configs (take n ss) w → IsCleanBefore nodes configs ss n → HonestSubscriptionsAreSafe nodes configs ss n w
    subscriptions_are_safe n w le led clean place h q peer counter until here is honest =
        let b = all_begun n w le led clean place h q (record { peer = peer; counter = counter; until = Some until }) here is in
        let a = b.acked until refl honest in
        let from = a.from in
        let less = a.before in
        record {
          begun = b.begun;
          before = b.before;
          lives = b.lives;
          last = b.last;
          since = a.since;
          newest = record {
            opened_in = b.opened;
            before = from;
            last = λ i after until. b.last i after (omega (arith, until, less));
          };
          own = own_place n w le led place h here b.begun b.opened;
          accepted = a.accepted;
        }
