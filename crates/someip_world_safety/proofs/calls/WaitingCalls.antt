-- A call that waits for its answer was made in a step of the same life, and no answer to it was taken since.
use Rattle.std.proofs.Common.{◌≡◌, ◌⊎◌, inl, inr, ℕ, suc, ◌<◌, ◌≤◌, List, [], length, take, Some, Result, Ok, Err, arith, refl, sym, ap, subst, ◌∙◌}
use Rattle.std.specs.List.{AllByRecursion, Contains}
use Rattle.std.specs.declared.net.socket_addr.SocketAddrV4.{SocketAddrV4}
use Rattle.someip_tables.specs.declared.lasting.Lasting.{Lasting}
use Rattle.someip_rpc.specs.declared.call.Awaited.{Awaited}
use Rattle.someip_rpc.specs.declared.call.Call.{Call}
use Rattle.someip_rpc.specs.declared.call.CallKind.TheVariants as calls
use Rattle.someip_rpc.specs.declared.ids.CallKey.{CallKey}
use Rattle.someip_node_rules.specs.declared.config.Config.{Config}
use Rattle.someip_node_rules.specs.declared.error.NodeError.{NodeError}
use Rattle.someip_node_rules.specs.histories.CallQuestions.{awaited_at, call_key}
use Rattle.someip_node_rules.specs.histories.History.{History}
use Rattle.someip_node_rules.specs.rules.Inputs as inputs
use Rattle.someip_node_rules.specs.rules.Inputs.{Input}
use Rattle.someip_node_rules.specs.histories.Items as items
use Rattle.someip_node_rules.specs.histories.Items.{Item}
use Rattle.someip_node_rules.specs.trails.Meetings.{IsMet, MetBy}
use Rattle.someip_node_rules.specs.rules.Plans.{Work}
use Rattle.someip_node_rules.specs.steps.Steps.{step}
use Rattle.someip_node_rules.specs.trails.Trails.{met_by, trail_of}
use Rattle.someip_node_rules.proofs.trails.MeetingLemmas.{all_met, state_met}
use Rattle.someip_node_rules.proofs.lists.MemberLemmas.{at_member}
use Rattle.someip_node_rules.proofs.rules.StepRules.{config_kept}
use Rattle.someip_world_schedule.specs.declared.step.Step.{Step}
use Rattle.someip_world_setup.specs.declared.setup_node.SetupNode.{SetupNode}
use Rattle.someip_world_rules.specs.Deeds.{Takes}
use Rattle.someip_world_rules.specs.Deliveries.{Does, Restarted}
use Rattle.someip_world_rules.specs.Runs.{World, history_after}
use Rattle.someip_world_rules.specs.Turns.{LeadTo, Turn}
use Rattle.someip_world_rules.proofs.Lives.{below_next, lives_next}
use Rattle.someip_world_rules.proofs.about_exchanges.openings.RuleInputs.{AskedBy, done_asked}
use Rattle.someip_world_safety.specs.AwaitedCalls.{CallsAreAwaited, IsAwaited, Makes, TakesAnswerTo}
use Rattle.someip_world_safety.proofs.calls.CallItems.{IsOther, Since, WasCalled, Waited, since}
use Rattle.someip_world_safety.proofs.runs.EachNode.{each_node}
use Rattle.someip_world_safety.proofs.runs.SameStep.{not_refused, same_met, takes_no_restart}

module _ (nodes : List SetupNode) (configs : List Config) (ss : List Step) where
  -- a call that was met in a step was asked for by the input of the step
  made_here : (n : ℕ) (does : Does nodes configs ss n) (call : Call) (peer : SocketAddrV4) (session : ℕ) (key : CallKey) → Contains (met_by (trail_of does.turn.history does.input)) (items.Called call peer session)
      → call.kind ≡ calls.Request → call_key call session ≡ key → (m : Makes nodes configs ss n key peer) × (m.does ≡ does)
  made_here n does call peer session key among kind keyed =
      let h = does.turn.history in
      let by = at_member (MetBy h does.input) (met_by (trail_of h does.input)) (items.Called call peer session) (all_met h does.input) among in
      let made = by.holds in
      let asks = subst (λ r. AskedBy r does.input) made.made (done_asked h does.input (IsMet (items.Called call peer session)) by) in
      let request : made.kind ≡ calls.Request = sym (ap (λ (c : Call). c.kind) made.is) ∙ kind in (
        record {
          does = does;
          instance = made.instance;
          method = made.method;
          payload = made.payload;
          is = asks ∙ ap (λ k. inputs.Call k made.instance made.method made.payload) request;
          call = call;
          session = session;
          kind = kind;
          keyed = keyed;
          met = among;
        },
        refl,
      )

  -- a call waits at a node, before a step
  abbrev Await : ℕ → ℕ → History → Type 0
  Await n place h = (key : CallKey) (l : Lasting Awaited) → awaited_at h.config h.items key ≡ Some l → IsAwaited nodes configs ss n place key l.value.peer

  module _ (n : ℕ) where
    -- it waits on over a step that neither starts the node again, nor takes the answer, nor makes such a call
    longer : (place : ℕ) (key : CallKey) (peer : SocketAddrV4) → (Restarted nodes configs ss n place → ⊥) → (TakesAnswerTo nodes configs ss n place key → ⊥)
        → ((to : SocketAddrV4) (m : Makes nodes configs ss n key to) → m.does.turn.place ≡ place → ⊥) → IsAwaited nodes configs ss n place key peer
        → IsAwaited nodes configs ss (suc n) place key peer
    longer place key peer alive none new a =
        let early = a.before in
        record {
          made = a.made;
          before = omega (arith, early);
          call = a.call;
          at = a.at;
          lives = lives_next nodes configs ss n place alive a.made a.lives;
          first = λ i later until k. first_on i later (below_next i n until) k;
          last = λ i later until to m at. last_on i later (below_next i n until) to m at;
        }
      where
        first_on : (i : ℕ) → a.made < i → (i < n) ⊎ (i ≡ n) → TakesAnswerTo nodes configs ss i place key → ⊥
        first_on i later (inl less) k = a.first i later less k
        first_on i later (inr same) k = none (subst (λ j. TakesAnswerTo nodes configs ss j place key) same k)

        last_on : (i : ℕ) → a.made < i → (i < n) ⊎ (i ≡ n) → (to : SocketAddrV4) (m : Makes nodes configs ss i key to) → m.does.turn.place ≡ place → ⊥
        last_on i later (inl less) to m at = a.last i later less to m at
        last_on i later (inr same) to m at = let x = subst (λ j. (x : Makes nodes configs ss j key to) × (x.does.turn.place ≡ place)) same (m, at) in new to x.0 x.1

    -- a step in which the node takes nothing, and is not started again, does none of these
    stays : (place : ℕ) (h : History) → ((does : Does nodes configs ss n) → does.turn.place ≡ place → ⊥) → (Restarted nodes configs ss n place → ⊥) → Await n place h → Await (suc n) place h
    stays place h idle alive was key l is = longer place key l.value.peer alive (λ k. idle k.does k.at) (λ to m at. idle m.does at) (was key l is)

  module _ (n : ℕ) (s : Step) (t : Turn nodes configs ss n s) (input : Input) (takes : t.deed ≡ Takes input) where
    -- what the rules of the step meet
    abbrev news : List Item
    news = met_by (trail_of t.history input)

    -- a step that takes an input starts no node again
    alive : Restarted nodes configs ss n t.place → ⊥
    alive = takes_no_restart nodes configs ss n s t input takes

    -- a step with a refused input does none of these
    refused : (refusal : NodeError) → step t.history input ≡ Err refusal → Does nodes configs ss n → ⊥
    refused = not_refused nodes configs ss n s t input takes

    module _ (key : CallKey) (l : Lasting Awaited) (none : AllByRecursion (IsOther t.history.config key l) news) where
      -- nor does one whose rules meet only what is not about the call: it takes no answer to it
      takes_none : TakesAnswerTo nodes configs ss n t.place key → ⊥
      takes_none k =
          let among = subst (λ xs. Contains xs (items.AnswerTaken key)) (same_met nodes configs ss n s t input takes k.does) k.met in
          (at_member (IsOther t.history.config key l) news (items.AnswerTaken key) none among).0 refl

      -- and makes no such call
      makes_none : (to : SocketAddrV4) → Makes nodes configs ss n key to → ⊥
      makes_none to m =
          let among = subst (λ xs. Contains xs (items.Called m.call to m.session)) (same_met nodes configs ss n s t input takes m.does) m.met in
          (at_member (IsOther t.history.config key l) news (items.Called m.call to m.session) none among).1 m.call to m.session refl m.kind m.keyed

    -- after a step in which the node takes an input
    goes : (due : Result (Work History) NodeError) → step t.history input ≡ due → Await n t.place t.history → Await (suc n) t.place (history_after t.history due)
    goes (Err refusal) due was key l is = longer n t.place key l.value.peer alive (λ k. refused refusal due k.does) (λ to m at. refused refusal due m.does) (was key l is)
    goes (Ok done) due was key l is =
        let end = state_met t.history input done due in
        let config : done.state.config ≡ t.history.config = ap (λ x. x.config) end ∙ config_kept t.history news in
        cases (since t.history.config key l t.history news ((λ i. awaited_at (sym config i) (sym end i).items key) ∙ is))
      where
        cases : Since t.history.config key l t.history news → IsAwaited nodes configs ss (suc n) t.place key l.value.peer
        cases (Waited stood none) = longer n t.place key l.value.peer alive (takes_none key l none) (λ to m at. makes_none key l none to m) (was key l stood)
        cases (WasCalled call peer session among kind keyed to) =
            let does : Does nodes configs ss n = record { step = s; turn = t; input = input; takes = takes; done = done; happened = due } in
            let made = made_here n does call peer session key among kind keyed in
            subst (IsAwaited nodes configs ss (suc n) t.place key) (sym to) (record {
              made = n;
              before = omega arith;
              call = made.0;
              at = ap (λ d. d.turn.place) made.1;
              lives = lives_next nodes configs ss n t.place alive n (λ i from until. absurd (omega (arith, from, until)));
              first = λ i later until k. absurd (omega (arith, later, until));
              last = λ i later until to m at. absurd (omega (arith, later, until));
            })

  -- at a start no call waits
  starts : (n place : ℕ) (config : Config) (delay : ℕ) → Await n place (record { config = config; delay = delay; items = [] })
  starts n place config delay key l is = absurd cc

  -- before each step
  pub all_awaited : (n : ℕ) (w : World) → n ≤ length ss → LeadTo nodes configs (take n ss) w → CallsAreAwaited nodes configs ss n w
  all_awaited n w le led place h key l here is =
      each_node nodes configs ss Await starts (λ n place h idle alive was. stays n place h idle alive was)
      (λ n s t input takes due e was. goes n s t input takes due e was) n w le led place h here key l is
