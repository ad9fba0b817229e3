-- An answer that is handed up is for a call that waits before the step.
use Rattle.std.proofs.Common.{◌≡◌, ℕ, List, ◌∷◌, ◌++◌, Some, arith, sym, ap, subst, ◌∙◌}
use Rattle.std.specs.List.{Contains}
use Rattle.std.proofs.lemmas.Grind.{flat_map-append}
use Rattle.std.proofs.lemmas.List.Elements.{Contains-append_left}
use Rattle.std.specs.declared.net.socket_addr.SocketAddrV4.{SocketAddrV4}
use Rattle.someip_wire.specs.declared.header.ReturnCode.{ReturnCode}
use Rattle.someip_rpc.specs.Answers.{answered_call}
use Rattle.someip_rpc.specs.declared.call.Call.{Call}
use Rattle.someip_rpc.specs.declared.ids.CallKey.{CallKey}
use Rattle.someip_rpc.specs.declared.ids.MessageId.{MessageId}
use Rattle.someip_node_rules.specs.declared.config.Config.{Config}
use Rattle.someip_node_rules.specs.histories.CallQuestions.{awaited_at}
use Rattle.someip_node_laws.specs.HandUps.{AnswerCame}
use Rattle.someip_node_rules.specs.histories.History.{History, answers_of}
use Rattle.someip_node_rules.specs.rules.Inputs.{plan_of}
use Rattle.someip_node_rules.specs.histories.Items as items
use Rattle.someip_node_rules.specs.trails.Meetings.{IsMet, MetBy}
use Rattle.someip_node_rules.specs.steps.Steps.{work_on}
use Rattle.someip_node_rules.specs.histories.Tables.{Tables, waiting_calls}
use Rattle.someip_node_rules.specs.trails.Trails.{Done, after, met_by, outcome_of, trail_of}
use Rattle.someip_node_rules.proofs.trails.MeetingLemmas.{all_met}
use Rattle.someip_node_rules.proofs.lists.MemberLemmas.{at_member}
use Rattle.someip_node_rules.proofs.rules.PlanLemmas.{before_each}
use Rattle.someip_node_rules.proofs.rules.StepRules.{config_kept}
use Rattle.someip_world_schedule.specs.declared.step.Step.{Step}
use Rattle.someip_world_setup.specs.declared.setup_node.SetupNode.{SetupNode}
use Rattle.someip_world_rules.specs.Deliveries.{Does}
use Rattle.someip_world_rules.proofs.Fronts.{within}
use Rattle.someip_world_rules.proofs.about_exchanges.openings.RuleInputs.{AskedBy, done_asked}
use Rattle.someip_world_safety.specs.AwaitedCalls.{IsAwaited}
use Rattle.someip_world_safety.proofs.answers.AnswerTests.{IsToACall, to_a_call, waits_by_history}
use Rattle.someip_world_safety.proofs.calls.CallItems.{Since, WasCalled, Waited, since}
use Rattle.someip_world_safety.proofs.calls.WaitingCalls.{all_awaited}

module _ (nodes : List SetupNode) (configs : List Config) (steps : List Step) (n : ℕ) (does : Does nodes configs steps n)
    (message : MessageId) (session : ℕ) (code : ReturnCode) (payload : List ℕ) (e : AnswerCame does.turn.history does.input message session code payload) where
  abbrev h : History
  h = does.turn.history

  abbrev key : CallKey
  key = answered_call e.header

  abbrev t : Tables
  t = answers_of e.done.before.state

  -- the answer passed its test
  pub passed : IsToACall t.config.client_id e.packet.from e.header (waiting_calls t)
  passed = to_a_call t.config.client_id e.packet.from e.header (waiting_calls t) e.taken.awaited

  -- the node has met the rules before the one that took the answer
  at : e.done.before.state ≡ after h (met_by e.earlier)
  at = (before_each (plan_of does.input) (work_on h) e.earlier e.later e.done e.trail).0

  -- its configuration is still that of the step
  pub same_config : e.done.before.state.config ≡ h.config
  same_config = ap (λ x. x.config) at ∙ config_kept h (met_by e.earlier)

  -- a datagram makes no call
  no_call : (call : Call) (peer : SocketAddrV4) (number : ℕ) → Contains (met_by e.earlier) (items.Called call peer number) → ⊥
  no_call call peer number among =
      let splits : met_by (trail_of h does.input) ≡ met_by e.earlier ++ met_by (e.done ∷ e.later) =
      ap met_by e.trail ∙ flat_map-append (λ (d : Done). (outcome_of d).items) e.earlier (e.done ∷ e.later)
      in
      let inside : Contains (met_by (trail_of h does.input)) (items.Called call peer number) =
      subst (λ xs. Contains xs (items.Called call peer number)) (sym splits) (Contains-append_left (met_by e.earlier) (met_by (e.done ∷ e.later)) (items.Called call peer number) among)
      in
      let by = at_member (MetBy h does.input) (met_by (trail_of h does.input)) (items.Called call peer number) (all_met h does.input) inside in
      let made = by.holds in
      let asks = subst (λ r. AskedBy r does.input) made.made (done_asked h does.input (IsMet (items.Called call peer number)) by) in
      let both = sym e.is ∙ asks in absurd cc

  -- what waits within the step waited before it
  waited : Since h.config key passed.lasting h (met_by e.earlier) → awaited_at h.config h.items key ≡ Some passed.lasting
  waited (Waited stood none) = stood
  waited (WasCalled call peer number among kind keyed to) = absurd (no_call call peer number among)

  -- the call of the answer waits before the step
  pub answered_call_waits : IsAwaited nodes configs steps n does.turn.place key e.packet.from
  answered_call_waits =
      let there = waits_by_history e.done.before.state key passed.lasting passed.waits in
      let in_step : awaited_at h.config (after h (met_by e.earlier)).items key ≡ Some passed.lasting = (λ i. awaited_at (sym same_config i) (sym at i).items key) ∙ there in
      let inside = within steps n does.step does.turn.here in
      subst (IsAwaited nodes configs steps n does.turn.place key) passed.peer
      (all_awaited nodes configs steps n does.turn.before (omega (arith, inside)) does.turn.led does.turn.place h key passed.lasting does.turn.stands
      (waited (since h.config key passed.lasting h (met_by e.earlier) in_step)))
