-- The trace of the worked run, step by step.
use Rattle.std.proofs.Common.{◌≡◌, ℕ, ◌+◌, ◌++◌, List, [], ◌∷◌, drop, take, Some, Ok, Err, refl, ap, ◌∙◌}
use Rattle.someip_rpc.specs.declared.call.CallKind.TheVariants as kinds
use Rattle.someip_rpc.specs.declared.request.Reply.TheVariants.{Response}
use Rattle.someip_node_rules.specs.declared.config.Config.{Config}
use Rattle.someip_node_rules.specs.declared.output.Output.{Output}
use Rattle.someip_node_rules.specs.histories.History.{start_of}
use Rattle.someip_node_rules.specs.rules.Inputs as input
use Rattle.someip_node_rules.specs.histories.Items.{Item}
use Rattle.someip_node_rules.specs.declared.output.Output.TheVariants.{Accepted, Answered, Called, Event, Known, Request, Subscribed}
use Rattle.someip_node_laws.specs.WorkedExamples.{client, instance, server}
use Rattle.someip_node_laws.specs.WorkedRun.{LeadsTo, OffersEvent, WantsEvent, accepted_items, ack_packet, answer_packet, call_packet, comes, event_packet, goes, method, offer_packet, subscribe_packet, answered_items, called_items, eventgroup, having_met, known_items, offered_items, published_items, replied_items, requested_items, subscribed_items, wished_items}
use Rattle.someip_node_laws.proofs.examples.ClientEvents.{ack_taken, event_taken, subscribe_goes}
use Rattle.someip_node_laws.proofs.examples.ClientRun.{answer_taken, call_goes, offer_learned}
use Rattle.someip_node_laws.proofs.examples.ServerEvents.{event_goes, subscribe_accepted}
use Rattle.someip_node_laws.proofs.examples.ServerRun.{answer_goes, call_taken, offered}
use Rattle.someip_world_schedule.specs.declared.step.Step.{Step}
use Rattle.someip_world_schedule.specs.declared.step.Step.TheVariants.{Tick, Deliver, Call, Answer, Publish, Subscribe}
use Rattle.someip_world_schedule.specs.StepNodes.{node_of}
use Rattle.someip_world_setup.specs.declared.setup_node.SetupNode.{SetupNode}
use Rattle.someip_world_rules.specs.declared.error.RunError.TheVariants.{BadStep}
use Rattle.someip_world_rules.specs.declared.line.Line.{Line}
use Rattle.someip_world_rules.specs.declared.step_fault.StepFault.TheVariants.{NoSuchDatagram}
use Rattle.someip_world_rules.specs.Deeds.{Takes, deed_at, deed_of}
use Rattle.someip_world_rules.specs.Runs.{World, happens, happens_to, told_lines, place_of, run_from, run_of, then_on, run_lines, unless_bad, world_after, world_of}
use Rattle.someip_world_rules.specs.WorkedTrace.{AreNamed, a, b, schedule, trace}

-- a step that happens leads on to the next
pub goes_on : (nodes : List SetupNode) (index : ℕ) (w next : World) (s : Step) (steps : List Step) → happens nodes index w s ≡ Ok next
    → run_from nodes index w (s ∷ steps) ≡ run_from nodes (index + 1) next steps
goes_on nodes index w next s steps does = ap (λ r. then_on index r (λ next. run_from nodes (index + 1) next steps)) does

module _ (first second : SetupNode) (own other : Config) (named : AreNamed first second) (offers : OffersEvent own) (wants : WantsEvent other) where
  abbrev nodes : List SetupNode
  nodes = first ∷ second ∷ []

  pub first_place : place_of nodes a ≡ Some 0
  first_place = rw named.first_name refl

  pub second_place : place_of nodes b ≡ Some 1
  second_place = rw (named.first_name, named.second_name) refl

  -- the world once the nodes met these items
  abbrev pub world : List Item → List Item → List Line → World
  world xs ys lines = record { histories = having_met own xs ∷ having_met other ys ∷ []; lines = lines }

  -- a step at the first node, and at the second
  pub at_first : (index : ℕ) (s : Step) (i : input.Input) (xs ys after : List Item) (lines : List Line) (outputs : List Output) → node_of s ≡ a
      → deed_of (having_met own xs) lines s ≡ Ok (Takes i) → LeadsTo (having_met own xs) i outputs after
      → happens nodes index (world xs ys lines) s ≡ Ok (world after ys (lines ++ told_lines index 0 (Ok outputs)))
  at_first index s i xs ys after lines outputs at does leads =
      ap (λ name. happens_to nodes index (world xs ys lines) s (place_of nodes name)) at
      ∙ ap (happens_to nodes index (world xs ys lines) s) first_place
      ∙ ap (λ liar. unless_bad index 0 (world xs ys lines) (having_met own xs) (deed_at liar (having_met own xs) lines s)) named.first_honest
      ∙ ap (unless_bad index 0 (world xs ys lines) (having_met own xs)) does
      ∙ ap (λ done. Ok (world_after index 0 (world xs ys lines) (having_met own xs) done)) leads

  pub at_second : (index : ℕ) (s : Step) (i : input.Input) (xs ys after : List Item) (lines : List Line) (outputs : List Output) → node_of s ≡ b
      → deed_of (having_met other ys) lines s ≡ Ok (Takes i) → LeadsTo (having_met other ys) i outputs after
      → happens nodes index (world xs ys lines) s ≡ Ok (world xs after (lines ++ told_lines index 1 (Ok outputs)))
  at_second index s i xs ys after lines outputs at does leads =
      ap (λ name. happens_to nodes index (world xs ys lines) s (place_of nodes name)) at
      ∙ ap (happens_to nodes index (world xs ys lines) s) second_place
      ∙ ap (λ liar. unless_bad index 1 (world xs ys lines) (having_met other ys) (deed_at liar (having_met other ys) lines s)) named.second_honest
      ∙ ap (unless_bad index 1 (world xs ys lines) (having_met other ys)) does
      ∙ ap (λ done. Ok (world_after index 1 (world xs ys lines) (having_met other ys) done)) leads

  -- ---- the steps

  step1 : happens nodes 1 (world [] [] (take 0 trace)) (Tick a 10) ≡ Ok (world offered_items [] (take 1 trace))
  step1 = at_first 1 (Tick a 10) (input.Tick 10) [] [] offered_items (take 0 trace) (goes (offer_packet 3) ∷ []) refl refl (offered own offers)

  step2 : happens nodes 2 (world offered_items [] (take 1 trace)) (Deliver 1 b) ≡ Ok (world offered_items known_items (take 2 trace))
  step2 = at_second 2 (Deliver 1 b) (comes (offer_packet 3)) offered_items [] known_items (take 1 trace) (Known instance server ∷ []) refl (rw (wants.client.address, wants.group) refl) (offer_learned other wants)

  step3 : happens nodes 3 (world offered_items known_items (take 2 trace)) (Call b kinds.Request instance 0x0421 (1 ∷ 2 ∷ [])) ≡ Ok (world offered_items called_items (take 4 trace))
  step3 = at_second 3 (Call b kinds.Request instance 0x0421 (1 ∷ 2 ∷ [])) (input.Call kinds.Request instance 0x0421 (1 ∷ 2 ∷ [])) offered_items known_items called_items (take 2 trace) (Called method 1 ∷ goes call_packet ∷ []) refl (rw wants.message_limit refl) (call_goes other wants)

  step4 : happens nodes 4 (world offered_items called_items (take 4 trace)) (Deliver 2 a) ≡ Ok (world requested_items called_items (take 5 trace))
  step4 = at_first 4 (Deliver 2 a) (comes call_packet) offered_items called_items requested_items (take 4 trace) (Request (Some 1) instance 0x0421 (1 ∷ 2 ∷ []) ∷ []) refl (rw offers.server.address refl) (call_taken own offers)

  step5 : happens nodes 5 (world requested_items called_items (take 5 trace)) (Answer a 1 (Response (record { 0 = 0 })) (3 ∷ [])) ≡ Ok (world answered_items called_items (take 6 trace))
  step5 = at_first 5 (Answer a 1 (Response (record { 0 = 0 })) (3 ∷ [])) (input.Answer 1 (Response (record { 0 = 0 })) (3 ∷ [])) requested_items called_items answered_items (take 5 trace) (goes answer_packet ∷ []) refl (rw offers.message_limit refl) (answer_goes own offers)

  step6 : happens nodes 6 (world answered_items called_items (take 6 trace)) (Deliver 3 b) ≡ Ok (world answered_items replied_items (take 7 trace))
  step6 = at_second 6 (Deliver 3 b) (comes answer_packet) answered_items called_items replied_items (take 6 trace) (Answered method 1 (record { 0 = 0 }) (3 ∷ []) ∷ []) refl (rw wants.client.address refl) (answer_taken other wants)

  step7 : happens nodes 7 (world answered_items replied_items (take 7 trace)) (Subscribe b eventgroup) ≡ Ok (world answered_items wished_items (take 8 trace))
  step7 = at_second 7 (Subscribe b eventgroup) (input.Subscribe eventgroup) answered_items replied_items wished_items (take 7 trace) (goes subscribe_packet ∷ []) refl refl (subscribe_goes other wants)

  step8 : happens nodes 8 (world answered_items wished_items (take 8 trace)) (Deliver 4 a) ≡ Ok (world accepted_items wished_items (take 10 trace))
  step8 = at_first 8 (Deliver 4 a) (comes subscribe_packet) answered_items wished_items accepted_items (take 8 trace) (Accepted eventgroup client 0 ∷ goes (ack_packet 0) ∷ []) refl (rw offers.server.address refl) (subscribe_accepted own offers)

  step9 : happens nodes 9 (world accepted_items wished_items (take 10 trace)) (Deliver 5 b) ≡ Ok (world accepted_items subscribed_items (take 11 trace))
  step9 = at_second 9 (Deliver 5 b) (comes (ack_packet 0)) accepted_items wished_items subscribed_items (take 10 trace) (Subscribed eventgroup 0 ∷ []) refl (rw wants.client.address refl) (ack_taken other wants)

  step10 : happens nodes 10 (world accepted_items subscribed_items (take 11 trace)) (Publish a instance 0x8001 (0x2a ∷ [])) ≡ Ok (world published_items subscribed_items (take 12 trace))
  step10 = at_first 10 (Publish a instance 0x8001 (0x2a ∷ [])) (input.Publish instance 0x8001 (0x2a ∷ [])) accepted_items subscribed_items published_items (take 11 trace) (goes event_packet ∷ []) refl (rw offers.message_limit refl) (event_goes own offers)

  step11 : happens nodes 11 (world published_items subscribed_items (take 12 trace)) (Deliver 6 b) ≡ Ok (world published_items subscribed_items (take 13 trace))
  step11 = at_second 11 (Deliver 6 b) (comes event_packet) published_items subscribed_items subscribed_items (take 12 trace) (Event instance 0x8001 (0x2a ∷ []) ∷ []) refl (rw wants.client.address refl) (event_taken other wants)

  pub from_start : run_from nodes 1 (world_of nodes (own ∷ other ∷ [])) schedule ≡ run_from nodes 1 (world [] [] []) schedule
  from_start = rw (named.first_delay, named.second_delay) refl

  all_steps : run_from nodes 1 (world [] [] []) schedule ≡ Ok (world published_items subscribed_items trace)
  all_steps =
      goes_on nodes 1 (world [] [] (take 0 trace)) (world offered_items [] (take 1 trace)) (Tick a 10) (drop 1 schedule) step1
      ∙ goes_on nodes 2 (world offered_items [] (take 1 trace)) (world offered_items known_items (take 2 trace)) (Deliver 1 b) (drop 2 schedule) step2
      ∙ goes_on nodes 3 (world offered_items known_items (take 2 trace)) (world offered_items called_items (take 4 trace)) (Call b kinds.Request instance 0x0421 (1 ∷ 2 ∷ [])) (drop 3 schedule) step3
      ∙ goes_on nodes 4 (world offered_items called_items (take 4 trace)) (world requested_items called_items (take 5 trace)) (Deliver 2 a) (drop 4 schedule) step4
      ∙ goes_on nodes 5 (world requested_items called_items (take 5 trace)) (world answered_items called_items (take 6 trace)) (Answer a 1 (Response (record { 0 = 0 })) (3 ∷ [])) (drop 5 schedule) step5
      ∙ goes_on nodes 6 (world answered_items called_items (take 6 trace)) (world answered_items replied_items (take 7 trace)) (Deliver 3 b) (drop 6 schedule) step6
      ∙ goes_on nodes 7 (world answered_items replied_items (take 7 trace)) (world answered_items wished_items (take 8 trace)) (Subscribe b eventgroup) (drop 7 schedule) step7
      ∙ goes_on nodes 8 (world answered_items wished_items (take 8 trace)) (world accepted_items wished_items (take 10 trace)) (Deliver 4 a) (drop 8 schedule) step8
      ∙ goes_on nodes 9 (world accepted_items wished_items (take 10 trace)) (world accepted_items subscribed_items (take 11 trace)) (Deliver 5 b) (drop 9 schedule) step9
      ∙ goes_on nodes 10 (world accepted_items subscribed_items (take 11 trace)) (world published_items subscribed_items (take 12 trace)) (Publish a instance 0x8001 (0x2a ∷ [])) (drop 10 schedule) step10
      ∙ goes_on nodes 11 (world published_items subscribed_items (take 12 trace)) (world published_items subscribed_items (take 13 trace)) (Deliver 6 b) (drop 11 schedule) step11

  pub trace_is : run_of nodes (own ∷ other ∷ []) schedule ≡ Ok trace
  trace_is = ap run_lines (from_start ∙ all_steps)

  pub nothing_to_deliver : run_of nodes (own ∷ other ∷ []) (Deliver 1 b ∷ []) ≡ Err (BadStep 1 NoSuchDatagram)
  nothing_to_deliver =
      ap (λ place. run_lines (then_on 1 (happens_to nodes 1 (world_of nodes (own ∷ other ∷ [])) (Deliver 1 b) place) (λ w. Ok w))) second_place
      ∙ ap (λ liar. run_lines (then_on 1 (unless_bad 1 1 (world_of nodes (own ∷ other ∷ [])) (start_of other second.delay) (deed_at liar (start_of other second.delay) [] (Deliver 1 b))) (λ w. Ok w))) named.second_honest
