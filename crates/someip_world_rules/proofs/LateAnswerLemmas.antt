-- The trace of the run in which an answer comes late, step by step.
use Rattle.std.proofs.Common.{◌≡◌, ℕ, true, if◌then◌else◌, List, [], ◌∷◌, drop, take, Some, Ok, Err, refl, ap, ◌∙◌}
use Rattle.someip_rpc.specs.declared.call.CallKind.TheVariants as kinds
use Rattle.someip_rpc.specs.declared.request.Reply.TheVariants.{Response}
use Rattle.someip_node_rules.specs.declared.config.Config.{Config}
use Rattle.someip_node_rules.specs.declared.output.Output.TheVariants.{Answered, Called, Known, Request, Sent}
use Rattle.someip_node_rules.specs.forms.GoodConfigs.{is_good_delay}
use Rattle.someip_node_rules.specs.rules.Inputs as input
use Rattle.someip_node_laws.specs.WorkedExamples.{client, instance, server}
use Rattle.someip_node_laws.specs.WorkedRun.{OffersEvent, WantsEvent, answer_packet, answered_items, call_packet, called_items, comes, goes, having_met, known_items, method, offer_packet, offered_items, replied_items, requested_items}
use Rattle.someip_node_laws.proofs.examples.ClientRun.{answer_taken, call_goes, offer_learned, other_call_goes}
use Rattle.someip_node_laws.proofs.examples.ServerRun.{answer_goes, call_taken, offered}
use Rattle.someip_world_schedule.specs.declared.step.Step.{Step}
use Rattle.someip_world_schedule.specs.declared.step.Step.TheVariants.{Tick, Deliver, Call, Answer, Restart}
use Rattle.someip_world_setup.specs.declared.setup_node.SetupNode.{SetupNode}
use Rattle.someip_world_rules.specs.declared.line.Line.{Line}
use Rattle.someip_world_rules.specs.declared.step_fault.StepFault.TheVariants.{BadDelay}
use Rattle.someip_world_rules.specs.Deeds.{Restarts, deed_at}
use Rattle.someip_world_rules.specs.LateAnswer.{answered_late, answered_late_trace, asking_with}
use Rattle.someip_world_rules.specs.Runs.{happens, happens_to, run_from, run_lines, run_of, unless_bad, world_of}
use Rattle.someip_world_rules.specs.WorkedTrace.{AreNamed, a, b}
use Rattle.someip_world_rules.proofs.WorkedTraceLemmas.{at_first, at_second, goes_on, second_place, world}

module _ (first second : SetupNode) (own other : Config) (named : AreNamed first second) (offers : OffersEvent own) (wants : WantsEvent other) (delay : is_good_delay other 10 ≡ true) where
  abbrev nodes : List SetupNode
  nodes = first ∷ second ∷ []

  abbrev trace : ℕ → List Line
  trace n = take n answered_late_trace

  abbrev rest : ℕ → List Step
  rest n = drop n (answered_late 4 b)

  -- the second node begins again: nothing is met, and nothing told
  again : happens nodes 5 (world first second own other named offers wants requested_items called_items (trace 5)) (Restart b 10) ≡ Ok (world first second own other named offers wants requested_items [] (trace 5))
  again =
      ap (happens_to nodes 5 (world first second own other named offers wants requested_items called_items (trace 5)) (Restart b 10)) (second_place first second own other named offers wants)
      ∙ ap (λ liar. unless_bad 5 1 (world first second own other named offers wants requested_items called_items (trace 5)) (having_met other called_items) (deed_at liar (having_met other called_items) (trace 5) (Restart b 10))) named.second_honest
      ∙ ap (λ good. unless_bad 5 1 (world first second own other named offers wants requested_items called_items (trace 5)) (having_met other called_items) (if good then Ok (Restarts 10) else Err BadDelay)) delay

  step1 : happens nodes 1 (world first second own other named offers wants [] [] (trace 0)) (Tick a 10) ≡ Ok (world first second own other named offers wants offered_items [] (trace 1))
  step1 = at_first first second own other named offers wants 1 (Tick a 10) (input.Tick 10) [] [] offered_items (trace 0) (goes (offer_packet 3) ∷ []) refl refl (offered own offers)

  step2 : happens nodes 2 (world first second own other named offers wants offered_items [] (trace 1)) (Deliver 1 b) ≡ Ok (world first second own other named offers wants offered_items known_items (trace 2))
  step2 = at_second first second own other named offers wants 2 (Deliver 1 b) (comes (offer_packet 3)) offered_items [] known_items (trace 1) (Known instance server ∷ []) refl (rw (wants.client.address, wants.group) refl) (offer_learned other wants)

  step3 : happens nodes 3 (world first second own other named offers wants offered_items known_items (trace 2)) (Call b kinds.Request instance 0x0421 (1 ∷ 2 ∷ [])) ≡ Ok (world first second own other named offers wants offered_items called_items (trace 4))
  step3 = at_second first second own other named offers wants 3 (Call b kinds.Request instance 0x0421 (1 ∷ 2 ∷ [])) (input.Call kinds.Request instance 0x0421 (1 ∷ 2 ∷ [])) offered_items known_items called_items (trace 2) (Called method 1 ∷ goes call_packet ∷ []) refl (rw wants.message_limit refl) (call_goes other wants)

  step4 : happens nodes 4 (world first second own other named offers wants offered_items called_items (trace 4)) (Deliver 2 a) ≡ Ok (world first second own other named offers wants requested_items called_items (trace 5))
  step4 = at_first first second own other named offers wants 4 (Deliver 2 a) (comes call_packet) offered_items called_items requested_items (trace 4) (Request (Some 1) instance 0x0421 (1 ∷ 2 ∷ []) ∷ []) refl (rw offers.server.address refl) (call_taken own offers)

  step6 : happens nodes 6 (world first second own other named offers wants requested_items [] (trace 5)) (Deliver 1 b) ≡ Ok (world first second own other named offers wants requested_items known_items (trace 6))
  step6 = at_second first second own other named offers wants 6 (Deliver 1 b) (comes (offer_packet 3)) requested_items [] known_items (trace 5) (Known instance server ∷ []) refl (rw (wants.client.address, wants.group) refl) (offer_learned other wants)

  step7 : happens nodes 7 (world first second own other named offers wants requested_items known_items (trace 6)) (Call b kinds.Request instance 0x0421 (9 ∷ [])) ≡ Ok (world first second own other named offers wants requested_items called_items (trace 8))
  step7 = at_second first second own other named offers wants 7 (Call b kinds.Request instance 0x0421 (9 ∷ [])) (input.Call kinds.Request instance 0x0421 (9 ∷ [])) requested_items known_items called_items (trace 6) (Called method 1 ∷ Sent client server (asking_with 0x21 0x00 9) ∷ []) refl (rw wants.message_limit refl) (other_call_goes other wants)

  step8 : happens nodes 8 (world first second own other named offers wants requested_items called_items (trace 8)) (Answer a 1 (Response (record { 0 = 0 })) (3 ∷ [])) ≡ Ok (world first second own other named offers wants answered_items called_items (trace 9))
  step8 = at_first first second own other named offers wants 8 (Answer a 1 (Response (record { 0 = 0 })) (3 ∷ [])) (input.Answer 1 (Response (record { 0 = 0 })) (3 ∷ [])) requested_items called_items answered_items (trace 8) (goes answer_packet ∷ []) refl (rw offers.message_limit refl) (answer_goes own offers)

  step9 : happens nodes 9 (world first second own other named offers wants answered_items called_items (trace 9)) (Deliver 4 b) ≡ Ok (world first second own other named offers wants answered_items replied_items (trace 10))
  step9 = at_second first second own other named offers wants 9 (Deliver 4 b) (comes answer_packet) answered_items called_items replied_items (trace 9) (Answered method 1 (record { 0 = 0 }) (3 ∷ []) ∷ []) refl (rw wants.client.address refl) (answer_taken other wants)

  begins : run_from nodes 1 (world_of nodes (own ∷ other ∷ [])) (answered_late 4 b) ≡ run_from nodes 1 (world first second own other named offers wants [] [] []) (answered_late 4 b)
  begins = rw (named.first_delay, named.second_delay) refl

  all_steps : run_from nodes 1 (world first second own other named offers wants [] [] []) (answered_late 4 b) ≡ Ok (world first second own other named offers wants answered_items replied_items answered_late_trace)
  all_steps =
      goes_on nodes 1 (world first second own other named offers wants [] [] (trace 0)) (world first second own other named offers wants offered_items [] (trace 1)) (Tick a 10) (rest 1) step1
      ∙ goes_on nodes 2 (world first second own other named offers wants offered_items [] (trace 1)) (world first second own other named offers wants offered_items known_items (trace 2)) (Deliver 1 b) (rest 2) step2
      ∙ goes_on nodes 3 (world first second own other named offers wants offered_items known_items (trace 2)) (world first second own other named offers wants offered_items called_items (trace 4)) (Call b kinds.Request instance 0x0421 (1 ∷ 2 ∷ [])) (rest 3) step3
      ∙ goes_on nodes 4 (world first second own other named offers wants offered_items called_items (trace 4)) (world first second own other named offers wants requested_items called_items (trace 5)) (Deliver 2 a) (rest 4) step4
      ∙ goes_on nodes 5 (world first second own other named offers wants requested_items called_items (trace 5)) (world first second own other named offers wants requested_items [] (trace 5)) (Restart b 10) (rest 5) again
      ∙ goes_on nodes 6 (world first second own other named offers wants requested_items [] (trace 5)) (world first second own other named offers wants requested_items known_items (trace 6)) (Deliver 1 b) (rest 6) step6
      ∙ goes_on nodes 7 (world first second own other named offers wants requested_items known_items (trace 6)) (world first second own other named offers wants requested_items called_items (trace 8)) (Call b kinds.Request instance 0x0421 (9 ∷ [])) (rest 7) step7
      ∙ goes_on nodes 8 (world first second own other named offers wants requested_items called_items (trace 8)) (world first second own other named offers wants answered_items called_items (trace 9)) (Answer a 1 (Response (record { 0 = 0 })) (3 ∷ [])) (rest 8) step8
      ∙ goes_on nodes 9 (world first second own other named offers wants answered_items called_items (trace 9)) (world first second own other named offers wants answered_items replied_items answered_late_trace) (Deliver 4 b) (rest 9) step9

  pub late_answer_taken : run_of nodes (own ∷ other ∷ []) (answered_late 4 b) ≡ Ok answered_late_trace
  late_answer_taken = ap run_lines (begins ∙ all_steps)
