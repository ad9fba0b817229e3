-- A message that came to the application from no liar, whole or in segments, was given as it came by the step that sent its datagram.
use Rattle.std.proofs.Common.{◌≡◌, inl, inr, ℕ, suc, List, [], ◌∷◌, ◌++◌, Some, Result, Ok, Err, Option, arith, refl, sym, ap, subst, append_assoc, ◌∙◌}
use Rattle.std.specs.List.{AllByRecursion}
use Rattle.std.specs.Net.Socket.{v4_ip}
use Rattle.std.proofs.lemmas.Grind.{flat_map-append}
use Rattle.someip_wire.specs.declared.header.Header.{Header}
use Rattle.someip_reassembly.specs.declared.error.TpError.{TpError}
use Rattle.someip_reassembly.specs.declared.reassembly.Offered.{Offered}
use Rattle.someip_reassembly.specs.declared.reassembly.Offered.TheVariants.{Part, Whole}
use Rattle.someip_reassembly.specs.SegmentOffers.{judgement, message_at, parts_after}
use Rattle.someip_reassembly.specs.Parts.{Limits}
use Rattle.someip_node_rules.specs.declared.config.Config.{Config}
use Rattle.someip_node_rules.specs.histories.DiscoveryQuestions.{parts_in}
use Rattle.someip_node_rules.specs.rules.Handling.{target_of}
use Rattle.someip_node_rules.specs.histories.History.{History, answers_of}
use Rattle.someip_node_rules.specs.rules.Inputs.{Datagram, plan_of}
use Rattle.someip_node_rules.specs.trails.Meetings.{MetBy}
use Rattle.someip_node_rules.specs.rules.Messages.{completed_by}
use Rattle.someip_node_rules.specs.forms.Outputs as outputs
use Rattle.someip_node_rules.specs.trails.Packets.{Came, Completes, Packet}
use Rattle.someip_node_rules.specs.histories.Questions.{clock_at}
use Rattle.someip_node_rules.specs.forms.Setups.{limits_of}
use Rattle.someip_node_rules.specs.steps.Steps.{work_on}
use Rattle.someip_node_rules.specs.histories.Tables.{Tables}
use Rattle.someip_node_rules.specs.trails.Trails.{Done, after, met_by, outcome_of, trail_of}
use Rattle.someip_node_rules.proofs.trails.MeetingLemmas.{all_met}
use Rattle.someip_node_rules.proofs.rules.PlanLemmas.{before_each}
use Rattle.someip_node_rules.proofs.rules.StepRules.{config_kept}
use Rattle.someip_world_schedule.specs.declared.step.Step.{Step}
use Rattle.someip_world_setup.specs.declared.setup_node.SetupNode.{SetupNode}
use Rattle.someip_world_rules.specs.Announced.{AllFits}
use Rattle.someip_world_rules.specs.Deliveries.{Does}
use Rattle.someip_world_rules.specs.Liars.{IsHonest}
use Rattle.someip_world_rules.proofs.Fronts.{within}
use Rattle.someip_world_rules.specs.exchanges.CleanReuse.{IsCleanBefore}
use Rattle.someip_world_rules.proofs.about_exchanges.messages.WholeLemmas.{IsForApplication}
use Rattle.someip_world_safety.specs.GivenMessages.{WasGiven}
use Rattle.someip_world_safety.proofs.messages.HeldParts.{AllHeld, Holding, came, holding_first, holding_on, of_message, source, whole_given}
use Rattle.someip_world_safety.proofs.messages.HeldRuns.{all_held, clean_before}
use Rattle.someip_world_safety.proofs.messages.SentSegments.{IsOfMessage}
use Rattle.someip_world_safety.proofs.messages.WholeGiven.{whole_was_given}

-- what was completed is the message that is whole under the key
completed_there : (judged : Result Offered TpError) (message : Option (List ℕ)) (payload : List ℕ) → completed_by judged message ≡ Some payload → message ≡ Some payload
completed_there (Ok Whole) message payload is = is
completed_there (Ok Part) message payload is = absurd cc
completed_there (Err refusal) message payload is = absurd cc

-- what holds of all holds of the first ones
front_all : {X : Type 0} (P : X → Type 0) (xs ys : List X) → AllByRecursion P (xs ++ ys) → AllByRecursion P xs
front_all P [] ys all = tt
front_all P (x ∷ xs) ys all = (all.0, front_all P xs ys all.1)

module _ (nodes : List SetupNode) (configs : List Config) (steps : List Step) where
  -- a message that a segment of a datagram from no liar made whole was given by the step that sent this segment
  segments_were_given : AllFits nodes configs steps → (n : ℕ) (does : Does nodes configs steps n) (p : Packet) (header : Header) (payload : List ℕ) (done : Done) (earlier later : List Done)
      → does.input ≡ Datagram p.from p.to p.bytes → IsHonest nodes configs (v4_ip p.from) → trail_of does.turn.history does.input ≡ earlier ++ done ∷ later → Completes p header payload earlier
      → IsCleanBefore nodes configs steps (suc n) → WasGiven nodes configs steps n p.from p.to header payload
  segments_were_given fits n does p header payload done earlier later is honest trail c clean = record {
    sent = (came nodes configs steps fits n does p is honest).sent;
    datagram = record { from = p.from; to = p.to; bytes = p.bytes };
    delivers = (came nodes configs steps fits n does p is honest).delivers;
    sends = source nodes configs steps fits n does p is honest;
    is_from = refl;
    is_to = refl;
    given = message.is ∙ ap (outputs.Sends p.from p.to) (λ i. record { header = sym message.headed i; payload = sym payload_is i });
  }
    where
      h : History
      h = does.turn.history

      -- the trail, at the rule that took the last segment
      splits : trail_of h does.input ≡ c.before ++ c.took ∷ (done ∷ later)
      splits = trail ∙ ap (λ ds. ds ++ done ∷ later) c.last ∙ append_assoc c.before (c.took ∷ []) (done ∷ later)

      at : c.took.before.state ≡ after h (met_by c.before)
      at = (before_each (plan_of does.input) (work_on h) c.before (done ∷ later) c.took splits).0

      news : AllByRecursion (MetBy h does.input) (met_by c.before)
      news =
          front_all (MetBy h does.input) (met_by c.before) (met_by (c.took ∷ (done ∷ later)))
          (subst (AllByRecursion (MetBy h does.input)) (ap met_by splits ∙ flat_map-append (λ (d : Done). (outcome_of d).items) c.before (c.took ∷ (done ∷ later))) (all_met h does.input))

      message : IsOfMessage p header c.offer (source nodes configs steps fits n does p is honest).given
      message = of_message nodes configs steps fits n does p is honest header c.offer c.segment

      was : AllHeld nodes configs steps n does.turn.place h
      was =
          let inside = within steps n does.step does.turn.here in
          all_held nodes configs steps fits n does.turn.before (omega (arith, inside)) does.turn.led (clean_before nodes configs steps fits n clean) does.turn.place h does.turn.stands

      holding : Holding nodes configs steps fits n does p is honest clean was (after h (met_by c.before)).items
      holding = holding_on nodes configs steps fits n does p is honest clean was h (met_by c.before) news (holding_first nodes configs steps fits n does p is honest clean was)

      limits : Limits
      limits = limits_of h.config

      took : Tables
      took = answers_of c.took.before.state

      whole : message_at (parts_after limits (clock_at (after h (met_by c.before)).items) c.offer (parts_in limits (after h (met_by c.before)).items)) c.offer.key ≡ Some payload
      whole =
          subst (λ g. message_at (parts_after (limits_of g) (clock_at (after h (met_by c.before)).items) c.offer (parts_in (limits_of g) (after h (met_by c.before)).items)) c.offer.key ≡ Some payload)
          (config_kept h (met_by c.before))
          (subst (λ (x : History). message_at (parts_after (limits_of x.config) (clock_at x.items) c.offer (parts_in (limits_of x.config) x.items)) c.offer.key ≡ Some payload) at
          (completed_there (judgement (limits_of took.config) took.clock c.offer took.parts) (message_at (parts_after (limits_of took.config) took.clock c.offer took.parts) c.offer.key) payload c.whole))

      payload_is : payload ≡ message.message.payload
      payload_is = whole_given nodes configs steps fits n does p is honest clean was (after h (met_by c.before)).items holding header c.offer c.segment payload whole

  -- a message that came to the application from no liar, whole or in segments, was given so by the step that sent its datagram
  pub came_was_given : AllFits nodes configs steps → (n : ℕ) (does : Does nodes configs steps n) (p : Packet) (header : Header) (payload : List ℕ) (done : Done) (earlier later : List Done)
      → does.input ≡ Datagram p.from p.to p.bytes → IsHonest nodes configs (v4_ip p.from) → trail_of does.turn.history does.input ≡ earlier ++ done ∷ later
      → IsForApplication (target_of does.turn.history.config p.to) → Came p header payload earlier → IsCleanBefore nodes configs steps (suc n)
      → WasGiven nodes configs steps n p.from p.to header payload
  came_was_given fits n does p header payload done earlier later is honest trail goal (inl whole) clean = whole_was_given nodes configs steps fits n does p header payload is honest goal whole
  came_was_given fits n does p header payload done earlier later is honest trail goal (inr completes) clean =
      segments_were_given fits n does p header payload done earlier later is honest trail completes clean
