-- The verdict on a run in which an answer comes late.
use Rattle.std.proofs.Common.{◌≡◌, ℕ, List, [], ◌∷◌, drop, None, Some, refl, ap, ◌∙◌}
use Rattle.std.specs.FinMap as finite
use Rattle.std.specs.FinMap.{FinMap}
use Rattle.std.specs.Ordering.{nat_cmp}
use Rattle.someip_wire.specs.Reading.{items_within}
use Rattle.sd_wire.specs.decoding.Program.{options_within}
use Rattle.someip_rpc.specs.declared.call.CallKind.TheVariants as kinds
use Rattle.someip_rpc.specs.declared.request.Reply.TheVariants.{Response}
use Rattle.someip_node_laws.specs.WorkedExamples.{instance}
use Rattle.someip_world_schedule.specs.declared.step.Step.{Step}
use Rattle.someip_world_schedule.specs.declared.step.Step.TheVariants.{Tick, Deliver, Call, Answer, Restart}
use Rattle.someip_world_setup.specs.declared.setup_node.SetupNode.{SetupNode}
use Rattle.someip_world_rules.specs.declared.line.Line.{Line}
use Rattle.someip_world_rules.specs.declared.reuse.Reuse.TheVariants.{Broken, Clean}
use Rattle.someip_world_rules.specs.WorkedTrace.{AreNamed, a, b}
use Rattle.someip_world_rules.specs.declared.exchanges.naming.Side.TheVariants.{Answerer, Opener}
use Rattle.someip_world_verdict.specs.Books.{Book, TakenKeys, new_life, none_taken}
use Rattle.someip_world_verdict.specs.Booking.{handed_up}
use Rattle.someip_world_verdict.specs.Judging.{first_book, judged, judged_from}
use Rattle.someip_world_rules.specs.LateAnswer.{answered_late, answered_late_lines}
use Rattle.someip_world_verdict.proofs.examples.WorkedSteps.{breach_is, breaks_of_b, kept, life_with, note, offer_note, of_a, of_b, taken_by, token_last}

module _ (first second : SetupNode) (named : AreNamed first second) where
  abbrev nodes : List SetupNode
  nodes = first ∷ second ∷ []

  -- ---- what is kept

  -- the key is taken by the first call, and by the second
  abbrev once : TakenKeys
  once = taken_by 0x0421 2 none_taken

  abbrev twice : TakenKeys
  twice = taken_by 0x0421 6 once

  -- the token of the first request
  abbrev tokens : FinMap nat_cmp ℕ
  tokens = finite.insert finite.empty 1 2

  -- all of it, after the steps that change it
  abbrev offered : Book
  offered = kept none_taken (offer_note ∷ []) finite.empty

  abbrev called_once : Book
  called_once = kept once (offer_note ∷ note 2 None Opener 0x0421 ∷ []) finite.empty

  abbrev asked : Book
  asked = kept once (offer_note ∷ note 2 None Opener 0x0421 ∷ []) tokens

  abbrev called_twice : Book
  called_twice = kept twice (offer_note ∷ note 2 None Opener 0x0421 ∷ note 6 None Opener 0x0421 ∷ []) tokens

  abbrev answered : Book
  answered = kept twice (offer_note ∷ note 2 None Opener 0x0421 ∷ note 6 None Opener 0x0421 ∷ note 7 (Some 2) Answerer 0x0421 ∷ []) tokens

  module _ (number : ℕ) (node : List ℕ) where
    -- the steps from one on, and the lines from one on
    abbrev from : ℕ → List Step
    from n = drop n (answered_late number node)

    abbrev lines : ℕ → List Line
    lines n = drop n answered_late_lines

    step1 : judged_from nodes 0 (first_book nodes) (from 0) (lines 0) ≡ judged_from nodes 1 offered (from 1) (lines 1)
    unfolding items_within options_within
    step1 = of_a first second named 0 (Tick a 10) (from 1) (lines 0) (first_book nodes) new_life offered refl refl refl refl

    step2 : judged_from nodes 1 offered (from 1) (lines 1) ≡ judged_from nodes 2 offered (from 2) (lines 2)
    step2 = of_b first second named 1 (Deliver 1 b) (from 2) (lines 1) offered new_life offered refl refl refl refl

    step3 : judged_from nodes 2 offered (from 2) (lines 2) ≡ judged_from nodes 3 called_once (from 3) (lines 4)
    unfolding items_within
    step3 = of_b first second named 2 (Call b kinds.Request instance 0x0421 (1 ∷ 2 ∷ [])) (from 3) (lines 2) offered new_life called_once refl refl refl refl

    step4 : judged_from nodes 3 called_once (from 3) (lines 4) ≡ judged_from nodes 4 asked (from 4) (lines 5)
    step4 = of_a first second named 3 (Deliver 2 a) (from 4) (lines 4) called_once (life_with finite.empty) asked refl refl (breach_is first.config.common.reassembly_timeout_ms none_taken (life_with finite.empty) 2 None Opener 0x0421 2) refl

    step5 : judged_from nodes 4 asked (from 4) (lines 5) ≡ judged_from nodes 5 asked (from 5) (lines 5)
    step5 = of_b first second named 4 (Restart b 10) (from 5) (lines 5) asked new_life asked refl refl refl refl

    step6 : judged_from nodes 5 asked (from 5) (lines 5) ≡ judged_from nodes 6 asked (from 6) (lines 6)
    step6 = of_b first second named 5 (Deliver 1 b) (from 6) (lines 5) asked new_life asked refl refl refl refl

    step7 : judged_from nodes 6 asked (from 6) (lines 6) ≡ judged_from nodes 7 called_twice (from 7) (lines 8)
    unfolding items_within
    step7 = of_b first second named 6 (Call b kinds.Request instance 0x0421 (9 ∷ [])) (from 7) (lines 6) asked new_life called_twice refl refl refl refl

    step8 : judged_from nodes 7 called_twice (from 7) (lines 8) ≡ judged_from nodes 8 answered (from 8) (lines 9)
    unfolding items_within
    step8 = of_a first second named 7 (Answer a 1 (Response (record { 0 = 0 })) (3 ∷ [])) (from 8) (lines 8) called_twice (life_with tokens) answered refl refl refl (ap (λ answers. kept twice (offer_note ∷ note 2 None Opener 0x0421 ∷ note 6 None Opener 0x0421 ∷ note 7 answers Answerer 0x0421 ∷ []) (handed_up answers [] tokens)) (token_last finite.empty 1 2))

    before_last : judged nodes (answered_late number node) answered_late_lines ≡ judged_from nodes 8 answered (Deliver number node ∷ []) []
    before_last = step1 ∙ step2 ∙ step3 ∙ step4 ∙ step5 ∙ step6 ∙ step7 ∙ step8

  -- the answer is that of the first call, and the second request is delivered to a
  pub old_answer : judged nodes (answered_late 4 b) answered_late_lines ≡ Broken 9
  old_answer = before_last 4 b ∙ breaks_of_b first second named 8 (Deliver 4 b) [] [] answered new_life refl refl (breach_is second.config.common.reassembly_timeout_ms once new_life 7 (Some 2) Answerer 0x0421 6)

  pub second_request : judged nodes (answered_late 3 a) answered_late_lines ≡ Clean
  second_request = before_last 3 a ∙ of_a first second named 8 (Deliver 3 a) [] [] answered (life_with tokens) answered refl refl (breach_is first.config.common.reassembly_timeout_ms once (life_with tokens) 6 None Opener 0x0421 6) refl
