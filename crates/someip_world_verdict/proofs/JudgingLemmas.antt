-- How the verdict goes on, step by step.
use Rattle.std.proofs.Common.{◌≡◌, ◌<◌, ◌≤◌, arith, ℕ, suc, ◌+◌, true, false, List, ◌∷◌, drop, length, get_or, slice_get, Option, None, Some, refl, sym, ap, ◌∙◌}
use Rattle.std.proofs.lemmas.List.{at_drop_more}
use Rattle.std.proofs.lemmas.Option.{slice_get_past}
use Rattle.someip_world_schedule.specs.StepNodes.{node_of}
use Rattle.someip_world_schedule.specs.declared.step.Step.{Step}
use Rattle.someip_world_setup.specs.declared.setup_node.SetupNode.{SetupNode}
use Rattle.someip_world_rules.specs.Runs.{place_of}
use Rattle.someip_world_rules.specs.declared.line.Line.{Line}
use Rattle.someip_world_rules.specs.declared.reuse.Reuse.{Reuse}
use Rattle.someip_world_rules.specs.declared.reuse.Reuse.TheVariants.{Broken, Clean}
use Rattle.someip_world_verdict.specs.Books.{Book, LifeKept, breaks_at}
use Rattle.someip_world_verdict.specs.Booking.{booked}
use Rattle.someip_world_verdict.specs.Judging.{judged_at, judged_from, judged_on, other_lines, own_lines}

module _ (nodes : List SetupNode) (book : Book) (i : ℕ) (step : Step) (steps : List Step) (lines : List Line) where
  -- what is done after the step
  abbrev more : Book → Reuse
  more next = judged_from nodes (suc i) next steps (other_lines (i + 1) lines)

  -- a step of a node that is not there
  pub judged_nowhere : place_of nodes (node_of step) ≡ None → judged_from nodes i book (step ∷ steps) lines ≡ Clean
  judged_nowhere none = ap (judged_on more nodes i step (own_lines (i + 1) lines) book) none

  module _ (place : ℕ) (named : place_of nodes (node_of step) ≡ Some place) where
    at_place : judged_from nodes i book (step ∷ steps) lines ≡ judged_at more i place step (own_lines (i + 1) lines) book (slice_get nodes place) (slice_get book.lives place)
    at_place = ap (judged_on more nodes i step (own_lines (i + 1) lines) book) named

    pub judged_past_nodes : length nodes ≤ place → judged_from nodes i book (step ∷ steps) lines ≡ Clean
    judged_past_nodes past =
        at_place ∙ ap (λ node. judged_at more i place step (own_lines (i + 1) lines) book node (slice_get book.lives place)) (slice_get_past nodes place past)

    pub judged_past_lives : length book.lives ≤ place → judged_from nodes i book (step ∷ steps) lines ≡ Clean
    judged_past_lives past =
        at_place ∙ ap (λ life. judged_at more i place step (own_lines (i + 1) lines) book (slice_get nodes place) life) (slice_get_past book.lives place past)
        ∙ none (slice_get nodes place)
      where
        none : (node : Option SetupNode) → judged_at more i place step (own_lines (i + 1) lines) book node None ≡ Clean
        none None = refl
        none (Some node) = refl

    module _ (node : SetupNode) (here : slice_get nodes place ≡ Some node) (life : LifeKept) (lives : slice_get book.lives place ≡ Some life) where
      at_node : judged_from nodes i book (step ∷ steps) lines ≡ judged_at more i place step (own_lines (i + 1) lines) book (Some node) (Some life)
      at_node = at_place ∙ (λ k. judged_at more i place step (own_lines (i + 1) lines) book (here k) (lives k))

      pub judged_broken : breaks_at node.config.common.reassembly_timeout_ms book life step ≡ true → judged_from nodes i book (step ∷ steps) lines ≡ Broken (i + 1)
      judged_broken breaks = at_node ∙ rw breaks refl

      pub judged_more : breaks_at node.config.common.reassembly_timeout_ms book life step ≡ false
          → judged_from nodes i book (step ∷ steps) lines ≡ judged_from nodes (suc i) (booked node.config i place step (own_lines (i + 1) lines) life book) steps (other_lines (i + 1) lines)
      judged_more goes_on = at_node ∙ rw goes_on refl

-- the same of the steps that are left of a schedule
pub judged_left : (nodes : List SetupNode) (book : Book) (i : ℕ) (step : Step) (steps : List Step) (lines : List Line) → i < length steps → step ≡ get_or steps i step
    → judged_from nodes i book (drop i steps) lines ≡ judged_from nodes i book (step ∷ drop (i + 1) steps) lines
judged_left nodes book i step steps lines lt is =
    at_drop_more (λ ss. judged_from nodes i book ss lines) steps i step lt ∙ ap (λ s. judged_from nodes i book (s ∷ drop (i + 1) steps) lines) (sym is)

pub judged_counted : (nodes : List SetupNode) (book : Book) (i : ℕ) (steps : List Step) (lines : List Line) → judged_from nodes (suc i) book steps lines ≡ judged_from nodes (i + 1) book steps lines
judged_counted nodes book i steps lines = let counted : suc i ≡ i + 1 = omega arith in ap (λ k. judged_from nodes k book steps lines) counted
