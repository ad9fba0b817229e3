-- The verdict on a run, by what is kept of its steps.
use Rattle.std.specs.Prelude.{ℕ, suc, ◌+◌, ◌==◌, if◌then◌else◌, List, [], ◌∷◌, Option, None, Some, slice_get, map}
use Rattle.std.specs.FinMap as finite
use Rattle.someip_world_schedule.specs.StepNodes.{node_of}
use Rattle.someip_world_schedule.specs.declared.step.Step.{Step}
use Rattle.someip_world_setup.specs.declared.setup_node.SetupNode.{SetupNode}
use Rattle.someip_world_rules.specs.Runs.{place_of}
use Rattle.someip_world_rules.specs.declared.line.Line.{Line}
use Rattle.someip_world_rules.specs.declared.reuse.Reuse.{Reuse}
use Rattle.someip_world_rules.specs.declared.reuse.Reuse.TheVariants.{Broken, Clean}
use Rattle.someip_world_verdict.specs.Books.{Book, LifeKept, breaks_at, new_life, none_taken}
use Rattle.someip_world_verdict.specs.Booking.{booked}

-- the lines of the step of an index, which come first
abbrev pub own_lines : ℕ → List Line → List Line
own_lines index [] = []
own_lines index (line ∷ lines) = if line.step == index then line ∷ own_lines index lines else []

-- those of the steps after it
abbrev pub other_lines : ℕ → List Line → List Line
other_lines index [] = []
other_lines index (line ∷ lines) = if line.step == index then other_lines index lines else line ∷ lines

-- nothing has happened
abbrev pub first_book : List SetupNode → Book
first_book nodes = record { taken = none_taken; notes = []; lives = map (λ node. new_life) nodes; payloads = finite.empty }

-- the first of some steps that breaks clean reuse, where the step that is next has this index, from 0
abbrev pub judged_at : (Book → Reuse) → ℕ → ℕ → Step → List Line → Book → Option SetupNode → Option LifeKept → Reuse
judged_at more n place step lines book (Some node) (Some life) =
    if breaks_at node.config.common.reassembly_timeout_ms book life step then Broken (n + 1)
    else more (booked node.config n place step lines life book)
judged_at more n place step lines book _ _ = Clean

abbrev pub judged_on : (Book → Reuse) → List SetupNode → ℕ → Step → List Line → Book → Option ℕ → Reuse
judged_on more nodes n step lines book None = Clean
judged_on more nodes n step lines book (Some place) = judged_at more n place step lines book (slice_get nodes place) (slice_get book.lives place)

abbrev pub judged_from : List SetupNode → ℕ → Book → List Step → List Line → Reuse
judged_from nodes n book [] lines = Clean
judged_from nodes n book (step ∷ steps) lines =
    judged_on (λ next. judged_from nodes (suc n) next steps (other_lines (n + 1) lines)) nodes n step (own_lines (n + 1) lines) book
    (place_of nodes (node_of step))

-- the verdict on some steps that are told by these lines
abbrev pub judged : List SetupNode → List Step → List Line → Reuse
judged nodes steps lines = judged_from nodes 0 (first_book nodes) steps lines
