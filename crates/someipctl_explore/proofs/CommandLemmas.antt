-- What was written of a search.
use Rattle.std.proofs.Common.{ℕ, List, Option, take}
use Rattle.std.specs.Io.KnownBytes.{Appends}
use Rattle.someip_explore.specs.Goals.{Goal}
use Rattle.someip_explore.specs.LimitValues.{LimitValues}
use Rattle.someip_explore.specs.declared.moves.Move.{Move}
use Rattle.someip_world_setup.specs.declared.setup_node.SetupNode.{SetupNode}
use Rattle.someipctl_io.specs.declared.outcome.Outcome.{Outcome}
use Rattle.someip_explore.specs.Exploring.{judged_count}
use Rattle.someipctl_explore.specs.Commands.{ExploresPartly, Tells}
use Rattle.someipctl_explore.specs.Noting.{progress_text}

-- a beginning of what is told
pub partly : (nodes : List SetupNode) (text : List ℕ) (moves : List Move) (goal : Goal) (limits : LimitValues) (Noted : List ℕ → Type 0) (outcome : Outcome) (told : List ℕ) (before after : Option (List ℕ))
    → Tells nodes text moves goal limits Noted outcome told → ((n : ℕ) × Appends before after (take n told)) → ExploresPartly nodes text moves goal limits Noted before after
partly nodes text moves goal limits Noted outcome told before after tells wrote = (outcome, told, tells, wrote.0, wrote.1)

-- what was noted by the end of a search
pub noted_at_the_end : (nodes : List SetupNode) (text : List ℕ) (moves : List Move) (goal : Goal) (limits : LimitValues) (Noted : List ℕ → Type 0) (outcome : Outcome) (told : List ℕ)
    → Tells nodes text moves goal limits Noted outcome told → (judged : ℕ) × Noted (progress_text judged)
noted_at_the_end nodes text moves goal limits Noted outcome told tells = (judged_count limits tells.1, tells.6)
