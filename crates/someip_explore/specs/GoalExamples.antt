-- A trace of three lines, and goals that it reaches or does not.
use Rattle.std.specs.Prelude.{ℕ, List, [], ◌∷◌, codes}
use Rattle.someip_node_rules.specs.declared.drops.DropReason.TheVariants.{NotPending}
use Rattle.someip_node_rules.specs.declared.output.Output.TheVariants.{Dropped, Gone}
use Rattle.someip_world_rules.specs.declared.line.Line.{Line}
use Rattle.someip_world_rules.specs.declared.line.Told.TheVariants.{Gave}
use Rattle.someip_explore.specs.Goals.{Goal}

-- an instance is gone in the first step, an Ack is dropped in the second, and the instance is gone again in the third; the
-- node has no name
abbrev pub three_lines : List Line
three_lines =
    record { step = 1; node = 0; told = Gave (Gone (record { service = 0x1111; instance = 1 })) }
    ∷ record { step = 2; node = 0; told = Gave (Dropped NotPending) }
    ∷ record { step = 3; node = 0; told = Gave (Gone (record { service = 0x1111; instance = 1 })) } ∷ []

-- a line that tells so
abbrev pub told_as : List (List ℕ) → List (List ℕ)
told_as words = [] ∷ words

-- an Ack is dropped, where each of some words stands before it, and none of others
abbrev pub ack_dropped : List (List (List ℕ)) → List (List (List ℕ)) → Goal
ack_dropped once never = record { words = told_as (codes "dropped" ∷ codes "NotPending" ∷ []); once = once; never = never }

-- a step breaks clean reuse, where each of some words stands in a line, and none of others
abbrev pub broken_reuse : List (List (List ℕ)) → List (List (List ℕ)) → Goal
broken_reuse once never = record { words = codes "reuse" ∷ codes "broken" ∷ []; once = once; never = never }
