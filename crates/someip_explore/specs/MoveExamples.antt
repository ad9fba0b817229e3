-- Steps and lines in which requests are handed up, and an answer to them. The node has no name.
use Rattle.std.specs.Prelude.{ℕ, List, [], ◌∷◌, Option, Some, None}
use Rattle.someip_node_rules.specs.declared.output.Output.TheVariants.{Request}
use Rattle.someip_rpc.specs.declared.request.Reply.TheVariants.{Response}
use Rattle.someip_world_schedule.specs.declared.step.Step.{Step}
use Rattle.someip_world_schedule.specs.declared.step.Step.TheVariants.{Answer, Deliver}
use Rattle.someip_world_rules.specs.declared.line.Line.{Line}
use Rattle.someip_world_rules.specs.declared.line.Told.TheVariants.{Gave}

-- a step hands up a request with a token, or without one
abbrev pub handed_up : ℕ → Option ℕ → Line
handed_up step token = record { step = step; node = 0; told = Gave (Request token (record { service = 0x1111; instance = 1 }) 0x0421 []) }

-- the tokens 1 and 2 in the first steps, a request without a token in the third, and the token 1 again in the fifth
abbrev pub requests : List Line
requests = handed_up 1 (Some 1) ∷ handed_up 2 (Some 2) ∷ handed_up 3 None ∷ handed_up 5 (Some 1) ∷ []

-- the steps: in the fourth the node is restarted, or its clock goes on
abbrev pub steps_with : Step → List Step
steps_with fourth = Deliver 1 [] ∷ Deliver 2 [] ∷ Deliver 3 [] ∷ fourth ∷ Deliver 1 [] ∷ []

-- the answer to a token
abbrev pub answer_with : ℕ → Step
answer_with token = Answer [] token (Response (record { 0 = 0 })) (3 ∷ [])
