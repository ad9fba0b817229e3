-- Moves, and the steps for which they stand after a beginning.
use Rattle.std.specs.Prelude.{ℕ, zero, suc, ◌+◌, Bool, false, not, ◌&&◌, if◌then◌else◌, List, [], ◌∷◌, ◌++◌, drop, length, map, bytes_eq, string_bytes, Option, Some, None, Result, Ok, Err}
use Rattle.std.specs.List.{flat_map, list_any}
use Rattle.someip_node_rules.specs.declared.output.Output.TheVariants.{Request}
use Rattle.someip_world_schedule.specs.declared.step.Step.{Step}
use Rattle.someip_world_schedule.specs.declared.step.Step.TheVariants.{Answer, Deliver, Restart}
use Rattle.someip_world_schedule.specs.StepNodes.{node_of}
use Rattle.someip_world_setup.specs.declared.setup_node.SetupNode.{SetupNode}
use Rattle.someip_world_rules.specs.Datagrams.{SentDatagram, datagram_in, datagrams_in}
use Rattle.someip_world_rules.specs.Deeds.{is_addressed}
use Rattle.someip_world_rules.specs.declared.error.RunError.{RunError}
use Rattle.someip_world_rules.specs.declared.line.Line.{Line}
use Rattle.someip_world_rules.specs.declared.line.Told.{Told}
use Rattle.someip_world_rules.specs.declared.line.Told.TheVariants.{Gave}
use Rattle.someip_explore.specs.declared.moves.Move.{Move}
use Rattle.someip_explore.specs.declared.moves.Move.TheVariants.{Plain, DeliverAnyTo, DeliverAny, AnswerAny}
use Rattle.someip_explore.specs.Goals.{node_name, number_after}
use Rattle.someip_explore.specs.Traces.{trace_of}

-- ---- deliveries of all that was sent

-- the numbers from 1 to n, by rise
abbrev pub numbers_to : ℕ → List ℕ
numbers_to zero = []
numbers_to (suc n) = numbers_to n ++ suc n ∷ []

-- how many datagrams some lines tell of
abbrev pub sent_in : List Line → ℕ
sent_in lines = length (datagrams_in lines)

-- a datagram may be delivered to a node that is no liar, if it was sent to its address or to the group
abbrev pub may_take : SentDatagram → SetupNode → Bool
may_take d node = not node.is_liar && is_addressed node.config d

-- the delivery of a datagram of a number to a node, if it may be delivered there
abbrev pub delivery_to : ℕ → SentDatagram → SetupNode → List Step
delivery_to number d node = if may_take d node then Deliver number (string_bytes node.name) ∷ [] else []

-- those of the datagram that a line tells of, where it has a number, in the order of the setup
abbrev pub deliveries_in : List SetupNode → ℕ → Option SentDatagram → List Step
deliveries_in nodes number None = []
deliveries_in nodes number (Some d) = flat_map (delivery_to number d) nodes

-- those of all datagrams that some lines tell of, where the next has a number
abbrev pub deliveries_from : List SetupNode → ℕ → List Line → List Step
deliveries_from nodes number [] = []
deliveries_from nodes number (line ∷ lines) =
    deliveries_in nodes number (datagram_in line) ++ deliveries_from nodes (number_after number line) lines

-- ---- answers to all that was handed up

-- a step restarts the node of a name
abbrev pub restarts : List ℕ → Step → Bool
restarts name (Restart node delay) = bytes_eq node name
restarts name step = false

-- no step behind the one of an index restarts the node of a name: they count from 1
abbrev pub lives_on : List Step → List ℕ → ℕ → Bool
lives_on steps name index = not (list_any (restarts name) (drop index steps))

-- the token under which a request is handed up
abbrev pub told_token : Told → Option ℕ
told_token (Gave (Request token instance method payload)) = token
told_token told = None

-- the token that a line hands up at the node of a name, in the present life of that
abbrev pub present_token : List SetupNode → List Step → List ℕ → Line → Option ℕ
present_token nodes steps name line =
    if bytes_eq (node_name nodes line.node) name && lives_on steps name line.step then told_token line.told else None

-- an answer, given to another token
abbrev pub with_token : ℕ → Step → Step
with_token token (Answer node old reply payload) = Answer node token reply payload
with_token token step = step

-- an answer to a token, if there is one
abbrev pub answer_to : Step → Option ℕ → List Step
answer_to answer None = []
answer_to answer (Some token) = with_token token answer ∷ []

-- ---- moves

-- The steps for which a move stands after some steps, of which these lines tell. Deliveries come in the order of their numbers,
-- and answers in that of their tokens, as they were handed up
abbrev pub stands_for : List SetupNode → List Step → List Line → Move → List Step
stands_for nodes steps lines (Plain step) = step ∷ []
stands_for nodes steps lines (DeliverAnyTo node) = map (λ number. Deliver number node) (numbers_to (sent_in lines))
stands_for nodes steps lines DeliverAny = deliveries_from nodes 1 lines
stands_for nodes steps lines (AnswerAny answer) =
    flat_map (λ line. answer_to answer (present_token nodes steps (node_of answer) line)) lines

-- the steps by which a schedule may go on, by its trace: those of the moves, in their order. None may follow a bad step
abbrev pub next_by : List SetupNode → List Move → List Step → Result (List Line) RunError → List Step
next_by nodes moves steps (Ok lines) = flat_map (stands_for nodes steps lines) moves
next_by nodes moves steps (Err error) = []

abbrev pub next_steps : List SetupNode → List Move → List Step → List Step
next_steps nodes moves steps = next_by nodes moves steps (trace_of nodes steps)
