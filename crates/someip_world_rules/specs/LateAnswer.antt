-- The trace of a worked run in which an answer comes late: the client began again since its call, made another with the key of the
-- first, and takes the answer of the first for that of the second.
use Rattle.std.specs.Prelude.{ℕ, List, [], ◌∷◌, ◌++◌, Some}
use Rattle.someip_rpc.specs.declared.call.CallKind.TheVariants as kinds
use Rattle.someip_rpc.specs.declared.request.Reply.TheVariants.{Response}
use Rattle.someip_node_rules.specs.declared.output.Output.TheVariants.{Answered, Called, Known, Request, Sent}
use Rattle.someip_node_laws.specs.WorkedExamples.{client, instance, server}
use Rattle.someip_node_laws.specs.WorkedRun.{answer_packet, call_packet, goes, method, offer_packet}
use Rattle.someip_world_schedule.specs.declared.step.Step.{Step}
use Rattle.someip_world_schedule.specs.declared.step.Step.TheVariants.{Tick, Deliver, Call, Answer, Restart}
use Rattle.someip_world_rules.specs.declared.line.Line.{Line}
use Rattle.someip_world_rules.specs.WorkedTrace.{a, b, gave}

-- a call of a method takes the first session
abbrev pub called_first : ℕ → ℕ → Line
called_first step method = gave step 1 (Called (record { service = 0x1111; method = method }) 1)

-- a message for the method 0421 or 0422, of a type, with one byte
abbrev pub asking_with : ℕ → ℕ → ℕ → List ℕ
asking_with method kind byte = 0x11 ∷ 0x11 ∷ 4 ∷ method ∷ 0 ∷ 0 ∷ 0 ∷ 9 ∷ 1 ∷ 2 ∷ 0 ∷ 1 ∷ 1 ∷ 1 ∷ kind ∷ 0 ∷ byte ∷ []

-- a takes the first request, and answers it when b has called again; then a datagram is delivered
abbrev pub answered_late : ℕ → List ℕ → List Step
answered_late number node =
    Tick a 10
    ∷ Deliver 1 b
    ∷ Call b kinds.Request instance 0x0421 (1 ∷ 2 ∷ [])
    ∷ Deliver 2 a
    ∷ Restart b 10
    ∷ Deliver 1 b
    ∷ Call b kinds.Request instance 0x0421 (9 ∷ [])
    ∷ Answer a 1 (Response (record { 0 = 0 })) (3 ∷ [])
    ∷ Deliver number node
    ∷ []

-- what is told before that delivery
abbrev pub answered_late_lines : List Line
answered_late_lines =
    gave 1 0 (goes (offer_packet 3))
    ∷ gave 2 1 (Known instance server)
    ∷ called_first 3 0x0421
    ∷ gave 3 1 (goes call_packet)
    ∷ gave 4 0 (Request (Some 1) instance 0x0421 (1 ∷ 2 ∷ []))
    ∷ gave 6 1 (Known instance server)
    ∷ called_first 7 0x0421
    ∷ gave 7 1 (Sent client server (asking_with 0x21 0x00 9))
    ∷ gave 8 0 (goes answer_packet)
    ∷ []

-- the trace, where it is the answer that is delivered, to b
abbrev pub answered_late_trace : List Line
answered_late_trace = answered_late_lines ++ gave 9 1 (Answered method 1 (record { 0 = 0 }) (3 ∷ [])) ∷ []
