-- The trace of a worked run of two nodes: a schedule of eleven steps, and the lines that it tells.
use Rattle.std.specs.Prelude.{◌≡◌, ℕ, false, List, [], ◌∷◌, string_bytes, Some}
use Rattle.someip_rpc.specs.declared.call.CallKind.TheVariants as kinds
use Rattle.someip_rpc.specs.declared.request.Reply.TheVariants.{Response}
use Rattle.someip_node_rules.specs.declared.output.Output.{Output}
use Rattle.someip_node_rules.specs.declared.output.Output.TheVariants.{Accepted, Answered, Called, Event, Known, Request, Subscribed}
use Rattle.someip_node_laws.specs.WorkedExamples.{client, instance, server}
use Rattle.someip_node_laws.specs.WorkedRun.{ack_packet, answer_packet, call_packet, event_packet, eventgroup, goes, method, offer_packet, subscribe_packet}
use Rattle.someip_world_schedule.specs.declared.step.Step.{Step}
use Rattle.someip_world_schedule.specs.declared.step.Step.TheVariants.{Tick, Deliver, Call, Answer, Publish, Subscribe}
use Rattle.someip_world_setup.specs.declared.setup_node.SetupNode.{SetupNode}
use Rattle.someip_world_rules.specs.declared.line.Line.{Line}
use Rattle.someip_world_rules.specs.declared.line.Told.TheVariants.{Gave}

-- the names a and b
abbrev pub a : List ℕ
a = 0x61 ∷ []

abbrev pub b : List ℕ
b = 0x62 ∷ []

-- two nodes have these names, are no liars, and send their first Offers and Finds after 10 milliseconds
pub record AreNamed (first second : SetupNode) : Type 0 where
  pub first_name : string_bytes first.name ≡ a
  pub second_name : string_bytes second.name ≡ b
  pub first_delay : first.delay ≡ 10
  pub second_delay : second.delay ≡ 10
  pub first_honest : first.is_liar ≡ false
  pub second_honest : second.is_liar ≡ false

-- the schedule: an Offer, a call and its answer, a Subscribe and its Ack, and an event, each delivered
abbrev pub schedule : List Step
schedule =
    Tick a 10
    ∷ Deliver 1 b
    ∷ Call b kinds.Request instance 0x0421 (1 ∷ 2 ∷ [])
    ∷ Deliver 2 a
    ∷ Answer a 1 (Response (record { 0 = 0 })) (3 ∷ [])
    ∷ Deliver 3 b
    ∷ Subscribe b eventgroup
    ∷ Deliver 4 a
    ∷ Deliver 5 b
    ∷ Publish a instance 0x8001 (0x2a ∷ [])
    ∷ Deliver 6 b
    ∷ []

-- a node gives an output in a step
abbrev pub gave : ℕ → ℕ → Output → Line
gave step node output = record { step = step; node = node; told = Gave output }

-- what it tells, with the node a at the place 0 and the node b at the place 1
abbrev pub trace : List Line
trace =
    gave 1 0 (goes (offer_packet 3))
    ∷ gave 2 1 (Known instance server)
    ∷ gave 3 1 (Called method 1)
    ∷ gave 3 1 (goes call_packet)
    ∷ gave 4 0 (Request (Some 1) instance 0x0421 (1 ∷ 2 ∷ []))
    ∷ gave 5 0 (goes answer_packet)
    ∷ gave 6 1 (Answered method 1 (record { 0 = 0 }) (3 ∷ []))
    ∷ gave 7 1 (goes subscribe_packet)
    ∷ gave 8 0 (Accepted eventgroup client 0)
    ∷ gave 8 0 (goes (ack_packet 0))
    ∷ gave 9 1 (Subscribed eventgroup 0)
    ∷ gave 10 0 (goes event_packet)
    ∷ gave 11 1 (Event instance 0x8001 (0x2a ∷ []))
    ∷ []
