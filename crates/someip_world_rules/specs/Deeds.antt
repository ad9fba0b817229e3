-- What is done at a node in a step, or why the step is bad.
use Rattle.std.specs.Prelude.{ℕ, ◌+◌, Bool, true, false, ◌||◌, if◌then◌else◌, nat_lt, List, [], ◌∷◌, length, Option, None, Some, Result, Ok, Err}
use Rattle.std.specs.declared.net.ipv4_addr.Ipv4Addr.{Ipv4Addr}
use Rattle.std.specs.declared.net.socket_addr.SocketAddrV4.{SocketAddrV4}
use Rattle.someip_node_rules.specs.declared.config.Config.{Config}
use Rattle.someip_node_rules.specs.forms.GoodConfigs.{is_good_delay}
use Rattle.someip_node_rules.specs.rules.Handling.{same_address}
use Rattle.someip_node_rules.specs.histories.History.{History, start_of}
use Rattle.someip_node_rules.specs.rules.Inputs as input
use Rattle.someip_node_rules.specs.rules.Plans.{Work}
use Rattle.someip_node_rules.specs.histories.Questions.{clock_at}
use Rattle.someip_node_rules.specs.steps.Steps.{step, work_on}
use Rattle.someip_node_rules.specs.declared.error.NodeError.{NodeError}
use Rattle.someip_node_rules.specs.declared.output.Output.TheVariants.{Sent}
use Rattle.someip_world_schedule.specs.declared.step.Step.{Step}
use Rattle.someip_world_schedule.specs.declared.step.Step.TheVariants.{Tick, Deliver, Call, Answer, Publish, PublishTo, Subscribe, Unsubscribe, StopOffer, Restart, Inject}
use Rattle.someip_world_rules.specs.declared.line.Line.{Line}
use Rattle.someip_world_rules.specs.declared.step_fault.StepFault.{StepFault}
use Rattle.someip_world_rules.specs.declared.step_fault.StepFault.TheVariants.{NotLiar, IsLiar, NoSuchDatagram, NotAddressed, ClockPast, PayloadTooLong, BadDelay}
use Rattle.someip_world_rules.specs.Datagrams.{SentDatagram, datagram_at}

-- What is done at a node: it takes an input, or it is started again with a delay. At a liar none of that is done: it sends a
-- datagram from an endpoint to another, of any bytes
pub data Deed : Type 0 where
  Takes : input.Input → Deed
  Restarts : ℕ → Deed
  Injects : SocketAddrV4 → SocketAddrV4 → List ℕ → Deed

-- the greatest clock, in milliseconds
abbrev pub clock_limit : ℕ
clock_limit = 0x7FFF_FFFF_FFFF_FFFF

-- a datagram may be delivered to the node that it was sent to, and to each node where it was sent to the group
abbrev pub is_addressed : Config → SentDatagram → Bool
is_addressed config d = same_address d.to.ip config.address || same_address d.to.ip config.common.group

-- a datagram is delivered
abbrev pub delivery : Config → Option SentDatagram → Result Deed StepFault
delivery config None = Err NoSuchDatagram
delivery config (Some d) = if is_addressed config d then Ok (Takes (input.Datagram d.from d.to d.bytes)) else Err NotAddressed

-- an input with a payload, which may not be longer than a message may be
abbrev pub unless_long : Config → List ℕ → input.Input → Result Deed StepFault
unless_long config payload i = if nat_lt config.common.message_limit (length payload) then Err PayloadTooLong else Ok (Takes i)

-- the clock goes on
abbrev pub tick_deed : History → ℕ → Result Deed StepFault
tick_deed h ms = if nat_lt clock_limit (clock_at h.items + ms) then Err ClockPast else Ok (Takes (input.Tick ms))

-- the node is started again, with a delay in the range that the setup gives
abbrev pub restart_deed : Config → ℕ → Result Deed StepFault
restart_deed config delay = if is_good_delay config delay then Ok (Restarts delay) else Err BadDelay

-- what a step does at a node with a history, after the lines of the steps before it
abbrev pub deed_of : History → List Line → Step → Result Deed StepFault
deed_of h lines (Tick node ms) = tick_deed h ms
deed_of h lines (Deliver number node) = delivery h.config (datagram_at lines number)
deed_of h lines (Call node kind instance method payload) = unless_long h.config payload (input.Call kind instance method payload)
deed_of h lines (Answer node token reply payload) = unless_long h.config payload (input.Answer token reply payload)
deed_of h lines (Publish node instance event payload) = unless_long h.config payload (input.Publish instance event payload)
deed_of h lines (PublishTo node eventgroup to event payload) =
    unless_long h.config payload (input.PublishTo eventgroup.instance eventgroup.id to event payload)
deed_of h lines (Subscribe node eventgroup) = Ok (Takes (input.Subscribe eventgroup))
deed_of h lines (Unsubscribe node eventgroup) = Ok (Takes (input.Unsubscribe eventgroup))
deed_of h lines (StopOffer node instance) = Ok (Takes (input.StopOffer instance))
deed_of h lines (Restart node delay) = restart_deed h.config delay
deed_of h lines (Inject node port to payload) = Err NotLiar

-- ---- liars

-- the greatest payload of a UDP datagram over IPv4, in bytes: 65535 without headers of 20 and 8 bytes (RFC 791, 3.1 "Total
-- Length"; RFC 768, "Length")
abbrev pub datagram_limit : ℕ
datagram_limit = 65507

-- bytes go out from a port of an address, as many as a datagram may have
abbrev pub injection : Ipv4Addr → ℕ → SocketAddrV4 → List ℕ → Result Deed StepFault
injection address port to bytes =
    if nat_lt datagram_limit (length bytes) then Err PayloadTooLong else Ok (Injects (record { ip = address; port = port }) to bytes)

-- what a step does at a liar of an address: it sends what the step says, and takes nothing
abbrev pub liar_deed : Ipv4Addr → Step → Result Deed StepFault
liar_deed address (Inject node port to payload) = injection address port to payload
liar_deed address s = Err IsLiar

-- ---- a step

-- what a step does at the place of a node or a liar
abbrev pub deed_at : Bool → History → List Line → Step → Result Deed StepFault
deed_at true h lines s = liar_deed h.config.address s
deed_at false h lines s = deed_of h lines s

-- what the node gives, and its history then; or its refusal. What a liar sends changes no history
abbrev pub done_with : History → Deed → Result (Work History) NodeError
done_with h (Takes i) = step h i
done_with h (Restarts delay) = Ok (work_on (start_of h.config delay))
done_with h (Injects from to bytes) = Ok (record (work_on h) { outputs = Sent from to bytes ∷ [] })
