-- What a node does with an input, as data: rules one after the other, each of which asks what the node met before it.
use Rattle.std.specs.Prelude.{ℕ, List, [], ◌∷◌, ◌++◌}
use Rattle.std.specs.List.{flat_map, fold}
use Rattle.std.specs.declared.net.ipv4_addr.Ipv4Addr.{Ipv4Addr}
use Rattle.std.specs.declared.net.socket_addr.SocketAddrV4.{SocketAddrV4}
use Rattle.someip_wire.specs.declared.header.Header.{Header}
use Rattle.someip_reassembly.specs.SegmentOffers.{SegmentOffer}
use Rattle.sd_wire.specs.declared.entry.EventgroupEntry.{EventgroupEntry}
use Rattle.sd_wire.specs.declared.entry.ServiceEntry.{ServiceEntry}
use Rattle.sd_wire.specs.contents.Values.{EntryValue}
use Rattle.sd_session.specs.declared.stamp.Channel.{Channel}
use Rattle.sd_session.specs.declared.stamp.Stamp.{Stamp}
use Rattle.sd_core.specs.declared.eventgroup.Eventgroup.{Eventgroup}
use Rattle.sd_core.specs.declared.keys.InstanceId.{InstanceId}
use Rattle.sd_core.specs.declared.received.ReceivedOffer.{ReceivedOffer}
use Rattle.sd_core.specs.declared.wish.Beginning.{Beginning}
use Rattle.std.specs.Prelude.{Option}
use Rattle.someip_rpc.specs.declared.call.CallKind.{CallKind}
use Rattle.someip_rpc.specs.declared.request.Reply.{Reply}
use Rattle.someip_node_rules.specs.declared.drops.DropReason.{DropReason}
use Rattle.someip_node_rules.specs.declared.output.Output.{Output}
use Rattle.someip_node_rules.specs.rules.Announcing.{announces, replies_to}
use Rattle.someip_node_rules.specs.rules.Answering.{answers}
use Rattle.someip_node_rules.specs.rules.Calling.{calls}
use Rattle.someip_node_rules.specs.rules.ClientSubscribing.{takes_back, wishes}
use Rattle.someip_node_rules.specs.rules.Offering.{stops}
use Rattle.someip_node_rules.specs.rules.Publishing.{publishes, publishes_to}
use Rattle.someip_node_rules.specs.rules.Ticking.{ticks}
use Rattle.someip_node_rules.specs.histories.Items.{Item, changed}
use Rattle.someip_node_rules.specs.rules.Learning.{ack, hearing, nack, offer, stop_offer}
use Rattle.someip_node_rules.specs.rules.Messages.{answer, event, request, segment}
use Rattle.someip_node_rules.specs.rules.Outcomes.{Outcome, dropped}
use Rattle.someip_node_rules.specs.forms.Outputs.{written}
use Rattle.someip_node_rules.specs.rules.Offering.{find_service}
use Rattle.someip_node_rules.specs.rules.ServerSubscribing.{stop_subscribe, subscribe}
use Rattle.someip_node_rules.specs.histories.Tables.{Tables}

-- ---- rules

pub data Rule : Type 0 where
  -- what came is dropped
  Drops : DropReason → Rule
  -- a segment came, a message came to an instance, and an answer or an event came to the client
  TakesSegment : SegmentOffer → Rule
  TakesRequest : InstanceId → SocketAddrV4 → Header → List ℕ → Rule
  TakesAnswer : SocketAddrV4 → Header → List ℕ → Rule
  TakesEvent : SocketAddrV4 → Header → List ℕ → Rule
  -- a message of Service Discovery came
  Hears : Ipv4Addr → Channel → Stamp → Rule
  -- its entries, each with the peer that they came from
  TakesFind : ServiceEntry → Rule
  TakesOffer : ReceivedOffer → Rule
  TakesStopOffer : InstanceId → ℕ → Ipv4Addr → Rule
  TakesSubscribe : Ipv4Addr → EventgroupEntry → Option SocketAddrV4 → Rule
  TakesStopSubscribe : Ipv4Addr → EventgroupEntry → Option SocketAddrV4 → Rule
  TakesAck : Ipv4Addr → EventgroupEntry → Rule
  TakesNack : Ipv4Addr → EventgroupEntry → Rule
  -- a message of Service Discovery is sent to the group, or to a peer
  Announces : List EntryValue → Rule
  RepliesTo : Ipv4Addr → List EntryValue → Rule
  -- the clock goes on
  Ticks : ℕ → Rule
  -- the application calls, answers, publishes, wishes, takes a wish back and stops an offer
  Calls : CallKind → InstanceId → ℕ → List ℕ → Rule
  Answers : ℕ → Reply → List ℕ → Rule
  Publishes : InstanceId → ℕ → List ℕ → Rule
  PublishesTo : InstanceId → SocketAddrV4 → ℕ → List ℕ → Rule
  Wishes : Eventgroup → Rule
  TakesBack : Eventgroup → Option Beginning → Rule
  Stops : InstanceId → Rule

abbrev pub rule : Rule → Tables → Outcome
rule (Drops reason) t = dropped reason
rule (TakesSegment o) t = segment o t
rule (TakesRequest instance from header payload) t = request instance from header payload t
rule (TakesAnswer from header payload) t = answer from header payload t
rule (TakesEvent from header payload) t = event from header payload t
rule (Hears peer channel stamp) t = hearing peer channel stamp t
rule (TakesFind head) t = find_service head t
rule (TakesOffer o) t = offer o t
rule (TakesStopOffer instance major peer) t = stop_offer instance major peer t
rule (TakesSubscribe peer head endpoint) t = subscribe peer head endpoint t
rule (TakesStopSubscribe peer head endpoint) t = stop_subscribe peer head endpoint
rule (TakesAck peer head) t = ack peer head t
rule (TakesNack peer head) t = nack peer head t
rule (Announces entries) t = announces entries t
rule (RepliesTo peer entries) t = replies_to peer entries t
rule (Ticks ms) t = ticks ms t
rule (Calls kind instance method payload) t = calls kind instance method payload t
rule (Answers token reply payload) t = answers token reply payload t
rule (Publishes instance event payload) t = publishes instance event payload t
rule (PublishesTo instance endpoint event payload) t = publishes_to instance endpoint event payload t
rule (Wishes eventgroup) t = wishes eventgroup t
rule (TakesBack eventgroup beginning) t = takes_back eventgroup beginning t
rule (Stops instance) t = stops instance t

-- ---- plans

pub data Plan : Type 0 where
  -- nothing, one rule, two plans one after the other
  rest : Plan
  act : Rule → Plan
  both : Plan → Plan → Plan
  -- what is done depends on what the node met
  asks : (Tables → Plan) → Plan
  -- what is done with the replies so far, of which none is left then
  replying : (List EntryValue → Plan) → Plan

-- for each of several things, in order
abbrev pub each : {X : Type 0} → (X → Plan) → List X → Plan
each f [] = rest
each f (x ∷ xs) = both (f x) (each f xs)

-- ---- how a plan is run, over anything that can be asked and that meets items: the tables of a node, or its history

pub record Kept (S : Type 0) : Type 0 where
  pub ask : S → Tables
  pub meet : S → Item → S

-- a state, what was given so far, and the replies that were not sent yet
pub record Work (S : Type 0) : Type 0 where
  pub state : S
  pub outputs : List Output
  pub replies : List EntryValue

-- a rule asks the state before it, which then meets its items
abbrev pub does : {S : Type 0} → Kept S → (Tables → Outcome) → Work S → Work S
does k outcome w = record {
  state = fold k.meet w.state (outcome (k.ask w.state)).items;
  outputs = w.outputs ++ flat_map written (outcome (k.ask w.state)).given;
  replies = w.replies ++ (outcome (k.ask w.state)).replies;
}

abbrev pub run : {S : Type 0} → Kept S → Plan → Work S → Work S
run k rest w = w
run k (act r) w = does k (rule r) w
run k (both p q) w = run k q (run k p w)
run k (asks f) w = run k (f (k.ask w.state)) w
run k (replying f) w = run k (f w.replies) (record w { replies = [] })

-- the tables themselves
abbrev pub plain : Kept Tables
plain = record { ask = λ t. t; meet = changed }

abbrev pub work : Tables → List Output → List EntryValue → Work Tables
work tables outputs replies = record { state = tables; outputs = outputs; replies = replies }
