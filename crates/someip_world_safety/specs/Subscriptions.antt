-- Which subscriptions of a client are safe: those that their server accepted.
use Rattle.std.specs.Prelude.{◌≡◌, ◌<◌, ℕ, IsTrue, List, [], ◌∷◌, Some, slice_get}
use Rattle.std.specs.List.{Contains}
use Rattle.std.specs.Net.Socket.{v4_ip}
use Rattle.std.specs.declared.net.ipv4_addr.Ipv4Addr.{Ipv4Addr}
use Rattle.std.specs.declared.net.socket_addr.SocketAddrV4.{SocketAddrV4}
use Rattle.someip_tables.specs.declared.deadline.Deadline.{Deadline}
use Rattle.sd_wire.specs.declared.entry.EventgroupEntry.{EventgroupEntry}
use Rattle.sd_wire.specs.contents.Kinds.{is_subscribe}
use Rattle.sd_core.specs.declared.eventgroup.Eventgroup.{Eventgroup}
use Rattle.sd_core.specs.SubscriberTables.{subscription_at}
use Rattle.someip_node_rules.specs.declared.config.Config.{Config}
use Rattle.someip_node_rules.specs.histories.History.{History}
use Rattle.someip_node_rules.specs.rules.Inputs.{Datagram}
use Rattle.someip_node_rules.specs.histories.Items.{SubscriptionAccepted}
use Rattle.someip_node_rules.specs.rules.Learning.{eventgroup_in}
use Rattle.someip_node_rules.specs.trails.Packets.{Packet}
use Rattle.someip_node_rules.specs.rules.Plans.{TakesSubscribe}
use Rattle.someip_node_rules.specs.rules.ServerSubscribing.{subscribe_in}
use Rattle.someip_node_rules.specs.trails.Trails.{Done, outcome_of, trail_of}
use Rattle.someip_node_rules.specs.histories.WishQuestions.{course_at}
use Rattle.someip_world_schedule.specs.declared.step.Step.{Step}
use Rattle.someip_world_setup.specs.declared.setup_node.SetupNode.{SetupNode}
use Rattle.someip_world_rules.specs.Datagrams.{SentDatagram}
use Rattle.someip_world_rules.specs.Liars.{IsHonest}
use Rattle.someip_world_rules.specs.Runs.{World}
use Rattle.someip_world_rules.specs.Deliveries.{Delivers, Does, LivesOn}
use Rattle.someip_world_rules.specs.exchanges.Belonging.{Belongs, IsNewest}
use Rattle.someip_world_rules.specs.exchanges.Namings.{of_subscription}
use Rattle.someip_world_rules.specs.exchanges.Openings.{Opened}

module _ (nodes : List SetupNode) (configs : List Config) (steps : List Step) where
  -- A rule of a step takes a Subscribe, about an eventgroup and with a counter, that came from a client, and accepts it: the
  -- node counts the client as subscribed
  pub record Accepts (i : ℕ) (client : Ipv4Addr) (eventgroup : Eventgroup) (counter : ℕ) : Type 0 where
    pub does : Does nodes configs steps i
    pub done : Done
    pub among : Contains (trail_of does.turn.history does.input) done
    pub head : EventgroupEntry
    pub endpoint : SocketAddrV4
    pub takes : done.by ≡ TakesSubscribe client head (Some endpoint)
    pub subscribes : IsTrue (is_subscribe head)
    pub about : eventgroup_in head ≡ eventgroup
    pub counted : head.counter ≡ counter
    pub accepts :
        (outcome_of done).items ≡ SubscriptionAccepted (subscription_at (subscribe_in client head (Some endpoint)) endpoint) head.ttl ∷ []

  -- In a step before another the node at the address of a server accepted a Subscribe of a client. The datagram that this step
  -- delivers belongs to the newest exchange, as of a step, of the client, the server, the eventgroup and the counter
  pub record WasAccepted (n : ℕ) (client server : Ipv4Addr) (eventgroup : Eventgroup) (counter since : ℕ) : Type 0 where
    pub i : ℕ
    pub before : i < n
    pub by : Accepts i client eventgroup counter
    pub is_server : by.does.turn.history.config.address ≡ server
    pub sent : ℕ
    pub datagram : SentDatagram
    pub delivers : Delivers nodes configs steps i sent datagram
    pub belongs : Belongs nodes configs steps sent datagram (of_subscription client server eventgroup counter) since

  -- A subscription of a node, begun at a peer with a counter, is safe before a step: the node began it in a step of its present
  -- life, no exchange of its key was opened since, and the server at the peer's address accepted a Subscribe that belongs to that
  -- exchange, the newest of its key as of some step
  pub record IsSafeSubscription (n place : ℕ) (h : History) (eventgroup : Eventgroup) (peer : Ipv4Addr) (counter : ℕ) : Type 0 where
    pub begun : ℕ
    pub before : begun < n
    pub lives : LivesOn nodes configs steps place begun n
    pub last : (i : ℕ) → begun < i → i < n → Opened nodes configs steps i (of_subscription h.config.address peer eventgroup counter) → ⊥
    pub since : ℕ
    pub newest : IsNewest nodes configs steps (of_subscription h.config.address peer eventgroup counter) since begun
    pub own : newest.opened_in.does.turn.place ≡ place
    pub accepted : WasAccepted n h.config.address peer eventgroup counter since

  -- A subscription that a client tells of in a step, with a counter, is safe: the step takes a datagram that came from the server,
  -- and the subscription that was begun there with this counter is safe before the step
  pub record IsSafelyAcknowledged (n : ℕ) (eventgroup : Eventgroup) (counter : ℕ) : Type 0 where
    pub does : Does nodes configs steps n
    pub packet : Packet
    pub came : does.input ≡ Datagram packet.from packet.to packet.bytes
    pub safe : IsSafeSubscription n does.turn.place does.turn.history eventgroup (v4_ip packet.from) counter

  -- each subscription that a node of a world counts on, as one that was acknowledged, is safe
  abbrev pub SubscriptionsAreSafe : ℕ → World → Type 0
  SubscriptionsAreSafe n w =
      (place : ℕ) (h : History) (eventgroup : Eventgroup) (peer : Ipv4Addr) (counter : ℕ) (until : Deadline)
      → slice_get w.histories place ≡ Some h
      → (course_at h.items eventgroup).beginning ≡ Some (record { peer = peer; counter = counter; until = Some until })
      → IsSafeSubscription n place h eventgroup peer counter

  -- the same of each whose server is no liar
  abbrev pub HonestSubscriptionsAreSafe : ℕ → World → Type 0
  HonestSubscriptionsAreSafe n w =
      (place : ℕ) (h : History) (eventgroup : Eventgroup) (peer : Ipv4Addr) (counter : ℕ) (until : Deadline)
      → slice_get w.histories place ≡ Some h
      → (course_at h.items eventgroup).beginning ≡ Some (record { peer = peer; counter = counter; until = Some until })
      → IsHonest nodes configs peer → IsSafeSubscription n place h eventgroup peer counter
