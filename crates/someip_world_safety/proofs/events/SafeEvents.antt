-- An event that is handed up is safe, where the message that brought it was given as it came.
use Rattle.std.proofs.Common.{◌≡◌, ℕ, true, List, ◌∷◌, ◌++◌, arith, refl, sym, subst}
use Rattle.std.specs.List.{Contains}
use Rattle.std.specs.declared.net.socket_addr.SocketAddrV4.{SocketAddrV4}
use Rattle.std.proofs.lemmas.List.Elements.{Contains-append_right}
use Rattle.someip_wire.specs.declared.header.Header.{Header}
use Rattle.someip_wire.specs.declared.header.MessageType.TheVariants as kinds
use Rattle.sd_core.specs.declared.keys.InstanceId.{InstanceId}
use Rattle.someip_node_rules.specs.declared.config.Config.{Config}
use Rattle.someip_node_rules.specs.declared.output.Output.TheVariants.{Event}
use Rattle.someip_node_rules.specs.rules.Handling.{target_of}
use Rattle.someip_node_laws.specs.HandUps.{EventCame}
use Rattle.someip_node_rules.specs.histories.History.{answers_of}
use Rattle.someip_node_rules.specs.rules.Inputs.{Datagram}
use Rattle.someip_node_rules.specs.trails.Meanings.{GivenBy}
use Rattle.someip_node_rules.specs.rules.Messages.{takes_event}
use Rattle.someip_node_rules.specs.trails.Packets.{Packet, Came}
use Rattle.someip_node_rules.specs.trails.Trails.{Done, given_by, trail_of}
use Rattle.someip_node_laws.proofs.rules.HandUpLemmas.{event_came}
use Rattle.someip_world_schedule.specs.declared.step.Step.{Step}
use Rattle.someip_world_setup.specs.declared.setup_node.SetupNode.{SetupNode}
use Rattle.someip_world_rules.specs.Announced.{AllFits}
use Rattle.someip_world_rules.specs.Deliveries.{Does}
use Rattle.someip_world_rules.proofs.Sendings.{sent_before}
use Rattle.someip_world_rules.proofs.about_exchanges.messages.WholeLemmas.{IsForApplication}
use Rattle.someip_world_safety.specs.Events.{IsSafeEvent, WasPublished}
use Rattle.someip_world_safety.specs.GivenMessages.{WasGiven}
use Rattle.someip_world_safety.proofs.networks.ClientEndpoint.{came_to_client}
use Rattle.someip_world_safety.proofs.events.EventTests.{of_instance}
use Rattle.someip_world_safety.proofs.events.SentEvents.{sent_published}

-- what stands between two fronts of a list is in it
stands_between : {X : Type 0} (earlier : List X) (x : X) (later : List X) → Contains (earlier ++ x ∷ later) x
stands_between earlier x later = Contains-append_right earlier (x ∷ later) x (0, omega arith, refl)

module _ (nodes : List SetupNode) (configs : List Config) (steps : List Step) where
  -- a message of the kind of events that was given was published before
  given_published : (n : ℕ) (from to : SocketAddrV4) (header : Header) (payload : List ℕ) → header.kind ≡ kinds.Notification → WasGiven nodes configs steps n from to header payload
      → WasPublished nodes configs steps n (record { service = header.service; method = header.method }) payload from to
  given_published n from to header payload kind g =
      let does = g.sends.does in
      sent_published nodes configs steps n g.sent (sent_before nodes configs steps n g.sent g.datagram g.delivers).0 does from to header payload kind
      (subst (Contains (given_by (trail_of does.turn.history does.input))) g.given g.sends.told) (subst (GivenBy does.turn.history does.input) g.given g.sends.by)

  -- an event that is handed up is safe, where each message to the application was given as it came
  pub event_is_safe : AllFits nodes configs steps → (n : ℕ) (does : Does nodes configs steps n) (instance : InstanceId) (event : ℕ) (payload : List ℕ)
      → Contains does.done.outputs (Event instance event payload)
      → ((p : Packet) (header : Header) (done : Done) (earlier later : List Done) → does.input ≡ Datagram p.from p.to p.bytes → trail_of does.turn.history does.input ≡ earlier ++ done ∷ later
      → IsForApplication (target_of does.turn.history.config p.to) → Came p header payload earlier → WasGiven nodes configs steps n p.from p.to header payload)
      → IsSafeEvent nodes configs steps n instance event payload
  event_is_safe fits n does instance event payload handed was_given =
      let e : EventCame does.turn.history does.input instance event payload = event_came does.turn.history does.input does.done does.happened instance event payload handed in
      let p : Packet = e.packet in
      let taken = e.taken.1 in
      let t = answers_of e.done.before.state in
      let client : IsForApplication (target_of does.turn.history.config p.to) = subst IsForApplication (sym e.arrived) tt in
      let given = was_given p e.header e.done e.earlier e.later e.is e.trail client e.came in
      let published = given_published n p.from p.to e.header payload e.taken.0 given in
      let of = of_instance t p.from e.header instance taken.want taken.published in
      record {
        does = does;
        done = e.done;
        among = subst (λ trail. Contains trail e.done) (sym e.trail) (stands_between e.earlier e.done e.later);
        endpoint = p.from;
        header = e.header;
        takes = e.takes;
        of_service = sym of.service;
        named = sym taken.named;
        known = of.known;
        want = taken.want;
        wanted = taken.wanted;
        subscribed = subst (λ k. takes_event t instance taken.want k ≡ true) (sym taken.named) of.subscribed;
        published =
            subst (WasPublished nodes configs steps n (record { service = instance.service; method = event }) payload p.from) (came_to_client does.turn.history.config p.to e.arrived)
            (subst (λ k. WasPublished nodes configs steps n (record { service = instance.service; method = k }) payload p.from p.to) (sym taken.named)
            (subst (λ k. WasPublished nodes configs steps n (record { service = k; method = e.header.method }) payload p.from p.to) (sym of.service) published));
      }
