-- A message that came whole with a datagram from no liar was given by the step that sent the datagram.
use Rattle.std.proofs.Common.{◌≡◌, ℕ, List, refl, ap, ◌∙◌}
use Rattle.std.specs.Net.Socket.{v4_ip}
use Rattle.someip_wire.specs.declared.header.Header.{Header}
use Rattle.someip_node_rules.specs.declared.config.Config.{Config}
use Rattle.someip_node_rules.specs.rules.Handling.{target_of}
use Rattle.someip_node_rules.specs.rules.Inputs.{Datagram}
use Rattle.someip_node_rules.specs.trails.Packets.{HasWhole, Packet}
use Rattle.someip_world_schedule.specs.declared.step.Step.{Step}
use Rattle.someip_world_setup.specs.declared.setup_node.SetupNode.{SetupNode}
use Rattle.someip_world_rules.specs.Announced.{AllFits}
use Rattle.someip_world_rules.specs.Datagrams.{SentDatagram}
use Rattle.someip_world_rules.specs.Deeds.{Takes}
use Rattle.someip_world_rules.specs.Deliveries.{Does}
use Rattle.someip_world_rules.specs.Liars.{IsHonest}
use Rattle.someip_world_rules.proofs.Deliverings.{delivered_in}
use Rattle.someip_world_rules.proofs.InjectionLemmas.{sent_honestly}
use Rattle.someip_world_rules.proofs.about_exchanges.messages.WholeLemmas.{IsForApplication, given_whole}
use Rattle.someip_world_safety.specs.GivenMessages.{WasGiven}

module _ (nodes : List SetupNode) (configs : List Config) (steps : List Step) where
  -- a message that came whole to the application, from no liar, was given so by the step that sent its datagram
  pub whole_was_given : AllFits nodes configs steps → (n : ℕ) (does : Does nodes configs steps n) (p : Packet) (header : Header) (payload : List ℕ) → does.input ≡ Datagram p.from p.to p.bytes
      → IsHonest nodes configs (v4_ip p.from) → IsForApplication (target_of does.turn.history.config p.to) → HasWhole p header payload → WasGiven nodes configs steps n p.from p.to header payload
  whole_was_given fits n does p header payload is honest goal whole =
      let d : SentDatagram = record { from = p.from; to = p.to; bytes = p.bytes } in
      let came = delivered_in nodes configs steps n d does.step does.turn (does.takes ∙ ap Takes is) in
      let s = (sent_honestly nodes configs steps n came.sent d came.delivers honest).1 in
      let alone =
      given_whole s.does.turn.history s.does.input p header payload whole does.turn.history.config goal s.given s.by
      (fits came.sent s.does.step s.does.turn s.does.input s.given s.does.takes s.by) s.among in
      record {
        sent = came.sent;
        datagram = d;
        delivers = came.delivers;
        sends = s;
        is_from = refl;
        is_to = refl;
        given = alone.is;
      }
