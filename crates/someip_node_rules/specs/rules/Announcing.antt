-- The rules of messages of Service Discovery that go out (SOME/IP Service Discovery Protocol, "SD Header").
use Rattle.std.specs.Prelude.{List, [], ◌∷◌}
use Rattle.std.specs.declared.net.ipv4_addr.Ipv4Addr.{Ipv4Addr}
use Rattle.sd_wire.specs.contents.Values.{EntryValue}
use Rattle.someip_node_rules.specs.histories.Items.{GroupAddressed, PeerAddressed}
use Rattle.someip_node_rules.specs.rules.Outcomes.{Outcome}
use Rattle.someip_node_rules.specs.forms.Outputs.{Announces}
use Rattle.someip_node_rules.specs.forms.Setups.{discovery_endpoint, discovery_port, group_endpoint}
use Rattle.someip_node_rules.specs.histories.Tables.{Tables, stamp_for}

-- a message with these entries goes to the group, with the next session of those to the group
abbrev pub announces : List EntryValue → Tables → Outcome
announces entries t = record {
  items = GroupAddressed ∷ [];
  given = Announces (discovery_endpoint t.config) (group_endpoint t.config) t.multicast entries ∷ [];
  replies = [];
}

-- a message with these entries goes to a peer, with the next session of those to that peer
abbrev pub replies_to : Ipv4Addr → List EntryValue → Tables → Outcome
replies_to peer entries t = record {
  items = PeerAddressed peer ∷ [];
  given = Announces (discovery_endpoint t.config) (record { ip = peer; port = discovery_port }) (stamp_for t.unicast peer) entries ∷ [];
  replies = [];
}
