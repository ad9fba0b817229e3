-- What a node's tables are, and what is told, once a message of a peer came.
use Rattle.std.proofs.Common.{◌≡◌, List, [], ◌∷◌, ◌++◌, refl, append_assoc}
use Rattle.std.proofs.lemmas.List.{append-nil}
use Rattle.std.specs.FinMap as finite
use Rattle.std.specs.declared.net.ipv4_addr.Ipv4Addr.{Ipv4Addr}
use Rattle.sd_wire.specs.contents.Values.{EntryValue}
use Rattle.sd_session.specs.declared.peers.Seen.TheVariants.{Same}
use Rattle.sd_session.specs.declared.peers.Seen.TheVariants as seen_as
use Rattle.sd_session.specs.declared.stamp.Channel.{Channel}
use Rattle.sd_session.specs.declared.stamp.Stamp.{Stamp}
use Rattle.sd_session.specs.Peers.{Held, stamps_after, stamps_of, told_by}
use Rattle.sd_core.specs.declared.eventgroup.Eventgroup.{Eventgroup}
use Rattle.sd_core.specs.declared.keys.InstanceId.{InstanceId}
use Rattle.someip_node_rules.specs.declared.output.Output.{Output}
use Rattle.someip_node_rules.specs.declared.output.Output.TheVariants.{Rebooted}
use Rattle.someip_node_rules.specs.histories.Items.{changed, PeerRebooted}
use Rattle.someip_node_rules.specs.rules.Learning.{hearing, reboot_endings}
use Rattle.someip_node_rules.specs.rules.Outcomes.{endings}
use Rattle.someip_node_rules.specs.rules.Plans.{does, plain, work}
use Rattle.someip_node_rules.specs.histories.Tables.{Tables}
use Rattle.someip_node_rules.proofs.trails.WrittenLemmas.{told_written}

-- a message of a peer came that goes on
pub peer_heard : (peer : Ipv4Addr) (channel : Channel) (stamp : Stamp) (t : Tables) (held : Held) (outputs : List Output) (replies : List EntryValue)
    → Same ≡ told_by channel stamp (stamps_of t.peers peer)
    → held ≡ finite.insert t.peers peer (stamps_after channel stamp (stamps_of t.peers peer))
    → work (record t { peers = held }) outputs replies ≡ does plain (hearing peer channel stamp) (work t outputs replies)
peer_heard peer channel stamp t held outputs replies same keeps =
    rw (← same, keeps, append-nil outputs, append-nil replies) refl

-- a message of a peer came that began again
pub peer_rebooted : (peer : Ipv4Addr) (channel : Channel) (stamp : Stamp) (t after : Tables) (held : Held) (outputs told : List Output) (replies : List EntryValue)
    → seen_as.Rebooted ≡ told_by channel stamp (stamps_of t.peers peer)
    → held ≡ finite.insert t.peers peer (stamps_after channel stamp (stamps_of t.peers peer))
    → told ≡ outputs ++ Rebooted peer ∷ reboot_endings peer t
    → after ≡ changed (record t { peers = held }) (PeerRebooted peer)
    → work after told replies ≡ does plain (hearing peer channel stamp) (work t outputs replies)
peer_rebooted peer channel stamp t after held outputs told replies again keeps tells ends =
    rw (← again, tells, ends, keeps, told_written (reboot_endings peer t), append-nil replies) refl

-- what is told as a peer began again
pub reboot_told : (peer : Ipv4Addr) (instances gone known : List InstanceId) (ended begun : List Eventgroup) (outputs pushed told : List Output)
    → pushed ≡ outputs ++ Rebooted peer ∷ [] → gone ≡ known → ended ≡ begun
    → told ≡ pushed ++ endings instances gone ended
    → told ≡ outputs ++ Rebooted peer ∷ endings instances known begun
reboot_told peer instances gone known ended begun outputs pushed told pushes goes ends tells =
    rw (tells, pushes, goes, ends) (append_assoc outputs (Rebooted peer ∷ []) (endings instances known begun))
