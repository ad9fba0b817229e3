-- The rules that a step does, of a datagram with one message of the application, or of Service Discovery with one entry.
use Rattle.std.proofs.Common.{◌≡◌, ℕ, true, false, not, if◌then◌else◌, List, [], ◌∷◌, ◌++◌, refl, ap, ◌∙◌}
use Rattle.std.specs.List.{AllByRecursion}
use Rattle.std.specs.Net.Socket.{v4_ip}
use Rattle.std.specs.declared.net.ipv4_addr.Ipv4Addr.{Ipv4Addr}
use Rattle.std.specs.declared.net.socket_addr.SocketAddrV4.{SocketAddrV4}
use Rattle.sd_wire.specs.declared.flags.SdFlags.{SdFlags}
use Rattle.sd_wire.specs.contents.Values.{EntryValue, ReadValue}
use Rattle.sd_session.specs.declared.peers.Seen.{Seen}
use Rattle.sd_session.specs.declared.peers.Seen.TheVariants.{Same}
use Rattle.sd_session.specs.declared.stamp.Channel.{Channel}
use Rattle.sd_session.specs.declared.stamp.Stamp.{Stamp}
use Rattle.sd_session.specs.Peers.{may_hold, stamps_of, told_by}
use Rattle.someip_node_rules.specs.rules.Handling.{entries_plan, entry_plan, heard_plan, same_address, target_of, target_plan}
use Rattle.someip_node_rules.specs.histories.History.{History, answers_of, met}
use Rattle.someip_node_rules.specs.rules.Inputs.{Datagram}
use Rattle.someip_node_rules.specs.histories.Items.{PeerHeard}
use Rattle.someip_node_rules.specs.rules.Learning.{hearing_by}
use Rattle.someip_node_rules.specs.rules.Plans.{Plan, Rule, Work, rest, act, both, each, replying, rule, Drops, Hears, RepliesTo}
use Rattle.someip_node_rules.specs.forms.Receivers.{message_plan_to, messages_plan_to}
use Rattle.someip_node_rules.specs.steps.Steps.{work_on}
use Rattle.someip_node_rules.specs.trails.Trails.{Done, trail, trail_of}
use Rattle.someip_node_rules.specs.declared.drops.DropReason.TheVariants.{Own, PeersFull}
use Rattle.someip_node_rules.specs.declared.receiver.Receiver.TheVariants.{Peer}
use Rattle.someip_node_rules.specs.declared.target.Target.{Target}
use Rattle.someip_node_laws.proofs.examples.StepLemmas.{work_after}

-- entries that go to a peer go by that rule
pub all_reply : (peer : Ipv4Addr) (fs : List (List EntryValue)) (w : Work History)
    → AllByRecursion (λ d. (entries : List EntryValue) × (d.by ≡ RepliesTo peer entries)) (trail (each (message_plan_to (Peer peer)) fs) w)
all_reply peer [] w = tt
all_reply peer (front ∷ fs) w = ((front, refl), all_reply peer fs _)

module _ (h : History) (from to : SocketAddrV4) (bytes : List ℕ) (goal : Target) (others : same_address (v4_ip from) h.config.address ≡ false)
    (reached : target_of h.config to ≡ goal) where
  -- those of its plan
  trail_by : (p : Plan) → target_plan goal from to bytes ≡ p → trail_of h (Datagram from to bytes) ≡ trail p (work_on h)
  trail_by p plan =
      ap (λ b. trail (if b then act (Drops Own) else target_plan (target_of h.config to) from to bytes) (work_on h)) others
      ∙ ap (λ g. trail (target_plan g from to bytes) (work_on h)) reached ∙ ap (λ x. trail x (work_on h)) plan

  -- one message of the application
  pub message_trail : (r : Rule) → target_plan goal from to bytes ≡ both (act r) rest → trail_of h (Datagram from to bytes) ≡ record { by = r; before = work_on h } ∷ []
  message_trail r plan = trail_by (both (act r) rest) plan

  -- one message of Service Discovery, with one entry
  module _ (channel : Channel) (session : ℕ) (flags : SdFlags) (e : ReadValue) (r : Rule) where
    abbrev peer : Ipv4Addr
    peer = v4_ip from

    abbrev stamp : Stamp
    stamp = record { session = session; reboot = flags.reboot }

    abbrev heard : Done
    heard = record { by = Hears peer channel stamp; before = work_on h }

    abbrev once_heard : Work History
    once_heard = work_on (met h (PeerHeard peer channel stamp))

    abbrev replied : List Done
    replied =
        trail (messages_plan_to (Peer peer) (rule r (answers_of once_heard.state)).replies)
        (record (work_after once_heard.state (rule r (answers_of once_heard.state))) { replies = [] })

    pub entry_trail : target_plan goal from to bytes ≡ both (heard_plan peer channel session (record { flags = flags; entries = e ∷ [] })) rest
        → may_hold h.config.common.peers (answers_of h).peers peer ≡ true → told_by channel stamp (stamps_of (answers_of h).peers peer) ≡ Same
        → entry_plan peer e ≡ act r → trail_of h (Datagram from to bytes) ≡ heard ∷ record { by = r; before = once_heard } ∷ (replied ++ [])
    entry_trail plan room same one =
        trail_by (both (heard_plan peer channel session (record { flags = flags; entries = e ∷ [] })) rest) plan
        ∙ ap (λ b. trail (if not b then act (Drops PeersFull) else both (act (Hears peer channel stamp)) (entries_plan peer (e ∷ []))) (work_on h) ++ []) room
        ∙ ap (λ (seen : Seen). heard ∷ (trail (entries_plan peer (e ∷ [])) (work_after h (hearing_by peer channel stamp seen (answers_of h))) ++ [])) same
        ∙ ap (λ p. heard ∷ (trail (both (both p rest) (replying (messages_plan_to (Peer peer)))) once_heard ++ [])) one
