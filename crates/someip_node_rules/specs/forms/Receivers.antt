-- Messages of Service Discovery to the group, or to a peer.
use Rattle.std.specs.Prelude.{List}
use Rattle.sd_wire.specs.contents.Values.{EntryValue}
use Rattle.someip_node_rules.specs.declared.receiver.Receiver.{Receiver}
use Rattle.someip_node_rules.specs.declared.receiver.Receiver.TheVariants.{Group, Peer}
use Rattle.someip_node_rules.specs.forms.Entries.{fronts}
use Rattle.someip_node_rules.specs.rules.Plans.{Plan, act, each, Announces, RepliesTo}

-- one message with these entries
abbrev pub message_plan_to : Receiver → List EntryValue → Plan
message_plan_to Group entries = act (Announces entries)
message_plan_to (Peer peer) entries = act (RepliesTo peer entries)

-- as many messages as are needed
abbrev pub messages_plan_to : Receiver → List EntryValue → Plan
messages_plan_to receiver entries = each (message_plan_to receiver) (fronts entries)
