-- The rules of what a server does with Subscribes and StopSubscribes (SOME/IP Service Discovery Protocol, "Subscribe Eventgroup
-- entry", "Stop Subscribe Eventgroup entry").
use Rattle.std.specs.Prelude.{[], ◌∷◌, Option, None, Some, ◌==◌, Bool, false}
use Rattle.std.specs.Option.{option_map_or}
use Rattle.std.specs.declared.net.ipv4_addr.Ipv4Addr.{Ipv4Addr}
use Rattle.std.specs.declared.net.socket_addr.SocketAddrV4.{SocketAddrV4}
use Rattle.sd_core.specs.SubscriberTables.{nack_cause, subscription_at}
use Rattle.someip_node_rules.specs.declared.config.OfferedService.{OfferedService}
use Rattle.someip_node_rules.specs.declared.output.Output.TheVariants.{Accepted, Nacked}
use Rattle.someip_node_rules.specs.forms.Entries.{ack_entry}
use Rattle.someip_node_rules.specs.histories.Items.{SubscriptionAccepted, SubscriptionStopped}
use Rattle.someip_node_rules.specs.rules.Learning.{eventgroup_in}
use Rattle.someip_node_rules.specs.rules.Outcomes.{Outcome, meets, nothing, dropped}
use Rattle.someip_node_rules.specs.forms.Outputs.{Tells}
use Rattle.someip_node_rules.specs.forms.Setups.{offered_as, has_eventgroup}
use Rattle.someip_node_rules.specs.histories.Tables.{Tables, is_up, live_subscribers}
use Rattle.sd_wire.specs.declared.entry.EventgroupEntry.{EventgroupEntry}
use Rattle.sd_core.specs.declared.error.Cause.{Cause}
use Rattle.sd_core.specs.declared.subscribe.Subscribe.{Subscribe}
use Rattle.sd_core.specs.declared.subscribe.SubscribeRules.{SubscribeRules}
use Rattle.someip_node_rules.specs.declared.drops.DropReason.TheVariants.{NoEndpoint}

-- a Subscribe of a peer, with this endpoint
abbrev pub subscribe_in : Ipv4Addr → EventgroupEntry → Option SocketAddrV4 → Subscribe
subscribe_in peer head endpoint = record {
  instance = (eventgroup_in head).instance;
  eventgroup = head.eventgroup;
  peer = peer;
  endpoint = endpoint;
  counter = head.counter;
  ttl = head.ttl;
}

-- what is known of the instance and the eventgroup that it asks for
abbrev pub rules_by : EventgroupEntry → Bool → Option OfferedService → SubscribeRules
rules_by head up None = record { is_offered = false; is_same_major = false; is_known_eventgroup = false; limit = 0 }
rules_by head up (Some service) = record {
  is_offered = up;
  is_same_major = service.rules.major == head.major;
  is_known_eventgroup = has_eventgroup service head.eventgroup;
  limit = service.subscribers;
}

abbrev pub rules_for : EventgroupEntry → Tables → SubscribeRules
rules_for head t = rules_by head (is_up t (eventgroup_in head).instance) (offered_as t.config (eventgroup_in head).instance)

-- a Subscribe with this endpoint is accepted, and answered by an Ack
abbrev pub accepted_at : EventgroupEntry → Subscribe → SocketAddrV4 → Outcome
accepted_at head request endpoint = record {
  items = SubscriptionAccepted (subscription_at request endpoint) request.ttl ∷ [];
  given = Tells (Accepted (eventgroup_in head) endpoint head.counter) ∷ [];
  replies = ack_entry head head.ttl ∷ [];
}

-- or refused, and answered by a Nack
abbrev pub nacked_for : EventgroupEntry → Cause → Outcome
nacked_for head cause = record {
  items = [];
  given = Tells (Nacked (eventgroup_in head) cause) ∷ [];
  replies = ack_entry head 0 ∷ [];
}

abbrev pub subscribe_by : EventgroupEntry → Subscribe → Option Cause → Outcome
subscribe_by head request (Some cause) = nacked_for head cause
subscribe_by head request None = option_map_or (accepted_at head request) request.endpoint nothing

-- a Subscribe comes, with this endpoint
abbrev pub subscribe : Ipv4Addr → EventgroupEntry → Option SocketAddrV4 → Tables → Outcome
subscribe peer head endpoint t =
    subscribe_by head (subscribe_in peer head endpoint) (nack_cause (rules_for head t) (subscribe_in peer head endpoint) (live_subscribers t))

-- a StopSubscribe comes, with this endpoint: it ends the subscription, if there is one
abbrev pub stop_subscribe : Ipv4Addr → EventgroupEntry → Option SocketAddrV4 → Outcome
stop_subscribe peer head None = dropped NoEndpoint
stop_subscribe peer head (Some endpoint) = meets (SubscriptionStopped (subscription_at (subscribe_in peer head None) endpoint) ∷ []) []
