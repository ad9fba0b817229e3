-- The rules of what a server does with its offers: it answers Finds, and stops an offer (SOME/IP Service Discovery Protocol,
-- "Find Service entry", "Stop Offer Service entry").
use Rattle.std.specs.Prelude.{if◌then◌else◌, List, [], ◌∷◌, Option, None, Some}
use Rattle.std.specs.List.{flat_map}
use Rattle.std.specs.Option.{option_map_or}
use Rattle.std.specs.FinMap as finite
use Rattle.sd_wire.specs.contents.Values.{EntryValue}
use Rattle.sd_core.specs.declared.keys.InstanceId.{InstanceId}
use Rattle.someip_rpc.specs.declared.error.RpcError.TheVariants.{NotOffered}
use Rattle.someip_node_rules.specs.declared.error.NodeError.{NodeError}
use Rattle.someip_node_rules.specs.declared.error.NodeError.TheVariants.{Rpc}
use Rattle.someip_node_rules.specs.forms.Entries.{offer_entry}
use Rattle.someip_node_rules.specs.histories.Items.{OfferStopped}
use Rattle.someip_node_rules.specs.rules.Outcomes.{Outcome, meets, nothing}
use Rattle.someip_node_rules.specs.forms.Setups.{offered_as}
use Rattle.someip_node_rules.specs.histories.Tables.{Tables, is_up}
use Rattle.sd_wire.specs.declared.entry.ServiceEntry.{ServiceEntry}
use Rattle.sd_core.specs.declared.version.Sought.{Sought}
use Rattle.sd_core.specs.OfferTables.{answering}

-- ---- Finds

-- what a Find asks for
abbrev pub sought_by : ServiceEntry → Sought
sought_by head = record { service = head.service; instance = head.instance; major = head.major; minor = head.minor }

-- the Offer of an instance
abbrev pub offer_of : Tables → InstanceId → List EntryValue
offer_of t instance = option_map_or (λ service. offer_entry instance service.ttl service ∷ []) (offered_as t.config instance) []

-- a Find comes: each instance that it asks for, that is up and has sent its first Offer, is offered to the peer
abbrev pub find_service : ServiceEntry → Tables → Outcome
find_service head t = record nothing { replies = flat_map (offer_of t) (finite.keys (answering (sought_by head) t.offers)) }

-- ---- an offer that is stopped

-- why stopping an offer is refused: the instance is down, or the node does not offer it
abbrev pub stopping_refusal : InstanceId → Tables → Option NodeError
stopping_refusal instance t = if is_up t instance then None else Some (Rpc NotOffered)

-- the StopOffer of an instance
abbrev pub stop_offer_of : Tables → InstanceId → List EntryValue
stop_offer_of t instance = option_map_or (λ service. offer_entry instance 0 service ∷ []) (offered_as t.config instance) []

-- an instance is offered no longer, and its subscriptions end
abbrev pub stops : InstanceId → Tables → Outcome
stops instance t = meets (OfferStopped instance ∷ []) []
