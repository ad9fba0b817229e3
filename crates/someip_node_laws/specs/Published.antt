-- What an event that is published comes to: one message to each endpoint with a subscription that is live.
use Rattle.std.specs.Prelude.{◌≡◌, ◌↔◌, ℕ, suc, IsTrue, List, [], ◌∷◌, map, Some}
use Rattle.std.specs.List.{Contains, flat_map}
use Rattle.std.specs.List.Sorted.{IsStrictlySortedBy}
use Rattle.std.specs.declared.net.socket_addr.SocketAddrV4.{SocketAddrV4}
use Rattle.someip_wire.specs.Spelling.{MessageValue}
use Rattle.someip_tables.specs.Endpoints.{endpoint_cmp}
use Rattle.sd_core.specs.declared.keys.InstanceId.{InstanceId}
use Rattle.sd_core.specs.declared.subscription.Subscription.{Subscription}
use Rattle.someip_rpc.specs.Events.{event_header, event_of}
use Rattle.someip_rpc.specs.Sessions.{session_after}
use Rattle.someip_node_rules.specs.declared.config.OfferedService.{OfferedService}
use Rattle.someip_node_rules.specs.histories.CallQuestions.{times_published}
use Rattle.someip_node_rules.specs.rules.Publishing.{eventgroups_of}
use Rattle.someip_node_rules.specs.histories.History.{History, met}
use Rattle.someip_node_rules.specs.rules.Inputs.{Publish, PublishTo}
use Rattle.someip_node_rules.specs.histories.Items.{Published}
use Rattle.someip_node_rules.specs.steps.Lives.{is_live}
use Rattle.someip_node_rules.specs.forms.Outputs.{Sends, datagrams_of}
use Rattle.someip_node_rules.specs.rules.Plans.{Work}
use Rattle.someip_node_rules.specs.forms.Setups.{offered_as}
use Rattle.someip_node_rules.specs.trails.Trails.{given_by, trail_of}

-- a subscription of an endpoint to one of these eventgroups of an instance is live, whoever made it and with whatever counter
pub record IsLiveAt (h : History) (instance : InstanceId) (eventgroups : List ℕ) (endpoint : SocketAddrV4) : Type 0 where
  pub subscription : Subscription
  pub asked : subscription.instance ≡ instance
  pub grouped : Contains eventgroups subscription.eventgroup
  pub aimed : subscription.endpoint ≡ endpoint
  pub live : IsTrue (is_live h.items subscription)

-- the message of an event that is published: its session counts how often the event was published before
abbrev pub publication : History → OfferedService → ℕ → List ℕ → MessageValue
publication h service event payload = record {
  header = event_header service.rules event (session_after (suc (times_published h.items (event_of service.rules event))) 0);
  payload = payload;
}

-- An event was published: one message to each endpoint that is live for one of its eventgroups, and to no other, by rising
-- address and port. The history has met the publication, also where nobody is subscribed
pub record IsPublished (h : History) (instance : InstanceId) (event : ℕ) (payload : List ℕ) (done : Work History) : Type 0 where
  pub service : OfferedService
  pub offered : offered_as h.config instance ≡ Some service
  pub endpoints : List SocketAddrV4
  pub rise : IsStrictlySortedBy endpoint_cmp endpoints
  pub live : (endpoint : SocketAddrV4) → Contains endpoints endpoint ↔ IsLiveAt h instance (eventgroups_of service event) endpoint
  pub given :
      given_by (trail_of h (Publish instance event payload))
      ≡ map (λ endpoint. Sends service.rules.endpoint endpoint (publication h service event payload)) endpoints
  pub sent : done.outputs ≡ flat_map (λ endpoint. datagrams_of service.rules.endpoint endpoint (publication h service event payload)) endpoints
  pub noted : done.state ≡ met h (Published (event_of service.rules event))

-- an event was published to one endpoint, which is live for an eventgroup of the event: one message to it
pub record IsPublishedTo (h : History) (instance : InstanceId) (eventgroup : ℕ) (endpoint : SocketAddrV4) (event : ℕ) (payload : List ℕ) (done : Work History) : Type 0 where
  pub service : OfferedService
  pub offered : offered_as h.config instance ≡ Some service
  pub belongs : Contains (eventgroups_of service event) eventgroup
  pub live : IsLiveAt h instance (eventgroup ∷ []) endpoint
  pub given :
      given_by (trail_of h (PublishTo instance eventgroup endpoint event payload))
      ≡ Sends service.rules.endpoint endpoint (publication h service event payload) ∷ []
  pub sent : done.outputs ≡ datagrams_of service.rules.endpoint endpoint (publication h service event payload)
  pub noted : done.state ≡ met h (Published (event_of service.rules event))
