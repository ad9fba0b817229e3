-- What a publication is to the tables of a node.
use Rattle.std.proofs.Common.{◌≡◌, ℕ, Bool, List, ◌++◌, map, Option, None, Some, Result, Ok, Err, IsSome, refl, sym, ap, subst, ◌∙◌, append-nil}
use Rattle.std.specs.Option.{option_map}
use Rattle.std.specs.declared.net.socket_addr.SocketAddrV4.{SocketAddrV4}
use Rattle.sd_core.specs.SubscriberTables.{endpoints_of}
use Rattle.sd_core.specs.declared.keys.InstanceId.{InstanceId}
use Rattle.someip_rpc.specs.declared.error.RpcError.{RpcError}
use Rattle.someip_rpc.specs.declared.publication.Subscriber.{Subscriber}
use Rattle.someip_rpc.specs.Servers.{Server}
use Rattle.someip_node_rules.specs.declared.config.OfferedService.{OfferedService}
use Rattle.someip_node_rules.specs.declared.error.NodeError.{NodeError}
use Rattle.someip_node_rules.specs.declared.error.NodeError.TheVariants.{Rpc}
use Rattle.someip_node_engine.specs.declared.outputs.Giving.{Giving}
use Rattle.sd_wire.specs.contents.Values.{view_entry}
use Rattle.someip_rpc.specs.Events.{published}
use Rattle.someip_node_rules.specs.rules.Plans.{work}
use Rattle.someip_node_rules.specs.rules.Errors.{as_node_error}
use Rattle.someip_node_rules.specs.rules.Publishing.{eventgroups_of, subscriber_at}
use Rattle.someip_node_engine.specs.Handled.{Handled}
use Rattle.someip_node_rules.specs.rules.Inputs.{Publish, PublishTo}
use Rattle.someip_node_rules.specs.forms.Outputs.{datagrams_of}
use Rattle.someip_node_engine.specs.Publishings.{Publishes, PublishesTo, message_of_event}
use Rattle.someip_node_rules.specs.forms.Setups.{offered_as}
use Rattle.someip_node_rules.specs.histories.Tables.{Tables, is_up, live_subscribers}
use Rattle.someip_node_rules.proofs.trails.WrittenLemmas.{sent_to_all}

some_mapped : (v : Option RpcError) → IsSome (option_map Rpc v) → IsSome v
some_mapped None is = cc
some_mapped (Some e) is = refl

module _ (t : Tables) (new : Server) (before after : Giving) (instance : InstanceId) (service : OfferedService) (event : ℕ) (payload : List ℕ)
    (offered : Some service ≡ offered_as t.config instance) (same : after.replies ≡ before.replies) where
  pub publishes_met : (result : Result (Unit {0}) NodeError)
      → Publishes service.rules (is_up t instance) t.config.common.message_limit event payload (endpoints_of instance (eventgroups_of service event) (live_subscribers t)) t.server
      before.outputs.items result new after.outputs.items
      → Handled (Publish instance event payload) t before result (record t { server = new }) after
  publishes_met (Ok x) p =
      rw (← offered, p.1, p.2, same, append-nil _) (
        ap as_node_error p.0,
        ap (λ os. work (record t { server = published service.rules event t.server }) (before.outputs.items ++ os) (map view_entry before.replies.items))
            (sym (sent_to_all service.rules.endpoint (message_of_event service.rules event payload t.server) (endpoints_of instance (eventgroups_of service event) (live_subscribers t)))),
      )
  publishes_met (Err e) p = rw (← offered) (p.0, λ is. ap (λ s. record t { server = s }) (p.1 (some_mapped _ is)))

  pub publishes_to_met : (eventgroup : ℕ) (endpoint : SocketAddrV4) (result : Result (Unit {0}) NodeError)
      → PublishesTo service.rules (is_up t instance) t.config.common.message_limit (subscriber_at instance eventgroup endpoint t) event payload t.server before.outputs.items result new after.outputs.items
      → Handled (PublishTo instance eventgroup endpoint event payload) t before result (record t { server = new }) after
  publishes_to_met eventgroup endpoint (Ok x) p =
      rw (← offered, p.1, p.2, same, append-nil (map view_entry before.replies.items), append-nil (datagrams_of service.rules.endpoint endpoint (message_of_event service.rules event payload t.server)))
      (ap as_node_error p.0, refl)
  publishes_to_met eventgroup endpoint (Err e) p = rw (← offered) (p.0, λ is. ap (λ s. record t { server = s }) (p.1 (some_mapped _ is)))

-- the same for what the publication was bound by
module _ (t self : Tables) (new : Server) (before after : Giving) (instance among : InstanceId) (service : OfferedService) (event limit : ℕ) (up : Bool) (payload : List ℕ)
    (is : t ≡ self) (offered : Some service ≡ offered_as t.config instance) (same : after.replies ≡ before.replies) (up_is : up ≡ is_up self instance)
    (limit_is : limit ≡ self.config.common.message_limit) where
  pub publishes_at : (result : Result (Unit {0}) NodeError) → among ≡ instance
      → Publishes service.rules up limit event payload (endpoints_of among (eventgroups_of service event) (live_subscribers t)) t.server before.outputs.items result new after.outputs.items
      → Handled (Publish instance event payload) self before result (record t { server = new }) after
  publishes_at result among_is p =
      let live : InstanceId → List SocketAddrV4 = λ i. endpoints_of i (eventgroups_of service event) (live_subscribers t) in
      let by_up : Publishes service.rules (is_up t instance) limit event payload (live among) t.server before.outputs.items result new after.outputs.items =
      subst (λ u. Publishes service.rules u limit event payload (live among) t.server before.outputs.items result new after.outputs.items) (up_is ∙ ap (λ s. is_up s instance) (sym is)) p in
      let by_limit : Publishes service.rules (is_up t instance) t.config.common.message_limit event payload (live among) t.server before.outputs.items result new after.outputs.items =
      subst (λ l. Publishes service.rules (is_up t instance) l event payload (live among) t.server before.outputs.items result new after.outputs.items)
      (limit_is ∙ ap (λ s. s.config.common.message_limit) (sym is)) by_up in
      let by_instance : Publishes service.rules (is_up t instance) t.config.common.message_limit event payload (live instance) t.server before.outputs.items result new after.outputs.items =
      subst (λ i. Publishes service.rules (is_up t instance) t.config.common.message_limit event payload (live i) t.server before.outputs.items result new after.outputs.items) among_is by_limit in
      subst (λ s. Handled (Publish instance event payload) s before result (record t { server = new }) after) is
      (publishes_met t new before after instance service event payload offered same result by_instance)

  pub publishes_to_at : (eventgroup : ℕ) (endpoint : SocketAddrV4) (subscriber : Subscriber) (result : Result (Unit {0}) NodeError) → subscriber ≡ subscriber_at instance eventgroup endpoint self
      → PublishesTo service.rules up limit subscriber event payload t.server before.outputs.items result new after.outputs.items
      → Handled (PublishTo instance eventgroup endpoint event payload) self before result (record t { server = new }) after
  publishes_to_at eventgroup endpoint subscriber result subscriber_is p =
      let by_up : PublishesTo service.rules (is_up t instance) limit subscriber event payload t.server before.outputs.items result new after.outputs.items =
      subst (λ u. PublishesTo service.rules u limit subscriber event payload t.server before.outputs.items result new after.outputs.items) (up_is ∙ ap (λ s. is_up s instance) (sym is)) p in
      let by_limit : PublishesTo service.rules (is_up t instance) t.config.common.message_limit subscriber event payload t.server before.outputs.items result new after.outputs.items =
      subst (λ l. PublishesTo service.rules (is_up t instance) l subscriber event payload t.server before.outputs.items result new after.outputs.items)
      (limit_is ∙ ap (λ s. s.config.common.message_limit) (sym is)) by_up in
      let by_subscriber : PublishesTo service.rules (is_up t instance) t.config.common.message_limit (subscriber_at instance eventgroup endpoint t) event payload t.server before.outputs.items
      result new after.outputs.items =
      subst (λ x. PublishesTo service.rules (is_up t instance) t.config.common.message_limit x event payload t.server before.outputs.items result new after.outputs.items)
      (subscriber_is ∙ ap (subscriber_at instance eventgroup endpoint) (sym is)) by_limit in
      subst (λ s. Handled (PublishTo instance eventgroup endpoint event payload) s before result (record t { server = new }) after) is
      (publishes_to_met t new before after instance service event payload offered same eventgroup endpoint result by_subscriber)
