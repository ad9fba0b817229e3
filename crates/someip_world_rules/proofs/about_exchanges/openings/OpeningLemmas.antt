-- A request opens the call that it belongs to in the step in which it is sent, and an event its publication.
use Rattle.std.proofs.Common.{◌≡◌, ◌⊎◌, inl, inr, ℕ, List, [], ◌∷◌, Some, refl, ap, subst, ◌∙◌}
use Rattle.std.specs.List.{Contains}
use Rattle.std.specs.Option.{option_map_or}
use Rattle.std.specs.declared.net.socket_addr.SocketAddrV4.{SocketAddrV4}
use Rattle.someip_wire.specs.declared.header.MessageType.{MessageType}
use Rattle.someip_wire.specs.declared.header.MessageType.TheVariants as kinds
use Rattle.someip_wire.specs.declared.header.Header.{Header}
use Rattle.someip_wire.specs.Spelling.{MessageValue}
use Rattle.sd_core.specs.declared.keys.InstanceId.{InstanceId}
use Rattle.someip_rpc.specs.Calls.{kind_of_call}
use Rattle.someip_rpc.specs.Events.{event_of}
use Rattle.someip_rpc.specs.Servers.{kind_of_reply}
use Rattle.someip_rpc.specs.declared.call.CallKind.{CallKind}
use Rattle.someip_rpc.specs.declared.call.CallKind.TheVariants as calls
use Rattle.someip_rpc.specs.declared.request.Reply.{Reply}
use Rattle.someip_rpc.specs.declared.request.Reply.TheVariants as replies
use Rattle.someip_node_rules.specs.declared.config.Config.{Config}
use Rattle.someip_node_rules.specs.declared.config.OfferedService.{OfferedService}
use Rattle.someip_node_rules.specs.rules.Calling.{call_of, calls_at, session_of}
use Rattle.someip_node_rules.specs.rules.Publishing.{event_message, publishes_by, publishes_to_by}
use Rattle.someip_node_rules.specs.histories.History.{History, answers_of}
use Rattle.someip_node_rules.specs.histories.Items as items
use Rattle.someip_node_rules.specs.histories.Items.{Item}
use Rattle.someip_node_rules.specs.trails.Meanings.{Means}
use Rattle.someip_node_rules.specs.rules.Outcomes.{nothing}
use Rattle.someip_node_rules.specs.forms.Outputs as outputs
use Rattle.someip_node_rules.specs.rules.Plans as plans
use Rattle.someip_node_rules.specs.rules.Plans.{Rule, rule}
use Rattle.someip_node_rules.specs.trails.SendingRules.{IsSent}
use Rattle.someip_node_rules.specs.forms.Setups.{client_endpoint, offered_as}
use Rattle.someip_node_rules.specs.histories.Tables.{Tables, known_endpoint}
use Rattle.someip_node_laws.proofs.histories.NamedLemmas.{next-event_session}
use Rattle.someip_node_rules.proofs.lists.MemberLemmas.{at_member}
use Rattle.someip_world_schedule.specs.declared.step.Step.{Step}
use Rattle.someip_world_setup.specs.declared.setup_node.SetupNode.{SetupNode}
use Rattle.someip_world_rules.specs.Datagrams.{SentDatagram}
use Rattle.someip_world_rules.specs.Deliveries.{Sends}
use Rattle.someip_world_rules.specs.declared.exchanges.exchange_key.ExchangeKey.{ExchangeKey}
use Rattle.someip_world_rules.specs.declared.exchanges.naming.Naming.{Naming}
use Rattle.someip_world_rules.specs.declared.exchanges.naming.Side.TheVariants.{Opener}
use Rattle.someip_world_rules.specs.exchanges.Namings.{named_by_type, named_in, of_call, of_event}
use Rattle.someip_world_rules.specs.exchanges.Openings.{IsEventKey, Opened, Opens}

-- one rule meets one item, by which a key is opened
abbrev OpensKey : History → Rule → ExchangeKey → Type 0
OpensKey h r key = (item : Item) × ((rule r (answers_of h)).items ≡ item ∷ []) × Opens h item key

one_name : (n : Naming) (key : ExchangeKey) → Contains (n ∷ []) (record { key = key; side = Opener }) → record { key = key; side = Opener } ≡ n
one_name n key among = at_member (λ x. x ≡ n) (n ∷ []) (record { key = key; side = Opener }) (refl, tt) among

module _ (h : History) (from to : SocketAddrV4) (key : ExchangeKey) where
  abbrev t : Tables
  t = answers_of h

  by_call : (kind : CallKind) (instance : InstanceId) (method : ℕ) (payload : List ℕ) → known_endpoint t instance ≡ Some to
      → key ≡ of_call (client_endpoint h.config) to instance.service method h.config.client_id (session_of (call_of kind instance method t) t) → OpensKey h (plans.Calls kind instance method payload) key
  by_call kind instance method payload known is = (
    items.Called (call_of kind instance method t) to (session_of (call_of kind instance method t) t),
    ap (λ o. (option_map_or (λ peer. calls_at (call_of kind instance method t) payload peer t) o nothing).items) known,
    is,
  )

  call_key_is : (kind : CallKind) (header : Header) → header.kind ≡ kind_of_call kind → Contains (named_by_type header.kind from to header) (record { key = key; side = Opener })
      → key ≡ of_call from to header.service header.method header.client header.session
  call_key_is calls.Request header kind among = ap (λ n. n.key) (one_name _ key (subst (λ k. Contains (named_by_type k from to header) (record { key = key; side = Opener })) kind among))
  call_key_is calls.RequestNoReturn header kind among = ap (λ n. n.key) (one_name _ key (subst (λ k. Contains (named_by_type k from to header) (record { key = key; side = Opener })) kind among))

  no_answer : (header : Header) (kind : MessageType) → header.kind ≡ kind → (kind ≡ kinds.Response) ⊎ (kind ≡ kinds.Error) → Contains (named_by_type header.kind from to header) (record { key = key; side = Opener }) → ⊥
  no_answer header kind is (inl response) among =
      let one = ap (λ n. n.side) (one_name _ key (subst (λ k. Contains (named_by_type k from to header) (record { key = key; side = Opener })) (is ∙ response) among)) in absurd cc
  no_answer header kind is (inr error) among =
      let one = ap (λ n. n.side) (one_name _ key (subst (λ k. Contains (named_by_type k from to header) (record { key = key; side = Opener })) (is ∙ error) among)) in absurd cc

  reply_kind : (reply : Reply) → (kind_of_reply reply ≡ kinds.Response) ⊎ (kind_of_reply reply ≡ kinds.Error)
  reply_kind (replies.Response code) = inl refl
  reply_kind (replies.Error code) = inr refl

  event_key : (service : OfferedService) (instance : InstanceId) (number : ℕ) (payload : List ℕ) (m : MessageValue) → offered_as h.config instance ≡ Some service → from ≡ service.rules.endpoint → m ≡ event_message service number payload t
      → Contains (named_by_type m.header.kind from to m.header) (record { key = key; side = Opener }) → IsEventKey h (event_of service.rules number) key
  event_key service instance number payload m offered source is among =
      let own = subst (λ x. Contains (named_by_type x.header.kind from to x.header) (record { key = key; side = Opener })) is among in
      let name = ap (λ n. n.key) (one_name _ key own) in
      record {
        instance = instance;
        service = service;
        offered = offered;
        number = number;
        of = refl;
        is = name ∙ (λ i. of_event (source i) service.rules.service number 0 (next-event_session h.items (event_of service.rules number) i));
      }

  opens_by_rule : (r : Rule) (m : MessageValue) → IsSent r t from to m → Contains (named_by_type m.header.kind from to m.header) (record { key = key; side = Opener }) → OpensKey h r key
  opens_by_rule (plans.Calls kind instance method payload) m s among =
      let header = ap (λ x. x.header) s.is in
      let name = call_key_is kind m.header (ap (λ x. x.kind) header) among in
      let source = s.from_client in
      by_call kind instance method payload s.known (name ∙ (λ i. of_call (source i) to (header i).service (header i).method (header i).client (header i).session))
  opens_by_rule (plans.Answers token reply payload) m s among = absurd (no_answer m.header (kind_of_reply reply) (ap (λ x. x.header.kind) s.is) (reply_kind reply) among)
  opens_by_rule (plans.TakesRequest instance peer header payload) m s among = absurd (no_answer m.header kinds.Error (ap (λ x. x.header.kind) s.is) (inr refl) among)
  opens_by_rule (plans.Publishes instance number payload) m s among = (
    items.Published (event_of s.service.rules number),
    ap (λ o. (option_map_or (λ service. publishes_by instance service number payload t) o nothing).items) s.offered,
    event_key s.service instance number payload m s.offered s.from_instance s.is among,
  )
  opens_by_rule (plans.PublishesTo instance endpoint number payload) m s among = (
    items.Published (event_of s.service.rules number),
    ap (λ o. (option_map_or (λ service. publishes_to_by service endpoint number payload t) o nothing).items) s.offered,
    event_key s.service instance number payload m s.offered s.from_instance s.is among,
  )
  opens_by_rule r m s among = absurd s

module _ (nodes : List SetupNode) (configs : List Config) (ss : List Step) where
  -- a message of the opener opens its exchange in the step in which it is sent
  pub opens_its_own : (i : ℕ) (d : SentDatagram) (s : Sends nodes configs ss i d) (from to : SocketAddrV4) (m : MessageValue) (key : ExchangeKey) → s.given ≡ outputs.Sends from to m
      → Contains (named_in s.given) (record { key = key; side = Opener }) → Opened nodes configs ss i key
  opens_its_own i d s from to m key is among =
      let holds = subst (λ g. Means g s.by.done.by (answers_of s.by.done.before.state)) is s.by.holds in
      let named = subst (λ g. Contains (named_in g) (record { key = key; side = Opener })) is among in
      let opens = opens_by_rule s.by.done.before.state from to key s.by.done.by m holds named in
      record { does = s.does; by = record { done = s.by.done; among = s.by.among; item = opens.0; meets = opens.1; opens = opens.2 } }
