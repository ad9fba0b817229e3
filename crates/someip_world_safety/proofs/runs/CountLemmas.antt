-- Where no counter of a node gives a number in two steps, no exchange of a key is opened in two steps.
use Rattle.std.proofs.Common.{◌≡◌, ℕ, suc, List, [], ◌∷◌, slice_get, Some, refl, sym, ap, subst, ◌∙◌}
use Rattle.std.specs.Net.Socket.{v4_ip}
use Rattle.std.specs.declared.net.socket_addr.SocketAddrV4.{SocketAddrV4}
use Rattle.someip_rpc.specs.declared.call.Call.{Call}
use Rattle.someip_rpc.specs.declared.ids.EventId.{EventId}
use Rattle.someip_rpc.specs.Events.{event_of}
use Rattle.someip_rpc.specs.Sessions.{session_after}
use Rattle.someip_node_rules.specs.histories.CallQuestions.{times_published}
use Rattle.someip_node_rules.specs.declared.config.Config.{Config}
use Rattle.someip_node_rules.specs.histories.History.{History}
use Rattle.someip_node_rules.specs.histories.Items as items
use Rattle.someip_node_rules.specs.histories.Items.{Item}
use Rattle.someip_node_rules.specs.forms.Setups.{client_endpoint, offered_as}
use Rattle.someip_node_rules.proofs.rules.StepRules.{config_there}
use Rattle.someip_world_schedule.specs.declared.step.Step.{Step}
use Rattle.someip_world_setup.specs.declared.setup_node.SetupNode.{SetupNode}
use Rattle.someip_world_rules.proofs.OriginLemmas.{turn_configured}
use Rattle.someip_world_rules.specs.exchanges.Openings.{Begins, IsEventKey, Opened, Opens}
use Rattle.someip_world_rules.specs.declared.exchanges.exchange_key.CallExchange.{CallExchange}
use Rattle.someip_world_rules.specs.declared.exchanges.exchange_key.EventExchange.{EventExchange}
use Rattle.someip_world_rules.specs.declared.exchanges.exchange_key.ExchangeKey.{ExchangeKey}
use Rattle.someip_world_rules.specs.declared.exchanges.exchange_key.ExchangeKey.TheVariants as keys
use Rattle.someip_world_rules.specs.declared.exchanges.exchange_key.SubscriptionExchange.{SubscriptionExchange}
use Rattle.someip_world_safety.specs.Addresses.{HaveOwnAddresses}
use Rattle.someip_world_safety.specs.CleanRuns.{CountsOnce, NumbersCall, NumbersEvent, NumbersSubscription, OpensOnce}
use Rattle.someip_world_safety.specs.OwnOffers.{HaveOwnOffers, HaveOwnPorts}
use Rattle.someip_world_safety.proofs.networks.PortLemmas.{among_offers}

-- ---- what an item that opens a key says

-- one key is of one exchange
same_call : (a b : CallExchange) → keys.Call a ≡ keys.Call b → a ≡ b
same_call a b is = cc

same_event : (a b : EventExchange) → keys.Event a ≡ keys.Event b → a ≡ b
same_event a b is = cc

same_subscription : (a b : SubscriptionExchange) → keys.Subscription a ≡ keys.Subscription b → a ≡ b
same_subscription a b is = cc

-- the key of a call: a call is made, with its session
pub record OpensCall (at : History) (item : Item) (k : CallExchange) : Type 0 where
  pub call : Call
  pub peer : SocketAddrV4
  pub is : item ≡ items.Called call peer k.session
  pub of : call.message ≡ k.message
  pub client : k.client ≡ client_endpoint at.config

opens_call : (at : History) (item : Item) (k : CallExchange) → Opens at item (keys.Call k) → OpensCall at item k
opens_call at (items.Called call peer session) k opens =
    let same = same_call k _ opens in
    record {
      call = call;
      peer = peer;
      is = ap (λ (x : CallExchange). items.Called call peer x.session) (sym same);
      of = ap (λ (x : CallExchange). x.message) (sym same);
      client = ap (λ (x : CallExchange). x.client) same;
    }
opens_call at (items.Published event) k opens = let is = opens.is in absurd cc
opens_call at item k opens = let is = opens.4 in absurd cc

-- that of a publication: an event is published
opens_event : (at : History) (item : Item) (k : EventExchange) → Opens at item (keys.Event k) → (event : EventId) × (item ≡ items.Published event) × IsEventKey at event (keys.Event k)
opens_event at (items.Published event) k opens = (event, refl, opens)
opens_event at (items.Called call peer session) k opens = absurd cc
opens_event at item k opens = let is = opens.4 in absurd cc

-- that of a subscription: one begins, with its counter
opens_subscription : (at : History) (item : Item) (k : SubscriptionExchange) → Opens at item (keys.Subscription k) → Begins at item k.eventgroup k.server k.counter × (k.client ≡ at.config.address)
opens_subscription at (items.Called call peer session) k opens = absurd cc
opens_subscription at (items.Published event) k opens = let is = opens.is in absurd cc
opens_subscription at item k opens =
    let same = same_subscription k _ opens.4 in
    let group = ap (λ (x : SubscriptionExchange). x.eventgroup) (sym same) in
    let server = ap (λ (x : SubscriptionExchange). x.server) (sym same) in
    let counter = ap (λ (x : SubscriptionExchange). x.counter) (sym same) in (
      subst (Begins at item k.eventgroup k.server) counter (subst (λ p. Begins at item k.eventgroup p opens.2) server (subst (λ e. Begins at item e opens.1 opens.2) group opens.3)),
      ap (λ (x : SubscriptionExchange). x.client) same,
    )

-- ---- keys of one node

module _ (nodes : List SetupNode) (configs : List Config) (steps : List Step) (own : HaveOwnAddresses configs) (offers : HaveOwnOffers configs) (ports : HaveOwnPorts configs) where
  -- what an opening says of its node
  config_of : (i : ℕ) (key : ExchangeKey) (o : Opened nodes configs steps i key) → o.by.done.before.state.config ≡ o.does.turn.history.config
  config_of i key o = config_there o.does.turn.history o.does.input o.by.done o.by.among

  configured : (i : ℕ) (key : ExchangeKey) (o : Opened nodes configs steps i key) → slice_get configs o.does.turn.place ≡ Some o.does.turn.history.config
  configured i key o = turn_configured nodes configs steps i o.does.step o.does.turn

  -- nodes of one address are one
  one_place : (i j : ℕ) (key : ExchangeKey) (a : Opened nodes configs steps i key) (b : Opened nodes configs steps j key)
      → a.does.turn.history.config.address ≡ b.does.turn.history.config.address → b.does.turn.place ≡ a.does.turn.place
  one_place i j key a b same =
      sym (own a.does.turn.place b.does.turn.place a.does.turn.history.config b.does.turn.history.config (configured i key a) (configured j key b) same)

  -- ---- calls

  client_of : (i : ℕ) (k : CallExchange) (o : Opened nodes configs steps i (keys.Call k)) → k.client ≡ client_endpoint o.does.turn.history.config
  client_of i k o = (opens_call o.by.done.before.state o.by.item k o.by.opens).client ∙ ap client_endpoint (config_of i (keys.Call k) o)

  numbers_call : (i : ℕ) (k : CallExchange) (o : Opened nodes configs steps i (keys.Call k)) (place : ℕ) → o.does.turn.place ≡ place → NumbersCall nodes configs steps i place k.message k.session
  numbers_call i k o place at =
      let c = opens_call o.by.done.before.state o.by.item k o.by.opens in
      record {
        does = o.does;
        at = at;
        done = o.by.done;
        among = o.by.among;
        call = c.call;
        peer = c.peer;
        called = o.by.meets ∙ ap (λ x. x ∷ []) c.is;
        of = c.of;
      }

  -- ---- publications

  -- the instance that publishes, at the endpoint of the key
  key_of : (i : ℕ) (k : EventExchange) (o : Opened nodes configs steps i (keys.Event k)) → (event : EventId) × (o.by.item ≡ items.Published event) × IsEventKey o.by.done.before.state event (keys.Event k)
  key_of i k o = opens_event o.by.done.before.state o.by.item k o.by.opens

  fields_of : (i : ℕ) (k : EventExchange) (o : Opened nodes configs steps i (keys.Event k))
      → k ≡ record {
        server = (key_of i k o).2.service.rules.endpoint;
        message = record { service = (key_of i k o).2.service.rules.service; method = (key_of i k o).2.number };
        client_id = 0;
        session = session_after (suc (times_published o.by.done.before.state.items (key_of i k o).0)) 0;
      }
  fields_of i k o = same_event k _ (key_of i k o).2.is

  server_of : (i : ℕ) (k : EventExchange) (o : Opened nodes configs steps i (keys.Event k)) → k.server ≡ (key_of i k o).2.service.rules.endpoint
  server_of i k o = ap (λ (x : EventExchange). x.server) (fields_of i k o)

  offered_of : (i : ℕ) (k : EventExchange) (o : Opened nodes configs steps i (keys.Event k)) → offered_as o.does.turn.history.config (key_of i k o).2.instance ≡ Some (key_of i k o).2.service
  offered_of i k o = ap (λ c. offered_as c (key_of i k o).2.instance) (sym (config_of i (keys.Event k) o)) ∙ (key_of i k o).2.offered

  -- it is at the address of its node
  address_of : (i : ℕ) (k : EventExchange) (o : Opened nodes configs steps i (keys.Event k)) → v4_ip k.server ≡ o.does.turn.history.config.address
  address_of i k o =
      let c = o.does.turn.history.config in
      ap v4_ip (server_of i k o)
      ∙ (offers o.does.turn.place c (configured i (keys.Event k) o) (key_of i k o).2.instance (key_of i k o).2.service
      (among_offers c (key_of i k o).2.instance (key_of i k o).2.service (offered_of i k o))).0

  numbers_event : (i : ℕ) (k : EventExchange) (o : Opened nodes configs steps i (keys.Event k)) (place : ℕ) (event : EventId) → o.does.turn.place ≡ place → (key_of i k o).0 ≡ event
      → NumbersEvent nodes configs steps i place event k.session
  numbers_event i k o place event at is = record {
    does = o.does;
    at = at;
    done = o.by.done;
    among = o.by.among;
    published = o.by.meets ∙ ap (λ x. x ∷ []) ((key_of i k o).1 ∙ ap items.Published is);
    counted = ap (λ (x : EventExchange). x.session) (fields_of i k o) ∙ ap (λ e. session_after (suc (times_published o.by.done.before.state.items e)) 0) is;
  }

  module _ (i j : ℕ) (k : EventExchange) (a : Opened nodes configs steps i (keys.Event k)) (b : Opened nodes configs steps j (keys.Event k)) where
    same_place : b.does.turn.place ≡ a.does.turn.place
    same_place = one_place i j (keys.Event k) a b (sym (address_of i k a) ∙ address_of j k b)

    same_config : b.does.turn.history.config ≡ a.does.turn.history.config
    same_config =
        let both : Some b.does.turn.history.config ≡ Some a.does.turn.history.config =
        sym (configured j (keys.Event k) b) ∙ ap (slice_get configs) same_place ∙ configured i (keys.Event k) a in cc

    -- under the configuration of the one node, the instances are one, and so are the events
    same_instance : (key_of j k b).2.instance ≡ (key_of i k a).2.instance
    same_instance =
        ports a.does.turn.place a.does.turn.history.config (configured i (keys.Event k) a) (key_of j k b).2.instance (key_of i k a).2.instance (key_of j k b).2.service (key_of i k a).2.service
        (ap (λ c. offered_as c (key_of j k b).2.instance) (sym same_config) ∙ offered_of j k b) (offered_of i k a) (sym (server_of j k b) ∙ server_of i k a)

    same_service : (key_of j k b).2.service ≡ (key_of i k a).2.service
    same_service =
        let both : Some (key_of j k b).2.service ≡ Some (key_of i k a).2.service =
        sym (offered_of j k b) ∙ (λ n. offered_as (same_config n) (same_instance n)) ∙ offered_of i k a in cc

    same_number : (key_of j k b).2.number ≡ (key_of i k a).2.number
    same_number = sym (ap (λ (x : EventExchange). x.message.method) (fields_of j k b)) ∙ ap (λ (x : EventExchange). x.message.method) (fields_of i k a)

    one_event : (key_of j k b).0 ≡ (key_of i k a).0
    one_event = (key_of j k b).2.of ∙ (λ n. event_of (same_service n).rules (same_number n)) ∙ sym (key_of i k a).2.of

  -- ---- subscriptions

  client_address : (i : ℕ) (k : SubscriptionExchange) (o : Opened nodes configs steps i (keys.Subscription k)) → k.client ≡ o.does.turn.history.config.address
  client_address i k o = (opens_subscription o.by.done.before.state o.by.item k o.by.opens).1 ∙ ap (λ c. c.address) (config_of i (keys.Subscription k) o)

  numbers_subscription : (i : ℕ) (k : SubscriptionExchange) (o : Opened nodes configs steps i (keys.Subscription k)) (place : ℕ) → o.does.turn.place ≡ place
      → NumbersSubscription nodes configs steps i place k.eventgroup k.counter
  numbers_subscription i k o place at = record {
    does = o.does;
    at = at;
    done = o.by.done;
    among = o.by.among;
    item = o.by.item;
    meets = o.by.meets;
    peer = k.server;
    begins = (opens_subscription o.by.done.before.state o.by.item k o.by.opens).0;
  }

  -- ---- all

  pub counts_once_opens_once : CountsOnce nodes configs steps → OpensOnce nodes configs steps
  counts_once_opens_once once i j (keys.Call k) a b =
      let place = one_place i j (keys.Call k) a b (ap v4_ip (sym (client_of i k a) ∙ client_of j k b)) in
      once.calls i j a.does.turn.place k.message k.session (numbers_call i k a a.does.turn.place refl) (numbers_call j k b a.does.turn.place place)
  counts_once_opens_once once i j (keys.Event k) a b =
      once.events i j a.does.turn.place (key_of i k a).0 k.session (numbers_event i k a a.does.turn.place (key_of i k a).0 refl refl)
      (numbers_event j k b a.does.turn.place (key_of i k a).0 (same_place i j k a b) (one_event i j k a b))
  counts_once_opens_once once i j (keys.Subscription k) a b =
      let place = one_place i j (keys.Subscription k) a b (sym (client_address i k a) ∙ client_address j k b) in
      once.subscriptions i j a.does.turn.place k.eventgroup k.counter (numbers_subscription i k a a.does.turn.place refl) (numbers_subscription j k b a.does.turn.place place)
