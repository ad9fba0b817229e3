-- A call that a server takes was made by a client, and the exchange that its request belongs to is the one of that call.
use Rattle.std.proofs.Common.{◌≡◌, ℕ, List, [], ◌++◌, Option, Some, refl, sym, ap, subst, ◌∙◌}
use Rattle.std.specs.List.{Contains, flat_map}
use Rattle.std.specs.Option.{option_map_or}
use Rattle.std.specs.declared.net.socket_addr.SocketAddrV4.{SocketAddrV4}
use Rattle.someip_wire.specs.declared.header.Header.{Header}
use Rattle.someip_wire.specs.declared.header.MessageType.TheVariants as kinds
use Rattle.someip_wire.specs.Spelling.{MessageValue}
use Rattle.sd_core.specs.declared.keys.InstanceId.{InstanceId}
use Rattle.someip_rpc.specs.declared.call.Call.{Call}
use Rattle.someip_rpc.specs.declared.call.CallKind.TheVariants as calls
use Rattle.someip_rpc.specs.declared.ids.CallKey.{CallKey}
use Rattle.someip_rpc.specs.declared.request.Reply.{Reply}
use Rattle.someip_rpc.specs.declared.request.Reply.TheVariants as replies
use Rattle.someip_rpc.specs.Servers.{kind_of_reply}
use Rattle.someip_node_rules.specs.declared.config.Config.{Config}
use Rattle.someip_node_rules.specs.trails.Bringing.{Brings}
use Rattle.someip_node_rules.specs.histories.CallQuestions.{call_key}
use Rattle.someip_node_rules.specs.rules.Calling.{call_of, calls_at, session_of}
use Rattle.someip_node_rules.specs.histories.History.{History, answers_of}
use Rattle.someip_node_rules.specs.rules.Inputs as inputs
use Rattle.someip_node_rules.specs.rules.Inputs.{Input}
use Rattle.someip_node_rules.specs.histories.Items as items
use Rattle.someip_node_rules.specs.trails.Meanings.{Means}
use Rattle.someip_node_rules.specs.rules.Outcomes.{Outcome, nothing}
use Rattle.someip_node_rules.specs.forms.Outputs as outputs
use Rattle.someip_node_rules.specs.rules.Plans as plans
use Rattle.someip_node_rules.specs.rules.Plans.{Rule}
use Rattle.someip_node_rules.specs.trails.SendingRules.{IsCallTo, IsSent}
use Rattle.someip_node_rules.specs.forms.Setups.{client_endpoint}
use Rattle.someip_node_rules.specs.histories.Tables.{Tables, known_endpoint}
use Rattle.someip_node_rules.specs.trails.Trails.{after, given_by, met_by, trail_of}
use Rattle.someip_node_rules.proofs.lists.MemberLemmas.{only_one}
use Rattle.someip_world_schedule.specs.declared.step.Step.{Step}
use Rattle.someip_world_setup.specs.declared.setup_node.SetupNode.{SetupNode}
use Rattle.someip_world_rules.specs.Datagrams.{SentDatagram}
use Rattle.someip_world_rules.specs.Deliveries.{Does, Sends}
use Rattle.someip_world_rules.specs.exchanges.Belonging.{Belongs}
use Rattle.someip_world_rules.specs.exchanges.Namings.{named_in, of_call}
use Rattle.someip_world_rules.specs.declared.exchanges.exchange_key.ExchangeKey.{ExchangeKey}
use Rattle.someip_world_rules.specs.declared.exchanges.naming.Naming.{Naming}
use Rattle.someip_world_rules.proofs.about_exchanges.runs.Among.{among_all, is_among}
use Rattle.someip_world_rules.proofs.about_exchanges.openings.CallOpenings.{key_to, opener_of}
use Rattle.someip_world_rules.proofs.about_exchanges.openings.RuleInputs.{AskedBy, done_asked}
use Rattle.someip_world_safety.specs.Answers.{TakesCall}
use Rattle.someip_world_safety.specs.AwaitedCalls.{Makes}
use Rattle.someip_world_safety.proofs.runs.SameStep.{same_history, same_input}

-- ---- which rule sends a request

-- no answer is a request
no_reply : (reply : Reply) → kind_of_reply reply ≡ kinds.Request → ⊥
no_reply (replies.Response code) is = absurd cc
no_reply (replies.Error code) is = absurd cc

module _ (input : Input) (from to : SocketAddrV4) (header : Header) (payload : List ℕ) (kind : header.kind ≡ kinds.Request) where
  abbrev m : MessageValue
  m = record { header = header; payload = payload }

  -- the input asks for a call with this payload, and the message is its request
  record IsOfCall (t : Tables) : Type 0 where
    pub instance : InstanceId
    pub method : ℕ
    pub asks : input ≡ inputs.Call calls.Request instance method payload
    pub sent : IsCallTo calls.Request instance method payload t from to m

  -- only the rule that calls sends a request
  by_rule : (r : Rule) (t : Tables) → AskedBy r input → IsSent r t from to m → IsOfCall t
  by_rule (plans.Calls calls.Request instance method bytes) t asked s =
      let says : bytes ≡ payload = ap (λ x. x.payload) (sym s.is) in
      record {
        instance = instance;
        method = method;
        asks = asked ∙ ap (inputs.Call calls.Request instance method) says;
        sent = subst (λ x. IsCallTo calls.Request instance method x t from to m) says s;
      }
  by_rule (plans.Calls calls.RequestNoReturn instance method bytes) t asked s = let e = sym (ap (λ x. x.header.kind) s.is) ∙ kind in absurd cc
  by_rule (plans.Answers token reply bytes) t asked s = absurd (no_reply reply (sym (ap (λ x. x.header.kind) s.is) ∙ kind))
  by_rule (plans.TakesRequest instance peer head bytes) t asked s = let e = sym (ap (λ x. x.header.kind) s.is) ∙ kind in absurd cc
  by_rule (plans.Publishes instance event bytes) t asked s = let e = sym (ap (λ x. x.header.kind) s.is) ∙ kind in absurd cc
  by_rule (plans.PublishesTo instance endpoint event bytes) t asked s = let e = sym (ap (λ x. x.header.kind) s.is) ∙ kind in absurd cc
  by_rule r t asked s = absurd s

-- ---- what a call meets, and what it names

module _ (h : History) (instance : InstanceId) (method : ℕ) (payload : List ℕ) (server : SocketAddrV4) (known : known_endpoint (answers_of h) instance ≡ Some server) where
  abbrev called : Call
  called = call_of calls.Request instance method (answers_of h)

  abbrev numbered : ℕ
  numbered = session_of called (answers_of h)

  -- what is said where an offer of the instance is known at an endpoint, or none is
  abbrev said : Option SocketAddrV4 → Outcome
  said o = option_map_or (λ peer. calls_at called payload peer (answers_of h)) o nothing

  -- the call is met
  call_met : Contains (met_by (trail_of h (inputs.Call calls.Request instance method payload))) (items.Called called server numbered)
  call_met =
      subst (λ o. Contains ((said o).items ++ []) (items.Called called server numbered)) (sym known) (is_among (items.Called called server numbered) (items.Called called server numbered) refl)

  -- and nothing is named but its exchange
  call_names : (x : Naming) → Contains (flat_map named_in (given_by (trail_of h (inputs.Call calls.Request instance method payload)))) x
      → x ≡ opener_of (key_to h calls.Request instance method payload server)
  call_names x among =
      only_one (opener_of (key_to h calls.Request instance method payload server)) x (subst (λ o. Contains (flat_map named_in ((said o).given ++ [])) x) known among)

-- ---- the call

module _ (nodes : List SetupNode) (configs : List Config) (steps : List Step) where
  -- in a step the client at an endpoint made a call with this payload, whose exchange has this key
  pub record WasMade (i : ℕ) (client server : SocketAddrV4) (exchange : ExchangeKey) (payload : List ℕ) : Type 0 where
    pub key : CallKey
    pub makes : Makes nodes configs steps i key server
    pub by_client : client ≡ client_endpoint makes.does.turn.history.config
    pub says : makes.payload ≡ payload
    pub is : exchange ≡ of_call client server key.message.service key.message.method makes.does.turn.history.config.client_id key.session

  -- a request that a step sends is that of a call that was made there
  sent_by_call : (i : ℕ) (d : SentDatagram) (s : Sends nodes configs steps i d) (client server : SocketAddrV4) (header : Header) (payload : List ℕ)
      → s.given ≡ outputs.Sends client server (record { header = header; payload = payload }) → header.kind ≡ kinds.Request → (exchange : ExchangeKey) → Belongs nodes configs steps i d exchange i
      → WasMade i client server exchange payload
  sent_by_call i d s client server header payload given kind exchange b = record {
    key = call_key call session;
    makes = record {
      does = does;
      instance = c.instance;
      method = c.method;
      payload = payload;
      is = c.asks;
      call = call;
      session = session;
      kind = refl;
      keyed = refl;
      met = subst (λ x. Contains (met_by (trail_of h x)) (items.Called call server session)) (sym c.asks) (call_met h c.instance c.method payload server sent.known);
    };
    by_client = sent.from_client;
    says = refl;
    is = ap (λ x. x.key) named ∙ (λ k. of_call (sym sent.from_client k) server c.instance.service c.method h.config.client_id session);
  }
    where
      does : Does nodes configs steps i
      does = s.does

      h : History
      h = does.turn.history

      c : IsOfCall does.input client server header payload kind (answers_of s.by.done.before.state)
      c =
          by_rule does.input client server header payload kind s.by.done.by (answers_of s.by.done.before.state) (done_asked h does.input _ s.by)
          (subst (λ g. Means g s.by.done.by (answers_of s.by.done.before.state)) given s.by.holds)

      call : Call
      call = call_of calls.Request c.instance c.method (answers_of h)

      session : ℕ
      session = session_of call (answers_of h)

      first : s.by.done.before.state ≡ h
      first =
          let brings = subst (λ x. Brings h x s.by.done.by s.by.brought.earlier) c.asks s.by.brought.brings in
          s.by.brought.at ∙ ap (λ ds. after h (met_by ds)) brings.1

      sent : IsCallTo calls.Request c.instance c.method payload (answers_of h) client server (record { header = header; payload = payload })
      sent = subst (λ x. IsCallTo calls.Request c.instance c.method payload (answers_of x) client server (record { header = header; payload = payload })) first c.sent

      name : Naming
      name = record { key = exchange; side = b.side }

      named : name ≡ opener_of (key_to h calls.Request c.instance c.method payload server)
      named =
          let other = b.sent.does in
          let there : Contains (flat_map named_in (given_by (trail_of other.turn.history other.input))) name =
          among_all named_in (given_by (trail_of other.turn.history other.input)) b.sent.given name b.sent.told b.named
          in
          let history = same_history nodes configs steps i does.step does.turn other in
          let input = same_input nodes configs steps i does.step does.turn does.input does.takes other in
          call_names h c.instance c.method payload server sent.known name
          (subst (λ x. Contains (flat_map named_in (given_by (trail_of h x))) name) c.asks
          (subst (λ x. Contains (flat_map named_in (given_by (trail_of h x))) name) input
          (subst (λ x. Contains (flat_map named_in (given_by (trail_of x other.input))) name) history there)))

  -- a call that a server takes was made
  pub taken_was_made : (j made : ℕ) (client server : SocketAddrV4) (exchange : ExchangeKey) (payload : List ℕ) → TakesCall nodes configs steps j made client server exchange payload
      → WasMade made client server exchange payload
  taken_was_made j made client server exchange payload took =
      let g = took.given in
      let own : (s : Sends nodes configs steps made g.datagram) × (s.given ≡ outputs.Sends client server (record { header = took.header; payload = payload })) =
      subst (λ k. (s : Sends nodes configs steps k g.datagram) × (s.given ≡ outputs.Sends client server (record { header = took.header; payload = payload }))) took.sent_so (g.sends, g.given)
      in
      sent_by_call made g.datagram own.0 client server took.header payload own.1 took.request exchange took.belongs
