-- What answers a datagram goes back to the address that the datagram came from.
use Rattle.std.proofs.Common.{◌≡◌, inl, inr, ℕ, Bool, true, false, ltb, List, [], Some, arith, refl, sym, ap, subst, ◌∙◌}
use Rattle.std.proofs.lemmas.Bool.{ltb-true, ltb-false}
use Rattle.std.specs.List.{Contains}
use Rattle.std.specs.FinMap as finite
use Rattle.std.specs.Net.Socket.{v4_ip}
use Rattle.std.specs.declared.net.ipv4_addr.Ipv4Addr.{Ipv4Addr}
use Rattle.std.specs.declared.net.socket_addr.SocketAddrV4.{SocketAddrV4}
use Rattle.someip_wire.specs.declared.header.Header.{Header}
use Rattle.someip_wire.specs.declared.header.MessageType.{MessageType}
use Rattle.someip_wire.specs.declared.header.MessageType.TheVariants as kinds
use Rattle.someip_wire.specs.Spelling.{MessageValue}
use Rattle.sd_wire.specs.declared.entry.EventgroupEntry.{EventgroupEntry}
use Rattle.sd_wire.specs.declared.entry.EventgroupKind.TheVariants as group_kinds
use Rattle.sd_wire.specs.contents.Values.{EntryValue}
use Rattle.sd_session.specs.declared.stamp.Stamp.{Stamp}
use Rattle.sd_core.specs.declared.keys.InstanceId.{InstanceId}
use Rattle.someip_rpc.specs.Calls.{kind_of_call}
use Rattle.someip_rpc.specs.declared.call.CallKind.{CallKind}
use Rattle.someip_rpc.specs.declared.call.CallKind.TheVariants as calls
use Rattle.someip_rpc.specs.declared.request.Asked.{Asked}
use Rattle.someip_rpc.specs.declared.request.Reply.{Reply}
use Rattle.someip_node_rules.specs.declared.config.Config.{Config}
use Rattle.someip_node_rules.specs.declared.target.Target.TheVariants.{Instance}
use Rattle.someip_node_rules.specs.trails.Bringing.{Brings, WasBrought}
use Rattle.someip_node_rules.specs.histories.CallQuestions.{open_request_at}
use Rattle.someip_node_rules.specs.rules.Handling.{target_of}
use Rattle.someip_node_rules.specs.histories.History.{History, answers_of}
use Rattle.someip_node_rules.specs.rules.Inputs as inputs
use Rattle.someip_node_rules.specs.rules.Inputs.{Input}
use Rattle.someip_node_rules.specs.trails.Meanings.{Means}
use Rattle.someip_node_rules.specs.forms.Outputs as outputs
use Rattle.someip_node_rules.specs.trails.Packets.{Came, Packet}
use Rattle.someip_node_rules.specs.rules.Plans as plans
use Rattle.someip_node_rules.specs.rules.Plans.{Rule, TakesRequest}
use Rattle.someip_node_rules.specs.trails.SendingRules.{IsSent}
use Rattle.someip_node_rules.specs.trails.Trails.{Done, after, met_by}
use Rattle.someip_node_rules.proofs.lists.MemberLemmas.{at_member, only_one}
use Rattle.someip_node_laws.proofs.histories.NamedLemmas.{get-request}
use Rattle.someip_world_schedule.specs.declared.step.Step.{Step}
use Rattle.someip_world_setup.specs.declared.setup_node.SetupNode.{SetupNode}
use Rattle.someip_world_rules.specs.Datagrams.{SentDatagram}
use Rattle.someip_world_rules.specs.Deeds.{Takes}
use Rattle.someip_world_rules.specs.Deliveries.{Delivers, Does, Sends}
use Rattle.someip_world_rules.proofs.Deliverings.{delivered_in}
use Rattle.someip_world_rules.proofs.Fronts.{within}
use Rattle.someip_world_rules.specs.exchanges.Belonging.{Answered, HandsUp, WasHandedUp}
use Rattle.someip_world_rules.specs.exchanges.Namings.{named_by_type, of_call}
use Rattle.someip_world_rules.specs.declared.exchanges.exchange_key.ExchangeKey.{ExchangeKey}
use Rattle.someip_world_rules.specs.declared.exchanges.naming.Naming.{Naming}
use Rattle.someip_world_rules.specs.declared.exchanges.naming.Side.TheVariants.{Answerer}
use Rattle.someip_world_rules.proofs.about_exchanges.openings.RuleInputs.{answers_answer}
use Rattle.someip_world_safety.specs.OpenRequests.{IsOpenRequest}
use Rattle.someip_world_safety.proofs.subscriptions.EntryOpenings.{brought_so, goes_to_peer, one_sender}
use Rattle.someip_world_safety.proofs.subscriptions.SentEntries.{Asks, Back, IsGroupEntry, ToPeer, to_peer}
use Rattle.someip_world_safety.proofs.calls.ServerRequests.{all_open}

-- ---- a request that came

-- how a request came that a rule takes
pub record RequestCame (h : History) (input : Input) (earlier : List Done) (instance : InstanceId) (from : SocketAddrV4) (header : Header) (payload : List ℕ) : Type 0 where
  pub packet : Packet
  pub is : input ≡ inputs.Datagram packet.from packet.to packet.bytes
  pub source : from ≡ packet.from
  pub goal : target_of h.config packet.to ≡ Instance instance
  pub came : Came packet header payload earlier

-- it came with a datagram
pub request_came : (h : History) (input : Input) (earlier : List Done) (instance : InstanceId) (from : SocketAddrV4) (header : Header) (payload : List ℕ) → Brings h input (TakesRequest instance from header payload) earlier
    → RequestCame h input earlier instance from header payload
request_came h (inputs.Datagram source to bytes) earlier instance from header payload m =
    record { packet = record { from = source; to = to; bytes = bytes }; is = refl; source = m.0; goal = m.1; came = m.2 }
request_came h (inputs.Tick ms) earlier instance from header payload (inl m) = let x = m.0 in absurd cc
request_came h (inputs.Tick ms) earlier instance from header payload (inr m) = let x = m.1 in absurd cc
request_came h (inputs.Call k i method bytes) earlier instance from header payload m = let x = m.0 in absurd cc
request_came h (inputs.Answer token reply bytes) earlier instance from header payload m = let x = m.0 in absurd cc
request_came h (inputs.Publish i event bytes) earlier instance from header payload m = let x = m.0 in absurd cc
request_came h (inputs.PublishTo i eventgroup endpoint event bytes) earlier instance from header payload m = let x = m.0 in absurd cc
request_came h (inputs.Subscribe eventgroup) earlier instance from header payload (inl m) = let x = m.0 in absurd cc
request_came h (inputs.Subscribe eventgroup) earlier instance from header payload (inr m) = let x = m.2 in absurd cc
request_came h (inputs.Unsubscribe eventgroup) earlier instance from header payload (inl m) = absurd cc
request_came h (inputs.Unsubscribe eventgroup) earlier instance from header payload (inr m) = let x = m.2 in absurd cc
request_came h (inputs.StopOffer i) earlier instance from header payload (inl m) = absurd cc
request_came h (inputs.StopOffer i) earlier instance from header payload (inr m) = let x = m.0 in absurd cc

-- ---- what answers name

module _ (from to : SocketAddrV4) (header : Header) (key : ExchangeKey) (named : Contains (named_by_type header.kind from to header) (record { key = key; side = Answerer })) where
  abbrev naming : Naming
  naming = record { key = key; side = Answerer }

  -- a request names none as the answerer
  no_request : header.kind ≡ kinds.Request → ⊥
  no_request is = let one = ap (λ n. n.side) (only_one _ naming (subst (λ k. Contains (named_by_type k from to header) naming) is named)) in absurd cc

  no_oneway : header.kind ≡ kinds.RequestNoReturn → ⊥
  no_oneway is = let one = ap (λ n. n.side) (only_one _ naming (subst (λ k. Contains (named_by_type k from to header) naming) is named)) in absurd cc

  -- nor does an event
  pub no_event : header.kind ≡ kinds.Notification → ⊥
  no_event is = let one = ap (λ n. n.side) (only_one _ naming (subst (λ k. Contains (named_by_type k from to header) naming) is named)) in absurd cc

  -- nor does a call
  pub no_call : (kind : CallKind) → header.kind ≡ kind_of_call kind → ⊥
  no_call calls.Request is = no_request is
  no_call calls.RequestNoReturn is = no_oneway is

  -- so what names a call as the answerer names the one of the endpoint that it goes to
  by_type : (kind : MessageType) → header.kind ≡ kind → key ≡ of_call to from header.service header.method header.client header.session
  by_type kinds.Response is = ap (λ n. n.key) (only_one _ naming (subst (λ k. Contains (named_by_type k from to header) naming) is named))
  by_type kinds.Error is = ap (λ n. n.key) (only_one _ naming (subst (λ k. Contains (named_by_type k from to header) naming) is named))
  by_type kinds.Request is = absurd (no_request is)
  by_type kinds.RequestNoReturn is = absurd (no_oneway is)
  by_type kinds.Notification is = absurd (no_event is)
  by_type kind is = absurd (at_member (λ x. ⊥) [] naming tt (subst (λ k. Contains (named_by_type k from to header) naming) is named))

  pub answer_key : key ≡ of_call to from header.service header.method header.client header.session
  answer_key = by_type header.kind refl

-- one rule takes one request
pub same_header : (instance : InstanceId) (from other : SocketAddrV4) (header second : Header) (payload : List ℕ) → TakesRequest instance from header payload ≡ TakesRequest instance other second payload → header ≡ second
same_header instance from other header second payload is = cc

module _ (nodes : List SetupNode) (configs : List Config) (ss : List Step) where
  -- an address is the one that a datagram came from, which one step sent and another delivered
  pub record GoesBack (since : ℕ) (address : Ipv4Addr) : Type 0 where
    pub i : ℕ
    pub datagram : SentDatagram
    pub delivers : Delivers nodes configs ss i since datagram
    pub back : address ≡ v4_ip datagram.from

  -- what a step takes was sent by the step whose datagram it delivers
  delivered_so : (n : ℕ) (does : Does nodes configs ss n) (p : SentDatagram) → does.input ≡ inputs.Datagram p.from p.to p.bytes → (since : ℕ) (d : SentDatagram) → Delivers nodes configs ss n since d
      → Delivers nodes configs ss n since p
  delivered_so n does p is since d delivers =
      let del = delivered_in nodes configs ss n p does.step does.turn (does.takes ∙ ap Takes is) in
      subst (λ k. Delivers nodes configs ss n k p) (one_sender nodes configs ss n del.sent since p d del.delivers delivers) del.delivers

  -- ---- entries

  -- an Ack or a Nack goes back
  pub ack_back : (i : ℕ) (d : SentDatagram) (s : Sends nodes configs ss i d) (from to : SocketAddrV4) (stamp : Stamp) (entries : List EntryValue) (is : s.given ≡ outputs.Announces from to stamp entries)
      (value : EntryValue) (among : Contains entries value) (head : EventgroupEntry) (about : IsGroupEntry value head) → head.kind ≡ group_kinds.Ack
      → (since : ℕ) (two : SentDatagram) → Delivers nodes configs ss i since two → GoesBack since (v4_ip to)
  ack_back i d s from to stamp entries is value among head about kind since two delivers =
      let goes = goes_to_peer nodes configs ss i d s from to stamp entries is value among head about in
      subst (GoesBack since) {x = goes.peer} (sym goes.goal)
      (cases goes.peer (to_peer s.does.turn.history s.does.input goes.peer entries s.by.brought.earlier value (brought_so nodes configs ss i d s from to stamp entries is value among head about) among))
    where
      cases : (peer : Ipv4Addr) → ToPeer s.does.turn.history s.does.input peer s.by.brought.earlier value → GoesBack since peer
      cases peer (Back p came back reply) =
          let one : SentDatagram = record { from = p.from; to = p.to; bytes = p.bytes } in
          record { i = i; datagram = one; delivers = delivered_so i s.does one came since two delivers; back = back }
      cases peer (Asks asks partner) =
          let asked = asks.1 in
          let same : asks.0 ≡ head = cc in
          let clash = sym asks.2 ∙ ap (λ x. x.kind) same ∙ kind in absurd cc

  -- ---- messages

  -- so does what a rule answers that takes a request
  pub request_back : (n : ℕ) (does : Does nodes configs ss n) (header : Header) (payload : List ℕ) (done : Done) → WasBrought does.turn.history does.input done → (instance : InstanceId) (from : SocketAddrV4)
      → done.by ≡ TakesRequest instance from header payload → (since : ℕ) (d : SentDatagram) → Delivers nodes configs ss n since d → GoesBack since (v4_ip from)
  request_back n does header payload done was instance from takes since d delivers =
      let c = request_came does.turn.history does.input was.earlier instance from header payload (subst (λ r. Brings does.turn.history does.input r was.earlier) takes was.brings) in
      let one : SentDatagram = record { from = c.packet.from; to = c.packet.to; bytes = c.packet.bytes } in
      record { i = n; datagram = one; delivers = delivered_so n does one c.is since d delivers; back = ap v4_ip c.source }

  -- one request is handed up under a token: the last
  pub same_up : (place token i since : ℕ) (request : Asked) (o : IsOpenRequest nodes configs ss i place token request) (a : WasHandedUp nodes configs ss place token i since) → a.i ≡ o.i
  same_up place token i since request o a = cases (ltb a.i o.i) refl (ltb o.i a.i) refl
    where
      cases : (b : Bool) → ltb a.i o.i ≡ b → (c : Bool) → ltb o.i a.i ≡ c → a.i ≡ o.i
      cases true x c y = absurd (a.last o.i (ltb-true a.i o.i x) o.before o.handed)
      cases false x true y = absurd (o.last a.i (ltb-true o.i a.i y) a.before a.handed)
      cases false x false y = let low = ltb-false a.i o.i x in let high = ltb-false o.i a.i y in omega (arith, low, high)

  -- what answers an open request goes back to the client of that
  open_back : (place token i since : ℕ) (request : Asked) → IsOpenRequest nodes configs ss i place token request → WasHandedUp nodes configs ss place token i since → GoesBack since (v4_ip request.peer)
  open_back place token i since request o a =
      let up : HandsUp nodes configs ss o.i place token = o.handed in
      let delivers = subst (λ k. Delivers nodes configs ss k since a.datagram) (same_up place token i since request o a) a.delivers in
      subst (λ (q : Asked). GoesBack since (v4_ip q.peer)) (sym o.is)
      (request_back o.i up.does o.header up.payload up.by.done up.by.brought up.instance o.from o.takes since a.datagram delivers)

  module _ (i : ℕ) (d : SentDatagram) (s : Sends nodes configs ss i d) (from to : SocketAddrV4) (m : MessageValue) where
    abbrev here : History
    here = s.does.turn.history

    -- the application answers an open request
    pub answers_open : (token : ℕ) (reply : Reply) (payload : List ℕ) → s.by.done.by ≡ plans.Answers token reply payload
        → (sent : IsSent (plans.Answers token reply payload) (answers_of s.by.done.before.state) from to m) → IsOpenRequest nodes configs ss i s.does.turn.place token sent.request
    answers_open token reply payload by sent =
        let input = answers_answer here s.given s.does.input s.by token reply payload by in
        let brings = subst (λ x. Brings here x s.by.done.by s.by.brought.earlier) input s.by.brought.brings in
        let state : s.by.done.before.state ≡ here = s.by.brought.at ∙ ap (λ ds. after here (met_by ds)) brings.1 in
        let request : Asked = sent.request in
        let waits : open_request_at here.items token ≡ Some request = sym (get-request here.items token) ∙ ap (λ (x : History). finite.get (answers_of x).server.requests token) (sym state) ∙ sent.waits in
        let t = s.does.turn in
        let inside = within ss i s.does.step t.here in
        all_open nodes configs ss i t.before (omega (arith, inside)) t.led t.place here token request t.stands waits

    module _ (key : ExchangeKey) (named : Contains (named_by_type m.header.kind from to m.header) (record { key = key; side = Answerer })) (since : ℕ) where
      -- by the rule that sent it
      by_rule : (r : Rule) → s.by.done.by ≡ r → IsSent r (answers_of s.by.done.before.state) from to m → Answered nodes configs ss s.does.turn.place i r since → GoesBack since (v4_ip to)
      by_rule (plans.Calls kind instance method payload) by sent answered = absurd (no_call from to m.header key named kind (ap (λ x. x.header.kind) sent.is))
      by_rule (plans.Answers token reply payload) by sent answered =
          subst (GoesBack since) (ap v4_ip (sym sent.back)) (open_back s.does.turn.place token i since sent.request (answers_open token reply payload by sent) answered)
      by_rule (plans.TakesRequest instance peer header payload) by sent answered =
          subst (GoesBack since) (ap v4_ip (sym sent.back)) (request_back i s.does header payload s.by.done s.by.brought instance peer by since answered.0 answered.1)
      by_rule (plans.Publishes instance event payload) by sent answered = absurd (no_event from to m.header key named (ap (λ x. x.header.kind) sent.is))
      by_rule (plans.PublishesTo instance endpoint event payload) by sent answered = absurd (no_event from to m.header key named (ap (λ x. x.header.kind) sent.is))
      by_rule r by sent answered = absurd sent

      -- an answer goes back
      pub answer_back : s.given ≡ outputs.Sends from to m → Answered nodes configs ss s.does.turn.place i s.by.done.by since → GoesBack since (v4_ip to)
      answer_back is answered = by_rule s.by.done.by refl (subst (λ g. Means g s.by.done.by (answers_of s.by.done.before.state)) is s.by.holds) answered
