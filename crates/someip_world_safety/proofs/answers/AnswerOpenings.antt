-- An answer that is sent to no liar belongs to the exchange of the request that it answers, which was opened.
use Rattle.std.proofs.Common.{◌≡◌, inl, inr, ℕ, true, false, List, Some, arith, refl, sym, ap, subst, ◌∙◌}
use Rattle.std.specs.List.{Contains}
use Rattle.std.specs.Net.Socket.{v4_ip}
use Rattle.std.specs.declared.net.socket_addr.SocketAddrV4.{SocketAddrV4}
use Rattle.someip_wire.specs.declared.header.Header.{Header}
use Rattle.someip_wire.specs.declared.header.MessageType.TheVariants as kinds
use Rattle.someip_wire.specs.Spelling.{MessageValue}
use Rattle.someip_reassembly.specs.Sent.{is_long}
use Rattle.sd_core.specs.declared.keys.InstanceId.{InstanceId}
use Rattle.someip_rpc.specs.declared.request.Asked.{Asked}
use Rattle.someip_rpc.specs.declared.request.Reply.{Reply}
use Rattle.someip_node_rules.specs.declared.config.Config.{Config}
use Rattle.someip_node_rules.specs.declared.config.OfferedService.{OfferedService}
use Rattle.someip_node_rules.specs.trails.Bringing.{Brings, WasBrought}
use Rattle.someip_node_rules.specs.rules.Handling.{target_of}
use Rattle.someip_node_rules.specs.histories.History.{History, answers_of}
use Rattle.someip_node_rules.specs.rules.Inputs as inputs
use Rattle.someip_node_rules.specs.trails.Meanings.{IsTokenFor, Means}
use Rattle.someip_node_rules.specs.forms.Outputs as outputs
use Rattle.someip_node_rules.specs.trails.Packets.{Came, Packet}
use Rattle.someip_node_rules.specs.rules.Plans as plans
use Rattle.someip_node_rules.specs.rules.Plans.{Rule, TakesRequest}
use Rattle.someip_node_rules.specs.trails.SendingRules.{IsSent}
use Rattle.someip_node_rules.specs.forms.Setups.{offered_as}
use Rattle.someip_node_rules.specs.trails.Trails.{Done}
use Rattle.someip_node_rules.proofs.rules.StepRules.{config_there}
use Rattle.someip_world_schedule.specs.declared.step.Step.{Step}
use Rattle.someip_world_setup.specs.declared.setup_node.SetupNode.{SetupNode}
use Rattle.someip_world_rules.specs.Announced.{AllFits}
use Rattle.someip_world_rules.specs.Datagrams.{SentDatagram}
use Rattle.someip_world_rules.specs.Deeds.{Takes}
use Rattle.someip_world_rules.specs.Deliveries.{Delivers, Does, Sends}
use Rattle.someip_world_rules.specs.Liars.{IsHonest}
use Rattle.someip_world_rules.proofs.Deliverings.{delivered_in}
use Rattle.someip_world_rules.proofs.InjectionLemmas.{sent_honestly}
use Rattle.someip_world_rules.proofs.OriginLemmas.{turn_configured}
use Rattle.someip_world_rules.specs.exchanges.Belonging.{Answered, HandsUp, WasHandedUp}
use Rattle.someip_world_rules.specs.exchanges.Namings.{named_by_type, named_in, of_call}
use Rattle.someip_world_rules.specs.declared.exchanges.exchange_key.ExchangeKey.{ExchangeKey}
use Rattle.someip_world_rules.specs.declared.exchanges.naming.Naming.{Naming}
use Rattle.someip_world_rules.specs.declared.exchanges.naming.Side.TheVariants.{Answerer, Opener}
use Rattle.someip_world_rules.proofs.about_exchanges.runs.Among.{is_among}
use Rattle.someip_world_rules.proofs.about_exchanges.openings.OpeningLemmas.{opens_its_own}
use Rattle.someip_world_rules.proofs.about_exchanges.messages.WholeLemmas.{IsForApplication, given_in_segments}
use Rattle.someip_world_safety.specs.CleanRuns.{AreShort}
use Rattle.someip_world_safety.specs.OwnOffers.{HaveOwnOffers}
use Rattle.someip_world_safety.specs.OpenRequests.{IsOpenRequest}
use Rattle.someip_world_safety.proofs.subscriptions.EntryOpenings.{one_sender}
use Rattle.someip_world_safety.proofs.networks.InstanceEndpoint.{came_to_instance}
use Rattle.someip_world_safety.proofs.messages.RepliesBack.{answer_key, answers_open, no_call, no_event, request_came, same_header, same_up}
use Rattle.someip_world_safety.proofs.subscriptions.StandingOpenings.{WasOpened}
use Rattle.someip_world_safety.proofs.messages.WholeGiven.{whole_was_given}

-- what has a token is a REQUEST
token_kind : (header : Header) (next token : ℕ) → IsTokenFor header next (Some token) → header.kind ≡ kinds.Request
token_kind header next token (inl is) = is.0
token_kind header next token (inr is) = let none = is.1 in absurd cc

module _ (nodes : List SetupNode) (configs : List Config) (ss : List Step) (fits : AllFits nodes configs ss) (short : AreShort nodes configs ss) (own : HaveOwnOffers configs) where
  -- ---- the request of a call was opened

  module _ (n : ℕ) (does : Does nodes configs ss n) (header : Header) (payload : List ℕ) (kind : header.kind ≡ kinds.Request) (since : ℕ) (d : SentDatagram) (delivers : Delivers nodes configs ss n since d) where
    abbrev h : History
    h = does.turn.history

    -- one that came to an endpoint of the application, from no liar
    came_opened : (p : Packet) (earlier : List Done) → does.input ≡ inputs.Datagram p.from p.to p.bytes → IsHonest nodes configs (v4_ip p.from) → IsForApplication (target_of h.config p.to) → Came p header payload earlier
        → WasOpened nodes configs ss since (of_call p.from p.to header.service header.method header.client header.session)
    came_opened p earlier is honest goal (inl whole) =
        let g = whole_was_given nodes configs ss fits n does p header payload is honest goal whole in
        let m : MessageValue = record { header = header; payload = payload } in
        let key : ExchangeKey = of_call p.from p.to header.service header.method header.client header.session in
        let naming : Naming = record { key = key; side = Opener } in
        let plain : Contains (named_by_type header.kind p.from p.to header) naming = subst (λ k. Contains (named_by_type k p.from p.to header) naming) (sym kind) (is_among naming naming refl) in
        let named : Contains (named_in g.sends.given) naming = subst (λ x. Contains (named_in x) naming) {x = outputs.Sends p.from p.to m} (sym g.given) plain in
        let opened = opens_its_own nodes configs ss g.sent g.datagram g.sends p.from p.to m key g.given named in
        let sender = one_sender nodes configs ss n g.sent since g.datagram d g.delivers delivers in
        (g.sent, omega (arith, sender), opened)
    came_opened p earlier is honest goal (inr completes) =
        let one : SentDatagram = record { from = p.from; to = p.to; bytes = p.bytes } in
        let del = delivered_in nodes configs ss n one does.step does.turn (does.takes ∙ ap Takes is) in
        let s = (sent_honestly nodes configs ss n del.sent one del.delivers honest).1 in
        let w = given_in_segments s.does.turn.history s.does.input p header completes.offer completes.segment h.config goal s.given s.by
        (fits del.sent s.does.step s.does.turn s.does.input s.given s.does.takes s.by) s.among in
        let long : is_long w.message.payload ≡ true = w.long in
        let none : is_long w.message.payload ≡ false = short del.sent one s w.message w.is in
        absurd cc

    -- one that a rule takes, from no liar
    pub request_opened : (done : Done) → WasBrought h does.input done → (instance : InstanceId) (from : SocketAddrV4) → done.by ≡ TakesRequest instance from header payload → IsHonest nodes configs (v4_ip from)
        → (service : OfferedService) → offered_as h.config instance ≡ Some service → WasOpened nodes configs ss since (of_call from service.rules.endpoint header.service header.method header.client header.session)
    request_opened done was instance from takes honest service offered =
        let c = request_came h does.input was.earlier instance from header payload (subst (λ r. Brings h does.input r was.earlier) takes was.brings) in
        let opened = came_opened c.packet was.earlier c.is (subst (λ e. IsHonest nodes configs (v4_ip e)) c.source honest) (subst IsForApplication (sym c.goal) tt) c.came in
        let endpoint : c.packet.to ≡ service.rules.endpoint =
        came_to_instance h.config c.packet.to instance (own does.turn.place h.config (turn_configured nodes configs ss n does.step does.turn)) service c.goal offered in
        subst (WasOpened nodes configs ss since) (λ i. of_call (sym c.source i) (endpoint i) header.service header.method header.client header.session) opened

  -- ---- answers

  -- a request that is open, and was handed up as of a step, was opened, where its client is no liar
  open_opened : (place token i since : ℕ) (request : Asked) → IsOpenRequest nodes configs ss i place token request → WasHandedUp nodes configs ss place token i since
      → IsHonest nodes configs (v4_ip request.peer) → WasOpened nodes configs ss since (of_call request.peer request.endpoint request.message.service request.message.method request.client request.session)
  open_opened place token i since request o a honest =
      let up : HandsUp nodes configs ss o.i place token = o.handed in
      let told = up.by.holds in
      let same : told.1 ≡ o.header = same_header up.instance told.0 o.from told.1 o.header up.payload (sym told.2 ∙ o.takes) in
      let kind : o.header.kind ≡ kinds.Request = subst (λ x. x.kind ≡ kinds.Request) same (token_kind told.1 _ token told.3.numbered) in
      let opened =
      request_opened o.i up.does o.header up.payload kind since a.datagram (subst (λ k. Delivers nodes configs ss k since a.datagram) (same_up nodes configs ss place token i since request o a) a.delivers)
      up.by.done up.by.brought up.instance o.from o.takes (subst (λ (q : Asked). IsHonest nodes configs (v4_ip q.peer)) o.is honest) o.service o.offered in
      subst (λ (q : Asked). WasOpened nodes configs ss since (of_call q.peer q.endpoint q.message.service q.message.method q.client q.session)) (sym o.is) opened

  module _ (i : ℕ) (d : SentDatagram) (s : Sends nodes configs ss i d) (from to : SocketAddrV4) (m : MessageValue) (key : ExchangeKey)
      (named : Contains (named_by_type m.header.kind from to m.header) (record { key = key; side = Answerer })) (since : ℕ) (honest : IsHonest nodes configs (v4_ip to)) where
    abbrev here : History
    here = s.does.turn.history

    -- the answer of the application
    by_answer : (token : ℕ) (reply : Reply) (payload : List ℕ) → s.by.done.by ≡ plans.Answers token reply payload → IsSent (plans.Answers token reply payload) (answers_of s.by.done.before.state) from to m
        → WasHandedUp nodes configs ss s.does.turn.place token i since → WasOpened nodes configs ss since key
    by_answer token reply payload by sent a =
        let is = ap (λ (x : MessageValue). x.header) sent.is in
        subst (WasOpened nodes configs ss since)
        (sym (answer_key from to m.header key named ∙ (λ j. of_call (sent.back j) (sent.from_instance j) (is j).service (is j).method (is j).client (is j).session)))
        (open_opened s.does.turn.place token i since sent.request (answers_open nodes configs ss i d s from to m token reply payload by sent) a
        (subst (λ e. IsHonest nodes configs (v4_ip e)) sent.back honest))

    -- the ERROR that refuses a request
    by_refusal : (instance : InstanceId) (peer : SocketAddrV4) (header : Header) (payload : List ℕ) → s.by.done.by ≡ TakesRequest instance peer header payload
        → IsSent (TakesRequest instance peer header payload) (answers_of s.by.done.before.state) from to m → (e : SentDatagram) → Delivers nodes configs ss i since e → WasOpened nodes configs ss since key
    by_refusal instance peer header payload by sent e delivers =
        let is = ap (λ (x : MessageValue). x.header) sent.is in
        let offered : offered_as here.config instance ≡ Some sent.service = ap (λ c. offered_as c instance) (sym (config_there here s.does.input s.by.done s.by.among)) ∙ sent.offered in
        subst (WasOpened nodes configs ss since)
        (sym (answer_key from to m.header key named ∙ (λ j. of_call (sent.back j) (sent.from_instance j) (is j).service (is j).method (is j).client (is j).session)))
        (request_opened i s.does header payload sent.kind since e delivers s.by.done s.by.brought instance peer by (subst (λ x. IsHonest nodes configs (v4_ip x)) sent.back honest) sent.service offered)

    -- by the rule that sent it
    by_rule : (r : Rule) → s.by.done.by ≡ r → IsSent r (answers_of s.by.done.before.state) from to m → Answered nodes configs ss s.does.turn.place i r since → WasOpened nodes configs ss since key
    by_rule (plans.Calls kind instance method payload) by sent answered = absurd (no_call from to m.header key named kind (ap (λ x. x.header.kind) sent.is))
    by_rule (plans.Answers token reply payload) by sent answered = by_answer token reply payload by sent answered
    by_rule (plans.TakesRequest instance peer header payload) by sent answered = by_refusal instance peer header payload by sent answered.0 answered.1
    by_rule (plans.Publishes instance event payload) by sent answered = absurd (no_event from to m.header key named (ap (λ x. x.header.kind) sent.is))
    by_rule (plans.PublishesTo instance endpoint event payload) by sent answered = absurd (no_event from to m.header key named (ap (λ x. x.header.kind) sent.is))
    by_rule r by sent answered = absurd sent

    -- an answer that is sent to no liar belongs to an exchange that was opened
    pub answer_opened : s.given ≡ outputs.Sends from to m → Answered nodes configs ss s.does.turn.place i s.by.done.by since → WasOpened nodes configs ss since key
    answer_opened is answered = by_rule s.by.done.by refl (subst (λ g. Means g s.by.done.by (answers_of s.by.done.before.state)) is s.by.holds) answered
