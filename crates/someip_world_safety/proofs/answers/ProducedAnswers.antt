-- An answer that was sent to a client that is no liar was produced for a call: by the application, or of a check that failed.
use Rattle.std.proofs.Common.{◌≡◌, inl, inr, ℕ, suc, ◌<◌, true, List, [], Some, arith, refl, sym, ap, subst, ◌∙◌}
use Rattle.std.specs.List.{Contains}
use Rattle.std.specs.Net.Socket.{v4_ip}
use Rattle.std.specs.declared.net.socket_addr.SocketAddrV4.{SocketAddrV4}
use Rattle.someip_wire.specs.declared.header.Header.{Header}
use Rattle.someip_wire.specs.declared.header.MessageType.TheVariants as kinds
use Rattle.someip_wire.specs.Spelling.{MessageValue}
use Rattle.sd_core.specs.declared.keys.InstanceId.{InstanceId}
use Rattle.someip_rpc.specs.declared.call.CallKind.{CallKind}
use Rattle.someip_rpc.specs.declared.call.CallKind.TheVariants as calls
use Rattle.someip_rpc.specs.declared.request.Reply.{Reply}
use Rattle.someip_rpc.specs.declared.request.Reply.TheVariants as replies
use Rattle.someip_rpc.specs.Answers.{is_answer_type}
use Rattle.someip_rpc.specs.Calls.{kind_of_call}
use Rattle.someip_rpc.specs.Requests.{answer_header, asked, fault_code}
use Rattle.someip_rpc.specs.Servers.{code_of_reply, kind_of_reply}
use Rattle.someip_node_rules.specs.declared.config.Config.{Config}
use Rattle.someip_node_rules.specs.trails.Bringing.{Brings}
use Rattle.someip_node_rules.specs.histories.CallQuestions.{open_request_at}
use Rattle.someip_node_rules.specs.histories.History.{History, answers_of}
use Rattle.someip_node_rules.specs.rules.Inputs as inputs
use Rattle.someip_node_rules.specs.trails.Meanings.{IsTokenFor, Means}
use Rattle.someip_node_rules.specs.forms.Outputs as outputs
use Rattle.someip_node_rules.specs.rules.Plans as plans
use Rattle.someip_node_rules.specs.rules.Plans.{Rule}
use Rattle.someip_node_rules.specs.trails.SendingRules.{IsAnswerTo, IsErrorTo, IsSent}
use Rattle.someip_node_rules.specs.forms.Setups.{offered_as}
use Rattle.someip_node_rules.specs.histories.Tables.{Tables}
use Rattle.someip_node_rules.specs.trails.Trails.{after, met_by}
use Rattle.someip_node_laws.proofs.histories.NamedLemmas.{get-request}
use Rattle.someip_node_rules.proofs.rules.StepRules.{config_there}
use Rattle.someip_world_schedule.specs.declared.step.Step.{Step}
use Rattle.someip_world_setup.specs.declared.setup_node.SetupNode.{SetupNode}
use Rattle.someip_world_rules.specs.Announced.{AllFits}
use Rattle.someip_world_rules.specs.Datagrams.{SentDatagram}
use Rattle.someip_world_rules.specs.Deliveries.{LivesOn, Sends}
use Rattle.someip_world_rules.specs.Liars.{IsHonest}
use Rattle.someip_world_rules.proofs.Fronts.{within}
use Rattle.someip_world_rules.proofs.Sendings.{sent_before}
use Rattle.someip_world_rules.specs.declared.exchanges.exchange_key.ExchangeKey.{ExchangeKey}
use Rattle.someip_world_rules.specs.declared.exchanges.naming.Side.TheVariants.{Answerer}
use Rattle.someip_world_rules.specs.exchanges.Belonging.{Answered, HandsUp}
use Rattle.someip_world_rules.specs.exchanges.CleanReuse.{IsCleanBefore}
use Rattle.someip_world_rules.specs.exchanges.Namings.{named_by_type, named_in, of_call}
use Rattle.someip_world_rules.proofs.about_exchanges.runs.Among.{is_among}
use Rattle.someip_world_rules.proofs.about_exchanges.openings.RuleInputs.{AskedBy, done_asked}
use Rattle.someip_world_safety.specs.GivenMessages.{WasGiven}
use Rattle.someip_world_safety.specs.OpenRequests.{IsOpenRequest}
use Rattle.someip_world_safety.specs.OwnOffers.{HaveOwnOffers}
use Rattle.someip_world_safety.proofs.answers.Produced.{WasProduced}
use Rattle.someip_world_safety.proofs.calls.ServerRequests.{all_open}
use Rattle.someip_world_safety.proofs.calls.TakenCalls.{call_taken, request_given}

-- a call is no answer
no_call : (kind : CallKind) → is_answer_type (kind_of_call kind) ≡ true → ⊥
no_call calls.Request is = absurd cc
no_call calls.RequestNoReturn is = absurd cc

-- an answer names its call
answer_named : (reply : Reply) (from to : SocketAddrV4) (header : Header)
    → Contains (named_by_type (kind_of_reply reply) from to header) (record { key = of_call to from header.service header.method header.client header.session; side = Answerer })
answer_named (replies.Response code) from to header = is_among _ _ refl
answer_named (replies.Error code) from to header = is_among _ _ refl

-- the type of a message with a token is REQUEST
token_kind : (header : Header) (next token : ℕ) → IsTokenFor header next (Some token) → header.kind ≡ kinds.Request
token_kind header next token (inl is) = is.0
token_kind header next token (inr is) = let none = is.1 in absurd cc

module _ (nodes : List SetupNode) (configs : List Config) (steps : List Step) (fits : AllFits nodes configs steps) (own : HaveOwnOffers configs)
    (i : ℕ) (clean : IsCleanBefore nodes configs steps (suc i)) (d : SentDatagram) (s : Sends nodes configs steps i d) where
  -- the tables at the rule that gives the message
  abbrev t : Tables
  t = answers_of s.by.done.before.state

  -- the message is produced
  abbrev Due : SocketAddrV4 → SocketAddrV4 → MessageValue → Type 0
  Due from to m = WasProduced nodes configs steps i d from to m

  -- ---- a check that fails

  module _ (instance : InstanceId) (peer : SocketAddrV4) (header : Header) (payload : List ℕ) (takes : s.by.done.by ≡ plans.TakesRequest instance peer header payload)
      (from to : SocketAddrV4) (m : MessageValue) (e : IsErrorTo instance peer header t from to m) (honest : IsHonest nodes configs (v4_ip to)) where
    -- it goes back to the client
    to_peer : IsHonest nodes configs (v4_ip peer)
    to_peer = subst (λ x. IsHonest nodes configs (v4_ip x)) e.back honest

    -- the ERROR that tells it
    abbrev error : MessageValue
    error = record { header = answer_header (asked e.service.rules peer header) kinds.Error (fault_code e.fault); payload = [] }

    -- the ERROR is produced for the call whose REQUEST fails the check
    error_produced : s.given ≡ outputs.Sends e.service.rules.endpoint peer error → Due e.service.rules.endpoint peer error
    error_produced is =
        let offered : offered_as s.does.turn.history.config instance ≡ Some e.service =
        ap (λ c. offered_as c instance) (sym (config_there s.does.turn.history s.does.input s.by.done s.by.among)) ∙ e.offered in
        let g : WasGiven nodes configs steps i peer e.service.rules.endpoint header payload =
        request_given nodes configs steps fits own i clean s.does s.by.done s.by.brought instance peer header payload takes e.service offered to_peer in
        let key : ExchangeKey = of_call peer e.service.rules.endpoint header.service header.method header.client header.session in
        record {
          made = g.sent;
          before = (sent_before nodes configs steps i g.sent g.datagram g.delivers).0;
          asked = payload;
          exchange = key;
          is = refl;
          belongs = record {
            sent = s;
            side = Answerer;
            named = subst (λ given. Contains (named_in given) (record { key = key; side = Answerer })) (sym is) (is_among _ _ refl);
            meant = subst (λ r. Answered nodes configs steps s.does.turn.place i r g.sent) (sym takes) (g.datagram, g.delivers);
          };
          how = inr (record {
            took = call_taken nodes configs steps fits own i clean s.does s.by.done s.by.brought instance peer header payload takes e.service offered to_peer e.kind s.by.among;
            fault = e.fault;
            fails = e.fails;
            says = refl;
            empty = refl;
          });
        }

    -- whatever it is called
    refused : s.given ≡ outputs.Sends from to m → Due from to m
    refused is =
        let produced = error_produced (is ∙ (λ j. outputs.Sends (e.from_instance j) (e.back j) (e.is j))) in
        subst (λ x. Due x to m) (sym e.from_instance) (subst (λ x. Due e.service.rules.endpoint x m) (sym e.back) (subst (Due e.service.rules.endpoint peer) (sym e.is) produced))

  -- ---- an answer of the application

  module _ (token : ℕ) (reply : Reply) (payload : List ℕ) (answers : s.by.done.by ≡ plans.Answers token reply payload) (answered : s.does.input ≡ inputs.Answer token reply payload) where
    -- the rule is done at the history before the step
    at_start : s.by.done.before.state ≡ s.does.turn.history
    at_start =
        let first = (subst (λ x. Brings s.does.turn.history x s.by.done.by s.by.brought.earlier) answered s.by.brought.brings).1 in
        s.by.brought.at ∙ ap (λ ds. after s.does.turn.history (met_by ds)) first

    module _ (from to : SocketAddrV4) (m : MessageValue) (e : IsAnswerTo token reply payload t from to m) where
      -- the request of the token is open before the step
      request_open : IsOpenRequest nodes configs steps i s.does.turn.place token e.request
      request_open =
          let inside = within steps i s.does.step s.does.turn.here in
          let here : open_request_at s.by.done.before.state.items token ≡ Some e.request = sym (get-request s.by.done.before.state.items token) ∙ e.waits in
          let there : open_request_at s.does.turn.history.items token ≡ Some e.request = ap (λ (h : History). open_request_at h.items token) (sym at_start) ∙ here in
          all_open nodes configs steps i s.does.turn.before (omega (arith, inside)) s.does.turn.led s.does.turn.place s.does.turn.history token e.request s.does.turn.stands there

      module _ (o : IsOpenRequest nodes configs steps i s.does.turn.place token e.request) (honest : IsHonest nodes configs (v4_ip to)) where
        -- the answer goes back to the client
        back : to ≡ o.from
        back = e.back ∙ ap (λ r. r.peer) o.is

        to_client : IsHonest nodes configs (v4_ip o.from)
        to_client = subst (λ x. IsHonest nodes configs (v4_ip x)) back honest

        -- the answer to the open request
        abbrev answer : MessageValue
        answer = record { header = answer_header (asked o.service.rules o.from o.header) (kind_of_reply reply) (code_of_reply reply); payload = payload }

        -- what was handed up under a token is a REQUEST
        is_request : o.header.kind ≡ kinds.Request
        is_request =
            let up = o.handed.by.holds in
            let rules : plans.TakesRequest o.handed.instance up.0 up.1 o.handed.payload ≡ plans.TakesRequest o.handed.instance o.from o.header o.handed.payload = sym up.2 ∙ o.takes in
            let same : up.1 ≡ o.header = cc in
            ap (λ (h : Header). h.kind) (sym same) ∙ token_kind up.1 (answers_of o.handed.by.done.before.state).server.next token up.3.numbered

        -- keys were reused cleanly before
        clean_then : IsCleanBefore nodes configs steps (suc o.i)
        clean_then j lt = let before = o.before in clean j (omega (arith, lt, before))

        -- the answer is produced for the call whose REQUEST was handed up
        answer_produced : s.given ≡ outputs.Sends o.service.rules.endpoint o.from answer → Due o.service.rules.endpoint o.from answer
        answer_produced is =
            let g : WasGiven nodes configs steps o.i o.from o.service.rules.endpoint o.header o.handed.payload =
            request_given nodes configs steps fits own o.i clean_then o.handed.does o.handed.by.done o.handed.by.brought o.handed.instance o.from o.header o.handed.payload o.takes o.service o.offered to_client in
            let key : ExchangeKey = of_call o.from o.service.rules.endpoint o.header.service o.header.method o.header.client o.header.session in
            let sent = (sent_before nodes configs steps o.i g.sent g.datagram g.delivers).0 in
            let later = o.before in
            record {
              made = g.sent;
              before = omega (arith, sent, later);
              asked = o.handed.payload;
              exchange = key;
              is = refl;
              belongs = record {
                sent = s;
                side = Answerer;
                named = subst (λ given. Contains (named_in given) (record { key = key; side = Answerer })) (sym is) (answer_named reply o.service.rules.endpoint o.from answer.header);
                meant = subst (λ r. Answered nodes configs steps s.does.turn.place i r g.sent) (sym answers) (record {
                  i = o.i;
                  before = o.before;
                  lives = o.lives;
                  handed = o.handed;
                  last = o.last;
                  datagram = g.datagram;
                  delivers = g.delivers;
                });
              };
              how = inl (record {
                taken = o.i;
                took = call_taken nodes configs steps fits own o.i clean_then o.handed.does o.handed.by.done o.handed.by.brought o.handed.instance o.from o.header o.handed.payload o.takes o.service o.offered to_client
                    is_request o.handed.by.among;
                token = token;
                handed = record {
                  does = o.handed.does;
                  at = refl;
                  instance = o.handed.instance;
                  method = o.handed.method;
                  payload = o.handed.payload;
                  by = o.handed.by;
                };
                by_it = refl;
                later = o.before;
                does = s.does;
                at = sym o.handed.at;
                lives = subst (λ p. LivesOn nodes configs steps p o.i i) (sym o.handed.at) o.lives;
                last = subst (λ p. (k : ℕ) → o.i < k → k < i → HandsUp nodes configs steps k p token → ⊥) (sym o.handed.at) o.last;
                reply = reply;
                answers = answered;
                says = refl;
              });
            }

        -- whatever it is called
        answered_so : s.given ≡ outputs.Sends from to m → Due from to m
        answered_so is =
            let source : from ≡ o.service.rules.endpoint = e.from_instance ∙ ap (λ r. r.endpoint) o.is in
            let same : m ≡ answer = e.is ∙ (λ j. record { header = answer_header (o.is j) (kind_of_reply reply) (code_of_reply reply); payload = payload }) in
            let produced = answer_produced (is ∙ (λ j. outputs.Sends (source j) (back j) (same j))) in
            subst (λ x. Due x to m) (sym source) (subst (λ x. Due o.service.rules.endpoint x m) (sym back) (subst (Due o.service.rules.endpoint o.from) (sym same) produced))

  -- ---- any rule

  module _ (from to : SocketAddrV4) (m : MessageValue) (is : s.given ≡ outputs.Sends from to m) (kind : is_answer_type m.header.kind ≡ true) (honest : IsHonest nodes configs (v4_ip to)) where
    -- a message of the type of answers is given only by the rules that answer and that take requests
    by_rule : (r : Rule) → s.by.done.by ≡ r → IsSent r t from to m → Due from to m
    by_rule (plans.Calls c instance method payload) by e = absurd (no_call c (sym (ap (λ (x : MessageValue). is_answer_type x.header.kind) e.is) ∙ kind))
    by_rule (plans.Answers token reply payload) by e =
        let answered = subst (λ r. AskedBy r s.does.input) by (done_asked s.does.turn.history s.does.input _ s.by) in
        answered_so token reply payload by answered from to m e (request_open token reply payload by answered from to m e) honest is
    by_rule (plans.TakesRequest instance peer header payload) by e = refused instance peer header payload by from to m e honest is
    by_rule (plans.Publishes instance event payload) by e = let none = sym (ap (λ (x : MessageValue). is_answer_type x.header.kind) e.is) ∙ kind in absurd cc
    by_rule (plans.PublishesTo instance endpoint event payload) by e = let none = sym (ap (λ (x : MessageValue). is_answer_type x.header.kind) e.is) ∙ kind in absurd cc
    by_rule r by e = absurd e

    -- so it was produced
    by_given : Due from to m
    by_given = by_rule s.by.done.by refl (subst (λ g. Means g s.by.done.by t) is s.by.holds)

-- each answer that a step sends to a client that is no liar was produced for a call
pub answer_was_produced : (nodes : List SetupNode) (configs : List Config) (steps : List Step) → AllFits nodes configs steps → HaveOwnOffers configs
    → (i : ℕ) → IsCleanBefore nodes configs steps (suc i) → (d : SentDatagram) (s : Sends nodes configs steps i d) (from to : SocketAddrV4) (m : MessageValue)
    → s.given ≡ outputs.Sends from to m → is_answer_type m.header.kind ≡ true → IsHonest nodes configs (v4_ip to) → WasProduced nodes configs steps i d from to m
answer_was_produced nodes configs steps fits own i clean d s from to m is kind honest = by_given nodes configs steps fits own i clean d s from to m is kind honest
