-- What a rule gives and meets fits, where what it is about does.
use Rattle.std.proofs.Common.{◌≡◌, ◌≢◌, ℕ, zero, suc, ◌+◌, ◌<◌, ◌^◌, Bool, true, false, cond, not, eqb, ◌&&◌, List, [], length, arith, Option, None, Some, refl, sym, subst, ◌∙◌}
use Rattle.std.specs.Prelude.{IsFalse}
use Rattle.std.specs.List.{AllByRecursion, flat_map}
use Rattle.std.specs.Option.{option_map_or}
use Rattle.std.proofs.lemmas.Bool.{eqb-false, eqb-true}
use Rattle.std.specs.declared.net.socket_addr.SocketAddrV4.{SocketAddrV4}
use Rattle.someip_wire.specs.declared.header.Header.{Header}
use Rattle.someip_wire.specs.declared.header.MessageType.TheVariants as kinds
use Rattle.someip_wire.specs.Spelling.{Fits, MessageValue}
use Rattle.sd_wire.specs.layout.Spelling.{EventgroupFits}
use Rattle.sd_wire.specs.contents.Values.{EntryValue}
use Rattle.sd_session.specs.declared.stamp.Stamp.{Stamp}
use Rattle.sd_session.specs.Sessions.{after_uses}
use Rattle.sd_core.specs.declared.keys.InstanceId.{InstanceId}
use Rattle.someip_rpc.specs.declared.call.Call.{Call}
use Rattle.someip_rpc.specs.declared.call.CallKind.{CallKind}
use Rattle.someip_rpc.specs.declared.call.CallKind.TheVariants as calls
use Rattle.someip_rpc.specs.declared.request.Reply.{Reply}
use Rattle.someip_rpc.specs.declared.request.Reply.TheVariants as replies
use Rattle.someip_rpc.specs.declared.request.RequestFault.{RequestFault}
use Rattle.someip_rpc.specs.declared.request.RequestFault.TheVariants as faults
use Rattle.someip_rpc.specs.Calls.{call_header, kind_of_call}
use Rattle.someip_rpc.specs.Events.{event_header, event_of, next_session_of}
use Rattle.someip_rpc.specs.Requests.{answer_header, asked, fault_code}
use Rattle.someip_rpc.specs.Servers.{code_of_reply, kind_of_reply}
use Rattle.someip_tables.specs.Sessions.{session_after_last}
use Rattle.someip_node_rules.specs.declared.config.OfferedService.{OfferedService}
use Rattle.someip_node_rules.specs.declared.config.WantedService.{WantedService}
use Rattle.someip_node_rules.specs.histories.CallQuestions.{times_published}
use Rattle.someip_node_rules.specs.rules.Calling.{call_of, session_of}
use Rattle.someip_node_rules.specs.histories.DiscoveryQuestions.{group_addressed, messages_to}
use Rattle.someip_node_laws.specs.Fitting.{FitsHistory, FitsItem, FitsPayload, FitsWire}
use Rattle.someip_wire.specs.Discovery.{is_notification}
use Rattle.someip_node_rules.specs.rules.Handling.{is_valid_discovery}
use Rattle.someip_node_rules.specs.histories.History.{History, answers_of}
use Rattle.someip_node_rules.specs.histories.Items as items
use Rattle.someip_node_rules.specs.histories.Items.{Item}
use Rattle.someip_node_rules.specs.trails.Meanings.{Means}
use Rattle.someip_node_rules.specs.trails.Meetings.{IsMet}
use Rattle.someip_node_rules.specs.forms.Outputs as outputs
use Rattle.someip_node_rules.specs.forms.Outputs.{Given}
use Rattle.someip_node_rules.specs.rules.Plans.{Rule, Announces, Answers, Calls, Publishes, PublishesTo, RepliesTo, TakesRequest, TakesSubscribe, Wishes, rule}
use Rattle.someip_node_rules.specs.trails.SendingRules.{IsAnnounced, IsAnswerTo, IsCallTo, IsErrorTo, IsEventTo, IsSent}
use Rattle.someip_node_rules.specs.forms.Setups.{wanted_as}
use Rattle.someip_node_rules.specs.histories.Tables.{waiting_calls}
use Rattle.someip_node_laws.proofs.fits.FitEntries.{FitsFront, offer_fits, want_fits}
use Rattle.someip_node_laws.proofs.fits.FitItems.{after_last_fits, free_fits, request_fits, session_after_fits}
use Rattle.someip_node_rules.proofs.trails.MeetingLemmas.{rule_noted}
use Rattle.someip_node_rules.proofs.lists.MemberLemmas.{all_weaker}
use Rattle.someip_node_laws.proofs.histories.NamedLemmas.{get-session, next-event_session, stamp-next}

-- the numbers of a header fit their fields: those of a message without payload
abbrev pub HeaderFits : Header → Type 0
HeaderFits header = Fits (record { header = header; payload = [] })

-- the numbers that a rule is about, as far as they go out
abbrev pub FitsRule : Rule → Type 0
FitsRule (TakesRequest instance from header payload) = HeaderFits header
FitsRule (TakesSubscribe peer head endpoint) = EventgroupFits head
FitsRule (Announces entries) = FitsFront entries
FitsRule (RepliesTo peer entries) = FitsFront entries
FitsRule (Calls kind instance method payload) = (instance.service < 2 ^ 16) × (method < 2 ^ 16) × FitsPayload payload
FitsRule (Answers token reply payload) = (code_of_reply reply < 2 ^ 8) × FitsPayload payload
FitsRule (Publishes instance event payload) = (event < 2 ^ 16) × FitsPayload payload
FitsRule (PublishesTo instance endpoint event payload) = (event < 2 ^ 16) × FitsPayload payload
FitsRule (Wishes eventgroup) = eventgroup.id < 2 ^ 16
FitsRule r = Unit {0}

-- ---- which messages are of Service Discovery

and_false : (a b c d e : Bool) → d ≡ false → ((a && b && c && d) && e) ≡ false
and_false false b c d e is = refl
and_false true false c d e is = refl
and_false true true false d e is = refl
and_false true true true true e is = absurd cc
and_false true true true false e is = refl

-- only a NOTIFICATION is
pub no_notification : (header : Header) → is_notification header.kind ≡ false → is_valid_discovery header ≡ false
no_notification header is =
    and_false (eqb header.service 0xFFFF) (eqb header.method 0x8100) (eqb header.interface 1) (is_notification header.kind) (not (eqb header.session 0)) is

first_false : (a b c d e : Bool) → a ≡ false → ((a && b && c && d) && e) ≡ false
first_false false b c d e is = refl
first_false true b c d e is = absurd cc

-- of the service of Service Discovery
pub other_service : (header : Header) → header.service ≢ 0xFFFF → is_valid_discovery header ≡ false
other_service header ne =
    first_false (eqb header.service 0xFFFF) (eqb header.method 0x8100) (eqb header.interface 1) (is_notification header.kind) (not (eqb header.session 0))
    (cases (eqb header.service 0xFFFF) refl)
  where
    cases : (b : Bool) → eqb header.service 0xFFFF ≡ b → b ≡ false
    cases true is = absurd (ne (eqb-true header.service 0xFFFF is))
    cases false is = refl

-- ---- messages of Service Discovery

pub stamp_fits : (n : ℕ) → (after_uses n).session < 2 ^ 16
stamp_fits zero = omega arith
stamp_fits (suc n) = cases (eqb (after_uses n).session 0xffff) refl (stamp_fits n)
  where
    cases : (b : Bool) → eqb (after_uses n).session 0xffff ≡ b → (after_uses n).session < 2 ^ 16 → cond b 1 ((after_uses n).session + 1) < 2 ^ 16
    cases true e lt = omega arith
    cases false e lt = let ne = eqb-false (after_uses n).session 0xffff e in omega (arith, lt, ne)

announced_fits : (r : Rule) (h : History) (from to : SocketAddrV4) (stamp : Stamp) (entries : List EntryValue) → FitsRule r
    → IsAnnounced r (answers_of h) from to stamp entries → FitsWire (outputs.Announces from to stamp entries)
announced_fits (Announces own) h from to stamp entries fits says =
    let front = subst FitsFront (sym says.3) fits in
    (subst (λ s. s.session < 2 ^ 16) (sym says.2) (stamp_fits (length (flat_map group_addressed h.items))), front.0, front.1)
announced_fits (RepliesTo peer own) h from to stamp entries fits says =
    let front = subst FitsFront (sym says.3) fits in
    (subst (λ s. s.session < 2 ^ 16) (sym (says.2 ∙ stamp-next h.items peer)) (stamp_fits (messages_to h.items peer)), front.0, front.1)
announced_fits r h from to stamp entries fits says = absurd says

-- ---- other messages

-- a message fits, and is not one of Service Discovery
abbrev FitsSent : MessageValue → Type 0
FitsSent m = Fits m × IsFalse (is_valid_discovery m.header)

module _ (h : History) (fits : FitsHistory h) where
  major_fits : (instance : InstanceId) (want : Option WantedService) → wanted_as h.config instance ≡ want → option_map_or (λ w. w.major) want 0 < 2 ^ 8
  major_fits instance None is = omega arith
  major_fits instance (Some want) is = let own = want_fits h.config fits.0 instance want is in own.major

  pub call_session_fits : (call : Call) → session_of call (answers_of h) < 2 ^ 16
  call_session_fits call =
      free_fits (waiting_calls (answers_of h)) call.message _
      (subst (λ o. session_after_last o < 2 ^ 16) (sym (get-session h.items call.message)) (after_last_fits h.items call.message fits.1))

  call_kind : (kind : CallKind) → is_notification (kind_of_call kind) ≡ false
  call_kind calls.Request = refl
  call_kind calls.RequestNoReturn = refl

  call_fits : (kind : CallKind) (instance : InstanceId) (method : ℕ) (payload : List ℕ) → FitsRule (Calls kind instance method payload)
      → (from to : SocketAddrV4) (m : MessageValue) → IsCallTo kind instance method payload (answers_of h) from to m → FitsSent m
  call_fits kind instance method payload own from to m is =
      subst FitsSent (sym is.is) (
        record {
          service = own.0;
          method = own.1;
          length = own.2;
          client = fits.0.client;
          session = call_session_fits (call_of kind instance method (answers_of h));
          interface = major_fits instance (wanted_as h.config instance) refl;
          code = omega arith;
        },
        no_notification (call_header h.config.client_id (call_of kind instance method (answers_of h)) (session_of (call_of kind instance method (answers_of h)) (answers_of h))) (call_kind kind),
      )

  reply_kind : (reply : Reply) → is_notification (kind_of_reply reply) ≡ false
  reply_kind (replies.Response code) = refl
  reply_kind (replies.Error code) = refl

  answer_fits : (token : ℕ) (reply : Reply) (payload : List ℕ) → FitsRule (Answers token reply payload)
      → (from to : SocketAddrV4) (m : MessageValue) → IsAnswerTo token reply payload (answers_of h) from to m → FitsSent m
  answer_fits token reply payload own from to m is =
      let request = request_fits h.items token is.request fits.1 is.waits in
      subst FitsSent (sym is.is) (
        record {
          service = request.service;
          method = request.method;
          length = own.1;
          client = request.client;
          session = request.session;
          interface = request.interface;
          code = own.0;
        },
        no_notification (answer_header is.request (kind_of_reply reply) (code_of_reply reply)) (reply_kind reply),
      )

  code_fits : (fault : RequestFault) → fault_code fault < 2 ^ 8
  code_fits faults.UnknownService = omega arith
  code_fits faults.WrongInterface = omega arith
  code_fits faults.UnknownMethod = omega arith
  code_fits faults.WrongType = omega arith
  code_fits faults.NotReady = omega arith

  error_fits : (instance : InstanceId) (peer : SocketAddrV4) (header : Header) → HeaderFits header
      → (from to : SocketAddrV4) (m : MessageValue) → IsErrorTo instance peer header (answers_of h) from to m → FitsSent m
  error_fits instance peer header own from to m is =
      subst FitsSent (sym is.is) (
        record {
          service = own.service;
          method = own.method;
          length = omega arith;
          client = own.client;
          session = own.session;
          interface = own.interface;
          code = code_fits is.fault;
        },
        no_notification (answer_header (asked is.service.rules peer header) kinds.Error (fault_code is.fault)) refl,
      )

  event_fits : (instance : InstanceId) (event : ℕ) (payload : List ℕ) → (event < 2 ^ 16) × FitsPayload payload → (ToIs : OfferedService → Type 0)
      → (from : SocketAddrV4) (m : MessageValue) → IsEventTo instance event payload ToIs (answers_of h) from m → FitsSent m
  event_fits instance event payload own ToIs from m is =
      let offer = offer_fits h.config fits.0 instance is.service is.offered in
      let rules = is.service.rules in
      subst FitsSent (sym is.is) (
        record {
          service = offer.service;
          method = own.0;
          length = own.1;
          client = omega arith;
          session =
              subst (λ s. s < 2 ^ 16) (sym (next-event_session h.items (event_of rules event)))
              (session_after_fits (suc (times_published h.items (event_of rules event))) 0 (omega arith));
          interface = offer.major;
          code = omega arith;
        },
        other_service (event_header rules event (next_session_of rules event (answers_of h).server)) offer.other,
      )

  sent_fits : (r : Rule) → FitsRule r → (from to : SocketAddrV4) (m : MessageValue) → IsSent r (answers_of h) from to m → FitsSent m
  sent_fits (Calls kind instance method payload) own from to m is = call_fits kind instance method payload own from to m is
  sent_fits (Answers token reply payload) own from to m is = answer_fits token reply payload own from to m is
  sent_fits (TakesRequest instance peer header payload) own from to m is = error_fits instance peer header own from to m is
  sent_fits (Publishes instance event payload) own from to m is = event_fits instance event payload own _ from m is
  sent_fits (PublishesTo instance endpoint event payload) own from to m is = event_fits instance event payload own _ from m is
  sent_fits r own from to m is = absurd is

  -- ---- all that is given, and met

  pub means_fits : (r : Rule) → FitsRule r → (given : Given) → Means given r (answers_of h) → FitsWire given
  means_fits r own (outputs.Announces from to stamp entries) is = announced_fits r h from to stamp entries own is
  means_fits r own (outputs.Sends from to m) is = sent_fits r own from to m is
  means_fits r own (outputs.Tells output) is = tt

  item_fits : (r : Rule) → FitsRule r → (item : Item) → IsMet item r (answers_of h) → FitsItem item
  item_fits r own (items.Requested request) is =
      let header = subst FitsRule is.taken own in
      subst (λ q. FitsItem (items.Requested q)) (sym is.is) (record {
        service = header.service;
        method = header.method;
        length = omega arith;
        client = header.client;
        session = header.session;
        interface = header.interface;
        code = omega arith;
      })
  item_fits r own (items.Called call peer session) is = subst (λ s. s < 2 ^ 16) (sym is.numbered) (call_session_fits (call_of is.kind is.instance is.method (answers_of h)))
  item_fits r own (items.Wished eventgroup) is = subst FitsRule is own
  item_fits r own item is = tt

  pub items_fit : (r : Rule) → FitsRule r → AllByRecursion FitsItem (rule r (answers_of h)).items
  items_fit r own = all_weaker (λ item. IsMet item r (answers_of h)) FitsItem (item_fits r own) (rule r (answers_of h)).items (rule_noted (answers_of h) r)
