-- Once a datagram came, none of the subscriptions that stand has passed by its moment.
use Rattle.std.proofs.Common.{◌≡◌, ℕ, ◌+◌, ◌*◌, ◌==◌, ◌&&◌, Bool, true, false, cond, not, List, [], ◌∷◌, if◌then◌else◌, Option, None, Some, refl, ap, sym, subst, ◌∙◌, arith}
use Rattle.std.specs.Prelude.{Result, Ok, Err, max}
use Rattle.std.specs.Ordering.{eq_by_cmp}
use Rattle.std.specs.FinMap as finite
use Rattle.std.proofs.lemmas.Bool.Decides.{nat_tests}
use Rattle.std.specs.declared.net.ipv4_addr.Ipv4Addr.{Ipv4Addr}
use Rattle.std.specs.declared.net.socket_addr.SocketAddrV4.{SocketAddrV4}
use Rattle.sd_wire.specs.declared.entry.EntryHead.{EntryHead}
use Rattle.sd_wire.specs.declared.entry.EntryHead.TheVariants.{Service, Eventgroup}
use Rattle.sd_wire.specs.declared.entry.ServiceEntry.{ServiceEntry}
use Rattle.sd_wire.specs.declared.entry.ServiceKind.{ServiceKind}
use Rattle.sd_wire.specs.declared.entry.ServiceKind.TheVariants.{Find, Offer}
use Rattle.sd_wire.specs.declared.error.SdError.{SdError}
use Rattle.sd_wire.specs.contents.Endpoints.{first_udp_endpoint, options_of}
use Rattle.sd_wire.specs.contents.Values.{ReadValue, SdValue, good, bad_run}
use Rattle.sd_wire.specs.decoding.Program.{reading}
use Rattle.someip_reassembly.specs.declared.error.TpError.{TpError}
use Rattle.someip_tables.specs.declared.deadline.Deadline.TheVariants.{At, Never}
use Rattle.someip_tables.specs.declared.lasting.Lasting.{Lasting}
use Rattle.someip_tables.specs.declared.hashed.origin.Origin.{Origin}
use Rattle.someip_tables.specs.Deadlines.{deadline_after, has_passed}
use Rattle.someip_tables.specs.Lastings.{unexpired, unless_passed}
use Rattle.someip_tables.specs.hashed.Rooms.{may_hold}
use Rattle.someip_tables.proofs.Expiry.{get-unexpired}
use Rattle.someip_wire.specs.declared.error.WireError.{WireError}
use Rattle.someip_wire.specs.declared.header.Header.{Header}
use Rattle.someip_wire.specs.Discovery.{is_notification}
use Rattle.someip_wire.specs.Kinds.{has_tp_flag}
use Rattle.someip_wire.specs.Reading.{items_of}
use Rattle.someip_wire.specs.Spelling.{MessageValue}
use Rattle.audit_sd.specs.declared.sessions.finding.Finding.{Finding as SessionFinding}
use Rattle.audit_sd.specs.declared.sessions.finding.Finding.TheVariants as sessions
use Rattle.audit_sd.specs.declared.sessions.message.SdMessage.{SdMessage}
use Rattle.audit_sd.specs.sessions.SessionBooks as session_book
use Rattle.audit_sd.specs.declared.offers.entry.OfferEntry.{OfferEntry}
use Rattle.audit_sd.specs.declared.offers.entry.Standing.{Standing}
use Rattle.audit_sd.specs.declared.offers.key.OfferKey.{OfferKey}
use Rattle.audit_sd.specs.offers.OfferTables.{ended_by}
use Rattle.audit_sd.specs.declared.receivers.entry.ReceiverEntry.{ReceiverEntry}
use Rattle.audit_sd.specs.declared.subscriptions.entry.EntryKind.{EntryKind}
use Rattle.audit_sd.specs.declared.subscriptions.entry.EntryKind.TheVariants.{Answer, Subscribe}
use Rattle.audit_sd.specs.declared.subscriptions.key.SubscriptionKey.{SubscriptionKey}
use Rattle.audit_sd.specs.subscriptions.SubscribeRules.{is_of}
use Rattle.audit_sd.specs.subscriptions.SubscriptionKeys.{subscription_cmp}
use Rattle.audit_sd.specs.subscriptions.SubscriptionOrder.{exact_subscriptions, subscriptions_total}
use Rattle.audit_sd.specs.receivers.ReceiverRules.{is_to, standing_from}
use Rattle.audit_sd.specs.receivers.ReceiverTables as receivers
use Rattle.audit_sd.specs.receivers.ReceiverTables.{Receivers, Subscriptions}
use Rattle.audit_traffic.specs.segments.SegmentBooks as segments
use Rattle.someip_audit.specs.AnswerTimes.{cycle_ms_of}
use Rattle.audit_endpoints.specs.DiscoveryMessages.{is_sd}
use Rattle.someip_audit.specs.AnyShown.{item_len, item_shown, items_shown, payload_shown}
use Rattle.someip_audit.specs.Audits.{AuditState, Seen, after_seen, datagram_shown, without_passed}
use Rattle.someip_audit.specs.BooksHeld.{Held}
use Rattle.someip_audit.specs.FellDues.{NonePassed}
use Rattle.someip_audit.specs.MessageShown.{call_shown, code_shown, cycle_shown, delivery, event_flow, event_shown, flow_shown, has_no_tp_header, is_event, is_of_call, judged_shown, message_shown, piece_shown, segment_at, segment_held, segment_shown, segment_told, watch_shown, whole_shown, whole_taken}
use Rattle.audit_endpoints.specs.NamedEndpoints.{named_endpoint}
use Rattle.someip_audit.specs.SdEntries.{offer_entry, offers_by, receiver_entry, sd_message, subscribe_entry, withdrawn_offer}
use Rattle.someip_audit.specs.SdShown.{Work, after_session, endpoint_shown, entries_shown, entry_shown, head_of, head_shown, offer_noted, offer_shown, offered_shown, options_shown, server_ended, server_shown, service_shown, session_shown, stop_shown, taken_shown, working}
use Rattle.audit_endpoints.specs.DiscoveryMessages.{is_at_discovery}
use Rattle.audit_endpoints.specs.WatchedEndpoints.{is_looked_at}
use Rattle.someip_audit.proofs.CycleStepLemmas.{standing_same}

-- ---- subscriptions that come and go

none_is_some : (l : Lasting SocketAddrV4) → None ≡ Some l → ⊥
none_is_some l is = cc

module _ (now : ℕ) where
  fewer : (some all : Subscriptions) → ((key : SubscriptionKey) (lasting : Lasting SocketAddrV4) → finite.get some key ≡ Some lasting → finite.get all key ≡ Some lasting) → NonePassed now all → NonePassed now some
  fewer some all of none key lasting has = none key lasting (of key lasting has)

  was_there : (b : Bool) (v : Option (Lasting SocketAddrV4)) (lasting : Lasting SocketAddrV4) → cond b v None ≡ Some lasting → v ≡ Some lasting
  was_there true v lasting has = has
  was_there false v lasting has = absurd (none_is_some lasting has)

  retained : (p : SubscriptionKey → Bool) (all : Subscriptions) → NonePassed now all → NonePassed now (finite.retain_keys all p)
  retained p all =
      fewer (finite.retain_keys all p) all
      (λ key lasting has. was_there (p key) (finite.get all key) lasting (sym (finite.get-retain_keys all p key (λ x tie. ap p (sym (exact_subscriptions key x tie)))) ∙ has))

  removed : (gone : SubscriptionKey) (all : Subscriptions) → NonePassed now all → NonePassed now (finite.remove all gone)
  removed gone all =
      fewer (finite.remove all gone) all (λ key lasting has. other (eq_by_cmp subscription_cmp key gone) (finite.get all key) lasting (sym (finite.get-remove subscriptions_total all gone key) ∙ has))
    where
      other : (b : Bool) (v : Option (Lasting SocketAddrV4)) (lasting : Lasting SocketAddrV4) → cond b None v ≡ Some lasting → v ≡ Some lasting
      other true v lasting has = absurd (none_is_some lasting has)
      other false v lasting has = has

  inserted : (one : SubscriptionKey) (new : Lasting SocketAddrV4) (all : Subscriptions) → has_passed now new.until ≡ false → NonePassed now all → NonePassed now (finite.insert all one new)
  inserted one new all later none key lasting has = cases (eq_by_cmp subscription_cmp key one) (sym (finite.get-insert subscriptions_total all one new key) ∙ has)
    where
      cases : (b : Bool) → cond b (Some new) (finite.get all key) ≡ Some lasting → has_passed now lasting.until ≡ false
      cases true is = let same : new ≡ lasting = cc in ap (λ (l : Lasting SocketAddrV4). has_passed now l.until) (sym same) ∙ later
      cases false is = none key lasting is

  left_over : (all : Subscriptions) → NonePassed now (unexpired now all)
  left_over all key lasting has = by (finite.get all key) (sym (get-unexpired subscriptions_total exact_subscriptions now all key) ∙ has)
    where
      kept : (v : Lasting SocketAddrV4) (b : Bool) → has_passed now v.until ≡ b → cond (not b) (Some v) None ≡ Some lasting → has_passed now lasting.until ≡ false
      kept v true is so = absurd (none_is_some lasting so)
      kept v false is so = let same : v ≡ lasting = cc in ap (λ (l : Lasting SocketAddrV4). has_passed now l.until) (sym same) ∙ is

      by : (v : Option (Lasting SocketAddrV4)) → unless_passed now v ≡ Some lasting → has_passed now lasting.until ≡ false
      by None so = absurd (none_is_some lasting so)
      by (Some v) so = kept v (has_passed now v.until) refl so

  later : (ttl : ℕ) → (ttl == 0) ≡ false → has_passed now (deadline_after now ttl) ≡ false
  later ttl some = cases (ttl == 0xFFFFFF)
    where
      cases : (b : Bool) → has_passed now (if b then Never else At (now + 1000 * ttl)) ≡ false
      cases true = refl
      cases false = grind (arith, nat_tests)

  -- ---- entries

  subscribed : (entry : ReceiverEntry) (endpoint : Option SocketAddrV4) (book : Receivers) → (entry.ttl == 0) ≡ false → NonePassed now book.standing
      → NonePassed now (receivers.after_subscribe now entry endpoint book).standing
  subscribed entry None book some none = none
  subscribed entry (Some endpoint) book some none = cases (may_hold book.limit book.standing entry.key)
    where
      cases : (b : Bool)
          → NonePassed now
          (if b then record book { standing = finite.insert book.standing entry.key (standing_from now entry.ttl endpoint); told = receivers.untold entry.key endpoint book.told } else record book { told_full = true }).standing
      cases true = inserted entry.key (standing_from now entry.ttl endpoint) book.standing (later entry.ttl some) none
      cases false = none

  acked : (entry : ReceiverEntry) (v : Option (Lasting SocketAddrV4)) (standing : Subscriptions) → (entry.ttl == 0) ≡ false → NonePassed now standing → NonePassed now (receivers.acked now entry v standing)
  acked entry None standing some none = none
  acked entry (Some lasting) standing some none = inserted entry.key (standing_from now entry.ttl lasting.value) standing (later entry.ttl some) none

  entered : (entry : ReceiverEntry) (book : Receivers) → NonePassed now book.standing → NonePassed now (receivers.after_entry now entry book).standing
  entered entry book none = cases (entry.ttl == 0) refl
    where
      by : (kind : EntryKind) → (entry.ttl == 0) ≡ false → NonePassed now (receivers.after now kind entry book).standing
      by Subscribe some = subscribed entry entry.endpoint book some none
      by Answer some = acked entry (finite.get book.standing entry.key) book.standing some none

      cases : (b : Bool) → (entry.ttl == 0) ≡ b → NonePassed now (if b then record book { standing = finite.remove book.standing entry.key } else receivers.after now entry.kind entry book).standing
      cases true is = removed entry.key book.standing none
      cases false is = by entry.kind is

  -- ---- what is worked on

  abbrev Stands : Work → Type 0
  Stands work = NonePassed now work.held.receivers.standing

  if_stands : (b : Bool) (one other : Work) → Stands one → Stands other → Stands (if b then one else other)
  if_stands true one other is_one is_other = is_one
  if_stands false one other is_one is_other = is_other

  event_stands : (origin : Origin) (header : Header) (work : Work) → Stands work → Stands (event_shown now origin header work)
  event_stands origin header work none =
      if_stands (is_event origin header) _ work (subst (NonePassed now) (sym (standing_same now (delivery origin header) work.held.receivers)) none) none

  flow_stands : (origin : Origin) (header : Header) (work : Work) → Stands work → Stands (flow_shown now origin header work)
  flow_stands origin header work none = if_stands (is_notification header.kind) _ work none none

  watch_stands : (origin : Origin) (header : Header) (cycle_ms : Option ℕ) (work : Work) → Stands work → Stands (watch_shown now origin (event_flow origin header) cycle_ms work)
  watch_stands origin header None work none = none
  watch_stands origin header (Some cycle_ms) work none = none

  cycle_stands : (origin : Origin) (header : Header) (work : Work) → Stands work → Stands (cycle_shown now origin header work)
  cycle_stands origin header work none =
      if_stands (is_event origin header && receivers.is_subscribed (delivery origin header) work.held.receivers.standing) _ work
      (watch_stands origin header (cycle_ms_of work.held.times header.service header.method) work none) none

  whole_stands : (origin : Origin) (header : Header) (payload : List ℕ) (work : Work) → Stands work → Stands (whole_shown now origin header payload work)
  whole_stands origin header payload work none =
      let judged : Work = judged_shown now origin header (code_shown header (call_shown now origin header payload work)) in
      let event : Work = event_shown now origin header judged in
      cycle_stands origin header (flow_shown now origin header event) (flow_stands origin header event (event_stands origin header judged none))

  taken_stands : (origin : Origin) (header : Header) (payload : List ℕ) (work : Work) → Stands work → Stands (whole_taken now origin header payload work)
  unfolding whole_taken
  taken_stands origin header payload work none =
      let shown : Stands (whole_shown now origin header payload work) = whole_stands origin header payload work none in
      if_stands (is_of_call header) _ (whole_shown now origin header payload work) shown shown

  told_stands : (origin : Origin) (header : Header) (told : Option (Result MessageValue TpError)) (work : Work) → Stands work → Stands (segment_told now origin header told work)
  told_stands origin header None work none = none
  told_stands origin header (Some (Ok message)) work none = taken_stands origin message.header message.payload work none
  told_stands origin header (Some (Err refusal)) work none = none

  piece_stands : (origin : Origin) (message : MessageValue) (work : Work) → Stands work → Stands (piece_shown now origin message work)
  piece_stands origin message work none =
      told_stands origin message.header
      (segments.told_of message.header (segments.segment_of origin.from origin.to message) (max work.held.segments.latest now) work.held.segments)
      (record work { held = segment_held now origin message work.held }) none

  message_stands : (origin : Origin) (place : ℕ) (message : MessageValue) (work : Work) → Stands work → Stands (message_shown now origin place message work)
  message_stands origin place message work none =
      if_stands (has_tp_flag message.header.kind) (segment_at now origin place message work) (whole_taken now origin message.header message.payload work)
      (if_stands (is_at_discovery origin) work (segment_shown now origin place message work) none
      (if_stands (has_no_tp_header message.payload) _ (piece_shown now origin message work) none (piece_stands origin message work none)))
      (taken_stands origin message.header message.payload work none)

  ended_same : (key : OfferKey) (offer : Option Standing) (held : Held) → (server_ended key offer held).receivers ≡ held.receivers
  ended_same key None held = refl
  ended_same key (Some offer) held = refl

  server_stands : (entry : OfferEntry) (endpoint : Option SocketAddrV4) (work : Work) → Stands work → Stands (server_shown now entry endpoint work)
  server_stands entry None work none = none
  server_stands entry (Some endpoint) work none = none

  service_stands : (kind : ServiceKind) (origin : Origin) (entry : ServiceEntry) (endpoint : Option SocketAddrV4) (work : Work) → Stands work → Stands (service_shown kind now origin entry endpoint work)
  service_stands Find origin entry endpoint work none = none
  service_stands Offer origin entry endpoint work none =
      let offer : OfferEntry = offer_entry origin entry endpoint in
      let same : (server_ended offer.key (ended_by offer work.held.offers) work.held).receivers ≡ work.held.receivers = ended_same offer.key (ended_by offer work.held.offers) work.held in
      if_stands (entry.ttl == 0) (stop_shown now (withdrawn_offer origin entry) offer work) (offered_shown now offer work)
      (retained (λ key. not (is_to (withdrawn_offer origin entry) key)) (server_ended offer.key (ended_by offer work.held.offers) work.held).receivers.standing
      (subst (λ (r : Receivers). NonePassed now r.standing) (sym same) none))
      (server_stands offer endpoint (offer_shown now offer work) none)

  head_stands : (origin : Origin) (head : EntryHead) (endpoint : Option SocketAddrV4) (work : Work) → Stands work → Stands (head_shown now origin head endpoint work)
  head_stands origin (Service entry) endpoint work none = service_stands entry.kind origin entry endpoint work none
  head_stands origin (Eventgroup entry) endpoint work none = entered (receiver_entry (subscribe_entry origin entry) endpoint) work.held.receivers none

  learnt_stands : (endpoint : Option SocketAddrV4) (work : Work) → Stands work → Stands (endpoint_shown endpoint work)
  learnt_stands None work none = none
  learnt_stands (Some endpoint) work none = none

  entry_taken_stands : (origin : Origin) (entry : ReadValue) (work : Work) → Stands work → Stands (taken_shown now origin entry work)
  entry_taken_stands origin (good entry) work none =
      let endpoint = first_udp_endpoint (options_of entry) in
      head_stands origin entry.head endpoint (endpoint_shown (named_endpoint entry.head endpoint) work) (learnt_stands (named_endpoint entry.head endpoint) work none)
  entry_taken_stands origin (bad_run head) work none = head_stands origin head None work none

  entry_stands : (origin : Origin) (entry : ReadValue) (work : Work) → Stands work → Stands (entry_shown now origin entry work)
  entry_stands origin entry work none =
      entry_taken_stands origin entry (options_shown entry (record work { held = offer_noted entry work.held })) (cases (offers_by (head_of entry)))
    where
      cases : (b : Bool) → NonePassed now (if b then record work.held { is_offered = true } else work.held).receivers.standing
      cases true = none
      cases false = none

  entries_stand : (origin : Origin) (entries : List ReadValue) (work : Work) → Stands work → Stands (entries_shown now origin entries work)
  entries_stand origin [] work none = none
  entries_stand origin (entry ∷ entries) work none = entries_stand origin entries (entry_shown now origin entry work) (entry_stands origin entry work none)

  session_stands : (told : Option SessionFinding) (address : Ipv4Addr) (held : Held) → NonePassed now held.receivers.standing → NonePassed now (after_session told address held).receivers.standing
  session_stands None address held none = none
  session_stands (Some sessions.Reboot) address held none = retained (λ key. not (is_of address key)) held.receivers.standing none
  session_stands (Some (sessions.NotNext stamp expected)) address held none = none
  session_stands (Some (sessions.Overtaken stamp)) address held none = none
  session_stands (Some sessions.Full) address held none = none

  payload_stands : (origin : Origin) (place session : ℕ) (read : Result SdValue SdError) (work : Work) → Stands work → Stands (payload_shown now origin place session read work)
  payload_stands origin place session (Ok sd) work none =
      let message : SdMessage = sd_message now origin session sd.flags in
      entries_stand origin sd.entries (session_shown message work)
      (session_stands (session_book.told_by message work.held.sessions) message.from (record work.held { sessions = session_book.sessions_after message work.held.sessions }) none)
  payload_stands origin place session (Err fault) work none = none

  item_stands : (origin : Origin) (place : ℕ) (item : Result MessageValue WireError) (work : Work) → Stands work → Stands (item_shown now origin place item work)
  item_stands origin place (Ok message) work none =
      if_stands (is_sd origin message.header) (payload_shown now origin (place + 16) message.header.session (reading message.payload) work) (message_shown now origin (place + 16) message work)
      (payload_stands origin (place + 16) message.header.session (reading message.payload) work none) (message_stands origin (place + 16) message work none)
  item_stands origin place (Err fault) work none = none

  items_stand : (origin : Origin) (place : ℕ) (items : List (Result MessageValue WireError)) (work : Work) → Stands work → Stands (items_shown now origin place items work)
  items_stand origin place [] work none = none
  items_stand origin place (item ∷ items) work none = items_stand origin (place + item_len item) items (item_shown now origin place item work) (item_stands origin place item work none)

pub none_has_passed : (seen : Seen) (state : AuditState) → NonePassed seen.now (after_seen seen state).receivers.standing
none_has_passed seen state =
    let begun : Work = working (without_passed seen.now state) [] in
    let stands : NonePassed seen.now begun.held.receivers.standing = left_over seen.now state.receivers.standing in
    if_stands seen.now (is_looked_at state.watched seen.origin) (datagram_shown seen begun) begun (items_stand seen.now seen.origin 0 (items_of seen.bytes) begun stands) stands
