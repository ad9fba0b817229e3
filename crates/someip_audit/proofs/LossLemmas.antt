-- What the findings of sessions rest on: five of the books, and what those that only judge hold changes none of them.
use Rattle.std.proofs.Common.{◌≡◌, ℕ, ◌+◌, ◌==◌, ◌&&◌, nat_lt, Bool, true, false, List, [], ◌∷◌, ◌++◌, if◌then◌else◌, Option, None, Some, refl, ap, sym, ◌∙◌}
use Rattle.std.specs.Prelude.{Result, Ok, Err, max, not, option_map, filter}
use Rattle.std.specs.FinMap as finite
use Rattle.std.specs.declared.net.ipv4_addr.Ipv4Addr.{Ipv4Addr}
use Rattle.std.specs.declared.net.socket_addr.SocketAddrV4.{SocketAddrV4}
use Rattle.sd_wire.specs.declared.entry.EntryHead.{EntryHead}
use Rattle.sd_wire.specs.declared.entry.EntryHead.TheVariants.{Service, Eventgroup}
use Rattle.sd_wire.specs.declared.entry.ServiceEntry.{ServiceEntry}
use Rattle.sd_wire.specs.declared.entry.ServiceKind.{ServiceKind}
use Rattle.sd_wire.specs.declared.entry.ServiceKind.TheVariants.{Find, Offer}
use Rattle.sd_wire.specs.declared.error.SdError.{SdError}
use Rattle.sd_wire.specs.contents.Endpoints.{first_udp_endpoint, options_of}
use Rattle.sd_wire.specs.contents.Values.{ReadValue, SdValue, good, bad_run}
use Rattle.sd_wire.specs.decoding.Program.{reading}
use Rattle.someip_reassembly.specs.declared.error.TpError.{TpError}
use Rattle.someip_tables.specs.declared.hashed.origin.Origin.{Origin}
use Rattle.someip_tables.specs.declared.lasting.Lasting.{Lasting}
use Rattle.someip_tables.specs.Lastings.{expired, unexpired}
use Rattle.someip_tables.specs.hashed.Rooms.{may_hold, told_when_full}
use Rattle.someip_wire.specs.declared.error.WireError.{WireError}
use Rattle.someip_wire.specs.declared.header.Header.{Header}
use Rattle.someip_wire.specs.Discovery.{is_notification}
use Rattle.someip_wire.specs.Kinds.{has_tp_flag}
use Rattle.someip_wire.specs.Reading.{items_of}
use Rattle.someip_wire.specs.Spelling.{MessageValue}
use Rattle.audit_sd.specs.declared.sessions.finding.Finding.{Finding as SessionFinding}
use Rattle.audit_sd.specs.declared.sessions.finding.Finding.TheVariants as sessions
use Rattle.audit_sd.specs.declared.sessions.message.SdMessage.{SdMessage}
use Rattle.audit_sd.specs.sessions.SessionBooks as session_book
use Rattle.audit_sd.specs.sessions.SessionBooks.{Sessions}
use Rattle.audit_sd.specs.declared.offers.entry.OfferEntry.{OfferEntry}
use Rattle.audit_sd.specs.declared.offers.entry.Standing.{Standing}
use Rattle.audit_sd.specs.declared.offers.key.OfferKey.{OfferKey}
use Rattle.audit_sd.specs.offers.OfferTables as offers
use Rattle.audit_sd.specs.servers.ServerTables as servers
use Rattle.audit_sd.specs.declared.receivers.delivery.Delivery.{Delivery}
use Rattle.audit_sd.specs.declared.receivers.entry.ReceiverEntry.{ReceiverEntry}
use Rattle.audit_sd.specs.declared.receivers.entry.WithdrawnOffer.{WithdrawnOffer}
use Rattle.audit_sd.specs.declared.subscriptions.entry.EntryKind.{EntryKind}
use Rattle.audit_sd.specs.declared.subscriptions.entry.EntryKind.TheVariants.{Answer, Subscribe}
use Rattle.audit_sd.specs.declared.subscriptions.entry.SubscribeEntry.{SubscribeEntry}
use Rattle.audit_sd.specs.declared.subscriptions.key.SubscriptionKey.{SubscriptionKey}
use Rattle.audit_sd.specs.subscriptions.SubscribeRules.{is_of}
use Rattle.audit_sd.specs.subscriptions.SubscribeTables as subscriptions
use Rattle.audit_sd.specs.receivers.ReceiverRules.{is_to, standing_from}
use Rattle.audit_sd.specs.receivers.ReceiverTables as receivers
use Rattle.audit_sd.specs.receivers.ReceiverTables.{Receivers, Subscriptions}
use Rattle.audit_traffic.specs.calls.CallBooks as calls
use Rattle.audit_traffic.specs.declared.cycles.finding.Finding.{Finding as CycleFinding}
use Rattle.audit_traffic.specs.cycles.CycleTables as cycles
use Rattle.audit_traffic.specs.declared.events.flow.EventFlow.{EventFlow}
use Rattle.audit_traffic.specs.declared.ways.finding.Finding.{Finding as WayFinding}
use Rattle.audit_traffic.specs.ways.WayTables as ways
use Rattle.audit_traffic.specs.segments.SegmentBooks as segments
use Rattle.audit_traffic.specs.sequence.Sequences as events
use Rattle.audit_traffic.specs.sequence.Sequences.{Sequence}
use Rattle.someip_audit.specs.declared.finding.Finding.{Finding}
use Rattle.someip_audit.specs.declared.finding.Finding.TheVariants as findings
use Rattle.someip_audit.specs.AnswerTimes.{answer_ms_of, cycle_ms_of}
use Rattle.someip_audit.specs.AnyShown.{in_datagram, item_len, item_shown, items_shown, payload_shown}
use Rattle.audit_endpoints.specs.DiscoveryMessages.{is_sd}
use Rattle.someip_audit.specs.Audits.{AuditState, Seen, after_seen, datagram_shown, each_disturbed, seen_shown, seen_work, without_passed}
use Rattle.someip_audit.specs.BooksHeld.{Held}
use Rattle.someip_audit.specs.Losses.{session_findings, tells_of_sessions}
use Rattle.someip_audit.specs.MessageShown.{call_shown, code_shown, cycle_shown, delivery, event_flow, event_seen, event_shown, flow_shown, has_no_tp_header, is_error, is_event, is_of_call, judged_shown, message_shown, piece_shown, segment_at, segment_held, segment_shown, segment_told, server_message, tapped_in, told_of_cycle, told_of_way, watch_shown, way_of, way_shown, whole_shown, whole_taken}
use Rattle.someip_audit.specs.SdEntries.{instance_of, lacks_endpoint, offer_entry, offers_by, receiver_entry, sd_message, sender, server_offer, subscribe_entry, withdrawn_offer}
use Rattle.audit_endpoints.specs.NamedEndpoints.{named_endpoint}
use Rattle.someip_audit.specs.SdShown.{Work, after_session, changed, disturbed_if, ended_shown, endpoint_shown, entries_shown, entry_shown, group_shown, head_of, head_shown, offer_noted, offer_shown, offered_shown, options_shown, receiver_shown, server_ended, server_shown, service_shown, session_shown, stop_shown, subscribe_shown, taken_shown, told_of_endpoint, told_of_options, told_of_servers, told_unasked, unasked_shown, with_told, withdrawn, working}
use Rattle.audit_endpoints.specs.WatchedEndpoints as watching
use Rattle.audit_endpoints.specs.declared.finding.Finding.{Finding as EndpointFinding}
use Rattle.audit_endpoints.specs.WatchedEndpoints.{Watch, is_looked_at}
use Rattle.audit_endpoints.specs.DiscoveryMessages.{is_at_discovery}

-- what the findings of sessions rest on, and those that were told so far
pub record Ground : Type 0 where
  pub segments : segments.Book
  pub sessions : Sessions
  pub limit : ℕ
  pub standing : Subscriptions
  pub events : Sequence
  pub watched : Watch
  pub told : List Finding

abbrev pub ground_in : Held → List Finding → Ground
ground_in held told = record { segments = held.segments; sessions = held.sessions; limit = held.receivers.limit; standing = held.receivers.standing; events = held.events; watched = held.watched; told = told }

abbrev pub ground : Work → Ground
ground work = ground_in work.held (session_findings work.told)

-- ---- what is told

pub kept_more : {A : Type 0} (test : A → Bool) (xs ys : List A) → filter test (xs ++ ys) ≡ filter test xs ++ filter test ys
kept_more test [] ys = refl
kept_more {A = A} test (x ∷ xs) ys = cases (test x) (kept_more test xs ys)
  where
    cases : (b : Bool) → filter test (xs ++ ys) ≡ filter test xs ++ filter test ys
        → (if b then x ∷ filter test (xs ++ ys) else filter test (xs ++ ys)) ≡ (if b then x ∷ filter test xs else filter test xs) ++ filter test ys
    cases true rest = ap (λ (more : List A). x ∷ more) rest
    cases false rest = rest

nothing_more : {A : Type 0} (xs : List A) → xs ++ [] ≡ xs
nothing_more [] = refl
nothing_more {A = A} (x ∷ xs) = ap (λ (more : List A). x ∷ more) (nothing_more xs)

unheard_one : (finding : Finding) (told : List Finding) → tells_of_sessions finding ≡ false → session_findings (told ++ finding ∷ []) ≡ session_findings told
unheard_one finding told is =
    kept_more tells_of_sessions told (finding ∷ [])
    ∙ ap (λ (b : Bool). session_findings told ++ (if b then finding ∷ [] else [])) is ∙ nothing_more (session_findings told)

heard_one : (finding : Finding) (told : List Finding) → tells_of_sessions finding ≡ true → session_findings (told ++ finding ∷ []) ≡ session_findings told ++ finding ∷ []
heard_one finding told is = kept_more tells_of_sessions told (finding ∷ []) ∙ ap (λ (b : Bool). session_findings told ++ (if b then finding ∷ [] else [])) is

-- what is told of another book
unheard : {A : Type 0} (make : A → Finding) → ((a : A) → tells_of_sessions (make a) ≡ false) → (shown : Option A) (told : List Finding)
    → session_findings (with_told (option_map make shown) told) ≡ session_findings told
unheard make is None told = refl
unheard make is (Some a) told = unheard_one (make a) told (is a)

-- and of one of these
heard : {A : Type 0} (make : A → Finding) → ((a : A) → tells_of_sessions (make a) ≡ true) → (shown : Option A) (told : List Finding)
    → session_findings (with_told (option_map make shown) told) ≡ with_told (option_map make shown) (session_findings told)
heard make is None told = refl
heard make is (Some a) told = heard_one (make a) told (is a)

-- ---- whichever of two it is

if_ground : (b : Bool) (one other : Work) (g : Ground) → ground one ≡ g → ground other ≡ g → ground (if b then one else other) ≡ g
if_ground true one other g is_one is_other = is_one
if_ground false one other g is_one is_other = is_other

either : (b : Bool) (one other : Work) (its others : Ground) → ground one ≡ its → ground other ≡ others → ground (if b then one else other) ≡ (if b then its else others)
either true one other its others is_one is_other = is_one
either false one other its others is_one is_other = is_other

-- ---- a whole message

call_leaves : (now : ℕ) (origin : Origin) (header : Header) (payload : List ℕ) (work : Work) → ground (call_shown now origin header payload work) ≡ ground work
call_leaves now origin header payload work =
    ap (ground_in work.held) (unheard (findings.Call header) (λ _. refl) (calls.told (tapped_in now (answer_ms_of work.held.times header.service header.method) origin header payload) work.held.calls) work.told)

code_leaves : (header : Header) (work : Work) → ground (code_shown header work) ≡ ground work
code_leaves header work = cases (is_error header)
  where
    cases : (b : Bool) → ground_in work.held (session_findings (with_told (if b then Some (findings.Error header) else None) work.told)) ≡ ground work
    cases true = ap (ground_in work.held) (unheard_one (findings.Error header) work.told refl)
    cases false = refl

judged_leaves : (now : ℕ) (origin : Origin) (header : Header) (work : Work) → ground (judged_shown now origin header work) ≡ ground work
judged_leaves now origin header work =
    ap (ground_in work.held) (unheard (findings.Server header) (λ _. refl) (servers.told_by now (server_message origin header) work.held.servers) work.told)

-- a book of receivers in place of another, with the same subscriptions
with_receivers : (held : Held) (book : Receivers) (limit : ℕ) (standing : Subscriptions) (told findings : List Finding) → book.limit ≡ limit → book.standing ≡ standing → told ≡ findings
    → ground_in (record held { receivers = book }) told ≡ record (ground_in held findings) { limit = limit; standing = standing }
with_receivers held book limit standing told findings is_limit is_standing is_told = rw (is_limit, is_standing, is_told) refl

event_limit : (now : ℕ) (event : Delivery) (book : Receivers) → (receivers.after_event now event book).limit ≡ book.limit
event_limit now event book = cases (receivers.is_passed_over now event book) (nat_lt (finite.len book.told) book.limit)
  where
    cases : (a b : Bool) → (if a then book else if b then record book { told = finite.insert book.told event tt } else record book { told_full = true }).limit ≡ book.limit
    cases true b = refl
    cases false true = refl
    cases false false = refl

event_standing : (now : ℕ) (event : Delivery) (book : Receivers) → (receivers.after_event now event book).standing ≡ book.standing
event_standing now event book = cases (receivers.is_passed_over now event book) (nat_lt (finite.len book.told) book.limit)
  where
    cases : (a b : Bool) → (if a then book else if b then record book { told = finite.insert book.told event tt } else record book { told_full = true }).standing ≡ book.standing
    cases true b = refl
    cases false true = refl
    cases false false = refl

event_leaves : (now : ℕ) (origin : Origin) (header : Header) (work : Work) → ground (event_shown now origin header work) ≡ ground work
event_leaves now origin header work =
    let event : Delivery = delivery origin header in
    let book : Receivers = work.held.receivers in
    if_ground (is_event origin header) _ work (ground work)
    (with_receivers work.held (receivers.after_event now event book) book.limit book.standing _ (session_findings work.told) (event_limit now event book) (event_standing now event book)
    (unheard (findings.Event event) (λ _. refl) (receivers.told_of_event now event book) work.told)) refl

abbrev flow_ground : ℕ → Origin → Header → Ground → Ground
flow_ground now origin header g =
    if is_notification header.kind
    then record g {
      events = events.after_event now origin.numbers (event_seen origin header) g.events;
      told = with_told (option_map (findings.EventSession (event_flow origin header) header.session) (events.told_by origin.numbers (event_seen origin header) g.events)) g.told;
    }
    else g

flow_is : (now : ℕ) (origin : Origin) (header : Header) (work : Work) → ground (flow_shown now origin header work) ≡ flow_ground now origin header (ground work)
flow_is now origin header work =
    let after : Held = record work.held { events = events.after_event now origin.numbers (event_seen origin header) work.held.events } in
    either (is_notification header.kind) _ work _ (ground work)
    (ap (ground_in after)
    (heard (findings.EventSession (event_flow origin header) header.session) (λ _. refl) (events.told_by origin.numbers (event_seen origin header) work.held.events) work.told)) refl

cycle_unheard : (shown : Option CycleFinding) (told : List Finding) → session_findings (with_told (told_of_cycle shown) told) ≡ session_findings told
cycle_unheard None told = refl
cycle_unheard (Some shown) told = unheard_one findings.CyclesFull told refl

watch_leaves : (now : ℕ) (origin : Origin) (flow : EventFlow) (cycle_ms : Option ℕ) (work : Work) → ground (watch_shown now origin flow cycle_ms work) ≡ ground work
watch_leaves now origin flow None work = refl
watch_leaves now origin flow (Some cycle_ms) work = ap (ground_in work.held) (cycle_unheard (cycles.told_by flow work.held.cycles) work.told)

cycle_leaves : (now : ℕ) (origin : Origin) (header : Header) (work : Work) → ground (cycle_shown now origin header work) ≡ ground work
cycle_leaves now origin header work =
    if_ground (is_event origin header && receivers.is_subscribed (delivery origin header) work.held.receivers.standing) _ work (ground work)
    (watch_leaves now origin (event_flow origin header) (cycle_ms_of work.held.times header.service header.method) work) refl

whole_is : (now : ℕ) (origin : Origin) (header : Header) (payload : List ℕ) (work : Work) → ground (whole_shown now origin header payload work) ≡ flow_ground now origin header (ground work)
whole_is now origin header payload work =
    let called : Work = call_shown now origin header payload work in
    let coded : Work = code_shown header called in
    let judged : Work = judged_shown now origin header coded in
    let told : Work = event_shown now origin header judged in
    cycle_leaves now origin header (flow_shown now origin header told) ∙ flow_is now origin header told
    ∙ ap (flow_ground now origin header) (event_leaves now origin header judged ∙ judged_leaves now origin header coded ∙ code_leaves header called ∙ call_leaves now origin header payload work)

way_unheard : (shown : Option WayFinding) (told : List Finding) → session_findings (with_told (told_of_way shown) told) ≡ session_findings told
way_unheard None told = refl
way_unheard (Some shown) told = unheard_one findings.WaysFull told refl

way_leaves : (origin : Origin) (header : Header) (work : Work) → ground (way_shown origin header work) ≡ ground work
way_leaves origin header work =
    if_ground (is_of_call header) _ work (ground work) (ap (ground_in work.held) (way_unheard (ways.told_by (way_of origin) work.held.ways) work.told)) refl

taken_whole_is : (now : ℕ) (origin : Origin) (header : Header) (payload : List ℕ) (work : Work) → ground (whole_taken now origin header payload work) ≡ flow_ground now origin header (ground work)
unfolding whole_taken
taken_whole_is now origin header payload work = way_leaves origin header (whole_shown now origin header payload work) ∙ whole_is now origin header payload work

-- ---- a segment, and any message that is none of Service Discovery

told_ground : ℕ → Origin → Option (Result MessageValue TpError) → Ground → Ground
told_ground now origin None g = g
told_ground now origin (Some (Ok message)) g = flow_ground now origin message.header g
told_ground now origin (Some (Err refusal)) g = g

segment_is : (now : ℕ) (origin : Origin) (header : Header) (told : Option (Result MessageValue TpError)) (work : Work)
    → ground (segment_told now origin header told work) ≡ told_ground now origin told (ground work)
unfolding told_ground
segment_is now origin header None work = refl
segment_is now origin header (Some (Ok message)) work = taken_whole_is now origin message.header message.payload work
segment_is now origin header (Some (Err refusal)) work = ap (ground_in work.held) (unheard_one (findings.Segment header refusal) work.told refl)

abbrev piece_ground : ℕ → Origin → MessageValue → Ground → Ground
piece_ground now origin message g =
    told_ground now origin (segments.told_of message.header (segments.segment_of origin.from origin.to message) (max g.segments.latest now) g.segments)
    (record g { segments = segments.book_after (segments.segment_of origin.from origin.to message) (max g.segments.latest now) origin.numbers g.segments })

piece_is : (now : ℕ) (origin : Origin) (message : MessageValue) (work : Work) → ground (piece_shown now origin message work) ≡ piece_ground now origin message (ground work)
piece_is now origin message work =
    segment_is now origin message.header (segments.told_of message.header (segments.segment_of origin.from origin.to message) (max work.held.segments.latest now) work.held.segments)
    (record work { held = segment_held now origin message work.held })

abbrev message_ground : ℕ → Origin → MessageValue → Ground → Ground
message_ground now origin message g =
    if has_tp_flag message.header.kind
    then (if is_at_discovery origin then g else if has_no_tp_header message.payload then g else piece_ground now origin message g)
    else flow_ground now origin message.header g

message_is : (now : ℕ) (origin : Origin) (place : ℕ) (message : MessageValue) (work : Work) → ground (message_shown now origin place message work) ≡ message_ground now origin message (ground work)
message_is now origin place message work =
    either (has_tp_flag message.header.kind) (segment_at now origin place message work) (whole_taken now origin message.header message.payload work)
    (if is_at_discovery origin then ground work else if has_no_tp_header message.payload then ground work else piece_ground now origin message (ground work))
    (flow_ground now origin message.header (ground work))
    (either (is_at_discovery origin) work (segment_shown now origin place message work) (ground work)
    (if has_no_tp_header message.payload then ground work else piece_ground now origin message (ground work)) refl
    (either (has_no_tp_header message.payload) _ (piece_shown now origin message work) (ground work) (piece_ground now origin message (ground work))
    (ap (ground_in work.held) (unheard_one (findings.NoTpHeader place) work.told refl)) (piece_is now origin message work)))
    (taken_whole_is now origin message.header message.payload work)

-- ---- a message of Service Discovery

began : Option SessionFinding → Ipv4Addr → Ground → Ground
began None address g = g
began (Some sessions.Reboot) address g = record g { standing = finite.retain_keys g.standing (λ key. not (is_of address key)); events = events.without address g.events }
began (Some (sessions.NotNext stamp expected)) address g = g
began (Some (sessions.Overtaken stamp)) address g = g
began (Some sessions.Full) address g = g

began_is : (told : Option SessionFinding) (address : Ipv4Addr) (held : Held) (findings : List Finding)
    → ground_in (after_session told address held) findings ≡ began told address (ground_in held findings)
unfolding began
began_is None address held findings = refl
began_is (Some sessions.Reboot) address held findings = refl
began_is (Some (sessions.NotNext stamp expected)) address held findings = refl
began_is (Some (sessions.Overtaken stamp)) address held findings = refl
began_is (Some sessions.Full) address held findings = refl

abbrev session_ground : SdMessage → Ground → Ground
session_ground message g =
    began (session_book.told_by message g.sessions) message.from
    (record g { sessions = session_book.sessions_after message g.sessions; told = with_told (option_map findings.Session (session_book.told_by message g.sessions)) g.told })

session_is : (message : SdMessage) (work : Work) → ground (session_shown message work) ≡ session_ground message (ground work)
session_is message work =
    let told : Option SessionFinding = session_book.told_by message work.held.sessions in
    let held : Held = record work.held { sessions = session_book.sessions_after message work.held.sessions } in
    ap (ground_in (after_session told message.from held)) (heard findings.Session (λ _. refl) told work.told)
    ∙ began_is told message.from held (with_told (option_map findings.Session told) (session_findings work.told))

-- an Offer or a StopOffer

offer_leaves : (now : ℕ) (entry : OfferEntry) (work : Work) → ground (offer_shown now entry work) ≡ ground work
offer_leaves now entry work = ap (ground_in work.held) (unheard (findings.Offer entry.key) (λ _. refl) (offers.told_by entry work.held.offers) work.told)

servers_unheard : (full : Bool) (told : List Finding) → session_findings (with_told (told_of_servers full) told) ≡ session_findings told
servers_unheard true told = unheard_one findings.ServersFull told refl
servers_unheard false told = refl

server_leaves : (now : ℕ) (entry : OfferEntry) (endpoint : Option SocketAddrV4) (work : Work) → ground (server_shown now entry endpoint work) ≡ ground work
server_leaves now entry None work = refl
server_leaves now entry (Some endpoint) work = ap (ground_in work.held) (servers_unheard (servers.tells_full (server_offer entry endpoint) work.held.servers) work.told)

ended_leaves : (key : OfferKey) (offer : Option Standing) (held : Held) (told : List Finding) → ground_in (server_ended key offer held) told ≡ ground_in held told
ended_leaves key None held told = refl
ended_leaves key (Some offer) held told = refl

abbrev withdrawn_ground : WithdrawnOffer → Ground → Ground
withdrawn_ground offer g =
    record g { standing = finite.retain_keys g.standing (λ key. not (is_to offer key)); events = events.after_withdrawal offer.server offer.service g.events }

stop_is : (now : ℕ) (offer : WithdrawnOffer) (entry : OfferEntry) (work : Work) → ground (stop_shown now offer entry work) ≡ withdrawn_ground offer (ground work)
stop_is now offer entry work =
    ap (withdrawn_ground offer)
    (offer_leaves now entry (ended_shown entry work) ∙ ended_leaves entry.key (offers.ended_by entry work.held.offers) work.held (session_findings work.told))

service_ground : ServiceKind → Origin → ServiceEntry → Ground → Ground
service_ground Find origin entry g = g
service_ground Offer origin entry g = if entry.ttl == 0 then withdrawn_ground (withdrawn_offer origin entry) g else g

service_is : (kind : ServiceKind) (now : ℕ) (origin : Origin) (entry : ServiceEntry) (endpoint : Option SocketAddrV4) (work : Work)
    → ground (service_shown kind now origin entry endpoint work) ≡ service_ground kind origin entry (ground work)
unfolding service_ground
service_is Find now origin entry endpoint work = refl
service_is Offer now origin entry endpoint work =
    let offer : OfferEntry = offer_entry origin entry endpoint in
    either (entry.ttl == 0) (stop_shown now (withdrawn_offer origin entry) offer work) (offered_shown now offer work) (withdrawn_ground (withdrawn_offer origin entry) (ground work)) (ground work)
    (stop_is now (withdrawn_offer origin entry) offer work) (server_leaves now offer endpoint (offer_shown now offer work) ∙ offer_leaves now offer work)

-- an entry of an eventgroup

-- the subscriptions once an entry came
subscribed : ℕ → ReceiverEntry → Option SocketAddrV4 → ℕ → Subscriptions → Subscriptions
subscribed now entry None limit standing = standing
subscribed now entry (Some endpoint) limit standing = if may_hold limit standing entry.key then finite.insert standing entry.key (standing_from now entry.ttl endpoint) else standing

standing_by : ℕ → EntryKind → ReceiverEntry → ℕ → Subscriptions → Subscriptions
standing_by now Subscribe entry limit standing = subscribed now entry entry.endpoint limit standing
standing_by now Answer entry limit standing = receivers.acked now entry (finite.get standing entry.key) standing

abbrev standing_after : ℕ → ReceiverEntry → ℕ → Subscriptions → Subscriptions
standing_after now entry limit standing = if entry.ttl == 0 then finite.remove standing entry.key else standing_by now entry.kind entry limit standing

subscribed_is : (now : ℕ) (entry : ReceiverEntry) (endpoint : Option SocketAddrV4) (book : Receivers)
    → ((receivers.after_subscribe now entry endpoint book).limit ≡ book.limit)
    × ((receivers.after_subscribe now entry endpoint book).standing ≡ subscribed now entry endpoint book.limit book.standing)
unfolding subscribed
subscribed_is now entry None book = (refl, refl)
subscribed_is now entry (Some endpoint) book = cases (may_hold book.limit book.standing entry.key)
  where
    insert : Receivers
    insert = record book { standing = finite.insert book.standing entry.key (standing_from now entry.ttl endpoint); told = receivers.untold entry.key endpoint book.told }

    cases : (b : Bool)
        → ((if b then record book { standing = finite.insert book.standing entry.key (standing_from now entry.ttl endpoint); told = receivers.untold entry.key endpoint book.told } else record book { told_full = true }).limit ≡ book.limit)
        × ((if b then record book { standing = finite.insert book.standing entry.key (standing_from now entry.ttl endpoint); told = receivers.untold entry.key endpoint book.told } else record book { told_full = true }).standing
        ≡ (if b then finite.insert book.standing entry.key (standing_from now entry.ttl endpoint) else book.standing))
    cases true = (refl, refl)
    cases false = (refl, refl)

by_kind : (now : ℕ) (kind : EntryKind) (entry : ReceiverEntry) (book : Receivers)
    → ((receivers.after now kind entry book).limit ≡ book.limit) × ((receivers.after now kind entry book).standing ≡ standing_by now kind entry book.limit book.standing)
unfolding standing_by
by_kind now Subscribe entry book = subscribed_is now entry entry.endpoint book
by_kind now Answer entry book = (refl, refl)

entry_standing : (now : ℕ) (entry : ReceiverEntry) (book : Receivers)
    → ((receivers.after_entry now entry book).limit ≡ book.limit) × ((receivers.after_entry now entry book).standing ≡ standing_after now entry book.limit book.standing)
entry_standing now entry book = cases (entry.ttl == 0) (receivers.after now entry.kind entry book) (standing_by now entry.kind entry book.limit book.standing) (by_kind now entry.kind entry book)
  where
    cases : (b : Bool) (after : Receivers) (standing : Subscriptions) → (after.limit ≡ book.limit) × (after.standing ≡ standing)
        → ((if b then record book { standing = finite.remove book.standing entry.key } else after).limit ≡ book.limit)
        × ((if b then record book { standing = finite.remove book.standing entry.key } else after).standing ≡ (if b then finite.remove book.standing entry.key else standing))
    cases true after standing is = (refl, refl)
    cases false after standing is = is

receiver_is : (now : ℕ) (entry : ReceiverEntry) (work : Work)
    → ground (receiver_shown now entry work) ≡ record (ground work) { standing = standing_after now entry work.held.receivers.limit work.held.receivers.standing }
receiver_is now entry work =
    let book : Receivers = work.held.receivers in
    let is = entry_standing now entry book in
    with_receivers work.held (receivers.after_entry now entry book) book.limit (standing_after now entry book.limit book.standing) _ (session_findings work.told) is.0 is.1
    (unheard (findings.Receiver entry.key) (λ _. refl) (receivers.told_by entry book) work.told)

subscribe_leaves : (now : ℕ) (entry : SubscribeEntry) (work : Work) → ground (subscribe_shown now entry work) ≡ ground work
subscribe_leaves now entry work =
    ap (ground_in work.held) (unheard (findings.Subscription entry.key) (λ _. refl) (subscriptions.told_by entry work.held.subscriptions) work.told)

unasked_leaves : (now : ℕ) (entry : SubscribeEntry) (work : Work) → ground (unasked_shown now entry work) ≡ ground work
unasked_leaves now entry work =
    ap (ground_in work.held) (unheard (findings.Subscription entry.key) (λ _. refl) (subscriptions.unasked_by now entry work.held.subscriptions) work.told)

abbrev group_ground : ℕ → SubscribeEntry → Option SocketAddrV4 → Ground → Ground
group_ground now entry endpoint g =
    record g { standing = standing_after now (receiver_entry entry endpoint) g.limit g.standing; events = disturbed_if (receivers.begins_or_ends (receiver_entry entry endpoint) g.standing) entry.key g.events }

group_is : (now : ℕ) (entry : SubscribeEntry) (endpoint : Option SocketAddrV4) (work : Work) → ground (group_shown now entry endpoint work) ≡ group_ground now entry endpoint (ground work)
group_is now entry endpoint work =
    let asked : Work = unasked_shown now entry work in
    let disturbed : Work = changed entry endpoint asked in
    let come : ReceiverEntry = receiver_entry entry endpoint in
    let received : Ground → Ground = λ g. record g { standing = standing_after now come g.limit g.standing } in
    let altered : Ground → Ground = λ g. record g { events = disturbed_if (receivers.begins_or_ends come g.standing) entry.key g.events } in
    receiver_is now come (subscribe_shown now entry disturbed) ∙ ap received (subscribe_leaves now entry disturbed) ∙ ap received (ap altered (unasked_leaves now entry work))

abbrev head_ground : ℕ → Origin → EntryHead → Option SocketAddrV4 → Ground → Ground
head_ground now origin (Service entry) endpoint g = service_ground entry.kind origin entry g
head_ground now origin (Eventgroup entry) endpoint g = group_ground now (subscribe_entry origin entry) endpoint g

head_is : (now : ℕ) (origin : Origin) (head : EntryHead) (endpoint : Option SocketAddrV4) (work : Work)
    → ground (head_shown now origin head endpoint work) ≡ head_ground now origin head endpoint (ground work)
head_is now origin (Service entry) endpoint work = service_is entry.kind now origin entry endpoint work
head_is now origin (Eventgroup entry) endpoint work = group_is now (subscribe_entry origin entry) endpoint work

-- an endpoint that is learnt

learnt_heard : (shown : Option EndpointFinding) (told : List Finding) → session_findings (with_told (told_of_endpoint shown) told) ≡ with_told (told_of_endpoint shown) (session_findings told)
learnt_heard None told = refl
learnt_heard (Some shown) told = heard_one findings.EndpointsFull told refl

endpoint_ground : Option SocketAddrV4 → Ground → Ground
endpoint_ground None g = g
endpoint_ground (Some endpoint) g = record g { watched = watching.once_named endpoint g.watched; told = with_told (told_of_endpoint (watching.told_of_endpoint endpoint g.watched)) g.told }

endpoint_is : (endpoint : Option SocketAddrV4) (work : Work) → ground (endpoint_shown endpoint work) ≡ endpoint_ground endpoint (ground work)
unfolding endpoint_ground
endpoint_is None work = refl
endpoint_is (Some endpoint) work =
    ap (ground_in (record work.held { watched = watching.once_named endpoint work.held.watched })) (learnt_heard (watching.told_of_endpoint endpoint work.held.watched) work.told)

taken_ground : ℕ → Origin → ReadValue → Ground → Ground
taken_ground now origin (good entry) g =
    head_ground now origin entry.head (first_udp_endpoint (options_of entry)) (endpoint_ground (named_endpoint entry.head (first_udp_endpoint (options_of entry))) g)
taken_ground now origin (bad_run head) g = head_ground now origin head None g

taken_is : (now : ℕ) (origin : Origin) (entry : ReadValue) (work : Work) → ground (taken_shown now origin entry work) ≡ taken_ground now origin entry (ground work)
unfolding taken_ground
taken_is now origin (good entry) work =
    let endpoint : Option SocketAddrV4 = first_udp_endpoint (options_of entry) in
    let named : Option SocketAddrV4 = named_endpoint entry.head endpoint in
    head_is now origin entry.head endpoint (endpoint_shown named work) ∙ ap (head_ground now origin entry.head endpoint) (endpoint_is named work)
taken_is now origin (bad_run head) work = head_is now origin head None work

options_unheard : (entry : ReadValue) (told : List Finding) → session_findings (with_told (told_of_options entry) told) ≡ session_findings told
options_unheard (good entry) told = cases (lacks_endpoint entry)
  where
    cases : (b : Bool) → session_findings (with_told (if b then Some (findings.NoEndpoint (instance_of entry.head)) else None) told) ≡ session_findings told
    cases true = unheard_one (findings.NoEndpoint (instance_of entry.head)) told refl
    cases false = refl
options_unheard (bad_run head) told = unheard_one (findings.BadRun (instance_of head)) told refl

noted_leaves : (b : Bool) (held : Held) (told : List Finding) → ground_in (if b then record held { is_offered = true } else held) told ≡ ground_in held told
noted_leaves true held told = refl
noted_leaves false held told = refl

entry_is : (now : ℕ) (origin : Origin) (entry : ReadValue) (work : Work) → ground (entry_shown now origin entry work) ≡ taken_ground now origin entry (ground work)
entry_is now origin entry work =
    let noted : Held = offer_noted entry work.held in
    taken_is now origin entry (options_shown entry (record work { held = noted }))
    ∙ ap (taken_ground now origin entry) (ap (ground_in noted) (options_unheard entry work.told) ∙ noted_leaves (offers_by (head_of entry)) work.held (session_findings work.told))

entries_ground : ℕ → Origin → List ReadValue → Ground → Ground
entries_ground now origin [] g = g
entries_ground now origin (entry ∷ entries) g = entries_ground now origin entries (taken_ground now origin entry g)

entries_is : (now : ℕ) (origin : Origin) (entries : List ReadValue) (work : Work) → ground (entries_shown now origin entries work) ≡ entries_ground now origin entries (ground work)
unfolding entries_ground
entries_is now origin [] work = refl
entries_is now origin (entry ∷ entries) work =
    entries_is now origin entries (entry_shown now origin entry work) ∙ ap (entries_ground now origin entries) (entry_is now origin entry work)

payload_ground : ℕ → Origin → ℕ → Result SdValue SdError → Ground → Ground
payload_ground now origin session (Ok sd) g = entries_ground now origin sd.entries (session_ground (sd_message now origin session sd.flags) g)
payload_ground now origin session (Err fault) g = g

payload_is : (now : ℕ) (origin : Origin) (place session : ℕ) (read : Result SdValue SdError) (work : Work)
    → ground (payload_shown now origin place session read work) ≡ payload_ground now origin session read (ground work)
unfolding payload_ground
payload_is now origin place session (Ok sd) work =
    let message : SdMessage = sd_message now origin session sd.flags in
    entries_is now origin sd.entries (session_shown message work) ∙ ap (entries_ground now origin sd.entries) (session_is message work)
payload_is now origin place session (Err fault) work = ap (ground_in work.held) (unheard_one (findings.MalformedSd (in_datagram place fault)) work.told refl)

-- ---- a datagram

item_ground : ℕ → Origin → Result MessageValue WireError → Ground → Ground
item_ground now origin (Ok message) g =
    if is_sd origin message.header then payload_ground now origin message.header.session (reading message.payload) g else message_ground now origin message g
item_ground now origin (Err fault) g = g

item_is : (now : ℕ) (origin : Origin) (place : ℕ) (item : Result MessageValue WireError) (work : Work)
    → ground (item_shown now origin place item work) ≡ item_ground now origin item (ground work)
unfolding item_ground
item_is now origin place (Ok message) work =
    either (is_sd origin message.header) (payload_shown now origin (place + 16) message.header.session (reading message.payload) work) (message_shown now origin (place + 16) message work)
    (payload_ground now origin message.header.session (reading message.payload) (ground work)) (message_ground now origin message (ground work))
    (payload_is now origin (place + 16) message.header.session (reading message.payload) work) (message_is now origin (place + 16) message work)
item_is now origin place (Err fault) work = ap (ground_in work.held) (unheard_one (findings.Malformed fault) work.told refl)

items_ground : ℕ → Origin → List (Result MessageValue WireError) → Ground → Ground
items_ground now origin [] g = g
items_ground now origin (item ∷ items) g = items_ground now origin items (item_ground now origin item g)

items_is : (now : ℕ) (origin : Origin) (place : ℕ) (items : List (Result MessageValue WireError)) (work : Work)
    → ground (items_shown now origin place items work) ≡ items_ground now origin items (ground work)
unfolding items_ground
items_is now origin place [] work = refl
items_is now origin place (item ∷ items) work =
    items_is now origin (place + item_len item) items (item_shown now origin place item work) ∙ ap (items_ground now origin items) (item_is now origin place item work)

abbrev passed_ground : ℕ → Ground → Ground
passed_ground now g = record g { standing = unexpired now g.standing; events = each_disturbed (finite.keys (expired now g.standing)) g.events }

pub seen_ground : Seen → Ground → Ground
seen_ground seen g =
    if is_looked_at g.watched seen.origin then items_ground seen.now seen.origin (items_of seen.bytes) (passed_ground seen.now g) else passed_ground seen.now g

pub seen_is : (seen : Seen) (work : Work) → ground (seen_work seen work) ≡ seen_ground seen (ground work)
unfolding seen_ground
seen_is seen work =
    let passed : Work = record work { held = without_passed seen.now work.held } in
    either (is_looked_at work.held.watched seen.origin) (datagram_shown seen passed) passed
    (items_ground seen.now seen.origin (items_of seen.bytes) (passed_ground seen.now (ground work))) (passed_ground seen.now (ground work))
    (items_is seen.now seen.origin 0 (items_of seen.bytes) passed) refl

-- ---- two audits that hold the same of it

-- what an audit holds of it
abbrev pub ground_of : AuditState → Ground
ground_of state = ground_in state []

-- a datagram shows the same of sessions, and leaves the same
pub same_shown : (seen : Seen) (one other : AuditState) → ground_of one ≡ ground_of other → session_findings (seen_shown seen one) ≡ session_findings (seen_shown seen other)
same_shown seen one other same =
    ap (λ (g : Ground). g.told) (seen_is seen (working one []) ∙ ap (seen_ground seen) same ∙ sym (seen_is seen (working other [])))

pub same_left : (seen : Seen) (one other : AuditState) → ground_of one ≡ ground_of other → ground_of (after_seen seen one) ≡ ground_of (after_seen seen other)
same_left seen one other same =
    ap (λ (g : Ground). record g { told = [] }) (seen_is seen (working one []) ∙ ap (seen_ground seen) same ∙ sym (seen_is seen (working other [])))

-- and is looked at by both
pub same_looked_at : (origin : Origin) (one other : AuditState) → ground_of one ≡ ground_of other → is_looked_at one.watched origin ≡ is_looked_at other.watched origin
same_looked_at origin one other same = ap (λ (g : Ground). is_looked_at g.watched origin) same
