-- What an audit learns of a datagram, and what leaves what was learnt as it is.
use Rattle.std.proofs.Common.{◌≡◌, ℕ, ◌+◌, ◌==◌, ◌&&◌, Bool, true, false, List, [], ◌∷◌, if◌then◌else◌, Option, None, Some, refl, ap, ◌∙◌}
use Rattle.std.specs.Prelude.{Result, Ok, Err, max}
use Rattle.std.specs.declared.net.socket_addr.SocketAddrV4.{SocketAddrV4}
use Rattle.sd_wire.specs.declared.entry.EntryHead.{EntryHead}
use Rattle.sd_wire.specs.declared.entry.EntryHead.TheVariants.{Service, Eventgroup}
use Rattle.sd_wire.specs.declared.entry.ServiceEntry.{ServiceEntry}
use Rattle.sd_wire.specs.declared.entry.ServiceKind.{ServiceKind}
use Rattle.sd_wire.specs.declared.entry.ServiceKind.TheVariants.{Find, Offer}
use Rattle.sd_wire.specs.declared.error.SdError.{SdError}
use Rattle.sd_wire.specs.contents.Endpoints.{first_udp_endpoint, options_of}
use Rattle.sd_wire.specs.contents.Values.{ReadValue, SdValue, good, bad_run}
use Rattle.sd_wire.specs.decoding.Program.{reading}
use Rattle.someip_reassembly.specs.declared.error.TpError.{TpError}
use Rattle.someip_tables.specs.declared.hashed.origin.Origin.{Origin}
use Rattle.someip_wire.specs.declared.error.WireError.{WireError}
use Rattle.someip_wire.specs.declared.header.Header.{Header}
use Rattle.someip_wire.specs.Discovery.{is_discovery, is_notification}
use Rattle.someip_wire.specs.Kinds.{has_tp_flag}
use Rattle.someip_wire.specs.Spelling.{MessageValue}
use Rattle.audit_sd.specs.declared.sessions.finding.Finding.{Finding as SessionFinding}
use Rattle.audit_sd.specs.declared.sessions.finding.Finding.TheVariants as sessions
use Rattle.audit_sd.specs.declared.sessions.message.SdMessage.{SdMessage}
use Rattle.audit_sd.specs.sessions.SessionBooks as session_book
use Rattle.audit_sd.specs.declared.offers.entry.OfferEntry.{OfferEntry}
use Rattle.audit_sd.specs.declared.offers.entry.Standing.{Standing}
use Rattle.audit_sd.specs.declared.offers.key.OfferKey.{OfferKey}
use Rattle.audit_sd.specs.offers.OfferTables.{ended_by}
use Rattle.audit_traffic.specs.segments.SegmentBooks as segments
use Rattle.audit_sd.specs.receivers.ReceiverTables as receivers
use Rattle.audit_traffic.specs.declared.events.flow.EventFlow.{EventFlow}
use Rattle.someip_audit.specs.AnswerTimes.{cycle_ms_of}
use Rattle.audit_endpoints.specs.DiscoveryMessages.{is_sd}
use Rattle.someip_audit.specs.AnyShown.{item_len, item_shown, items_shown, payload_shown}
use Rattle.someip_audit.specs.BooksHeld.{Held}
use Rattle.audit_endpoints.specs.Learning.{learnt_of, learnt_of_item, learnt_of_items, learnt_of_payload, named_by, once_named_by}
use Rattle.someip_audit.specs.MessageShown.{call_shown, code_shown, cycle_shown, delivery, event_flow, event_shown, flow_shown, has_no_tp_header, is_event, is_of_call, judged_shown, message_shown, piece_shown, segment_at, segment_held, segment_shown, segment_told, watch_shown, whole_shown, whole_taken}
use Rattle.audit_endpoints.specs.NamedEndpoints.{named_endpoint}
use Rattle.someip_audit.specs.SdEntries.{offer_entry, offers_by, sd_message, withdrawn_offer}
use Rattle.someip_audit.specs.SdShown.{Work, after_session, endpoint_shown, entries_shown, entry_shown, head_of, head_shown, offer_noted, offer_shown, offered_shown, options_shown, server_ended, server_shown, service_shown, session_shown, stop_shown, taken_shown}
use Rattle.audit_endpoints.specs.WatchedEndpoints.{Watch}
use Rattle.audit_endpoints.specs.DiscoveryMessages.{is_at_discovery}

-- what was learnt, of what is worked on
abbrev learnt : Work → Watch
learnt work = work.held.watched

-- whichever of two it is
if_same : (b : Bool) (one other : Work) (watched : Watch) → learnt one ≡ watched → learnt other ≡ watched → learnt (if b then one else other) ≡ watched
if_same true one other watched is_one is_other = is_one
if_same false one other watched is_one is_other = is_other

-- ---- a message that is none of Service Discovery

event_same : (now : ℕ) (origin : Origin) (header : Header) (work : Work) → learnt (event_shown now origin header work) ≡ learnt work
event_same now origin header work = if_same (is_event origin header) _ work (learnt work) refl refl

flow_same : (now : ℕ) (origin : Origin) (header : Header) (work : Work) → learnt (flow_shown now origin header work) ≡ learnt work
flow_same now origin header work = if_same (is_notification header.kind) _ work (learnt work) refl refl

watch_same : (now : ℕ) (origin : Origin) (flow : EventFlow) (cycle_ms : Option ℕ) (work : Work) → learnt (watch_shown now origin flow cycle_ms work) ≡ learnt work
watch_same now origin flow None work = refl
watch_same now origin flow (Some cycle_ms) work = refl

cycle_same : (now : ℕ) (origin : Origin) (header : Header) (work : Work) → learnt (cycle_shown now origin header work) ≡ learnt work
cycle_same now origin header work =
    if_same (is_event origin header && receivers.is_subscribed (delivery origin header) work.held.receivers.standing) _ work (learnt work)
    (watch_same now origin (event_flow origin header) (cycle_ms_of work.held.times header.service header.method) work) refl

whole_same : (now : ℕ) (origin : Origin) (header : Header) (payload : List ℕ) (work : Work) → learnt (whole_shown now origin header payload work) ≡ learnt work
whole_same now origin header payload work =
    let coded : Work = code_shown header (call_shown now origin header payload work) in
    let judged : Work = judged_shown now origin header coded in
    cycle_same now origin header (flow_shown now origin header (event_shown now origin header judged)) ∙ flow_same now origin header (event_shown now origin header judged) ∙ event_same now origin header judged

whole_taken_same : (now : ℕ) (origin : Origin) (header : Header) (payload : List ℕ) (work : Work) → learnt (whole_taken now origin header payload work) ≡ learnt work
unfolding whole_taken
whole_taken_same now origin header payload work =
    let shown : Work = whole_shown now origin header payload work in
    if_same (is_of_call header) _ shown (learnt shown) refl refl ∙ whole_same now origin header payload work

told_same : (now : ℕ) (origin : Origin) (header : Header) (told : Option (Result MessageValue TpError)) (work : Work) → learnt (segment_told now origin header told work) ≡ learnt work
told_same now origin header None work = refl
told_same now origin header (Some (Ok message)) work = whole_taken_same now origin message.header message.payload work
told_same now origin header (Some (Err refusal)) work = refl

piece_same : (now : ℕ) (origin : Origin) (message : MessageValue) (work : Work) → learnt (piece_shown now origin message work) ≡ learnt work
piece_same now origin message work =
    told_same now origin message.header
    (segments.told_of message.header (segments.segment_of origin.from origin.to message) (max work.held.segments.latest now) work.held.segments) (record work { held = segment_held now origin message work.held })

segment_same : (now : ℕ) (origin : Origin) (place : ℕ) (message : MessageValue) (work : Work) → learnt (segment_shown now origin place message work) ≡ learnt work
segment_same now origin place message work =
    if_same (has_no_tp_header message.payload) _ (piece_shown now origin message work) (learnt work) refl (piece_same now origin message work)

at_same : (now : ℕ) (origin : Origin) (place : ℕ) (message : MessageValue) (work : Work) → learnt (segment_at now origin place message work) ≡ learnt work
at_same now origin place message work =
    if_same (is_at_discovery origin) work (segment_shown now origin place message work) (learnt work) refl (segment_same now origin place message work)

message_same : (now : ℕ) (origin : Origin) (place : ℕ) (message : MessageValue) (work : Work) → learnt (message_shown now origin place message work) ≡ learnt work
message_same now origin place message work =
    if_same (has_tp_flag message.header.kind) (segment_at now origin place message work) (whole_taken now origin message.header message.payload work) (learnt work)
    (at_same now origin place message work) (whole_taken_same now origin message.header message.payload work)

-- ---- a message of Service Discovery

ended_same : (key : OfferKey) (offer : Option Standing) (held : Held) → (server_ended key offer held).watched ≡ held.watched
ended_same key None held = refl
ended_same key (Some offer) held = refl

server_same : (now : ℕ) (entry : OfferEntry) (endpoint : Option SocketAddrV4) (work : Work) → learnt (server_shown now entry endpoint work) ≡ learnt work
server_same now entry None work = refl
server_same now entry (Some endpoint) work = refl

service_same : (kind : ServiceKind) (now : ℕ) (origin : Origin) (entry : ServiceEntry) (endpoint : Option SocketAddrV4) (work : Work)
    → learnt (service_shown kind now origin entry endpoint work) ≡ learnt work
service_same Find now origin entry endpoint work = refl
service_same Offer now origin entry endpoint work =
    let offer : OfferEntry = offer_entry origin entry endpoint in
    if_same (entry.ttl == 0) (stop_shown now (withdrawn_offer origin entry) offer work) (offered_shown now offer work) (learnt work)
    (ended_same offer.key (ended_by offer work.held.offers) work.held) (server_same now offer endpoint (offer_shown now offer work))

head_same : (now : ℕ) (origin : Origin) (head : EntryHead) (endpoint : Option SocketAddrV4) (work : Work) → learnt (head_shown now origin head endpoint work) ≡ learnt work
head_same now origin (Service entry) endpoint work = service_same entry.kind now origin entry endpoint work
head_same now origin (Eventgroup entry) endpoint work = refl

endpoint_learnt : (endpoint : Option SocketAddrV4) (work : Work) → learnt (endpoint_shown endpoint work) ≡ once_named_by endpoint (learnt work)
endpoint_learnt None work = refl
endpoint_learnt (Some endpoint) work = refl

taken_learnt : (now : ℕ) (origin : Origin) (entry : ReadValue) (work : Work) → learnt (taken_shown now origin entry work) ≡ once_named_by (named_by entry) (learnt work)
taken_learnt now origin (good entry) work =
    let named = named_endpoint entry.head (first_udp_endpoint (options_of entry)) in
    head_same now origin entry.head (first_udp_endpoint (options_of entry)) (endpoint_shown named work) ∙ endpoint_learnt named work
taken_learnt now origin (bad_run head) work = head_same now origin head None work

noted_same : (entry : ReadValue) (held : Held) → (offer_noted entry held).watched ≡ held.watched
noted_same entry held = cases (offers_by (head_of entry))
  where
    cases : (b : Bool) → (if b then record held { is_offered = true } else held).watched ≡ held.watched
    cases true = refl
    cases false = refl

entry_learnt : (now : ℕ) (origin : Origin) (entry : ReadValue) (work : Work) → learnt (entry_shown now origin entry work) ≡ once_named_by (named_by entry) (learnt work)
entry_learnt now origin entry work =
    taken_learnt now origin entry (options_shown entry (record work { held = offer_noted entry work.held }))
    ∙ ap (once_named_by (named_by entry)) (noted_same entry work.held)

entries_learnt : (now : ℕ) (origin : Origin) (entries : List ReadValue) (work : Work) → learnt (entries_shown now origin entries work) ≡ learnt_of entries (learnt work)
entries_learnt now origin [] work = refl
entries_learnt now origin (entry ∷ entries) work =
    entries_learnt now origin entries (entry_shown now origin entry work) ∙ ap (learnt_of entries) (entry_learnt now origin entry work)

after_same : (told : Option SessionFinding) (message : SdMessage) (held : Held) → (after_session told message.from held).watched ≡ held.watched
after_same None message held = refl
after_same (Some sessions.Reboot) message held = refl
after_same (Some (sessions.NotNext stamp expected)) message held = refl
after_same (Some (sessions.Overtaken stamp)) message held = refl
after_same (Some sessions.Full) message held = refl

session_same : (message : SdMessage) (work : Work) → learnt (session_shown message work) ≡ learnt work
session_same message work =
    after_same (session_book.told_by message work.held.sessions) message (record work.held { sessions = session_book.sessions_after message work.held.sessions })

payload_learnt : (now : ℕ) (origin : Origin) (place session : ℕ) (read : Result SdValue SdError) (work : Work)
    → learnt (payload_shown now origin place session read work) ≡ learnt_of_payload read (learnt work)
payload_learnt now origin place session (Ok sd) work =
    entries_learnt now origin sd.entries (session_shown (sd_message now origin session sd.flags) work) ∙ ap (learnt_of sd.entries) (session_same (sd_message now origin session sd.flags) work)
payload_learnt now origin place session (Err fault) work = refl

-- ---- a datagram

item_learnt : (now : ℕ) (origin : Origin) (place : ℕ) (item : Result MessageValue WireError) (work : Work)
    → learnt (item_shown now origin place item work) ≡ learnt_of_item origin item (learnt work)
item_learnt now origin place (Ok message) work = cases (is_sd origin message.header)
  where
    cases : (b : Bool)
        → learnt (if b then payload_shown now origin (place + 16) message.header.session (reading message.payload) work else message_shown now origin (place + 16) message work)
        ≡ (if b then learnt_of_payload (reading message.payload) (learnt work) else learnt work)
    cases true = payload_learnt now origin (place + 16) message.header.session (reading message.payload) work
    cases false = message_same now origin (place + 16) message work
item_learnt now origin place (Err fault) work = refl

pub items_learnt : (now : ℕ) (origin : Origin) (place : ℕ) (items : List (Result MessageValue WireError)) (work : Work)
    → learnt (items_shown now origin place items work) ≡ learnt_of_items origin items (learnt work)
items_learnt now origin place [] work = refl
items_learnt now origin place (item ∷ items) work =
    items_learnt now origin (place + item_len item) items (item_shown now origin place item work) ∙ ap (learnt_of_items origin items) (item_learnt now origin place item work)
