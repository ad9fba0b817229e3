-- What a datagram shows of the events that come in cycles is what its steps make of their book.
use Rattle.std.proofs.Common.{◌≡◌, ℕ, ◌+◌, ◌==◌, nat_lt, ◌&&◌, Bool, true, false, List, [], ◌∷◌, ◌++◌, if◌then◌else◌, Option, None, Some, refl, ap, sym, ◌∙◌}
use Rattle.std.specs.Prelude.{Result, Ok, Err, max}
use Rattle.std.specs.FinMap as finite
use Rattle.std.specs.declared.net.ipv4_addr.Ipv4Addr.{Ipv4Addr}
use Rattle.std.specs.declared.net.socket_addr.SocketAddrV4.{SocketAddrV4}
use Rattle.sd_wire.specs.declared.entry.EntryHead.{EntryHead}
use Rattle.sd_wire.specs.declared.entry.EntryHead.TheVariants.{Service, Eventgroup}
use Rattle.sd_wire.specs.declared.entry.ServiceEntry.{ServiceEntry}
use Rattle.sd_wire.specs.declared.entry.ServiceKind.{ServiceKind}
use Rattle.sd_wire.specs.declared.entry.ServiceKind.TheVariants.{Find, Offer}
use Rattle.sd_wire.specs.declared.error.SdError.{SdError}
use Rattle.sd_wire.specs.contents.Endpoints.{first_udp_endpoint, options_of}
use Rattle.sd_wire.specs.contents.Values.{ReadValue, SdValue, good, bad_run}
use Rattle.sd_wire.specs.decoding.Program.{reading}
use Rattle.someip_reassembly.specs.declared.error.TpError.{TpError}
use Rattle.someip_tables.specs.declared.hashed.origin.Origin.{Origin}
use Rattle.someip_tables.specs.Lastings.{expired}
use Rattle.someip_wire.specs.declared.error.WireError.{WireError}
use Rattle.someip_wire.specs.declared.header.Header.{Header}
use Rattle.someip_wire.specs.Discovery.{is_notification}
use Rattle.someip_wire.specs.Kinds.{has_tp_flag}
use Rattle.someip_wire.specs.Reading.{items_of}
use Rattle.someip_wire.specs.Spelling.{MessageValue}
use Rattle.audit_sd.specs.declared.sessions.finding.Finding.{Finding as SessionFinding}
use Rattle.audit_sd.specs.declared.sessions.finding.Finding.TheVariants as sessions
use Rattle.audit_sd.specs.declared.sessions.message.SdMessage.{SdMessage}
use Rattle.audit_sd.specs.sessions.SessionBooks as session_book
use Rattle.audit_sd.specs.declared.offers.entry.OfferEntry.{OfferEntry}
use Rattle.audit_sd.specs.declared.offers.entry.Standing.{Standing}
use Rattle.audit_sd.specs.declared.offers.key.OfferKey.{OfferKey}
use Rattle.audit_sd.specs.offers.OfferTables.{ended_by}
use Rattle.audit_sd.specs.declared.receivers.delivery.Delivery.{Delivery}
use Rattle.audit_sd.specs.declared.subscriptions.entry.SubscribeEntry.{SubscribeEntry}
use Rattle.audit_sd.specs.declared.subscriptions.key.SubscriptionKey.{SubscriptionKey}
use Rattle.audit_sd.specs.receivers.ReceiverTables as receivers
use Rattle.audit_sd.specs.receivers.ReceiverTables.{Receivers, Subscriptions}
use Rattle.audit_traffic.specs.segments.SegmentBooks as segments
use Rattle.audit_traffic.specs.cycles.CycleHistories.{Step, Unsubscribed, Withdrawn, after_steps, book_after}
use Rattle.audit_traffic.specs.cycles.CycleTables.{Cycles, without_subscribed}
use Rattle.someip_audit.specs.AnswerTimes.{Times, cycle_ms_of}
use Rattle.audit_endpoints.specs.DiscoveryMessages.{is_sd}
use Rattle.someip_audit.specs.AnyShown.{item_len, item_shown, items_shown, payload_shown}
use Rattle.someip_audit.specs.Audits.{AuditState, Seen, after_seen, datagram_shown, each_unwatched, without_passed}
use Rattle.someip_audit.specs.BooksHeld.{Held}
use Rattle.someip_audit.specs.CycleSteps.{came_steps, entries_steps, entry_steps, expiry_steps, group_steps, head_steps, item_steps, items_steps, message_steps, payload_steps, piece_steps, seen_steps, segment_steps, service_steps, session_steps, shown_steps, step_if, step_at, whole_steps}
use Rattle.someip_audit.specs.MessageShown.{call_shown, code_shown, cycle_shown, delivery, event_flow, event_shown, flow_shown, has_no_tp_header, is_event, is_of_call, judged_shown, message_shown, piece_shown, segment_at, segment_held, segment_shown, segment_told, watch_shown, whole_shown, whole_taken}
use Rattle.audit_endpoints.specs.NamedEndpoints.{named_endpoint}
use Rattle.someip_audit.specs.SdEntries.{offer_entry, offers_by, receiver_entry, sd_message, sender, subscribe_entry, withdrawn_offer}
use Rattle.someip_audit.specs.SdShown.{Work, after_session, endpoint_shown, entries_shown, entry_shown, group_shown, head_of, head_shown, offer_noted, offer_shown, offered_shown, options_shown, server_ended, server_shown, service_shown, session_shown, stop_shown, taken_shown, unwatched_if, working}
use Rattle.audit_endpoints.specs.DiscoveryMessages.{is_at_discovery}
use Rattle.audit_endpoints.specs.WatchedEndpoints.{is_looked_at}

-- the book of events that come in cycles, of what is worked on
abbrev cycles : Work → Cycles
cycles work = work.held.cycles

-- ---- steps in turn

pub after_steps-append : (newer older : List Step) (book : Cycles) → after_steps (newer ++ older) book ≡ after_steps newer (after_steps older book)
after_steps-append [] older book = refl
after_steps-append (step ∷ newer) older book = ap (book_after step.at step.shown) (after_steps-append newer older book)

pub in_turn : (newer older : List Step) (new between old : Cycles) → new ≡ after_steps newer between → between ≡ after_steps older old → new ≡ after_steps (newer ++ older) old
in_turn newer older new between old second first = second ∙ ap (after_steps newer) first ∙ sym (after_steps-append newer older old)

-- whichever of two it is
if_steps : (b : Bool) (one other : Work) (its others : List Step) (book : Cycles) → cycles one ≡ after_steps its book → cycles other ≡ after_steps others book
    → cycles (if b then one else other) ≡ after_steps (if b then its else others) book
if_steps true one other its others book is_one is_other = is_one
if_steps false one other its others book is_one is_other = is_other

-- ---- a message that is none of Service Discovery

-- what its steps rest on
abbrev Ground : Type 0
Ground = Subscriptions × Times × Cycles

abbrev grounds : Work → Ground
grounds work = (work.held.receivers.standing, work.held.times, work.held.cycles)

abbrev after_whole : ℕ → Origin → Header → Ground → Cycles
after_whole now origin header g =
    after_steps (if is_event origin header && receivers.is_subscribed (delivery origin header) g.0 then came_steps now origin header (cycle_ms_of g.1 header.service header.method) else []) g.2

if_grounds : (b : Bool) (one other : Work) (g : Ground) → grounds one ≡ g → grounds other ≡ g → grounds (if b then one else other) ≡ g
if_grounds true one other g is_one is_other = is_one
if_grounds false one other g is_one is_other = is_other

pub standing_same : (now : ℕ) (event : Delivery) (book : Receivers) → (receivers.after_event now event book).standing ≡ book.standing
standing_same now event book = cases (receivers.is_passed_over now event book) (nat_lt (finite.len book.told) book.limit)
  where
    cases : (a b : Bool)
        → (if a then book else if b then record book { told = finite.insert book.told event tt } else record book { told_full = true }).standing ≡ book.standing
    cases true b = refl
    cases false true = refl
    cases false false = refl

event_grounds : (now : ℕ) (origin : Origin) (header : Header) (work : Work) → grounds (event_shown now origin header work) ≡ grounds work
event_grounds now origin header work =
    if_grounds (is_event origin header) _ work (grounds work)
    (ap (λ (s : Subscriptions). (s, work.held.times, work.held.cycles)) (standing_same now (delivery origin header) work.held.receivers)) refl

flow_grounds : (now : ℕ) (origin : Origin) (header : Header) (work : Work) → grounds (flow_shown now origin header work) ≡ grounds work
flow_grounds now origin header work = if_grounds (is_notification header.kind) _ work (grounds work) refl refl

watch_is : (now : ℕ) (origin : Origin) (header : Header) (cycle_ms : Option ℕ) (work : Work)
    → cycles (watch_shown now origin (event_flow origin header) cycle_ms work) ≡ after_steps (came_steps now origin header cycle_ms) (cycles work)
watch_is now origin header None work = refl
watch_is now origin header (Some cycle_ms) work = refl

cycle_is : (now : ℕ) (origin : Origin) (header : Header) (work : Work) → cycles (cycle_shown now origin header work) ≡ after_whole now origin header (grounds work)
cycle_is now origin header work =
    if_steps (is_event origin header && receivers.is_subscribed (delivery origin header) work.held.receivers.standing)
    (watch_shown now origin (event_flow origin header) (cycle_ms_of work.held.times header.service header.method) work) work
    (came_steps now origin header (cycle_ms_of work.held.times header.service header.method)) [] (cycles work)
    (watch_is now origin header (cycle_ms_of work.held.times header.service header.method) work) refl

whole_is : (now : ℕ) (origin : Origin) (header : Header) (payload : List ℕ) (work : Work)
    → cycles (whole_shown now origin header payload work) ≡ after_steps (whole_steps now origin header work.held) (cycles work)
whole_is now origin header payload work =
    let coded : Work = code_shown header (call_shown now origin header payload work) in
    let judged : Work = judged_shown now origin header coded in
    cycle_is now origin header (flow_shown now origin header (event_shown now origin header judged))
    ∙ ap (after_whole now origin header) (flow_grounds now origin header (event_shown now origin header judged) ∙ event_grounds now origin header judged)

whole_taken_is : (now : ℕ) (origin : Origin) (header : Header) (payload : List ℕ) (work : Work)
    → cycles (whole_taken now origin header payload work) ≡ after_steps (whole_steps now origin header work.held) (cycles work)
unfolding whole_taken
whole_taken_is now origin header payload work =
    let shown : Work = whole_shown now origin header payload work in
    either (is_of_call header) shown _ refl ∙ whole_is now origin header payload work
  where
    either : (b : Bool) (shown counted : Work) → cycles counted ≡ cycles shown → cycles (if b then counted else shown) ≡ cycles shown
    either true shown counted same = same
    either false shown counted same = refl

told_is : (now : ℕ) (origin : Origin) (header : Header) (told : Option (Result MessageValue TpError)) (work : Work)
    → cycles (segment_told now origin header told work) ≡ after_steps (segment_steps now origin told work.held) (cycles work)
told_is now origin header None work = refl
told_is now origin header (Some (Ok message)) work = whole_taken_is now origin message.header message.payload work
told_is now origin header (Some (Err refusal)) work = refl

-- segments change the book of segments alone
segment_same : (now : ℕ) (origin : Origin) (message : MessageValue) (told : Option (Result MessageValue TpError)) (held : Held)
    → segment_steps now origin told (segment_held now origin message held) ≡ segment_steps now origin told held
segment_same now origin message None held = refl
segment_same now origin message (Some (Ok whole)) held = refl
segment_same now origin message (Some (Err refusal)) held = refl

piece_is : (now : ℕ) (origin : Origin) (message : MessageValue) (work : Work) → cycles (piece_shown now origin message work) ≡ after_steps (piece_steps now origin message work.held) (cycles work)
piece_is now origin message work =
    let told : Option (Result MessageValue TpError) = segments.told_of message.header (segments.segment_of origin.from origin.to message) (max work.held.segments.latest now) work.held.segments in
    told_is now origin message.header told (record work { held = segment_held now origin message work.held })
    ∙ ap (λ (steps : List Step). after_steps steps (cycles work)) (segment_same now origin message told work.held)

segment_is : (now : ℕ) (origin : Origin) (place : ℕ) (message : MessageValue) (work : Work)
    → cycles (segment_shown now origin place message work) ≡ after_steps (if has_no_tp_header message.payload then [] else piece_steps now origin message work.held) (cycles work)
segment_is now origin place message work =
    if_steps (has_no_tp_header message.payload) _ (piece_shown now origin message work) [] (piece_steps now origin message work.held) (cycles work) refl (piece_is now origin message work)

at_is : (now : ℕ) (origin : Origin) (place : ℕ) (message : MessageValue) (work : Work)
    → cycles (segment_at now origin place message work)
    ≡ after_steps (if is_at_discovery origin then [] else if has_no_tp_header message.payload then [] else piece_steps now origin message work.held) (cycles work)
at_is now origin place message work =
    if_steps (is_at_discovery origin) work (segment_shown now origin place message work) [] (if has_no_tp_header message.payload then [] else piece_steps now origin message work.held) (cycles work)
    refl (segment_is now origin place message work)

message_is : (now : ℕ) (origin : Origin) (place : ℕ) (message : MessageValue) (work : Work)
    → cycles (message_shown now origin place message work) ≡ after_steps (message_steps now origin message work.held) (cycles work)
message_is now origin place message work =
    if_steps (has_tp_flag message.header.kind) (segment_at now origin place message work) (whole_taken now origin message.header message.payload work)
    (if is_at_discovery origin then [] else if has_no_tp_header message.payload then [] else piece_steps now origin message work.held) (whole_steps now origin message.header work.held) (cycles work)
    (at_is now origin place message work) (whole_taken_is now origin message.header message.payload work)

-- ---- a message of Service Discovery

ended_same : (key : OfferKey) (offer : Option Standing) (held : Held) → (server_ended key offer held).cycles ≡ held.cycles
ended_same key None held = refl
ended_same key (Some offer) held = refl

server_same : (now : ℕ) (entry : OfferEntry) (endpoint : Option SocketAddrV4) (work : Work) → cycles (server_shown now entry endpoint work) ≡ cycles work
server_same now entry None work = refl
server_same now entry (Some endpoint) work = refl

service_is : (kind : ServiceKind) (now : ℕ) (origin : Origin) (entry : ServiceEntry) (endpoint : Option SocketAddrV4) (work : Work)
    → cycles (service_shown kind now origin entry endpoint work) ≡ after_steps (service_steps kind now origin entry) (cycles work)
service_is Find now origin entry endpoint work = refl
service_is Offer now origin entry endpoint work =
    let offer : OfferEntry = offer_entry origin entry endpoint in
    if_steps (entry.ttl == 0) (stop_shown now (withdrawn_offer origin entry) offer work) (offered_shown now offer work) (step_at now (Withdrawn (sender origin) entry.service) ∷ []) [] (cycles work)
    (ap (book_after now (Withdrawn (sender origin) entry.service)) (ended_same offer.key (ended_by offer work.held.offers) work.held)) (server_same now offer endpoint (offer_shown now offer work))

group_is : (now : ℕ) (entry : SubscribeEntry) (endpoint : Option SocketAddrV4) (work : Work)
    → cycles (group_shown now entry endpoint work) ≡ after_steps (group_steps now entry endpoint work.held) (cycles work)
group_is now entry endpoint work = cases (receivers.ends (receiver_entry entry endpoint) work.held.receivers)
  where
    cases : (b : Bool) → unwatched_if b entry.key (cycles work) ≡ after_steps (step_if b now (Unsubscribed entry.key.server entry.key.service entry.key.client)) (cycles work)
    cases true = refl
    cases false = refl

head_is : (now : ℕ) (origin : Origin) (head : EntryHead) (endpoint : Option SocketAddrV4) (work : Work)
    → cycles (head_shown now origin head endpoint work) ≡ after_steps (head_steps now origin head endpoint work.held) (cycles work)
head_is now origin (Service entry) endpoint work = service_is entry.kind now origin entry endpoint work
head_is now origin (Eventgroup entry) endpoint work = group_is now (subscribe_entry origin entry) endpoint work

-- an endpoint that is learnt changes neither
learnt_is : (now : ℕ) (origin : Origin) (head : EntryHead) (endpoint named : Option SocketAddrV4) (work : Work)
    → cycles (head_shown now origin head endpoint (endpoint_shown named work)) ≡ after_steps (head_steps now origin head endpoint work.held) (cycles work)
learnt_is now origin head endpoint None work = head_is now origin head endpoint work
learnt_is now origin (Service entry) endpoint (Some named) work = service_is entry.kind now origin entry endpoint (endpoint_shown (Some named) work)
learnt_is now origin (Eventgroup entry) endpoint (Some named) work = group_is now (subscribe_entry origin entry) endpoint (endpoint_shown (Some named) work)

taken_is : (now : ℕ) (origin : Origin) (entry : ReadValue) (work : Work) → cycles (taken_shown now origin entry work) ≡ after_steps (entry_steps now origin entry work.held) (cycles work)
taken_is now origin (good entry) work =
    learnt_is now origin entry.head (first_udp_endpoint (options_of entry)) (named_endpoint entry.head (first_udp_endpoint (options_of entry))) work
taken_is now origin (bad_run head) work = head_is now origin head None work

-- nor does it change either that an Offer was seen
noted : Bool → Held → Held
noted b held = if b then record held { is_offered = true } else held

noted_is : (now : ℕ) (origin : Origin) (entry : ReadValue) (b : Bool) (held : Held)
    → after_steps (entry_steps now origin entry (noted b held)) (noted b held).cycles ≡ after_steps (entry_steps now origin entry held) held.cycles
unfolding noted
noted_is now origin (good entry) true held = head_same now origin entry.head (first_udp_endpoint (options_of entry)) held
  where
    head_same : (now : ℕ) (origin : Origin) (head : EntryHead) (endpoint : Option SocketAddrV4) (held : Held)
        → after_steps (head_steps now origin head endpoint (record held { is_offered = true })) held.cycles ≡ after_steps (head_steps now origin head endpoint held) held.cycles
    head_same now origin (Service entry) endpoint held = refl
    head_same now origin (Eventgroup entry) endpoint held = refl
noted_is now origin (bad_run (Service head)) true held = refl
noted_is now origin (bad_run (Eventgroup head)) true held = refl
noted_is now origin entry false held = refl

entry_is : (now : ℕ) (origin : Origin) (entry : ReadValue) (work : Work) → cycles (entry_shown now origin entry work) ≡ after_steps (entry_steps now origin entry work.held) (cycles work)
unfolding noted
entry_is now origin entry work =
    taken_is now origin entry (options_shown entry (record work { held = offer_noted entry work.held })) ∙ noted_is now origin entry (offers_by (head_of entry)) work.held

entries_is : (now : ℕ) (origin : Origin) (entries : List ReadValue) (work : Work)
    → cycles (entries_shown now origin entries work) ≡ after_steps (entries_steps now origin entries work) (cycles work)
entries_is now origin [] work = refl
entries_is now origin (entry ∷ entries) work =
    in_turn (entries_steps now origin entries (entry_shown now origin entry work)) (entry_steps now origin entry work.held) _ (cycles (entry_shown now origin entry work)) (cycles work)
    (entries_is now origin entries (entry_shown now origin entry work)) (entry_is now origin entry work)

session_is : (now : ℕ) (told : Option SessionFinding) (address : Ipv4Addr) (held : Held) → (after_session told address held).cycles ≡ after_steps (session_steps now told address) held.cycles
session_is now None address held = refl
session_is now (Some sessions.Reboot) address held = refl
session_is now (Some (sessions.NotNext stamp expected)) address held = refl
session_is now (Some (sessions.Overtaken stamp)) address held = refl
session_is now (Some sessions.Full) address held = refl

payload_is : (now : ℕ) (origin : Origin) (place session : ℕ) (read : Result SdValue SdError) (work : Work)
    → cycles (payload_shown now origin place session read work) ≡ after_steps (payload_steps now origin session read work) (cycles work)
payload_is now origin place session (Ok sd) work =
    let message : SdMessage = sd_message now origin session sd.flags in
    let shown : Work = session_shown message work in
    let told : Option SessionFinding = session_book.told_by message work.held.sessions in
    in_turn (entries_steps now origin sd.entries shown) (session_steps now told (sender origin)) _ (cycles shown) (cycles work) (entries_is now origin sd.entries shown)
    (session_is now told (sender origin) (record work.held { sessions = session_book.sessions_after message work.held.sessions }))
payload_is now origin place session (Err fault) work = refl

-- ---- a datagram

item_is : (now : ℕ) (origin : Origin) (place : ℕ) (item : Result MessageValue WireError) (work : Work)
    → cycles (item_shown now origin place item work) ≡ after_steps (item_steps now origin item work) (cycles work)
item_is now origin place (Ok message) work =
    if_steps (is_sd origin message.header) (payload_shown now origin (place + 16) message.header.session (reading message.payload) work) (message_shown now origin (place + 16) message work)
    (payload_steps now origin message.header.session (reading message.payload) work) (message_steps now origin message work.held) (cycles work)
    (payload_is now origin (place + 16) message.header.session (reading message.payload) work) (message_is now origin (place + 16) message work)
item_is now origin place (Err fault) work = refl

items_is : (now : ℕ) (origin : Origin) (place : ℕ) (items : List (Result MessageValue WireError)) (work : Work)
    → cycles (items_shown now origin place items work) ≡ after_steps (items_steps now origin place items work) (cycles work)
items_is now origin place [] work = refl
items_is now origin place (item ∷ items) work =
    in_turn (items_steps now origin (place + item_len item) items (item_shown now origin place item work)) (item_steps now origin item work) _ (cycles (item_shown now origin place item work)) (cycles work)
    (items_is now origin (place + item_len item) items (item_shown now origin place item work)) (item_is now origin place item work)

expiry_is : (now : ℕ) (keys : List SubscriptionKey) (book : Cycles) → each_unwatched keys book ≡ after_steps (expiry_steps now keys) book
expiry_is now [] book = refl
expiry_is now (key ∷ keys) book =
    in_turn (expiry_steps now keys) (step_at now (Unsubscribed key.server key.service key.client) ∷ []) _ (without_subscribed key.server key.service key.client book) book
    (expiry_is now keys (without_subscribed key.server key.service key.client book)) refl

shown_is : (seen : Seen) (held : Held)
    → cycles (if is_looked_at held.watched seen.origin then datagram_shown seen (working held []) else working held []) ≡ after_steps (shown_steps seen held) held.cycles
shown_is seen held =
    if_steps (is_looked_at held.watched seen.origin) (datagram_shown seen (working held [])) (working held []) (items_steps seen.now seen.origin 0 (items_of seen.bytes) (working held [])) [] held.cycles
    (items_is seen.now seen.origin 0 (items_of seen.bytes) (working held [])) refl

pub seen_is : (seen : Seen) (state : AuditState) → (after_seen seen state).cycles ≡ after_steps (seen_steps seen state) state.cycles
seen_is seen state =
    let keys : List SubscriptionKey = finite.keys (expired seen.now state.receivers.standing) in
    in_turn (shown_steps seen (without_passed seen.now state)) (expiry_steps seen.now keys) _ (each_unwatched keys state.cycles) state.cycles (shown_is seen (without_passed seen.now state))
    (expiry_is seen.now keys state.cycles)
