-- What was told stays at the front of what is told.
use Rattle.std.proofs.Common.{◌≡◌, ℕ, ◌+◌, ◌==◌, ◌<◌, ◌&&◌, Bool, true, false, List, [], ◌∷◌, ◌++◌, length, get_or, drop, map, if◌then◌else◌, Option, None, Some, refl, ap, sym, subst, ◌∙◌}
use Rattle.std.specs.Prelude.{Result, Ok, Err, max, option_map}
use Rattle.std.specs.Result.{OnErr}
use Rattle.std.specs.declared.net.socket_addr.SocketAddrV4.{SocketAddrV4}
use Rattle.sd_wire.specs.declared.entry.EntryHead.{EntryHead}
use Rattle.sd_wire.specs.declared.entry.EntryHead.TheVariants.{Service, Eventgroup}
use Rattle.sd_wire.specs.declared.entry.ServiceEntry.{ServiceEntry}
use Rattle.sd_wire.specs.declared.entry.ServiceKind.{ServiceKind}
use Rattle.sd_wire.specs.declared.entry.ServiceKind.TheVariants.{Find, Offer}
use Rattle.sd_wire.specs.contents.Endpoints.{first_udp_endpoint, options_of}
use Rattle.sd_wire.specs.declared.message.ReadEntry.{ReadEntry}
use Rattle.sd_wire.specs.contents.Values.{ReadValue, SdValue, good, bad_run, view_read}
use Rattle.audit_sd.specs.declared.sessions.message.SdMessage.{SdMessage}
use Rattle.someip_audit.specs.BooksHeld.{Held}
use Rattle.someip_wire.specs.Discovery.{is_notification}
use Rattle.someip_wire.specs.declared.header.Header.{Header}
use Rattle.someip_wire.specs.declared.error.WireError.{WireError}
use Rattle.someip_wire.specs.Kinds.{has_tp_flag}
use Rattle.someip_wire.specs.Spelling.{MessageValue}
use Rattle.sd_wire.specs.decoding.Program.{reading}
use Rattle.someip_reassembly.specs.declared.error.TpError.{TpError}
use Rattle.someip_tables.specs.declared.hashed.origin.Origin.{Origin}
use Rattle.audit_sd.specs.receivers.ReceiverTables as receivers
use Rattle.audit_traffic.specs.segments.SegmentBooks as segments
use Rattle.someip_audit.specs.declared.finding.Finding.TheVariants as findings
use Rattle.sd_wire.specs.declared.error.SdError.{SdError}
use Rattle.audit_traffic.specs.sequence.Sequences as events
use Rattle.audit_traffic.specs.ways.WayTables as ways
use Rattle.someip_wire.specs.Reading.{items_of}
use Rattle.someip_audit.specs.Audits.{Seen, datagram_shown, seen_work, without_passed}
use Rattle.audit_endpoints.specs.DiscoveryMessages.{is_at_discovery}
use Rattle.audit_endpoints.specs.WatchedEndpoints.{is_looked_at}
use Rattle.someip_audit.specs.AnyShown.{any_shown, in_datagram, item_len, item_shown, items_shown, payload_shown}
use Rattle.audit_endpoints.specs.DiscoveryMessages.{is_sd}
use Rattle.audit_traffic.specs.declared.events.flow.EventFlow.{EventFlow}
use Rattle.someip_audit.specs.AnswerTimes.{cycle_ms_of}
use Rattle.someip_audit.specs.MessageShown.{call_shown, code_shown, cycle_shown, delivery, event_flow, event_seen, event_shown, flow_shown, has_no_tp_header, is_event, is_of_call, judged_shown, message_shown, piece_shown, rest_shown, segment_at, segment_held, segment_shown, segment_told, told_of_code, told_of_way, way_of, way_shown, whole_shown, whole_taken, watch_shown}
use Rattle.audit_sd.specs.declared.offers.entry.OfferEntry.{OfferEntry}
use Rattle.audit_sd.specs.declared.receivers.entry.WithdrawnOffer.{WithdrawnOffer}
use Rattle.audit_sd.specs.declared.subscriptions.entry.SubscribeEntry.{SubscribeEntry}
use Rattle.audit_sd.specs.declared.receivers.entry.ReceiverEntry.{ReceiverEntry}
use Rattle.someip_audit.specs.declared.finding.Finding.{Finding}
use Rattle.audit_endpoints.specs.NamedEndpoints.{named_endpoint}
use Rattle.someip_audit.specs.SdEntries.{offer_entry, receiver_entry, sd_message, subscribe_entry, withdrawn_offer}
use Rattle.someip_audit.specs.SdShown.{IsBegun, IsFront, Work, changed, ended_shown, endpoint_shown, entries_shown, entry_shown, good_shown, group_shown, group_taken, head_shown, offer_noted, offer_shown, offered_shown, options_shown, receiver_shown, sd_shown, server_shown, service_shown, session_shown, stop_shown, subscribe_shown, taken_shown, told_of_options, told_unasked, unasked_shown, with_told, working}

nothing_more : (xs : List Finding) → xs ++ [] ≡ xs
nothing_more [] = refl
nothing_more (x ∷ xs) = ap (λ ys. x ∷ ys) (nothing_more xs)

joined : (xs ys zs : List Finding) → (xs ++ ys) ++ zs ≡ xs ++ (ys ++ zs)
joined [] ys zs = refl
joined (x ∷ xs) ys zs = ap (λ more. x ∷ more) (joined xs ys zs)

pub front_same : (xs : List Finding) → IsFront xs xs
front_same xs = ([], nothing_more xs)

pub front_further : (xs ys zs : List Finding) → IsFront xs ys → IsFront ys zs → IsFront xs zs
front_further xs ys zs (more, is) (rest, ends) = (more ++ rest, sym (joined xs more rest) ∙ ap (λ front. front ++ rest) is ∙ ends)

pub front_told : (finding : Option Finding) (told : List Finding) → IsFront told (with_told finding told)
front_told None told = front_same told
front_told (Some finding) told = (finding ∷ [], refl)

-- ---- each step only adds

server_front : (now : ℕ) (entry : OfferEntry) (endpoint : Option SocketAddrV4) (work : Work) → IsFront work.told (server_shown now entry endpoint work).told
server_front now entry None work = front_same work.told
server_front now entry (Some endpoint) work = front_told _ work.told

offer_front : (now : ℕ) (entry : OfferEntry) (work : Work) → IsFront work.told (offer_shown now entry work).told
offer_front now entry work = front_told _ work.told

pub offered_front : (now : ℕ) (entry : OfferEntry) (work : Work) → IsFront work.told (offered_shown now entry work).told
offered_front now entry work =
    front_further work.told (offer_shown now entry work).told _ (offer_front now entry work) (server_front now entry entry.endpoint (offer_shown now entry work))

stop_front : (now : ℕ) (offer : WithdrawnOffer) (entry : OfferEntry) (work : Work) → IsFront work.told (stop_shown now offer entry work).told
stop_front now offer entry work = offer_front now entry (ended_shown entry work)

pub service_front : (kind : ServiceKind) (now : ℕ) (origin : Origin) (entry : ServiceEntry) (endpoint : Option SocketAddrV4) (work : Work) → IsFront work.told (service_shown kind now origin entry endpoint work).told
service_front Find now origin entry endpoint work = front_same work.told
service_front Offer now origin entry endpoint work = cases (entry.ttl == 0)
  where
    cases : (b : Bool)
        → IsFront work.told
        (if b then stop_shown now (withdrawn_offer origin entry) (offer_entry origin entry endpoint) work else offered_shown now (offer_entry origin entry endpoint) work).told
    cases true = stop_front now (withdrawn_offer origin entry) (offer_entry origin entry endpoint) work
    cases false = offered_front now (offer_entry origin entry endpoint) work

pub subscribe_front : (now : ℕ) (entry : SubscribeEntry) (work : Work) → IsFront work.told (subscribe_shown now entry work).told
subscribe_front now entry work = front_told _ work.told

pub receiver_front : (now : ℕ) (entry : ReceiverEntry) (work : Work) → IsFront work.told (receiver_shown now entry work).told
receiver_front now entry work = front_told _ work.told

pub group_taken_front : (now : ℕ) (entry : SubscribeEntry) (endpoint : Option SocketAddrV4) (work : Work) → IsFront work.told (group_taken now entry endpoint work).told
group_taken_front now entry endpoint work =
    let begun : Work = changed entry endpoint work in
    front_further work.told (subscribe_shown now entry begun).told _ (subscribe_front now entry begun) (receiver_front now (receiver_entry entry endpoint) (subscribe_shown now entry begun))

pub group_front : (now : ℕ) (entry : SubscribeEntry) (endpoint : Option SocketAddrV4) (work : Work) → IsFront work.told (group_shown now entry endpoint work).told
group_front now entry endpoint work =
    let noted : Work = unasked_shown now entry work in
    front_further work.told noted.told _ (front_told (told_unasked now entry work.held) work.told) (group_taken_front now entry endpoint noted)

pub head_front : (now : ℕ) (origin : Origin) (head : EntryHead) (endpoint : Option SocketAddrV4) (work : Work) → IsFront work.told (head_shown now origin head endpoint work).told
head_front now origin (Service entry) endpoint work = service_front entry.kind now origin entry endpoint work
head_front now origin (Eventgroup entry) endpoint work =
    group_front now (subscribe_entry origin entry) endpoint work

pub endpoint_front : (endpoint : Option SocketAddrV4) (work : Work) → IsFront work.told (endpoint_shown endpoint work).told
endpoint_front None work = front_same work.told
endpoint_front (Some endpoint) work = front_told _ work.told

pub good_front : (now : ℕ) (origin : Origin) (head : EntryHead) (endpoint : Option SocketAddrV4) (work : Work) → IsFront work.told (good_shown now origin head endpoint work).told
good_front now origin head endpoint work =
    let learnt : Work = endpoint_shown (named_endpoint head endpoint) work in
    front_further work.told learnt.told _ (endpoint_front (named_endpoint head endpoint) work) (head_front now origin head endpoint learnt)

pub taken_front : (now : ℕ) (origin : Origin) (entry : ReadValue) (work : Work) → IsFront work.told (taken_shown now origin entry work).told
taken_front now origin (good entry) work = good_front now origin entry.head (first_udp_endpoint (options_of entry)) work
taken_front now origin (bad_run head) work = head_front now origin head None work

pub entry_front : (now : ℕ) (origin : Origin) (entry : ReadValue) (work : Work) → IsFront work.told (entry_shown now origin entry work).told
entry_front now origin entry work =
    let noted : Work = options_shown entry (record work { held = offer_noted entry work.held }) in
    front_further work.told noted.told _ (front_told (told_of_options entry) work.told) (taken_front now origin entry noted)

pub entries_front : (now : ℕ) (origin : Origin) (entries : List ReadValue) (work : Work) → IsFront work.told (entries_shown now origin entries work).told
entries_front now origin [] work = front_same work.told
entries_front now origin (entry ∷ entries) work =
    front_further work.told (entry_shown now origin entry work).told _ (entry_front now origin entry work) (entries_front now origin entries (entry_shown now origin entry work))

-- ---- where memory ran out

-- nothing was told
pub begun_none : (before told all : List Finding) → told ≡ before → IsFront before all → IsBegun before told all
begun_none before told all is front = rw is (front_same before, front)

-- more was told before
pub begun_later : (before mid told all : List Finding) → IsFront before mid → IsBegun mid told all → IsBegun before told all
begun_later before mid told all more (front, rest) = (front_further before mid told more front, rest)

-- and more would be told after
pub begun_sooner : (before told mid all : List Finding) → IsBegun before told mid → IsFront mid all → IsBegun before told all
begun_sooner before told mid all (front, rest) more = (front, front_further told mid all rest more)

-- ---- results

pub on_err_any : {T E P : Type 0} (result : Result T E) → P → OnErr result P
on_err_any (Ok value) is = tt
on_err_any (Err error) is = is

pub on_err_by : {T E P Q : Type 0} (result : Result T E) → (P → Q) → OnErr result P → OnErr result Q
on_err_by (Ok value) by is = tt
on_err_by (Err error) by is = by is

pub front_moved : (before told : List Finding) (held : Held) (work : Work) → working held told ≡ work → IsFront before work.told → IsFront before told
front_moved before told held work is front = rw (ap (λ (w : Work). w.told) is) front

-- a subscription changed, its entry was shown as to its answer, and nothing more
pub group_taken_begun : (now : ℕ) (entry : SubscribeEntry) (endpoint : Option SocketAddrV4) (held started mid : Held) (told more new : List Finding)
    → started ≡ (changed entry endpoint (working held [])).held → working mid more ≡ subscribe_shown now entry (working started told) → new ≡ more
    → IsBegun told new (group_taken now entry endpoint (working held told)).told
group_taken_begun now entry endpoint held started mid told more new starts is same =
    let begun : Work = changed entry endpoint (working held told) in
    let at : more ≡ (subscribe_shown now entry begun).told = ap (λ (w : Work). w.told) (is ∙ ap (λ h. subscribe_shown now entry (working h told)) starts) in
    rw (same, at) (subscribe_front now entry begun, receiver_front now (receiver_entry entry endpoint) (subscribe_shown now entry begun))

-- that nobody asked for an entry was told, or nothing, and then some of the entry was shown
pub group_begun : (now : ℕ) (entry : SubscribeEntry) (endpoint : Option SocketAddrV4) (shown : Option Finding) (held : Held) (told more new : List Finding)
    → shown ≡ told_unasked now entry held → more ≡ with_told shown told
    → IsBegun more new (group_taken now entry endpoint (working held more)).told
    → IsBegun told new (group_shown now entry endpoint (working held told)).told
group_begun now entry endpoint shown held told more new shows is begun =
    let at : more ≡ with_told (told_unasked now entry held) told = is ∙ ap (λ finding. with_told finding told) shows in
    begun_later told (with_told (told_unasked now entry held) told) new _ (front_told (told_unasked now entry held) told) (rw at at begun)

-- whether it is an Offer was kept, what the options of an entry show was told, and then some of the entry was shown
pub entry_begun : (now : ℕ) (origin : Origin) (entry : ReadValue) (shown : Option Finding) (held noted : Held) (told more new : List Finding)
    → noted ≡ offer_noted entry held → shown ≡ told_of_options entry → more ≡ with_told shown told
    → IsBegun more new (taken_shown now origin entry (working noted more)).told
    → IsBegun told new (entry_shown now origin entry (working held told)).told
entry_begun now origin entry shown held noted told more new notes shows is begun =
    let at : more ≡ with_told (told_of_options entry) told = is ∙ ap (λ finding. with_told finding told) shows in
    begun_later told (with_told (told_of_options entry) told) new _ (front_told (told_of_options entry) told) (rw (at, notes) at begun)

-- an endpoint was learnt, and then some of the entry was shown
pub good_begun : (now : ℕ) (origin : Origin) (head : EntryHead) (endpoint named : Option SocketAddrV4) (held mid : Held) (told more new : List Finding)
    → named ≡ named_endpoint head endpoint → working mid more ≡ endpoint_shown named (working held told)
    → IsBegun more new (head_shown now origin head endpoint (working mid more)).told
    → IsBegun told new (good_shown now origin head endpoint (working held told)).told
good_begun now origin head endpoint named held mid told more new names is begun =
    rw (← names, ← is) (begun_later told more new _ (front_moved told more mid _ is (endpoint_front named (working held told))) begun)

-- the sessions of a message came, and then some of its entries
pub session_front : (message : SdMessage) (work : Work) → IsFront work.told (session_shown message work).told
session_front message work = front_told _ work.told

pub sd_front : (now : ℕ) (origin : Origin) (session : ℕ) (sd : SdValue) (work : Work) → IsFront work.told (sd_shown now origin session sd work).told
sd_front now origin session sd work =
    front_further work.told (session_shown (sd_message now origin session sd.flags) work).told _ (session_front (sd_message now origin session sd.flags) work)
    (entries_front now origin sd.entries (session_shown (sd_message now origin session sd.flags) work))

pub sd_begun : (now : ℕ) (origin : Origin) (some all : List ReadEntry) (seen message : SdMessage) (held : Held) (told : List Finding) (mid : Held) (more new : List Finding)
    → some ≡ all → seen ≡ message → working mid more ≡ session_shown seen (working held told)
    → IsBegun more new (entries_shown now origin (map view_read some) (working mid more)).told
    → IsBegun told new (entries_shown now origin (map view_read all) (session_shown message (working held told))).told
sd_begun now origin some all seen message held told mid more new same_entries same is begun =
    rw (← same_entries, ← same, ← is) (begun_later told more new _ (front_moved told more mid _ is (session_front seen (working held told))) begun)

-- ---- messages that are none of Service Discovery

pub event_front : (now : ℕ) (origin : Origin) (header : Header) (work : Work) → IsFront work.told (event_shown now origin header work).told
event_front now origin header work = cases (is_event origin header)
  where
    cases : (b : Bool)
        → IsFront work.told
        (if b
        then record {
          held = record work.held { receivers = receivers.after_event now (delivery origin header) work.held.receivers };
          told = with_told (option_map (findings.Event (delivery origin header)) (receivers.told_of_event now (delivery origin header) work.held.receivers)) work.told;
        }
        else work).told
    cases true = front_told _ work.told
    cases false = front_same work.told

flow_front : (now : ℕ) (origin : Origin) (header : Header) (work : Work) → IsFront work.told (flow_shown now origin header work).told
flow_front now origin header work = cases (is_notification header.kind)
  where
    cases : (b : Bool)
        → IsFront work.told
        (if b
        then record {
          held = record work.held { events = events.after_event now origin.numbers (event_seen origin header) work.held.events };
          told = with_told (option_map (findings.EventSession (event_flow origin header) header.session) (events.told_by origin.numbers (event_seen origin header) work.held.events)) work.told;
        }
        else work).told
    cases true = front_told _ work.told
    cases false = front_same work.told

watch_front : (now : ℕ) (origin : Origin) (flow : EventFlow) (cycle_ms : Option ℕ) (work : Work) → IsFront work.told (watch_shown now origin flow cycle_ms work).told
watch_front now origin flow None work = front_same work.told
watch_front now origin flow (Some cycle_ms) work = front_told _ work.told

cycle_front : (now : ℕ) (origin : Origin) (header : Header) (work : Work) → IsFront work.told (cycle_shown now origin header work).told
cycle_front now origin header work = cases (is_event origin header && receivers.is_subscribed (delivery origin header) work.held.receivers.standing)
  where
    cases : (b : Bool) → IsFront work.told (if b then watch_shown now origin (event_flow origin header) (cycle_ms_of work.held.times header.service header.method) work else work).told
    cases true = watch_front now origin (event_flow origin header) (cycle_ms_of work.held.times header.service header.method) work
    cases false = front_same work.told

-- its call was shown, and what its return code shows
coded_front : (now : ℕ) (origin : Origin) (header : Header) (payload : List ℕ) (work : Work) → IsFront work.told (code_shown header (call_shown now origin header payload work)).told
coded_front now origin header payload work =
    let called : Work = call_shown now origin header payload work in
    front_further work.told called.told _ (front_told _ work.told) (front_told (told_of_code header) called.told)

-- what it shows of its server, who is subscribed to its event, and what it shows by its session
judged_front : (now : ℕ) (origin : Origin) (header : Header) (work : Work) → IsFront work.told (judged_shown now origin header work).told
judged_front now origin header work = front_told _ work.told

last_front : (now : ℕ) (origin : Origin) (header : Header) (work : Work) → IsFront work.told (cycle_shown now origin header (flow_shown now origin header work)).told
last_front now origin header work =
    let flowed : Work = flow_shown now origin header work in
    front_further work.told flowed.told _ (flow_front now origin header work) (cycle_front now origin header flowed)

late_front : (now : ℕ) (origin : Origin) (header : Header) (work : Work) → IsFront work.told (cycle_shown now origin header (flow_shown now origin header (event_shown now origin header work))).told
late_front now origin header work =
    let heard : Work = event_shown now origin header work in
    front_further work.told heard.told _ (event_front now origin header work) (last_front now origin header heard)

pub rest_front : (now : ℕ) (origin : Origin) (header : Header) (work : Work) → IsFront work.told (rest_shown now origin header work).told
rest_front now origin header work =
    let judged : Work = judged_shown now origin header work in
    front_further work.told judged.told _ (judged_front now origin header work) (late_front now origin header judged)

pub whole_front : (now : ℕ) (origin : Origin) (header : Header) (payload : List ℕ) (work : Work) → IsFront work.told (whole_shown now origin header payload work).told
whole_front now origin header payload work =
    let coded : Work = code_shown header (call_shown now origin header payload work) in
    front_further work.told coded.told _ (coded_front now origin header payload work) (rest_front now origin header coded)

way_front : (origin : Origin) (header : Header) (work : Work) → IsFront work.told (way_shown origin header work).told
way_front origin header work = cases (is_of_call header)
  where
    cases : (b : Bool)
        → IsFront work.told
        (if b
        then record { held = record work.held { ways = ways.after_message (way_of origin) work.held.ways }; told = with_told (told_of_way (ways.told_by (way_of origin) work.held.ways)) work.told }
        else work).told
    cases true = front_told _ work.told
    cases false = front_same work.told

pub whole_taken_front : (now : ℕ) (origin : Origin) (header : Header) (payload : List ℕ) (work : Work) → IsFront work.told (whole_taken now origin header payload work).told
unfolding whole_taken
whole_taken_front now origin header payload work =
    let shown : Work = whole_shown now origin header payload work in
    front_further work.told shown.told _ (whole_front now origin header payload work) (way_front origin header shown)

-- some of what it shows was told
pub whole_taken_begun : (now : ℕ) (origin : Origin) (header : Header) (payload : List ℕ) (work : Work) (told new : List Finding)
    → IsBegun told new (whole_shown now origin header payload work).told → IsBegun told new (whole_taken now origin header payload work).told
unfolding whole_taken
whole_taken_begun now origin header payload work told new begun = begun_sooner told new _ _ begun (way_front origin header (whole_shown now origin header payload work))

-- all that it shows was told, and nothing more
pub whole_told : (now : ℕ) (origin : Origin) (header : Header) (payload : List ℕ) (held mid : Held) (told more new : List Finding)
    → working mid more ≡ whole_shown now origin header payload (working held told) → new ≡ more
    → IsBegun told new (whole_taken now origin header payload (working held told)).told
unfolding whole_taken
whole_told now origin header payload held mid told more new is same =
    let shown : Work = whole_shown now origin header payload (working held told) in
    let at : more ≡ shown.told = ap (λ (w : Work). w.told) is in
    rw (same, at) (whole_front now origin header payload (working held told), way_front origin header shown)

pub segment_told_front : (now : ℕ) (origin : Origin) (header : Header) (told : Option (Result MessageValue TpError)) (work : Work) → IsFront work.told (segment_told now origin header told work).told
segment_told_front now origin header None work = front_same work.told
segment_told_front now origin header (Some (Ok message)) work = whole_taken_front now origin message.header message.payload work
segment_told_front now origin header (Some (Err refusal)) work = front_told (Some (findings.Segment header refusal)) work.told

pub piece_front : (now : ℕ) (origin : Origin) (message : MessageValue) (work : Work) → IsFront work.told (piece_shown now origin message work).told
piece_front now origin message work =
    segment_told_front now origin message.header
    (segments.told_of message.header (segments.segment_of origin.from origin.to message) (max work.held.segments.latest now) work.held.segments) (record work { held = segment_held now origin message work.held })

segment_front : (now : ℕ) (origin : Origin) (place : ℕ) (message : MessageValue) (work : Work) → IsFront work.told (segment_shown now origin place message work).told
segment_front now origin place message work = cases (has_no_tp_header message.payload)
  where
    cases : (b : Bool) → IsFront work.told (if b then record work { told = with_told (Some (findings.NoTpHeader place)) work.told } else piece_shown now origin message work).told
    cases true = front_told (Some (findings.NoTpHeader place)) work.told
    cases false = piece_front now origin message work

segment_at_front : (now : ℕ) (origin : Origin) (place : ℕ) (message : MessageValue) (work : Work) → IsFront work.told (segment_at now origin place message work).told
segment_at_front now origin place message work = cases (is_at_discovery origin)
  where
    cases : (b : Bool) → IsFront work.told (if b then work else segment_shown now origin place message work).told
    cases true = front_same work.told
    cases false = segment_front now origin place message work

message_front : (now : ℕ) (origin : Origin) (place : ℕ) (message : MessageValue) (work : Work) → IsFront work.told (message_shown now origin place message work).told
message_front now origin place message work = cases (has_tp_flag message.header.kind)
  where
    cases : (b : Bool) → IsFront work.told (if b then segment_at now origin place message work else whole_taken now origin message.header message.payload work).told
    cases true = segment_at_front now origin place message work
    cases false = whole_taken_front now origin message.header message.payload work

-- its call was shown, and nothing more
pub whole_begun : (now : ℕ) (origin : Origin) (header : Header) (payload : List ℕ) (held : Held) (told : List Finding) (mid : Held) (more new : List Finding)
    → working mid more ≡ call_shown now origin header payload (working held told) → new ≡ more → IsBegun told new (whole_shown now origin header payload (working held told)).told
whole_begun now origin header payload held told mid more new is same =
    let called : Work = call_shown now origin header payload (working held told) in
    let coded : Work = code_shown header called in
    let at : more ≡ called.told = ap (λ (w : Work). w.told) is in
    rw (same, at) (front_told _ told, front_further called.told coded.told _ (front_told (told_of_code header) called.told) (rest_front now origin header coded))

-- what its return code shows was told too
coded_same : (now : ℕ) (origin : Origin) (header : Header) (payload : List ℕ) (shown : Option Finding) (held : Held) (told : List Finding) (mid : Held) (more noted : List Finding)
    → working mid more ≡ call_shown now origin header payload (working held told) → shown ≡ told_of_code header → noted ≡ with_told shown more
    → working mid noted ≡ code_shown header (call_shown now origin header payload (working held told))
coded_same now origin header payload shown held told mid more noted is shows notes =
    ap (λ all. working mid all) (notes ∙ ap (λ finding. with_told finding more) shows) ∙ ap (code_shown header) is

-- and then some of the rest
pub coded_begun : (now : ℕ) (origin : Origin) (header : Header) (payload : List ℕ) (shown : Option Finding) (held : Held) (told : List Finding) (mid : Held) (more noted new : List Finding)
    → working mid more ≡ call_shown now origin header payload (working held told) → shown ≡ told_of_code header → noted ≡ with_told shown more
    → IsBegun noted new (rest_shown now origin header (working mid noted)).told → IsBegun told new (whole_shown now origin header payload (working held told)).told
coded_begun now origin header payload shown held told mid more noted new is shows notes begun =
    let same : working mid noted ≡ code_shown header (call_shown now origin header payload (working held told)) = coded_same now origin header payload shown held told mid more noted is shows notes in
    begun_later told noted new _ (front_moved told noted mid _ same (coded_front now origin header payload (working held told)))
    (subst (λ (w : Work). IsBegun noted new (rest_shown now origin header w).told) same begun)

-- its server was shown, and nothing more
pub judged_begun : (now : ℕ) (origin : Origin) (header : Header) (held : Held) (told : List Finding) (mid : Held) (more new : List Finding)
    → working mid more ≡ judged_shown now origin header (working held told) → new ≡ more → IsBegun told new (rest_shown now origin header (working held told)).told
judged_begun now origin header held told mid more new is same =
    let judged : Work = judged_shown now origin header (working held told) in
    let at : more ≡ judged.told = ap (λ (w : Work). w.told) is in
    rw (same, at) (judged_front now origin header (working held told), late_front now origin header judged)

-- and who is subscribed to its event, and nothing more
pub heard_begun : (now : ℕ) (origin : Origin) (header : Header) (held : Held) (told : List Finding) (mid late : Held) (more most new : List Finding)
    → working mid more ≡ judged_shown now origin header (working held told) → working late most ≡ event_shown now origin header (working mid more) → new ≡ most
    → IsBegun told new (rest_shown now origin header (working held told)).told
heard_begun now origin header held told mid late more most new is hears same =
    let judged : Work = judged_shown now origin header (working held told) in
    let heard : Work = event_shown now origin header judged in
    let at : most ≡ heard.told = ap (λ (w : Work). w.told) (hears ∙ ap (event_shown now origin header) is) in
    rw (same, at) (front_further told judged.told _ (judged_front now origin header (working held told)) (event_front now origin header judged), last_front now origin header heard)

-- and what the event shows by its session, and nothing more
pub flowed_begun : (now : ℕ) (origin : Origin) (header : Header) (held : Held) (told : List Finding) (mid late last : Held) (more most much new : List Finding)
    → working mid more ≡ judged_shown now origin header (working held told) → working late most ≡ event_shown now origin header (working mid more)
    → working last much ≡ flow_shown now origin header (working late most) → new ≡ much
    → IsBegun told new (rest_shown now origin header (working held told)).told
flowed_begun now origin header held told mid late last more most much new is hears flows same =
    let judged : Work = judged_shown now origin header (working held told) in
    let heard : Work = event_shown now origin header judged in
    let flowed : Work = flow_shown now origin header heard in
    let at : much ≡ flowed.told = ap (λ (w : Work). w.told) (flows ∙ ap (flow_shown now origin header) (hears ∙ ap (event_shown now origin header) is)) in
    rw (same, at) (
      front_further told judged.told _ (judged_front now origin header (working held told))
          (front_further judged.told heard.told _ (event_front now origin header judged) (flow_front now origin header heard)),
      cycle_front now origin header flowed,
    )

-- an Offer was shown, as to the offers, and nothing more
pub offered_begun : (now : ℕ) (entry : OfferEntry) (held : Held) (told : List Finding) (mid : Held) (more new : List Finding)
    → working mid more ≡ offer_shown now entry (working held told) → new ≡ more → IsBegun told new (offered_shown now entry (working held told)).told
offered_begun now entry held told mid more new is same =
    let offered : Work = offer_shown now entry (working held told) in
    let at : more ≡ offered.told = ap (λ (w : Work). w.told) is in
    rw (same, at) (offer_front now entry (working held told), server_front now entry entry.endpoint offered)

pub payload_front : (now : ℕ) (origin : Origin) (place session : ℕ) (read : Result SdValue SdError) (work : Work) → IsFront work.told (payload_shown now origin place session read work).told
payload_front now origin place session (Ok sd) work = sd_front now origin session sd work
payload_front now origin place session (Err fault) work = front_told (Some (findings.MalformedSd (in_datagram place fault))) work.told

-- ---- datagrams

any_front : (now : ℕ) (origin : Origin) (place : ℕ) (message : MessageValue) (work : Work) → IsFront work.told (any_shown now origin place message work).told
any_front now origin place message work = cases (is_sd origin message.header)
  where
    cases : (b : Bool)
        → IsFront work.told
        (if b then payload_shown now origin place message.header.session (reading message.payload) work else message_shown now origin place message work).told
    cases true = payload_front now origin place message.header.session (reading message.payload) work
    cases false = message_front now origin place message work

pub item_front : (now : ℕ) (origin : Origin) (place : ℕ) (item : Result MessageValue WireError) (work : Work) → IsFront work.told (item_shown now origin place item work).told
item_front now origin place (Ok message) work = any_front now origin (place + 16) message work
item_front now origin place (Err fault) work = front_told (Some (findings.Malformed fault)) work.told

pub items_front : (now : ℕ) (origin : Origin) (place : ℕ) (items : List (Result MessageValue WireError)) (work : Work)
    → IsFront work.told (items_shown now origin place items work).told
items_front now origin place [] work = front_same work.told
items_front now origin place (item ∷ items) work =
    front_further work.told (item_shown now origin place item work).told _ (item_front now origin place item work)
    (items_front now origin (place + item_len item) items (item_shown now origin place item work))

-- some items were shown, and of the next one a beginning
pub item_begun : (now : ℕ) (origin : Origin) (place : ℕ) (items rest : List (Result MessageValue WireError)) (item : Result MessageValue WireError) (mid : Held)
    (told more new all : List Finding)
    → items ≡ item ∷ rest → (items_shown now origin place items (working mid more)).told ≡ all → IsFront told more
    → IsBegun more new (item_shown now origin place item (working mid more)).told → IsBegun told new all
item_begun now origin place items rest item mid told more new all left same front begun =
    begun_later told more new all front
    (rw (← same, left) (begun_sooner more new _ _ begun (items_front now origin (place + item_len item) rest (item_shown now origin place item (working mid more)))))

-- a datagram of any port came
pub seen_front : (seen : Seen) (work : Work) → IsFront work.told (seen_work seen work).told
seen_front seen work = cases (is_looked_at work.held.watched seen.origin)
  where
    left : Work
    left = record work { held = without_passed seen.now work.held }

    cases : (b : Bool) → IsFront work.told (if b then datagram_shown seen left else left).told
    cases true = items_front seen.now seen.origin 0 (items_of seen.bytes) left
    cases false = front_same work.told

-- one that is looked at came, and a beginning of it was shown
pub seen_begun : (seen : Seen) (held mid : Held) (told new : List Finding) → mid ≡ without_passed seen.now held → is_looked_at mid.watched seen.origin ≡ true
    → IsBegun told new (datagram_shown seen (working mid told)).told → IsBegun told new (seen_work seen (working held told)).told
seen_begun seen held mid told new is looked begun =
    let looks : is_looked_at held.watched seen.origin ≡ true = ap (λ (h : Held). is_looked_at h.watched seen.origin) (sym is) ∙ looked in
    rw looks (rw is at begun)
