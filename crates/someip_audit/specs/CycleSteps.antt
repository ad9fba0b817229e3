-- What a recording shows of the events that come in cycles, as steps of their book. A list of steps has the newest first.
use Rattle.std.specs.Prelude.{◌≡◌, ℕ, ◌+◌, ◌==◌, max, Bool, ◌&&◌, not, if◌then◌else◌, List, [], ◌∷◌, ◌++◌, Option, None, Some, Result, Ok, Err, zero, suc}
use Rattle.std.specs.FinMap as finite
use Rattle.std.specs.declared.net.ipv4_addr.Ipv4Addr.{Ipv4Addr}
use Rattle.std.specs.declared.net.socket_addr.SocketAddrV4.{SocketAddrV4}
use Rattle.sd_wire.specs.declared.entry.EntryHead.{EntryHead}
use Rattle.sd_wire.specs.declared.entry.EntryHead.TheVariants.{Service, Eventgroup}
use Rattle.sd_wire.specs.declared.entry.ServiceEntry.{ServiceEntry}
use Rattle.sd_wire.specs.declared.entry.ServiceKind.{ServiceKind}
use Rattle.sd_wire.specs.declared.entry.ServiceKind.TheVariants.{Find, Offer}
use Rattle.sd_wire.specs.declared.error.SdError.{SdError}
use Rattle.sd_wire.specs.contents.Endpoints.{first_udp_endpoint, options_of}
use Rattle.sd_wire.specs.contents.Values.{ReadValue, SdValue, good, bad_run}
use Rattle.sd_wire.specs.decoding.Program.{reading}
use Rattle.someip_wire.specs.declared.error.WireError.{WireError}
use Rattle.someip_wire.specs.declared.header.Header.{Header}
use Rattle.someip_wire.specs.Kinds.{has_tp_flag}
use Rattle.someip_wire.specs.Reading.{items_of}
use Rattle.someip_wire.specs.Spelling.{MessageValue}
use Rattle.someip_reassembly.specs.declared.error.TpError.{TpError}
use Rattle.someip_tables.specs.declared.hashed.origin.Origin.{Origin}
use Rattle.someip_tables.specs.Lastings.{expired}
use Rattle.audit_sd.specs.declared.sessions.finding.Finding.{Finding as SessionFinding}
use Rattle.audit_sd.specs.declared.sessions.finding.Finding.TheVariants as sessions
use Rattle.audit_sd.specs.sessions.SessionBooks as session_book
use Rattle.audit_sd.specs.declared.subscriptions.entry.SubscribeEntry.{SubscribeEntry}
use Rattle.audit_sd.specs.declared.subscriptions.key.SubscriptionKey.{SubscriptionKey}
use Rattle.audit_sd.specs.receivers.ReceiverTables.{Subscriptions, ends, is_subscribed}
use Rattle.audit_traffic.specs.segments.SegmentBooks as segments
use Rattle.audit_traffic.specs.cycles.CycleHistories.{Asked, BeganAgain, Came, Shown, Step, Unsubscribed, Withdrawn}
use Rattle.audit_traffic.specs.cycles.CycleReasons.{IsToldSilent}
use Rattle.someip_audit.specs.declared.fell_due.FellDue.{FellDue}
use Rattle.someip_audit.specs.declared.fell_due.FellDue.TheVariants as due
use Rattle.someip_audit.specs.AnswerTimes.{cycle_ms_of}
use Rattle.audit_endpoints.specs.DiscoveryMessages.{is_sd}
use Rattle.someip_audit.specs.AnyShown.{item_len, item_shown}
use Rattle.someip_audit.specs.Audits.{AuditState, Drains, Seen, after_seen, without_passed}
use Rattle.someip_audit.specs.BooksHeld.{Held}
use Rattle.someip_audit.specs.MessageShown.{delivery, event_flow, has_no_tp_header, is_event}
use Rattle.someip_audit.specs.SdEntries.{receiver_entry, sd_message, sender, subscribe_entry}
use Rattle.someip_audit.specs.SdShown.{Work, entry_shown, session_shown, working}
use Rattle.audit_endpoints.specs.DiscoveryMessages.{is_at_discovery}
use Rattle.audit_endpoints.specs.WatchedEndpoints.{is_looked_at}

-- a step at a moment
abbrev pub step_at : ℕ → Shown → Step
step_at now shown = record { at = now; shown = shown }

-- it is one, if this holds
abbrev pub step_if : Bool → ℕ → Shown → List Step
step_if holds now shown = if holds then step_at now shown ∷ [] else []

-- ---- a message that is none of Service Discovery

-- an event comes, if it has a cycle
abbrev pub came_steps : ℕ → Origin → Header → Option ℕ → List Step
came_steps now origin header None = []
came_steps now origin header (Some cycle_ms) = step_at now (Came (event_flow origin header) cycle_ms origin.numbers) ∷ []

-- a whole message is an event with a cycle to one endpoint that is subscribed
abbrev pub whole_steps : ℕ → Origin → Header → Held → List Step
whole_steps now origin header held =
    if is_event origin header && is_subscribed (delivery origin header) held.receivers.standing
    then came_steps now origin header (cycle_ms_of held.times header.service header.method) else []

-- a segment makes its message whole
abbrev pub segment_steps : ℕ → Origin → Option (Result MessageValue TpError) → Held → List Step
segment_steps now origin None held = []
segment_steps now origin (Some (Err refusal)) held = []
segment_steps now origin (Some (Ok message)) held = whole_steps now origin message.header held

abbrev pub piece_steps : ℕ → Origin → MessageValue → Held → List Step
piece_steps now origin message held =
    segment_steps now origin
    (segments.told_of message.header (segments.segment_of origin.from origin.to message) (max held.segments.latest now) held.segments) held

abbrev pub message_steps : ℕ → Origin → MessageValue → Held → List Step
message_steps now origin message held =
    if has_tp_flag message.header.kind
    then (if is_at_discovery origin then [] else if has_no_tp_header message.payload then [] else piece_steps now origin message held)
    else whole_steps now origin message.header held

-- ---- a message of Service Discovery

-- a sender began again
abbrev pub session_steps : ℕ → Option SessionFinding → Ipv4Addr → List Step
session_steps now (Some sessions.Reboot) address = step_at now (BeganAgain address) ∷ []
session_steps now _ address = []

-- a StopOffer withdraws an offer
abbrev pub service_steps : ServiceKind → ℕ → Origin → ServiceEntry → List Step
service_steps Find now origin entry = []
service_steps Offer now origin entry = step_if (entry.ttl == 0) now (Withdrawn (sender origin) entry.service)

-- a subscription ends
abbrev pub group_steps : ℕ → SubscribeEntry → Option SocketAddrV4 → Held → List Step
group_steps now entry endpoint held =
    step_if (ends (receiver_entry entry endpoint) held.receivers) now (Unsubscribed entry.key.server entry.key.service entry.key.client)

abbrev pub head_steps : ℕ → Origin → EntryHead → Option SocketAddrV4 → Held → List Step
head_steps now origin (Service entry) endpoint held = service_steps entry.kind now origin entry
head_steps now origin (Eventgroup entry) endpoint held = group_steps now (subscribe_entry origin entry) endpoint held

abbrev pub entry_steps : ℕ → Origin → ReadValue → Held → List Step
entry_steps now origin (good entry) held = head_steps now origin entry.head (first_udp_endpoint (options_of entry)) held
entry_steps now origin (bad_run head) held = head_steps now origin head None held

abbrev pub entries_steps : ℕ → Origin → List ReadValue → Work → List Step
entries_steps now origin [] work = []
entries_steps now origin (entry ∷ entries) work = entries_steps now origin entries (entry_shown now origin entry work) ++ entry_steps now origin entry work.held

abbrev pub payload_steps : ℕ → Origin → ℕ → Result SdValue SdError → Work → List Step
payload_steps now origin session (Err fault) work = []
payload_steps now origin session (Ok sd) work =
    entries_steps now origin sd.entries (session_shown (sd_message now origin session sd.flags) work)
    ++ session_steps now (session_book.told_by (sd_message now origin session sd.flags) work.held.sessions) (sender origin)

-- ---- a datagram

abbrev pub item_steps : ℕ → Origin → Result MessageValue WireError → Work → List Step
item_steps now origin (Err fault) work = []
item_steps now origin (Ok message) work =
    if is_sd origin message.header then payload_steps now origin message.header.session (reading message.payload) work else message_steps now origin message work.held

-- what items show in order, the first of which begins at this place
abbrev pub items_steps : ℕ → Origin → ℕ → List (Result MessageValue WireError) → Work → List Step
items_steps now origin place [] work = []
items_steps now origin place (item ∷ items) work =
    items_steps now origin (place + item_len item) items (item_shown now origin place item work) ++ item_steps now origin item work

-- these subscriptions expired
abbrev pub expiry_steps : ℕ → List SubscriptionKey → List Step
expiry_steps now [] = []
expiry_steps now (key ∷ keys) = expiry_steps now keys ++ step_at now (Unsubscribed key.server key.service key.client) ∷ []

-- a datagram of any port: first what has expired ends, and it shows the rest if it is looked at
abbrev pub shown_steps : Seen → Held → List Step
shown_steps seen held = if is_looked_at held.watched seen.origin then items_steps seen.now seen.origin 0 (items_of seen.bytes) (working held []) else []

abbrev pub seen_steps : Seen → AuditState → List Step
seen_steps seen state = shown_steps seen (without_passed seen.now state) ++ expiry_steps seen.now (finite.keys (expired seen.now state.receivers.standing))

-- ---- what is asked

-- one of the subscriptions that stand has passed by a moment
abbrev pub has_one_passed : ℕ → Subscriptions → Bool
has_one_passed at standing = not (finite.len (expired at standing) == 0)

-- the last moment up to another at which none has, if there is one
unfoldable pub last_before_expiry : ℕ → Subscriptions → Option ℕ
last_before_expiry zero standing = if has_one_passed 0 standing then None else Some 0
last_before_expiry (suc now) standing = if has_one_passed (suc now) standing then last_before_expiry now standing else Some (suc now)

-- the book is asked for what fell silent by that moment
abbrev pub asked_at : Option ℕ → List Step
asked_at None = []
asked_at (Some at) = step_at at Asked ∷ []

abbrev pub asked_steps : ℕ → AuditState → List Step
asked_steps now state = asked_at (last_before_expiry now state.receivers.standing)

-- ---- a recording

-- an audit after these datagrams in order, with the steps before them and after: before each datagram it is asked for all that fell due
abbrev pub Runs : AuditState → List Step → List Seen → AuditState → List Step → Type 0
Runs state steps [] after all = (after ≡ state) × (all ≡ steps)
Runs state steps (seen ∷ others) after all =
    (told : List FellDue) × (between : AuditState) × Drains seen.now state told between
    × Runs (after_seen seen between) (seen_steps seen between ++ (asked_steps seen.now state ++ steps)) others after all

-- what is told as silent has its reason in these steps
abbrev pub HasReason : List Step → FellDue → Type 0
HasReason steps (due.Silent told) = IsToldSilent told steps
HasReason steps _ = Unit {0}
