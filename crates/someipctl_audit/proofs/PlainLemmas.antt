-- The plain form of what the lines of an audit tell is their words.
use Rattle.std.proofs.Common.{◌≡◌, ℕ, ◌==◌, Bool, if◌then◌else◌, true, false, List, [], ◌∷◌, ◌++◌, codes, decimal, Option, Some, None, refl, ap, ap₂, ◌∙◌, append_assoc}
use Rattle.std.proofs.lemmas.List.{append-nil}
use Rattle.std.specs.Net.Text.{socket_v4_text}
use Rattle.recording.specs.declared.Time.{Time}
use Rattle.someip_tables.specs.declared.hashed.Origin.{Origin}
use Rattle.someip_wire.specs.Faults as wire
use Rattle.someip_reassembly.specs.Names.{error_name}
use Rattle.sd_wire.specs.decoding.Faults as sd
use Rattle.audit_traffic.specs.declared.calls.CallFinding.TheVariants as calls
use Rattle.audit_traffic.specs.declared.sequence.Finding.TheVariants as events
use Rattle.audit_sd.specs.declared.offers.OfferKey.{OfferKey}
use Rattle.audit_sd.specs.declared.offers.Finding.TheVariants as offers
use Rattle.audit_sd.specs.declared.receivers.Finding.TheVariants as receivers
use Rattle.audit_sd.specs.declared.servers.Finding.TheVariants as servers
use Rattle.audit_sd.specs.declared.sessions.Finding.TheVariants as sessions
use Rattle.audit_sd.specs.declared.subscriptions.SubscriptionKey.{SubscriptionKey}
use Rattle.audit_sd.specs.declared.subscriptions.Finding.TheVariants as subscriptions
use Rattle.someip_audit.specs.declared.Finding.{Finding}
use Rattle.someip_audit.specs.declared.Finding.TheVariants as findings
use Rattle.someip_audit.specs.declared.FellDue.{FellDue}
use Rattle.someip_audit.specs.declared.FellDue.TheVariants as due
use Rattle.someip_audit.specs.FellDues.{deadline}
use Rattle.someip_texts.specs.Words.{hex2, hex4, ids_text, spaced}
use Rattle.someipctl_io.specs.declared.form.Form.TheVariants.{Plain}
use Rattle.someipctl_io.specs.ToldLines.{ToldField, begin_text, content_text, fields_text, line_text}
use Rattle.someipctl_recordings.specs.RecordedText.{time_text}
use Rattle.someipctl_audit.specs.AuditText.{due_line, finding_line, head_text, line_of, origin_of_due, time_at}
use Rattle.audit_rules.specs.Kinds.{kind_name, kind_words}
use Rattle.someipctl_audit.specs.Said.{Said, call_words, fault_words, lost_words, offer_words, said, said_of_due, subscription_words}
use Rattle.someipctl_audit.specs.ToldFindings.{audit_head, call_fields, due_fields, event_fields, finding_fields, kind_told, last_field, lost_fields, malformed_fields, offer_fields, session_field, subscription_fields}
use Rattle.someipctl_recordings.specs.Origins.{said_of_time}

-- ---- the head

frame-shape : (hash n space t k from to tail word : List ℕ)
    → (((hash ++ n) ++ space) ++ ((t ++ space) ++ [])) ++ ((k ++ []) ++ (((space ++ from) ++ ((space ++ to) ++ tail)) ++ (space ++ word)))
    ≡ ((hash ++ n ++ space) ++ ((t ++ ((space ++ k) ++ ((space ++ from) ++ ((space ++ to) ++ [])))) ++ tail)) ++ (space ++ word)
frame-shape hash n space t k from to tail word = simp (append_assoc, append-nil)

frameless-shape : (space t k from to tail word : List ℕ)
    → ((t ++ space) ++ []) ++ ((k ++ []) ++ (((space ++ from) ++ ((space ++ to) ++ tail)) ++ (space ++ word)))
    ≡ ((t ++ ((space ++ k) ++ ((space ++ from) ++ ((space ++ to) ++ [])))) ++ tail) ++ (space ++ word)
frameless-shape space t k from to tail word = simp (append_assoc, append-nil)

time-plain : (time : Option Time) → content_text (said_of_time time) ≡ time_text time
time-plain None = refl
time-plain (Some t) = refl

with-frame : (time : Option Time) (origin : Origin) (tail word : List ℕ)
    → (((codes "#" ++ decimal origin.numbers.frame) ++ codes " ") ++ ((content_text (said_of_time time) ++ codes " ") ++ []))
    ++ ((decimal origin.numbers.datagram ++ []) ++ (((codes " " ++ socket_v4_text origin.from) ++ ((codes " " ++ socket_v4_text origin.to) ++ tail)) ++ (codes " " ++ word)))
    ≡ ((codes "#" ++ decimal origin.numbers.frame ++ codes " ")
    ++ ((time_text time ++ spaced (decimal origin.numbers.datagram ∷ socket_v4_text origin.from ∷ socket_v4_text origin.to ∷ [])) ++ tail)) ++ (codes " " ++ word)
with-frame time origin tail word =
    frame-shape (codes "#") (decimal origin.numbers.frame) (codes " ") (content_text (said_of_time time)) (decimal origin.numbers.datagram) (socket_v4_text origin.from) (socket_v4_text origin.to) tail word
    ∙ ap (λ t. ((codes "#" ++ decimal origin.numbers.frame ++ codes " ") ++ ((t ++ spaced (decimal origin.numbers.datagram ∷ socket_v4_text origin.from ∷ socket_v4_text origin.to ∷ [])) ++ tail)) ++ (codes " " ++ word)) (time-plain time)

without-frame : (time : Option Time) (origin : Origin) (tail word : List ℕ)
    → ((content_text (said_of_time time) ++ codes " ") ++ [])
    ++ ((decimal origin.numbers.datagram ++ []) ++ (((codes " " ++ socket_v4_text origin.from) ++ ((codes " " ++ socket_v4_text origin.to) ++ tail)) ++ (codes " " ++ word)))
    ≡ ((time_text time ++ spaced (decimal origin.numbers.datagram ∷ socket_v4_text origin.from ∷ socket_v4_text origin.to ∷ [])) ++ tail) ++ (codes " " ++ word)
without-frame time origin tail word =
    frameless-shape (codes " ") (content_text (said_of_time time)) (decimal origin.numbers.datagram) (socket_v4_text origin.from) (socket_v4_text origin.to) tail word
    ∙ ap (λ t. ((t ++ spaced (decimal origin.numbers.datagram ∷ socket_v4_text origin.from ∷ socket_v4_text origin.to ∷ [])) ++ tail) ++ (codes " " ++ word)) (time-plain time)

begin-plain : (frames allowed : Bool) (time : Option Time) (origin : Origin) (name word : List ℕ)
    → begin_text Plain (audit_head frames allowed time origin) name (Some word) ≡ head_text frames allowed time origin ++ (codes " " ++ word)
begin-plain true true time origin name word = with-frame time origin (codes " allowed") word
begin-plain true false time origin name word = with-frame time origin [] word
begin-plain false true time origin name word = without-frame time origin (codes " allowed") word
begin-plain false false time origin name word = without-frame time origin [] word

-- ---- the words

malformed-shape : (space name at place : List ℕ) → (space ++ name) ++ (((space ++ at ++ space) ++ place) ++ []) ≡ (space ++ name) ++ ((space ++ at) ++ ((space ++ place) ++ []))
malformed-shape space name at place = simp (append_assoc, append-nil)

malformed-words : (name : List ℕ) (place : ℕ) → fields_text Plain (malformed_fields name place) ≡ spaced (fault_words name place)
malformed-words name place = malformed-shape (codes " ") name (codes "at") (decimal place)

call-shape : (front space s dot m client c session n : List ℕ)
    → ((front ++ space) ++ s) ++ ((dot ++ m) ++ (((space ++ client ++ space) ++ c) ++ (((space ++ session ++ space) ++ n) ++ [])))
    ≡ front ++ ((space ++ (s ++ dot ++ m)) ++ ((space ++ client) ++ ((space ++ c) ++ ((space ++ session) ++ ((space ++ n) ++ [])))))
call-shape front space s dot m client c session n = simp (append_assoc, append-nil)

-- behind a word
call-words : (front : List ℕ) (service method client session : ℕ)
    → fields_text Plain (call_fields (front ++ codes " ") service method client session) ≡ front ++ spaced (call_words service method client session)
call-words front service method client session =
    call-shape front (codes " ") (hex4 service) (codes ".") (hex4 method) (codes "client") (hex4 client) (codes "session") (hex4 session)

offer-shape : (space s dot i major m : List ℕ)
    → (space ++ s) ++ ((dot ++ i) ++ (((space ++ major ++ space) ++ m) ++ [])) ≡ (space ++ (s ++ dot ++ i)) ++ ((space ++ major) ++ ((space ++ m) ++ []))
offer-shape space s dot i major m = simp (append_assoc, append-nil)

offer-plain : (key : OfferKey) → fields_text Plain (offer_fields key) ≡ spaced (offer_words key)
offer-plain key = offer-shape (codes " ") (hex4 key.service) (codes ".") (hex4 key.instance) (codes "major") (hex2 key.major)

subscription-shape : (space s dot i major m group g counter c : List ℕ)
    → (space ++ s) ++ ((dot ++ i) ++ (((space ++ major ++ space) ++ m) ++ (((space ++ group ++ space) ++ g) ++ (((space ++ counter ++ space) ++ c) ++ []))))
    ≡ (space ++ (s ++ dot ++ i)) ++ ((space ++ major) ++ ((space ++ m) ++ ((space ++ group) ++ ((space ++ g) ++ ((space ++ counter) ++ ((space ++ c) ++ []))))))
subscription-shape space s dot i major m group g counter c = simp (append_assoc, append-nil)

subscription-plain : (key : SubscriptionKey) → fields_text Plain (subscription_fields key) ≡ spaced (subscription_words key)
subscription-plain key =
    subscription-shape (codes " ") (hex4 key.service) (codes ".") (hex4 key.instance) (codes "major") (hex2 key.major) (codes "group") (hex4 key.eventgroup) (codes "counter") (decimal key.counter)

event-shape : (space s dot e : List ℕ) → (space ++ s) ++ ((dot ++ e) ++ []) ≡ (space ++ (s ++ dot ++ e)) ++ []
event-shape space s dot e = simp (append_assoc, append-nil)

repeated-shape : (space s dot e session n : List ℕ)
    → (space ++ s) ++ ((dot ++ e) ++ (((space ++ session ++ space) ++ n) ++ [])) ≡ (space ++ (s ++ dot ++ e)) ++ ((space ++ session) ++ ((space ++ n) ++ []))
repeated-shape space s dot e session n = simp (append_assoc, append-nil)

gap-shape : (space s dot e session n to x : List ℕ)
    → (space ++ s) ++ ((dot ++ e) ++ (((space ++ session ++ space) ++ n) ++ (((space ++ to ++ space) ++ x) ++ [])))
    ≡ (space ++ (s ++ dot ++ e)) ++ ((space ++ session) ++ ((space ++ n) ++ ((space ++ to) ++ ((space ++ x) ++ []))))
gap-shape space s dot e session n to x = simp (append_assoc, append-nil)

overtaken-shape : (space session n : List ℕ) → ((space ++ session ++ space) ++ n) ++ [] ≡ (space ++ session) ++ ((space ++ n) ++ [])
overtaken-shape space session n = simp (append_assoc, append-nil)

interface-shape : (space v expected w s dot m : List ℕ)
    → (space ++ v) ++ (((space ++ expected ++ space) ++ w) ++ ((space ++ s) ++ ((dot ++ m) ++ [])))
    ≡ (space ++ v) ++ ((space ++ expected) ++ ((space ++ w) ++ ((space ++ (s ++ dot ++ m)) ++ [])))
interface-shape space v expected w s dot m = simp (append_assoc, append-nil)

finding-words : (finding : Finding) → fields_text Plain (finding_fields finding) ≡ spaced (said finding).words
finding-words (findings.Malformed fault) = malformed-words (wire.fault_name fault) (wire.fault_place fault)
finding-words (findings.MalformedSd fault) = malformed-words (sd.fault_name fault) (sd.fault_place fault)
finding-words (findings.BadRun about) = event-shape (codes " ") (hex4 about.service) (codes ".") (hex4 about.instance)
finding-words (findings.NoEndpoint about) = event-shape (codes " ") (hex4 about.service) (codes ".") (hex4 about.instance)
finding-words (findings.NoTpHeader place) = malformed-words (codes "NoHeader") place
finding-words (findings.Session sessions.Reboot) = refl
finding-words (findings.Session (sessions.NotNext stamp expected)) = malformed-shape (codes " ") (hex4 stamp.session) (codes "expected") (hex4 expected.session)
finding-words (findings.Session (sessions.Overtaken stamp)) = overtaken-shape (codes " ") (codes "session") (hex4 stamp.session)
finding-words (findings.Session sessions.Full) = refl
finding-words (findings.Offer key offers.Moved) = offer-plain key
finding-words (findings.Offer key offers.Full) = refl
finding-words (findings.Subscription key subscriptions.Nack) = subscription-plain key
finding-words (findings.Subscription key subscriptions.UnaskedAck) = subscription-plain key
finding-words (findings.Subscription key subscriptions.UnaskedNack) = subscription-plain key
finding-words (findings.Subscription key subscriptions.Full) = refl
finding-words (findings.Receiver key receivers.Unsubscribed) = event-shape (codes " ") (hex4 key.service) (codes ".") (hex4 key.eventgroup)
finding-words (findings.Receiver key receivers.Full) = refl
finding-words (findings.Call h calls.KeyReused) = call-words [] h.service h.method h.client h.session
finding-words (findings.Call h (calls.Late ms)) = ap (λ (t : List ℕ). (codes " " ++ decimal ms) ++ t) (call-words (codes " ms") h.service h.method h.client h.session)
finding-words (findings.Call h calls.Repeated) = call-words [] h.service h.method h.client h.session
finding-words (findings.Call h calls.Unasked) = call-words [] h.service h.method h.client h.session
finding-words (findings.Call h calls.Full) = refl
finding-words (findings.Error h) = ap (λ (t : List ℕ). (codes " " ++ hex2 h.code.0) ++ t) (call-words [] h.service h.method h.client h.session)
finding-words (findings.Server h (servers.Interface expected)) = interface-shape (codes " ") (hex2 h.interface) (codes "expected") (hex2 expected) (hex4 h.service) (codes ".") (hex4 h.method)
finding-words (findings.Server h servers.NotOffered) = call-words [] h.service h.method h.client h.session
finding-words (findings.Event delivery receivers.Unsubscribed) = event-shape (codes " ") (hex4 delivery.service) (codes ".") (hex4 delivery.event)
finding-words (findings.Event delivery receivers.Full) = refl
finding-words (findings.EventSession flow session events.Repeated) = repeated-shape (codes " ") (hex4 flow.service) (codes ".") (hex4 flow.event) (codes "session") (hex4 session)
finding-words (findings.EventSession flow session events.Overtaken) = repeated-shape (codes " ") (hex4 flow.service) (codes ".") (hex4 flow.event) (codes "session") (hex4 session)
finding-words (findings.EventSession flow session events.EventsFull) = refl
finding-words (findings.EventSession flow session events.GapsFull) = refl
finding-words (findings.Segment h refusal) = ap (λ (t : List ℕ). (codes " " ++ error_name refusal) ++ t) (call-words [] h.service h.method h.client h.session)
finding-words findings.EndpointsFull = refl
finding-words findings.WaysFull = refl
finding-words findings.ServersFull = refl
finding-words findings.CyclesFull = refl

silent-shape : (space s dot e word n ms : List ℕ)
    → (space ++ s) ++ ((dot ++ e) ++ (((space ++ word ++ space) ++ (n ++ (space ++ ms))) ++ [])) ≡ (space ++ (s ++ dot ++ e)) ++ ((space ++ word) ++ ((space ++ n) ++ ((space ++ ms) ++ [])))
silent-shape space s dot e word n ms = simp (append_assoc, append-nil)

lost-shape : (service event first last : ℕ)
    → fields_text Plain (event_fields service event ++ lost_fields first last) ≡ spaced (ids_text service event ∷ lost_words first last)
lost-shape service event first last = cases (first == last)
  where
    cases : (b : Bool)
        → fields_text Plain (event_fields service event ++ (if b then session_field first ∷ [] else session_field first ∷ last_field last ∷ []))
        ≡ spaced (ids_text service event ∷ (if b then codes "session" ∷ hex4 first ∷ [] else codes "session" ∷ hex4 first ∷ codes "to" ∷ hex4 last ∷ []))
    cases true = repeated-shape (codes " ") (hex4 service) (codes ".") (hex4 event) (codes "session") (hex4 first)
    cases false = gap-shape (codes " ") (hex4 service) (codes ".") (hex4 event) (codes "session") (hex4 first) (codes "to") (hex4 last)

due-words : (told : FellDue) → fields_text Plain (due_fields told) ≡ spaced (said_of_due told).words
due-words (due.Unanswered told) = call-words [] told.call.service told.call.method told.call.client told.call.session
due-words (due.Missing told) = call-words [] told.key.service told.key.method told.key.client told.key.session
due-words (due.Expired told) = offer-plain told.key
due-words (due.SubscribeUnanswered told) = subscription-plain told.key
due-words (due.EventLost told) = lost-shape told.shown_by.service told.shown_by.event told.key.session told.key.last
due-words (due.Silent told) = silent-shape (codes " ") (hex4 told.flow.service) (codes ".") (hex4 told.flow.event) (codes "for") (decimal told.silent_ms) (codes "ms")

-- ---- lines

line-shape : (head word words end : List ℕ) → (head ++ word) ++ (words ++ end) ≡ head ++ ((word ++ words) ++ end)
line-shape head word words end = simp append_assoc

-- a line of fields that are words
line-plain : (frames allowed : Bool) (time : Option Time) (origin : Origin) (s : Said) (fields : List ToldField) → fields_text Plain fields ≡ spaced s.words
    → line_text Plain (audit_head frames allowed time origin) (kind_told s.kind fields) ≡ line_of frames allowed time origin s
line-plain frames allowed time origin s fields is =
    ap₂ (λ (begin words : List ℕ). begin ++ (words ++ codes "\n")) (begin-plain frames allowed time origin (kind_name s.kind) (kind_words s.kind)) is
    ∙ line-shape (head_text frames allowed time origin) (codes " " ++ kind_words s.kind) (spaced s.words) (codes "\n")

pub finding-plain : (frames allowed : Bool) (time : Option Time) (origin : Origin) (finding : Finding) → finding_line Plain frames allowed time origin finding ≡ line_of frames allowed time origin (said finding)
finding-plain frames allowed time origin finding = line-plain frames allowed time origin (said finding) (finding_fields finding) (finding-words finding)

pub due-plain : (frames allowed : Bool) (told : FellDue) → due_line Plain frames allowed told ≡ line_of frames allowed (Some (time_at (deadline told))) (origin_of_due told) (said_of_due told)
due-plain frames allowed told = line-plain frames allowed (Some (time_at (deadline told))) (origin_of_due told) (said_of_due told) (due_fields told) (due-words told)
