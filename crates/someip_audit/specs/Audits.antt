-- What a recording shows, datagram by datagram.
use Rattle.std.specs.Prelude.{◌≡◌, ℕ, Bool, if◌then◌else◌, true, List, [], ◌∷◌, ◌++◌, map, Option, None, Some}
use Rattle.std.specs.FinMap as finite
use Rattle.std.specs.Ordering.{is_le}
use Rattle.someip_wire.specs.Reading.{items_of}
use Rattle.someip_tables.specs.Lastings.{expired}
use Rattle.someip_tables.specs.declared.hashed.origin.Origin.{Origin}
use Rattle.audit_sd.specs.declared.subscriptions.key.SubscriptionKey.{SubscriptionKey}
use Rattle.audit_rules.specs.declared.Rule.{Rule}
use Rattle.audit_sd.specs.receivers.ReceiverTables.{without_expired}
use Rattle.audit_traffic.specs.cycles.CycleTables.{Cycles, without_subscribed}
use Rattle.audit_traffic.specs.sequence.Sequences.{Sequence, after_change}
use Rattle.someip_audit.specs.declared.fell_due.FellDue.{FellDue}
use Rattle.someip_audit.specs.declared.finding.Finding.{Finding}
use Rattle.someip_audit.specs.declared.rules.AuditRules.{AuditRules}
use Rattle.someip_audit.specs.AnyShown.{items_shown, message_count}
use Rattle.someip_audit.specs.BooksHeld.{Held, empty_held}
use Rattle.someip_audit.specs.FellDues.{IsDue, after_due, fell_cmp}
use Rattle.someip_audit.specs.SdShown.{Work, working}
use Rattle.audit_endpoints.specs.WatchedEndpoints.{is_looked_at}

-- what contracts see of an audit: what its books hold
abbrev pub AuditState : Type 0
AuditState = Held

-- an audit that saw nothing, of a recording that begins at this moment; the rules of a bench; the ports that are looked at, and whether endpoints are learnt
abbrev pub audit_begun : AuditRules → List Rule → List ℕ → Bool → ℕ → AuditState
audit_begun rules bench ports learns now = empty_held rules bench ports learns now

-- ---- what expires

-- the flows of the service of each of these subscriptions between its client and its server are disturbed
abbrev pub each_disturbed : List SubscriptionKey → Sequence → Sequence
each_disturbed [] events = events
each_disturbed (key ∷ keys) events = each_disturbed keys (after_change key.client key.server key.service events)

-- the events of each of these subscriptions are watched no more
abbrev pub each_unwatched : List SubscriptionKey → Cycles → Cycles
each_unwatched [] cycles = cycles
each_unwatched (key ∷ keys) cycles = each_unwatched keys (without_subscribed key.server key.service key.client cycles)

-- the subscriptions that have expired end, their events are watched no more, and the flows of the service of each between its client and its server are disturbed
abbrev pub without_passed : ℕ → Held → Held
without_passed now held =
    record held { receivers = without_expired now held.receivers; events = each_disturbed (finite.keys (expired now held.receivers.standing)) held.events; cycles = each_unwatched (finite.keys (expired now held.receivers.standing)) held.cycles }

-- ---- one datagram

-- a datagram of a recording: its moment, its number and endpoints, and its bytes
pub record Seen : Type 0 where
  pub now : ℕ
  pub origin : Origin
  pub bytes : List ℕ

-- what one shows that is looked at
abbrev pub datagram_shown : Seen → Work → Work
datagram_shown seen work = items_shown seen.now seen.origin 0 (items_of seen.bytes) work

-- what one shows of any port: first what has expired ends
abbrev pub seen_work : Seen → Work → Work
seen_work seen work =
    if is_looked_at work.held.watched seen.origin
    then datagram_shown seen (record work { held = without_passed seen.now work.held })
    else record work { held = without_passed seen.now work.held }

-- what an audit tells of it, in order, and what the audit is then
abbrev pub seen_shown : Seen → AuditState → List Finding
seen_shown seen state = (seen_work seen (working state [])).told

abbrev pub after_seen : Seen → AuditState → AuditState
after_seen seen state = (seen_work seen (working state [])).held

-- how many of its messages can be read, if it is looked at
abbrev pub seen_messages : Seen → AuditState → Option ℕ
seen_messages seen state = if is_looked_at state.watched seen.origin then Some (message_count (items_of seen.bytes)) else None

-- ---- a recording

-- what is told next of what fell due by a moment: it is due, and nothing that is due comes before it
pub record IsNext (now : ℕ) (state : AuditState) (told : FellDue) : Type 0 where
  pub due : IsDue now state told
  pub first : (other : FellDue) → IsDue now state other → is_le (fell_cmp told other) ≡ true

-- nothing is due by a moment
abbrev pub IsNoneDue : ℕ → AuditState → Type 0
IsNoneDue now state = (other : FellDue) → IsDue now state other → ⊥

-- everything that fell due by a moment is told, in order: each is next, and none is left
abbrev pub Drains : ℕ → AuditState → List FellDue → AuditState → Type 0
Drains now state [] after = IsNoneDue now state × (after ≡ after_due now None state)
Drains now state (told ∷ others) after = IsNext now state told × Drains now (after_due now (Some told) state) others after

-- what is told of a recording: what fell due, or a finding of a datagram
pub data Report : Type 0 where
  fell : FellDue → Report
  found : Origin → Finding → Report

-- what is told of one datagram: what fell due by its moment, and then what it shows
pub record Hears (state : AuditState) (seen : Seen) (reports : List Report) (after : AuditState) : Type 0 where
  pub told : List FellDue
  pub between : AuditState
  pub drains : Drains seen.now state told between
  pub reported : reports ≡ map fell told ++ map (found seen.origin) (seen_shown seen between)
  pub left : after ≡ after_seen seen between

-- what is told of all datagrams in order, and at last what fell due by the last moment
abbrev pub Audits : ℕ → AuditState → List Seen → List Report → AuditState → Type 0
Audits last state [] reports after = (told : List FellDue) × Drains last state told after × (reports ≡ map fell told)
Audits last state (seen ∷ others) reports after =
    (first : List Report) × (rest : List Report) × (between : AuditState) × Hears state seen first between × Audits seen.now between others rest after
    × (reports ≡ first ++ rest)
