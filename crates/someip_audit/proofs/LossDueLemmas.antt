-- What falls due of sessions, and of segments, rests on the books of these alone.
use Rattle.std.proofs.Common.{◌≡◌, ℕ, ◌≤◌, Bool, true, false, List, [], ◌∷◌, ◌++◌, map, if◌then◌else◌, Option, None, Some, refl, ap, subst, sym, ◌∙◌, arith}
use Rattle.std.specs.Prelude.{max, filter}
use Rattle.std.specs.FinMap as finite
use Rattle.std.specs.Ordering.{is_le}
use Rattle.audit_rules.specs.declared.Rule.{Rule}
use Rattle.audit_traffic.specs.declared.gaps.finding.LostEvent.{LostEvent}
use Rattle.audit_traffic.specs.declared.segments.told.Missing.{Missing}
use Rattle.audit_traffic.specs.declared.segments.SegmentRules.{SegmentRules}
use Rattle.audit_traffic.specs.declared.sequence.counting.Counting.{Counting}
use Rattle.audit_traffic.specs.gaps.MissingOrder.{exact_missing, missing_total}
use Rattle.audit_traffic.specs.segments.MessageKeys.{exact_messages, message_key, messages_total}
use Rattle.audit_traffic.specs.segments.SegmentBooks as segments
use Rattle.audit_traffic.specs.sequence.Sequences as events
use Rattle.audit_traffic.specs.sequence.Sequences.{new_sequence}
use Rattle.audit_sd.specs.sessions.SessionBooks.{no_sessions}
use Rattle.someip_tables.specs.declared.hashed.origin.Origin.{Origin}
use Rattle.someip_audit.specs.declared.fell_due.FellDue.{FellDue}
use Rattle.someip_audit.specs.declared.fell_due.FellDue.TheVariants as due
use Rattle.someip_audit.specs.declared.rules.AuditRules.{AuditRules}
use Rattle.someip_audit.specs.Audits.{AuditState, Audits, Drains, Report, Seen, after_seen, audit_begun, fell, found, seen_shown}
use Rattle.someip_audit.specs.FellDues.{IsAwaited, after_due, deadline, fell_cmp}
use Rattle.someip_audit.specs.Losses.{AgreeOnLosses, is_lost_event, lost_events, session_findings, session_reports, speaks_of_sessions, tells_of_sessions}
use Rattle.audit_endpoints.specs.WatchedEndpoints.{watch_begun}
use Rattle.someip_audit.proofs.LossLemmas.{Ground, ground_of, kept_more, same_left, same_shown}
use Rattle.someip_audit.proofs.NextLemmas.{by_key, lost_one, missing_one, one_key, same_book}

-- it waits in the book of segments, or in that of the sessions of events
abbrev IsHeld : Ground → FellDue → Type 0
IsHeld g (due.Missing told) = segments.IsWaiting g.segments.waiting told
IsHeld g (due.EventLost told) = finite.get g.events.gaps.waiting told.key ≡ Some (record { shown_by = told.shown_by; numbers = told.numbers; until = told.at })
IsHeld g (due.Unanswered told) = ⊥
IsHeld g (due.Expired told) = ⊥
IsHeld g (due.SubscribeUnanswered told) = ⊥
IsHeld g (due.Silent told) = ⊥

abbrev is_of_these : FellDue → Bool
is_of_these (due.Missing told) = true
is_of_these (due.EventLost told) = true
is_of_these (due.Unanswered told) = false
is_of_these (due.Expired told) = false
is_of_these (due.SubscribeUnanswered told) = false
is_of_these (due.Silent told) = false

-- it is the first of these that is due by a moment
record IsFirst (now : ℕ) (g : Ground) (told : FellDue) : Type 0 where
  waits : IsHeld g told
  come : deadline told ≤ now
  first : (other : FellDue) → IsHeld g other → deadline other ≤ now → is_le (fell_cmp told other) ≡ true

-- once it was told
abbrev once_told : FellDue → Ground → Ground
once_told (due.Missing told) g = record g { segments = segments.book_after_due (max g.segments.latest told.until) (Some told) g.segments }
once_told (due.EventLost told) g = record g { events = events.after_due (Some told) g.events }
once_told (due.Unanswered told) g = g
once_told (due.Expired told) g = g
once_told (due.SubscribeUnanswered told) g = g
once_told (due.Silent told) g = g

-- all of these that are due by a moment are told in order
abbrev TellsAll : ℕ → Ground → List FellDue → Ground → Type 0
TellsAll now g [] left = ((other : FellDue) → IsHeld g other → deadline other ≤ now → ⊥) × (left ≡ g)
TellsAll now g (told ∷ others) left = IsFirst now g told × TellsAll now (once_told told g) others left

awaited : (state : AuditState) (told : FellDue) → IsHeld (ground_of state) told → IsAwaited state told
awaited state (due.Missing told) held = held
awaited state (due.EventLost told) held = held
awaited state (due.Unanswered told) held = absurd held
awaited state (due.Expired told) held = absurd held
awaited state (due.SubscribeUnanswered told) held = absurd held
awaited state (due.Silent told) held = absurd held

drains_tell : (now : ℕ) (told : List FellDue) (state left : AuditState) → Drains now state told left → TellsAll now (ground_of state) (filter is_of_these told) (ground_of left)
drains_tell now [] state left drains = (λ other held come. drains.0 other (awaited state other held, come), ap ground_of drains.1)
drains_tell now (due.Missing told ∷ others) state left drains = (
  record { waits = drains.0.due.0; come = drains.0.due.1; first = λ other held come. drains.0.first other (awaited state other held, come) },
  drains_tell now others (after_due now (Some (due.Missing told)) state) left drains.1,
)
drains_tell now (due.EventLost told ∷ others) state left drains = (
  record { waits = drains.0.due.0; come = drains.0.due.1; first = λ other held come. drains.0.first other (awaited state other held, come) },
  drains_tell now others (after_due now (Some (due.EventLost told)) state) left drains.1,
)
drains_tell now (due.Unanswered told ∷ others) state left drains = drains_tell now others (after_due now (Some (due.Unanswered told)) state) left drains.1
drains_tell now (due.Expired told ∷ others) state left drains = drains_tell now others (after_due now (Some (due.Expired told)) state) left drains.1
drains_tell now (due.SubscribeUnanswered told ∷ others) state left drains = drains_tell now others (after_due now (Some (due.SubscribeUnanswered told)) state) left drains.1
drains_tell now (due.Silent told ∷ others) state left drains = drains_tell now others (after_due now (Some (due.Silent told)) state) left drains.1

first_is_one : (now : ℕ) (g : Ground) (a b : FellDue) → IsHeld g a → IsHeld g b → is_le (fell_cmp a b) ≡ true → is_le (fell_cmp b a) ≡ true → a ≡ b
first_is_one now g (due.Missing a) (due.Missing b) x y ab ba =
    ap due.Missing
    (missing_one g.segments.waiting a b x y
    (one_key messages_total exact_messages (message_key a.key) (message_key b.key) (by_key (due.Missing a) (due.Missing b) ab ba) (by_key (due.Missing b) (due.Missing a) ba ab)))
first_is_one now g (due.EventLost a) (due.EventLost b) x y ab ba =
    ap due.EventLost
    (lost_one g.events.gaps.waiting a b x y
    (one_key missing_total exact_missing a.key b.key (by_key (due.EventLost a) (due.EventLost b) ab ba) (by_key (due.EventLost b) (due.EventLost a) ba ab)))
first_is_one now g (due.Missing a) (due.EventLost b) x y ab ba = let books = same_book (due.Missing a) (due.EventLost b) ab ba in absurd (omega (arith, books))
first_is_one now g (due.EventLost a) (due.Missing b) x y ab ba = let books = same_book (due.EventLost a) (due.Missing b) ab ba in absurd (omega (arith, books))
first_is_one now g (due.Missing a) b x y ab ba = absurd y
first_is_one now g (due.EventLost a) b x y ab ba = absurd y
first_is_one now g (due.Unanswered a) b x y ab ba = absurd x
first_is_one now g (due.Expired a) b x y ab ba = absurd x
first_is_one now g (due.SubscribeUnanswered a) b x y ab ba = absurd x
first_is_one now g (due.Silent a) b x y ab ba = absurd x

tells_one : (now : ℕ) (told others : List FellDue) (g left other : Ground) → TellsAll now g told left → TellsAll now g others other → (told ≡ others) × (left ≡ other)
tells_one now [] [] g left other x y = (refl, x.1 ∙ sym y.1)
tells_one now [] (b ∷ others) g left other x y = absurd (x.0 b y.0.waits y.0.come)
tells_one now (a ∷ told) [] g left other x y = absurd (y.0 a x.0.waits x.0.come)
tells_one now (a ∷ told) (b ∷ others) g left other x y =
    let same : b ≡ a = first_is_one now g b a y.0.waits x.0.waits (y.0.first a x.0.waits x.0.come) (x.0.first b y.0.waits y.0.come) in
    let rest = tells_one now told others (once_told a g) left other x.1 (let P : FellDue → Type 0 = λ z. TellsAll now (once_told z g) others other in subst P same y.1) in
    (ap (λ (z : FellDue). z ∷ told) (sym same) ∙ ap (λ (zs : List FellDue). b ∷ zs) rest.0, rest.1)

-- segments are told of, and are no sessions
lost_of_these : (told : List FellDue) → lost_events told ≡ lost_events (filter is_of_these told)
lost_of_these [] = refl
lost_of_these (due.Missing told ∷ others) = lost_of_these others
lost_of_these (due.EventLost told ∷ others) = ap (λ (more : List FellDue). due.EventLost told ∷ more) (lost_of_these others)
lost_of_these (due.Unanswered told ∷ others) = lost_of_these others
lost_of_these (due.Expired told ∷ others) = lost_of_these others
lost_of_these (due.SubscribeUnanswered told ∷ others) = lost_of_these others
lost_of_these (due.Silent told ∷ others) = lost_of_these others

-- two audits that hold the same of sessions tell the same sessions as lost, and then hold the same
pub same_drained : (now : ℕ) (told others : List FellDue) (one other left after : AuditState) → ground_of one ≡ ground_of other → Drains now one told left → Drains now other others after
    → (lost_events told ≡ lost_events others) × (ground_of left ≡ ground_of after)
same_drained now told others one other left after same x y =
    let P : Ground → Type 0 = λ g. TellsAll now g (filter is_of_these others) (ground_of after) in
    let is =
    tells_one now (filter is_of_these told) (filter is_of_these others) (ground_of one) (ground_of left) (ground_of after) (drains_tell now told one left x)
    (subst P (sym same) (drains_tell now others other after y)) in
    (lost_of_these told ∙ ap lost_events is.0 ∙ sym (lost_of_these others), is.1)

-- ---- a recording

kept_of_all : {A B : Type 0} (test : B → Bool) (make : A → B) (xs : List A) → filter test (map make xs) ≡ map make (filter (λ x. test (make x)) xs)
kept_of_all test make [] = refl
kept_of_all {A = A} {B = B} test make (x ∷ xs) = cases (test (make x)) (kept_of_all test make xs)
  where
    cases : (b : Bool) → filter test (map make xs) ≡ map make (filter (λ x. test (make x)) xs)
        → (if b then make x ∷ filter test (map make xs) else filter test (map make xs)) ≡ map make (if b then x ∷ filter (λ x. test (make x)) xs else filter (λ x. test (make x)) xs)
    cases true rest = ap (λ (more : List B). make x ∷ more) rest
    cases false rest = rest

pub same_audits : (last : ℕ) (datagrams : List Seen) (one other : AuditState) (reports more : List Report) (left after : AuditState) → ground_of one ≡ ground_of other
    → Audits last one datagrams reports left → Audits last other datagrams more after → session_reports reports ≡ session_reports more
same_audits last [] one other reports more left after same x y =
    ap session_reports x.2 ∙ kept_of_all speaks_of_sessions fell x.0 ∙ ap (map fell) (same_drained last x.0 y.0 one other left after same x.1 y.1).0
    ∙ sym (kept_of_all speaks_of_sessions fell y.0) ∙ sym (ap session_reports y.2)
same_audits last (seen ∷ datagrams) one other reports more left after same x y =
    let hears = x.3 in
    let others = y.3 in
    let drained = same_drained seen.now hears.told others.told one other hears.between others.between same hears.drains others.drains in
    let shown = same_shown seen hears.between others.between drained.1 in
    let kept = same_left seen hears.between others.between drained.1 in
    let told : session_reports x.0 ≡ session_reports y.0 =
    (ap session_reports hears.reported ∙ kept_more speaks_of_sessions (map fell hears.told) (map (found seen.origin) (seen_shown seen hears.between))
    ∙ ap (λ (rest : List Report). session_reports (map fell hears.told) ++ rest) (kept_of_all speaks_of_sessions (found seen.origin) (seen_shown seen hears.between) ∙ ap (map (found seen.origin)) shown
    ∙ sym (kept_of_all speaks_of_sessions (found seen.origin) (seen_shown seen others.between)))
    ∙ ap (λ (first : List Report). first ++ session_reports (map (found seen.origin) (seen_shown seen others.between)))
    (kept_of_all speaks_of_sessions fell hears.told ∙ ap (map fell) drained.0 ∙ sym (kept_of_all speaks_of_sessions fell others.told))
    ∙ sym (kept_more speaks_of_sessions (map fell others.told) (map (found seen.origin) (seen_shown seen others.between))) ∙ sym (ap session_reports others.reported)) in
    let states : ground_of x.2 ≡ ground_of y.2 = ap ground_of hears.left ∙ kept ∙ sym (ap ground_of others.left) in
    let rest = same_audits seen.now datagrams x.2 y.2 x.1 y.1 left after states x.4 y.4 in
    ap session_reports x.5 ∙ kept_more speaks_of_sessions x.0 x.1 ∙ ap (λ (first : List Report). first ++ session_reports x.1) told
    ∙ ap (λ (others : List Report). session_reports y.0 ++ others) rest ∙ sym (kept_more speaks_of_sessions y.0 y.1) ∙ sym (ap session_reports y.5)

-- ---- before anything was seen

begun : ℕ → ℕ → Counting → SegmentRules → List ℕ → Bool → Ground
begun limit overtake_ms counting rules ports learns = record {
  segments = segments.empty_book (record { slots = rules.slots; limit = rules.limit; timeout = rules.timeout_ms }) 0;
  sessions = no_sessions limit overtake_ms;
  limit = limit;
  standing = finite.empty;
  events = new_sequence (record { limit = limit; overtake_ms = overtake_ms; counting = counting });
  watched = watch_begun ports learns limit;
  told = [];
}

pub same_begun : (rules other : AuditRules) (bench others : List Rule) (ports : List ℕ) (learns : Bool) (now : ℕ) → AgreeOnLosses rules other
    → ground_of (audit_begun rules bench ports learns now) ≡ ground_of (audit_begun other others ports learns now)
unfolding begun
same_begun rules other bench others ports learns now agree =
    ap (λ limit. begun limit rules.overtake_ms rules.counting rules.segments ports learns) agree.limits
    ∙ ap (λ overtake. begun other.limit overtake rules.counting rules.segments ports learns) agree.overtaking
    ∙ ap (λ counting. begun other.limit other.overtake_ms counting rules.segments ports learns) agree.counting
    ∙ ap (λ segments. begun other.limit other.overtake_ms other.counting segments ports learns) agree.segments
