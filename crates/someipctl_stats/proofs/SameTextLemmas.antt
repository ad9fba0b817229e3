-- The figures of a recording rest on few rules of the audit behind them.
use Rattle.std.proofs.Common.{◌≡◌, ℕ, Bool, true, false, List, [], ◌∷◌, ◌++◌, if◌then◌else◌, Option, None, Some, refl, sym, ap, subst, ◌∙◌}
use Rattle.std.specs.Prelude.{filter}
use Rattle.std.specs.List.{flat_map}
use Rattle.recording.specs.declared.Time.{Time}
use Rattle.recording_packets.specs.Intake.{ArrivalValue}
use Rattle.audit_stats.specs.Stats.{Fact, Stats}
use Rattle.someip_audit.specs.Audits.{AuditState, Seen, after_seen, audit_begun, seen_shown}
use Rattle.someip_audit.specs.Losses.{AgreeOnLosses, is_lost_event, lost_events, session_findings, tells_of_sessions}
use Rattle.audit_endpoints.specs.WatchedEndpoints.{is_looked_at}
use Rattle.someip_audit.specs.FellDues.{deadline}
use Rattle.someip_audit.specs.declared.AuditRules.{AuditRules}
use Rattle.someip_audit.specs.declared.FellDue.{FellDue}
use Rattle.someip_audit.specs.declared.FellDue.TheVariants as due
use Rattle.someip_audit.specs.declared.Finding.{Finding}
use Rattle.someip_audit.specs.declared.Finding.TheVariants as findings
use Rattle.someip_audit.proofs.LossLemmas.{ground_of, same_left, same_looked_at, same_shown}
use Rattle.someip_audit.proofs.LossDueLemmas.{same_begun, same_drained}
use Rattle.someip_tables.specs.declared.hashed.Origin.{Origin}
use Rattle.someipctl_accounts.specs.Accounts.{Came, IsAccount, TakesAll, came_in, latest_of}
use Rattle.someipctl_io.specs.declared.form.Form.{Form}
use Rattle.someipctl_recordings.specs.Wanted.{WantedValue, ports_of}
use Rattle.someipctl_audit.specs.AskedAudits.{learns}
use Rattle.someipctl_audit.specs.AuditText.{origin_of_due, time_at}
use Rattle.someipctl_audit.specs.Subjects.{is_told}
use Rattle.someipctl_stats.specs.declared.counting.Counting.{Counting}
use Rattle.someipctl_stats.specs.declared.lacks.Lacks.{Lacks}
use Rattle.someipctl_stats.specs.declared.shown.Shown.{Shown}
use Rattle.someipctl_stats.specs.declared.shown.Shown.TheVariants as shown
use Rattle.someipctl_stats.specs.Counting.{CountsDue, HearsSo, after_facts, datagram_facts, due_facts, finding_facts, lacks_after, lacks_shown, shown_facts, with_findings}
use Rattle.someipctl_stats.specs.Micros.{micros_after}
use Rattle.someipctl_stats.specs.Shown.{shown_of, shown_of_due, subject_of}
use Rattle.someipctl_stats.specs.StatsAccount.{AskedStats, EndsSo, EndsStats, StatsState, TakesStats, audit_before, stats_begun, stats_text}

-- ---- what counts of what an audit tells

no_facts : (b : Bool) → (if b then [] else []) ≡ (let none : List Fact = [] in none)
no_facts true = refl
no_facts false = refl

-- of what fell due the sessions of events alone
due_counts : (w : WantedValue) (told : List FellDue) → flat_map (due_facts w) told ≡ flat_map (due_facts w) (lost_events told)
due_counts w [] = refl
due_counts w (due.EventLost lost ∷ told) = ap (λ (facts : List Fact). due_facts w (due.EventLost lost) ++ facts) (due_counts w told)
due_counts w (due.Unanswered told ∷ others) =
    ap (λ (facts : List Fact). facts ++ flat_map (due_facts w) others) (no_facts (is_told w (Some (time_at (deadline (due.Unanswered told)))) (origin_of_due (due.Unanswered told)) None)) ∙ due_counts w others
due_counts w (due.Missing told ∷ others) =
    ap (λ (facts : List Fact). facts ++ flat_map (due_facts w) others) (no_facts (is_told w (Some (time_at (deadline (due.Missing told)))) (origin_of_due (due.Missing told)) None)) ∙ due_counts w others
due_counts w (due.Expired told ∷ others) =
    ap (λ (facts : List Fact). facts ++ flat_map (due_facts w) others) (no_facts (is_told w (Some (time_at (deadline (due.Expired told)))) (origin_of_due (due.Expired told)) None)) ∙ due_counts w others
due_counts w (due.SubscribeUnanswered told ∷ others) =
    ap (λ (facts : List Fact). facts ++ flat_map (due_facts w) others) (no_facts (is_told w (Some (time_at (deadline (due.SubscribeUnanswered told)))) (origin_of_due (due.SubscribeUnanswered told)) None)) ∙ due_counts w others
due_counts w (due.Silent told ∷ others) =
    ap (λ (facts : List Fact). facts ++ flat_map (due_facts w) others) (no_facts (is_told w (Some (time_at (deadline (due.Silent told)))) (origin_of_due (due.Silent told)) None)) ∙ due_counts w others

-- of the findings of a datagram those of sessions alone
shows_nothing : (origin : Origin) (finding : Finding) → tells_of_sessions finding ≡ false → shown_of origin finding ≡ shown.Nothing
shows_nothing origin (findings.Session found) is = absurd (cc)
shows_nothing origin (findings.EventSession flow session found) is = absurd (cc)
shows_nothing origin findings.EndpointsFull is = absurd (cc)
shows_nothing origin finding is = refl

finding_counts : (w : WantedValue) (time : Option Time) (origin : Origin) (told : List Finding)
    → flat_map (finding_facts w time origin) told ≡ flat_map (finding_facts w time origin) (session_findings told)
finding_counts w time origin [] = refl
finding_counts w time origin (finding ∷ told) = cases (tells_of_sessions finding) refl (finding_counts w time origin told)
  where
    cases : (b : Bool) → tells_of_sessions finding ≡ b → flat_map (finding_facts w time origin) told ≡ flat_map (finding_facts w time origin) (session_findings told)
        → finding_facts w time origin finding ++ flat_map (finding_facts w time origin) told ≡ flat_map (finding_facts w time origin) (if b then finding ∷ session_findings told else session_findings told)
    cases true is rest = ap (λ (facts : List Fact). finding_facts w time origin finding ++ facts) rest
    cases false is rest =
        ap (λ (s : Shown). shown_facts w time origin s ++ flat_map (finding_facts w time origin) told) (shows_nothing origin finding is)
        ∙ ap (λ (facts : List Fact). facts ++ flat_map (finding_facts w time origin) told) (no_facts (is_told w time origin None)) ∙ rest

finding_lacks : (origin : Origin) (told : List Finding) (l : Lacks) → lacks_after origin told l ≡ lacks_after origin (session_findings told) l
finding_lacks origin [] l = refl
finding_lacks origin (finding ∷ told) l = cases (tells_of_sessions finding) refl (λ k. finding_lacks origin told k)
  where
    cases : (b : Bool) → tells_of_sessions finding ≡ b → ((k : Lacks) → lacks_after origin told k ≡ lacks_after origin (session_findings told) k)
        → lacks_after origin told (lacks_shown (shown_of origin finding) l) ≡ lacks_after origin (if b then finding ∷ session_findings told else session_findings told) l
    cases true is rest = rest (lacks_shown (shown_of origin finding) l)
    cases false is rest = ap (λ (s : Shown). lacks_after origin told (lacks_shown s l)) (shows_nothing origin finding is) ∙ rest l

all_counts : (w : WantedValue) (time : Option Time) (origin : Origin) (told : List Finding) (c : Counting)
    → with_findings w time origin told c ≡ with_findings w time origin (session_findings told) c
all_counts w time origin told c =
    ap (λ (facts : List Fact). record c { figures = after_facts facts c.figures; lacks = lacks_after origin told c.lacks }) (finding_counts w time origin told)
    ∙ ap (λ (l : Lacks). record c { figures = after_facts (flat_map (finding_facts w time origin) (session_findings told)) c.figures; lacks = l }) (finding_lacks origin told c.lacks)

-- ---- two audits that hold the same of sessions

due_same : (w : WantedValue) (now : ℕ) (before other after left : AuditState) (figures later another : Stats) → ground_of before ≡ ground_of other → CountsDue w now before after figures later
    → CountsDue w now other left figures another → (ground_of after ≡ ground_of left) × (later ≡ another)
due_same w now before other after left figures later another same x y =
    let one = same_drained now x.told y.told before other after left same x.drains y.drains in
    let counts : flat_map (due_facts w) x.told ≡ flat_map (due_facts w) y.told = due_counts w x.told ∙ ap (flat_map (due_facts w)) one.0 ∙ sym (due_counts w y.told) in
    (one.1, x.counts ∙ ap (λ (facts : List Fact). after_facts facts figures) counts ∙ sym y.counts)

hears_same : (w : WantedValue) (time : Option Time) (seen : Seen) (before other after left : AuditState) (c later another : Counting) → ground_of before ≡ ground_of other
    → HearsSo w time seen before after c later → HearsSo w time seen other left c another → (ground_of after ≡ ground_of left) × (later ≡ another)
hears_same w time seen before other after left c later another same x y =
    let micros : ℕ = micros_after c.micros time in
    let one = due_same w seen.now before other x.between y.between c.figures x.figures y.figures same x.due y.due in
    let counted : Bool → Stats → Counting = λ looked figures. record c { micros = micros; figures = after_facts (datagram_facts w micros time seen looked) figures } in
    let told : List Finding → Counting → Counting = with_findings w time seen.origin in (
      ap ground_of x.left ∙ same_left seen x.between y.between one.0 ∙ sym (ap ground_of y.left),
      x.counts ∙ ap (λ (looked : Bool). told (seen_shown seen x.between) (counted looked x.figures)) (same_looked_at seen.origin x.between y.between one.0)
          ∙ ap (λ (figures : Stats). told (seen_shown seen x.between) (counted (is_looked_at y.between.watched seen.origin) figures)) one.1
          ∙ all_counts w time seen.origin (seen_shown seen x.between) (counted (is_looked_at y.between.watched seen.origin) y.figures)
          ∙ ap (λ (shown : List Finding). told shown (counted (is_looked_at y.between.watched seen.origin) y.figures)) (same_shown seen x.between y.between one.0)
          ∙ sym (all_counts w time seen.origin (seen_shown seen y.between) (counted (is_looked_at y.between.watched seen.origin) y.figures)) ∙ sym y.counts,
    )

-- ---- two accounts

-- both began, or none, and their audits hold the same of sessions
abbrev AreAlike : Option AuditState → Option AuditState → Type 0
AreAlike None None = Unit {0}
AreAlike (Some one) (Some other) = ground_of one ≡ ground_of other
AreAlike None (Some other) = ⊥
AreAlike (Some one) None = ⊥

-- what one is like where another goes by these rules
by_rules : AskedStats → AuditRules → AskedStats
by_rules asked rules = record asked { rules = rules }

state_of : AskedStats → Option AuditState → Counting → StatsState
state_of asked audit counting = record { asked = asked; audit = audit; counting = counting }

alike_before : (asked : AskedStats) (rules : AuditRules) (one other : Option AuditState) (seen : Seen) → AgreeOnLosses asked.rules rules → AreAlike one other
    → ground_of (audit_before asked one seen) ≡ ground_of (audit_before (by_rules asked rules) other seen)
unfolding by_rules
alike_before asked rules None None seen agree alike = same_begun asked.rules rules [] [] (ports_of asked.wanted.ports) (learns asked.wanted) seen.now agree
alike_before asked rules (Some one) (Some other) seen agree alike = alike
alike_before asked rules None (Some other) seen agree alike = absurd alike
alike_before asked rules (Some one) None seen agree alike = absurd alike

is_state : (asked : AskedStats) (state : StatsState) → state.asked ≡ asked → state ≡ state_of asked state.audit state.counting
unfolding state_of
is_state asked state is = ap (λ (a : AskedStats). record state { asked = a }) is

-- what both are like once a datagram came
record StayAlike (asked : AskedStats) (rules : AuditRules) (one other : StatsState) : Type 0 where
  asked_one : one.asked ≡ asked
  asked_other : other.asked ≡ by_rules asked rules
  alike : AreAlike one.audit other.audit
  counting : one.counting ≡ other.counting

takes_alike : (asked : AskedStats) (rules : AuditRules) (one other : Option AuditState) (c : Counting) (came : Came) (text another : List ℕ) (after left : StatsState) → AgreeOnLosses asked.rules rules
    → AreAlike one other → TakesStats (state_of asked one c) came text after → TakesStats (state_of (by_rules asked rules) other c) came another left → (text ≡ another) × StayAlike asked rules after left
unfolding by_rules state_of
takes_alike asked rules one other c came text another after left agree alike x y =
    let same =
    hears_same asked.wanted came.time came.seen (audit_before asked one came.seen) (audit_before (by_rules asked rules) other came.seen) x.audit y.audit c after.counting left.counting
    (alike_before asked rules one other came.seen agree alike) x.hears y.hears in (
      x.silent ∙ sym y.silent,
      record {
        asked_one = x.asked;
        asked_other = y.asked;
        alike = let P : Option AuditState → Type 0 = λ a. AreAlike a left.audit in subst P (sym x.held) (let Q : Option AuditState → Type 0 = λ a. AreAlike (Some x.audit) a in subst Q (sym y.held) same.0);
        counting = same.1;
      },
    )

all_alike : (asked : AskedStats) (rules : AuditRules) (one other : Option AuditState) (c : Counting) (cames : List Came) (text another : List ℕ) (after left : StatsState) → AgreeOnLosses asked.rules rules
    → AreAlike one other → TakesAll TakesStats (state_of asked one c) cames text after → TakesAll TakesStats (state_of (by_rules asked rules) other c) cames another left
    → (text ≡ another) × StayAlike asked rules after left
unfolding by_rules state_of
all_alike asked rules one other c [] text another after left agree alike x y =
    let P : StatsState → Type 0 = λ s. StayAlike asked rules s left in
    let Q : StatsState → Type 0 = λ s. StayAlike asked rules (state_of asked one c) s in (
      x.0 ∙ sym y.0,
      subst P (sym x.1) (subst Q (sym y.1) (record { asked_one = refl; asked_other = refl; alike = alike; counting = refl })),
    )
all_alike asked rules one other c (came ∷ cames) text another after left agree alike x y =
    let first = takes_alike asked rules one other c came x.0 y.0 x.2 y.2 agree alike x.3 y.3 in
    let stay = first.1 in
    let P : StatsState → Type 0 = λ s. TakesAll TakesStats s cames x.1 after in
    let Q : StatsState → Type 0 = λ s. TakesAll TakesStats s cames y.1 left in
    let counted : state_of (by_rules asked rules) y.2.audit y.2.counting ≡ state_of (by_rules asked rules) y.2.audit x.2.counting = ap (state_of (by_rules asked rules) y.2.audit) (sym stay.counting) in
    let rest =
    all_alike asked rules x.2.audit y.2.audit x.2.counting cames x.1 y.1 after left agree stay.alike (subst P (is_state asked x.2 stay.asked_one) x.4)
    (subst Q (is_state (by_rules asked rules) y.2 stay.asked_other ∙ counted) y.4) in
    (x.5 ∙ ap (λ (t : List ℕ). t ++ x.1) first.0 ∙ ap (λ (t : List ℕ). y.0 ++ t) rest.0 ∙ sym y.5, rest.1)

-- ---- the end

ends_alike : (w : WantedValue) (form : Form) (last : ℕ) (one other : Option AuditState) (c : Counting) (text another : List ℕ) → AreAlike one other → EndsSo w form last one c text
    → EndsSo w form last other c another → text ≡ another
ends_alike w form last None None c text another alike x y = x ∙ sym y
ends_alike w form last (Some one) (Some other) c text another alike x y =
    let same = due_same w last one other x.after y.after c.figures x.figures y.figures alike x.due y.due in
    x.is ∙ ap (λ (s : Stats). stats_text form (record c { figures = s })) same.1 ∙ sym y.is
ends_alike w form last None (Some other) c text another alike x y = absurd alike
ends_alike w form last (Some one) None c text another alike x y = absurd alike

pub accounts_alike : (asked : AskedStats) (rules : AuditRules) (arrivals : List ArrivalValue) (text other : List ℕ) → AgreeOnLosses asked.rules rules
    → IsAccount TakesStats EndsStats (stats_begun asked) arrivals text → IsAccount TakesStats EndsStats (stats_begun (record asked { rules = rules })) arrivals other → text ≡ other
unfolding by_rules state_of
accounts_alike asked rules arrivals text other agree x y =
    let all = all_alike asked rules None None (stats_begun asked).counting (came_in arrivals) x.first y.first x.after y.after agree tt x.takes_all y.takes_all in
    let stay = all.1 in
    let last : ℕ = latest_of 0 arrivals in
    let P : AskedStats → Type 0 = λ a. EndsSo a.wanted a.form last x.after.audit x.after.counting x.last in
    let Q : AskedStats → Type 0 = λ a. EndsSo a.wanted a.form last y.after.audit y.after.counting y.last in
    let R : Counting → Type 0 = λ c. EndsSo asked.wanted asked.form last y.after.audit c y.last in
    let ends =
    ends_alike asked.wanted asked.form last x.after.audit y.after.audit x.after.counting x.last y.last stay.alike (subst P stay.asked_one x.ends_so)
    (subst R (sym stay.counting) (subst Q stay.asked_other y.ends_so)) in
    x.is ∙ ap (λ (t : List ℕ). t ++ x.last) all.0 ∙ ap (λ (t : List ℕ). y.first ++ t) ends ∙ sym y.is
