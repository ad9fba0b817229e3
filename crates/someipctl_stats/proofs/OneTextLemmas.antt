-- A recording has one text of figures.
use Rattle.std.proofs.Common.{◌≡◌, ℕ, List, [], ◌∷◌, ◌++◌, Option, None, Some, refl, sym, ap, subst, ◌∙◌}
use Rattle.std.specs.List.{flat_map}
use Rattle.recording.specs.declared.Time.{Time}
use Rattle.recording_packets.specs.Intake.{ArrivalValue}
use Rattle.audit_stats.specs.Stats.{Stats}
use Rattle.someip_audit.specs.Audits.{AuditState, Seen, after_seen, seen_shown}
use Rattle.audit_endpoints.specs.WatchedEndpoints.{is_looked_at}
use Rattle.someip_audit.specs.declared.FellDue.{FellDue}
use Rattle.someip_audit.proofs.NextLemmas.{drains_one}
use Rattle.someipctl_accounts.specs.Accounts.{Came, IsAccount, TakesAll, came_in, latest_of}
use Rattle.someipctl_io.specs.declared.form.Form.{Form}
use Rattle.someipctl_recordings.specs.Wanted.{WantedValue}
use Rattle.someipctl_stats.specs.declared.counting.Counting.{Counting}
use Rattle.someipctl_stats.specs.Counting.{CountsDue, HearsSo, after_facts, due_facts, datagram_facts, with_findings}
use Rattle.someipctl_stats.specs.Micros.{micros_after}
use Rattle.someipctl_stats.specs.StatsAccount.{AskedStats, EndsSo, EndsStats, StatsState, TakesStats, audit_before, stats_text}

-- ---- a datagram

due_one : (w : WantedValue) (now : ℕ) (before after other : AuditState) (figures later another : Stats) → CountsDue w now before after figures later → CountsDue w now before other figures another
    → (after ≡ other) × (later ≡ another)
due_one w now before after other figures later another x y =
    let one = drains_one now x.told y.told before after other x.drains y.drains in
    (one.1, x.counts ∙ ap (λ (told : List FellDue). after_facts (flat_map (due_facts w) told) figures) one.0 ∙ sym y.counts)

-- what is counted of a datagram, where this fell due before it
heard : WantedValue → Option Time → Seen → Counting → AuditState → Stats → Counting
heard w time seen c between figures =
    with_findings w time seen.origin (seen_shown seen between) (record c {
      micros = micros_after c.micros time;
      figures = after_facts (datagram_facts w (micros_after c.micros time) time seen (is_looked_at between.watched seen.origin)) figures;
    })

hears_one : (w : WantedValue) (time : Option Time) (seen : Seen) (before after other : AuditState) (c later another : Counting) → HearsSo w time seen before after c later → HearsSo w time seen before other c another
    → (after ≡ other) × (later ≡ another)
unfolding heard
hears_one w time seen before after other c later another x y =
    let one = due_one w seen.now before x.between y.between c.figures x.figures y.figures x.due y.due in (
      x.left ∙ ap (after_seen seen) one.0 ∙ sym y.left,
      x.counts ∙ ap (λ (b : AuditState). heard w time seen c b x.figures) one.0 ∙ ap (λ (s : Stats). heard w time seen c y.between s) one.1 ∙ sym y.counts,
    )

same_state : (a b : StatsState) → a.asked ≡ b.asked → a.audit ≡ b.audit → a.counting ≡ b.counting → a ≡ b
same_state a b asked audit counting =
    ap (λ (x : AskedStats). record a { asked = x }) asked
    ∙ ap (λ (x : Option AuditState). record { asked = b.asked; audit = x; counting = a.counting }) audit
    ∙ ap (λ (x : Counting). record { asked = b.asked; audit = b.audit; counting = x }) counting

takes_one : (state : StatsState) (came : Came) (text other : List ℕ) (after another : StatsState) → TakesStats state came text after → TakesStats state came other another
    → (text ≡ other) × (after ≡ another)
takes_one state came text other after another x y =
    let one = hears_one state.asked.wanted came.time came.seen (audit_before state.asked state.audit came.seen) x.audit y.audit state.counting after.counting another.counting x.hears y.hears in (
      x.silent ∙ sym y.silent,
      same_state after another (x.asked ∙ sym y.asked) (x.held ∙ ap (λ a. Some a) one.0 ∙ sym y.held) one.1,
    )

all_one : (state : StatsState) (cames : List Came) (text other : List ℕ) (after another : StatsState) → TakesAll TakesStats state cames text after → TakesAll TakesStats state cames other another
    → (text ≡ other) × (after ≡ another)
all_one state [] text other after another x y = (x.0 ∙ sym y.0, x.1 ∙ sym y.1)
all_one state (came ∷ cames) text other after another x y =
    let one = takes_one state came x.0 y.0 x.2 y.2 x.3 y.3 in
    let rest = all_one y.2 cames x.1 y.1 after another (subst (λ (s : StatsState). TakesAll TakesStats s cames x.1 after) one.1 x.4) y.4 in
    (x.5 ∙ ap (λ (t : List ℕ). t ++ x.1) one.0 ∙ ap (λ (t : List ℕ). y.0 ++ t) rest.0 ∙ sym y.5, rest.1)

-- ---- the end

ends_one : (w : WantedValue) (form : Form) (last : ℕ) (audit : Option AuditState) (c : Counting) (text other : List ℕ) → EndsSo w form last audit c text → EndsSo w form last audit c other → text ≡ other
ends_one w form last None c text other x y = x ∙ sym y
ends_one w form last (Some audit) c text other x y =
    let one = due_one w last audit x.after y.after c.figures x.figures y.figures x.due y.due in
    x.is ∙ ap (λ (s : Stats). stats_text form (record c { figures = s })) one.1 ∙ sym y.is

pub account_one : (state : StatsState) (arrivals : List ArrivalValue) (text other : List ℕ) → IsAccount TakesStats EndsStats state arrivals text → IsAccount TakesStats EndsStats state arrivals other → text ≡ other
account_one state arrivals text other x y =
    let one = all_one state (came_in arrivals) x.first y.first x.after y.after x.takes_all y.takes_all in
    let last = latest_of 0 arrivals in
    let ends =
    ends_one y.after.asked.wanted y.after.asked.form last y.after.audit y.after.counting x.last y.last
    (subst (λ (s : StatsState). EndsStats s last x.last) one.1 x.ends_so) y.ends_so in
    x.is ∙ ap (λ (t : List ℕ). t ++ x.last) one.0 ∙ ap (λ (t : List ℕ). y.first ++ t) ends ∙ sym y.is
