-- What is counted, step by step.
use Rattle.std.proofs.Common.{◌≡◌, ℕ, Bool, true, false, if◌then◌else◌, List, [], ◌∷◌, ◌++◌, Option, Some, None, refl, sym, ap, reverse, subst, ◌∙◌, append_assoc}
use Rattle.std.specs.List.{flat_map}
use Rattle.std.specs.Option.{is_some}
use Rattle.std.proofs.lemmas.Grind.{flat_map-append}
use Rattle.std.proofs.lemmas.List.{append-nil, reverse-append}
use Rattle.audit_stats.specs.declared.full.FigureLimits.{FigureLimits}
use Rattle.audit_stats.specs.Stats.{Fact, Stats, after_fact, stats_of}
use Rattle.recording.specs.declared.Time.{Time}
use Rattle.someip_audit.specs.Audits.{AuditState, Drains, IsNext, IsNoneDue, Seen, after_seen, seen_messages, seen_shown}
use Rattle.someip_audit.specs.FellDues.{after_due}
use Rattle.audit_endpoints.specs.WatchedEndpoints.{is_looked_at}
use Rattle.someip_audit.specs.declared.FellDue.{FellDue}
use Rattle.someip_audit.specs.declared.Finding.{Finding}
use Rattle.someip_tables.specs.declared.hashed.Origin.{Origin}
use Rattle.someipctl_recordings.specs.Wanted.{WantedValue}
use Rattle.someipctl_stats.specs.Counting.{CountsDue, HearsSo, after_facts, due_facts, finding_facts, lacks_after, lacks_shown, datagram_facts, with_finding, with_findings}
use Rattle.someipctl_stats.specs.Micros.{micros_after}
use Rattle.someipctl_stats.specs.Shown.{shown_of}
use Rattle.someipctl_stats.specs.declared.counting.Counting.{Counting}

pub after_facts-append : (a b : List Fact) (s : Stats) → after_facts (a ++ b) s ≡ after_facts b (after_facts a s)
after_facts-append [] b s = refl
after_facts-append (fact ∷ a) b s = after_facts-append a b (after_fact fact s)

-- ---- what fell due

-- some of what fell due was counted, and the audit is this one then
pub record IsCounting (w : WantedValue) (now : ℕ) (before current : AuditState) (figures later : Stats) : Type 0 where
  pub told : List FellDue
  pub drains : (others : List FellDue) (after : AuditState) → Drains now current others after → Drains now before (told ++ others) after
  pub counts : later ≡ after_facts (flat_map (due_facts w) told) figures

pub counting_begin : (w : WantedValue) (now : ℕ) (state : AuditState) (figures : Stats) → IsCounting w now state state figures figures
counting_begin w now state figures = record { told = []; drains = λ others after d. d; counts = refl }

facts_more : (w : WantedValue) (told : List FellDue) (one : FellDue) (figures : Stats)
    → after_facts (due_facts w one) (after_facts (flat_map (due_facts w) told) figures) ≡ after_facts (flat_map (due_facts w) (told ++ one ∷ [])) figures
facts_more w told one figures =
    sym (after_facts-append (flat_map (due_facts w) told) (due_facts w one) figures)
    ∙ ap (λ (facts : List Fact). after_facts (flat_map (due_facts w) told ++ facts) figures) (sym (append-nil (due_facts w one)))
    ∙ ap (λ (facts : List Fact). after_facts facts figures) (sym (flat_map-append (due_facts w) told (one ∷ [])))

pub counting_more : (w : WantedValue) (now : ℕ) (before current next : AuditState) (figures later more : Stats) (one : FellDue) → IsCounting w now before current figures later
    → IsNext now current one → next ≡ after_due now (Some one) current → more ≡ after_facts (due_facts w one) later → IsCounting w now before next figures more
counting_more w now before current next figures later more one is first left counts = record {
  told = is.told ++ one ∷ [];
  drains = λ others after d.
      subst (λ (l : List FellDue). Drains now before l after) (sym (append_assoc is.told (one ∷ []) others)) (is.drains (one ∷ others) after (first, subst (λ s. Drains now s others after) left d));
  counts = counts ∙ ap (after_facts (due_facts w one)) is.counts ∙ facts_more w is.told one figures;
}

pub counting_end : (w : WantedValue) (now : ℕ) (before current after : AuditState) (figures later : Stats) → IsCounting w now before current figures later
    → IsNoneDue now current → after ≡ after_due now None current → CountsDue w now before after figures later
counting_end w now before current after figures later is none left = record {
  told = is.told;
  drains = subst (λ (l : List FellDue). Drains now before l after) (append-nil is.told) (is.drains [] after (none, left));
  counts = is.counts;
}

-- ---- a datagram

some_if : (b : Bool) (n : ℕ) → is_some (if b then Some n else None) ≡ b
some_if true n = refl
some_if false n = refl

-- a datagram is looked at exactly where the audit says how many messages it has
pub looked_at : (seen : Seen) (state : AuditState) (messages : Option ℕ) → messages ≡ seen_messages seen state → is_some messages ≡ is_looked_at state.watched seen.origin
looked_at seen state messages is = ap is_some is ∙ some_if (is_looked_at state.watched seen.origin) _

-- its messages were counted, if it is looked at
pub messages_counted : (w : WantedValue) (time : Option Time) (seen : Seen) (c : Counting) (micros : ℕ) (figures later : Stats) (looked is : Bool) → micros ≡ micros_after c.micros time → looked ≡ is
    → later ≡ after_facts (datagram_facts w micros time seen is) figures
    → record c { micros = micros; figures = later }
    ≡ record c { micros = micros_after c.micros time; figures = after_facts (datagram_facts w (micros_after c.micros time) time seen looked) figures }
messages_counted w time seen c micros figures later looked is moment same counts =
    ap (λ (f : Stats). record c { micros = micros; figures = f }) (counts ∙ ap (λ b. after_facts (datagram_facts w micros time seen b) figures) (sym same))
    ∙ ap (λ m. record c { micros = m; figures = after_facts (datagram_facts w m time seen looked) figures }) moment

pub hears_so : (w : WantedValue) (time : Option Time) (seen : Seen) (before between after : AuditState) (c step later : Counting) (figures : Stats) (findings : List Finding)
    → CountsDue w seen.now before between c.figures figures → findings ≡ seen_shown seen between → after ≡ after_seen seen between
    → step ≡ record c { micros = micros_after c.micros time; figures = after_facts (datagram_facts w (micros_after c.micros time) time seen (is_looked_at between.watched seen.origin)) figures }
    → later ≡ with_findings w time seen.origin findings step → HearsSo w time seen before after c later
hears_so w time seen before between after c step later figures findings due shown left is counts = record {
  between = between;
  figures = figures;
  due = due;
  left = left;
  counts = counts ∙ ap (λ (fs : List Finding). with_findings w time seen.origin fs step) shown ∙ ap (with_findings w time seen.origin (seen_shown seen between)) is;
}

-- ---- findings

-- one finding, and then others
pub findings_more : (w : WantedValue) (time : Option Time) (origin : Origin) (finding : Finding) (others : List Finding) (c : Counting)
    → with_findings w time origin others (with_finding w time origin finding c) ≡ with_findings w time origin (finding ∷ others) c
findings_more w time origin finding others c =
    ap (λ (s : Stats). record c { figures = s; lacks = lacks_after origin others (lacks_shown (shown_of origin finding) c.lacks) })
    (sym (after_facts-append (finding_facts w time origin finding) (flat_map (finding_facts w time origin) others) c.figures))

-- ---- in order

pub after_facts-reverse : (limits : FigureLimits) (facts earlier : List Fact) → after_facts facts (stats_of limits earlier) ≡ stats_of limits (reverse facts ++ earlier)
after_facts-reverse limits [] earlier = refl
after_facts-reverse limits (fact ∷ facts) earlier =
    after_facts-reverse limits facts (fact ∷ earlier)
    ∙ ap (stats_of limits) (sym (append_assoc (reverse facts) (fact ∷ []) earlier) ∙ ap (λ (l : List Fact). l ++ earlier) (sym (reverse-append (fact ∷ []) facts)))
