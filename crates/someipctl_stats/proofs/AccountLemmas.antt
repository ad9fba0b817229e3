-- What is taken of a datagram, and told at the end.
use Rattle.std.proofs.Common.{◌≡◌, ◌∙◌, ℕ, not, true, [], Option, None, Some, refl, sym, ap, subst}
use Rattle.std.specs.Option.{is_some}
use Rattle.audit_stats.specs.Stats.{Stats}
use Rattle.someip_audit.specs.Audits.{AuditState, Seen}
use Rattle.someipctl_accounts.specs.Accounts.{Came}
use Rattle.someipctl_stats.specs.declared.counting.Counting.{Counting}
use Rattle.someipctl_stats.specs.Counting.{CountsDue, HearsSo}
use Rattle.someipctl_stats.specs.StatsAccount.{AskedStats, EndsStats, StatsState, TakesStats, audit_before, stats_text}

-- ---- the audit at a datagram: where it began with it, and where it stood

pub begun : (asked : AskedStats) (seen : Seen) (before now : Option AuditState) (state : AuditState) → is_some before ≡ not true → now ≡ Some (audit_before asked None seen) → now ≡ Some state
    → state ≡ audit_before asked before seen
begun asked seen None now state none is some = cc
begun asked seen (Some other) now state none is some = absurd cc

pub stood : (asked : AskedStats) (seen : Seen) (before : Option AuditState) (state : AuditState) → before ≡ Some state → state ≡ audit_before asked before seen
stood asked seen None state is = absurd cc
stood asked seen (Some other) state is = cc

-- ---- a datagram

pub takes_so : (state : StatsState) (asked now : AskedStats) (before : Option AuditState) (c step later : Counting) (came : Came) (audit after : AuditState)
    → record { asked = asked; audit = before; counting = c } ≡ state → now ≡ asked → step ≡ c → audit ≡ audit_before asked before came.seen
    → HearsSo now.wanted came.time came.seen audit after step later → TakesStats state came [] (record { asked = now; audit = Some after; counting = later })
takes_so state asked now before c step later came audit after is same_asked same_counting at hears =
    subst (λ (s : StatsState). TakesStats s came [] (record { asked = now; audit = Some after; counting = later })) is
    (record { audit = after; hears = heard; held = refl; asked = same_asked; silent = refl })
  where
    heard : HearsSo asked.wanted came.time came.seen (audit_before asked before came.seen) after c later
    heard =
        subst (λ (a : AskedStats). HearsSo a.wanted came.time came.seen (audit_before asked before came.seen) after c later) same_asked
        (subst (λ (k : Counting). HearsSo now.wanted came.time came.seen (audit_before asked before came.seen) after k later) same_counting
        (subst (λ (s : AuditState). HearsSo now.wanted came.time came.seen s after step later) at hears))

-- ---- the end

pub ends_audited : (state : StatsState) (asked now : AskedStats) (before : Option AuditState) (c later : Counting) (audit after : AuditState) (figures : Stats) (last : ℕ)
    → record { asked = asked; audit = before; counting = c } ≡ state → before ≡ Some audit → now ≡ asked → CountsDue asked.wanted last audit after c.figures figures
    → later ≡ record c { figures = figures } → EndsStats state last (stats_text now.form later)
ends_audited state asked now before c later audit after figures last is some same due left =
    subst (λ (s : StatsState). EndsStats s last (stats_text now.form later)) is
    (subst (λ (b : Option AuditState). EndsStats (record { asked = asked; audit = b; counting = c }) last (stats_text now.form later)) (sym some)
    (record {
      after = after;
      figures = figures;
      due = due;
      is = ap (λ (a : AskedStats). stats_text a.form later) same ∙ ap (stats_text asked.form) left;
    }))

pub ends_unaudited : (state : StatsState) (asked now : AskedStats) (before : Option AuditState) (c later : Counting) (last : ℕ) → record { asked = asked; audit = before; counting = c } ≡ state
    → before ≡ None → now ≡ asked → later ≡ c → EndsStats state last (stats_text now.form later)
ends_unaudited state asked now before c later last is none same left =
    subst (λ (s : StatsState). EndsStats s last (stats_text now.form later)) is
    (subst (λ (b : Option AuditState). EndsStats (record { asked = asked; audit = b; counting = c }) last (stats_text now.form later)) (sym none)
    (ap (λ (a : AskedStats). stats_text a.form later) same ∙ ap (stats_text asked.form) left))
