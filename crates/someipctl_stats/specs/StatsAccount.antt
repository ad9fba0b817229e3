-- What `stats` prints of recordings.
use Rattle.std.specs.Prelude.{◌≡◌, ℕ, ◌-◌, ◌^◌, List, [], ◌++◌, Option, Some, None, refl}
use Rattle.std.specs.List.{flat_map}
use Rattle.audit_stats.specs.declared.full.FigureLimits.{FigureLimits}
use Rattle.audit_stats.specs.Stats.{Stats, no_stats}
use Rattle.someip_audit.specs.declared.FellDue.{FellDue}
use Rattle.someip_audit.specs.declared.AuditRules.{AuditRules}
use Rattle.someip_audit.specs.Audits.{AuditState, Drains, Seen, audit_begun}
use Rattle.someipctl_accounts.specs.Accounts.{BeginsAccount, Came, GivesAccount}
use Rattle.someipctl_io.specs.declared.form.Form.{Form}
use Rattle.someipctl_recordings.specs.declared.recordings.ShownRecording.{ShownRecording}
use Rattle.someipctl_recordings.specs.Wanted.{WantedValue, ports_of, view_wanted}
use Rattle.someipctl_audit.specs.AskedAudits.{learns}
use Rattle.someipctl_stats.specs.declared.asked.StatsAsked.{StatsAsked}
use Rattle.someipctl_stats.specs.declared.counting.Counting.{Counting}
use Rattle.someipctl_stats.specs.Counting.{CountsDue, HearsSo}
use Rattle.someipctl_stats.specs.LackLines.{lacks_text}
use Rattle.someipctl_stats.specs.Lacks.{lacks_none}
use Rattle.someipctl_stats.specs.StatsText.{figures_text}

-- ---- what is asked for

pub record AskedStats : Type 0 where
  pub rules : AuditRules
  pub wanted : WantedValue
  pub form : Form

abbrev pub view_asked : StatsAsked → AskedStats
view_asked asked = record { rules = asked.rules; wanted = view_wanted asked.wanted; form = asked.form }

-- ---- datagram by datagram

-- what was counted so far, the audit behind it, if it began, and what is asked for
pub record StatsState : Type 0 where
  pub asked : AskedStats
  pub audit : Option AuditState
  pub counting : Counting

-- at most 4096 methods, events and ways of Service Discovery are held, and 65536 calls that wait
abbrev pub stats_limits : FigureLimits
stats_limits = record { keys = 4096; calls = 65536 }

-- before anything came
abbrev pub stats_begun : AskedStats → StatsState
stats_begun asked = record { asked = asked; audit = None; counting = record { micros = 0; figures = no_stats stats_limits; lacks = lacks_none } }

-- the audit at a datagram: it begins with the first, by the rules of no bench
abbrev pub audit_before : AskedStats → Option AuditState → Seen → AuditState
audit_before asked None seen = audit_begun asked.rules [] (ports_of asked.wanted.ports) (learns asked.wanted) seen.now
audit_before asked (Some state) seen = state

-- nothing is printed of a datagram, and it is counted
pub record TakesStats (state : StatsState) (came : Came) (text : List ℕ) (after : StatsState) : Type 0 where
  pub audit : AuditState
  pub hears : HearsSo state.asked.wanted came.time came.seen (audit_before state.asked state.audit came.seen) audit state.counting after.counting
  pub held : after.audit ≡ Some audit
  pub asked : after.asked ≡ state.asked
  pub silent : text ≡ []

-- what was counted, and what it lacks
abbrev pub stats_text : Form → Counting → List ℕ
stats_text form c = figures_text form c.figures ++ lacks_text form c.lacks

-- at the end what fell due by the last moment is counted, if the audit began, and then all is printed
pub record EndsAudited (w : WantedValue) (form : Form) (last : ℕ) (audit : AuditState) (c : Counting) (text : List ℕ) : Type 0 where
  pub after : AuditState
  pub figures : Stats
  pub due : CountsDue w last audit after c.figures figures
  pub is : text ≡ stats_text form (record c { figures = figures })

abbrev pub EndsSo : WantedValue → Form → ℕ → Option AuditState → Counting → List ℕ → Type 0
EndsSo w form last None c text = text ≡ stats_text form c
EndsSo w form last (Some audit) c text = EndsAudited w form last audit c text

abbrev pub EndsStats : StatsState → ℕ → List ℕ → Type 0
EndsStats state last text = EndsSo state.asked.wanted state.asked.form last state.audit state.counting text

-- ---- recordings

-- the rules of an audit that tells of sessions alone: the books that only judge hold nothing, and it is settled as late as may be
abbrev pub of_sessions : AuditRules → AuditRules
of_sessions rules = record rules { judged = 0; settle_ms = 2 ^ 32 - 1 }

-- by these the audit behind the figures goes
abbrev pub asked_of_sessions : AskedStats → AskedStats
asked_of_sessions asked = record asked { rules = of_sessions asked.rules }

-- the figures of files were written, up to their fault, and what is told of them is so
abbrev pub ShowsStats : List (Option (List ℕ)) → AskedStats → ShownRecording → Option (List ℕ) → Option (List ℕ) → Type 0
ShowsStats inputs asked shown before after = GivesAccount TakesStats EndsStats inputs asked.wanted.packets (stats_begun (asked_of_sessions asked)) shown before after

-- a beginning of that text was written, which may be nothing
abbrev pub BeginsStats : List (Option (List ℕ)) → AskedStats → Option (List ℕ) → Option (List ℕ) → Type 0
BeginsStats inputs asked before after = BeginsAccount TakesStats EndsStats inputs asked.wanted.packets (stats_begun (asked_of_sessions asked)) before after
