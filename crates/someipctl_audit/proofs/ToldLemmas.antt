-- Findings that are told, and those that are not.
use Rattle.std.proofs.Common.{◌≡◌, ℕ, true, false, List, [], ◌∷◌, if◌then◌else◌, Option, sym, ap, subst, ◌∙◌}
use Rattle.std.proofs.lemmas.List.{append-nil}
use Rattle.recording.specs.declared.Time.{Time}
use Rattle.someipctl_audit.specs.declared.noted.Noted.{Noted}
use Rattle.someip_audit.specs.Audits.{Report}
use Rattle.someipctl_io.specs.Sending.{Stops}
use Rattle.someipctl_io.proofs.SendingLemmas.{Sends-nil, Stops-before}
use Rattle.someipctl_audit.specs.declared.tally.Tally.{Tally}
use Rattle.someipctl_audit.specs.AskedAudits.{AskedAudit}
use Rattle.someipctl_audit.specs.AuditText.{group_of, kind_of, line_if, shown_lines}
use Rattle.someipctl_audit.specs.Notes.{note, is_shown}
use Rattle.someipctl_audit.specs.Steps.{CountsMore, is_told_at, line_at, lines_at, told_at}
use Rattle.someipctl_audit.specs.Tallies.{tally_after}
use Rattle.someipctl_audit.proofs.StepLemmas.{counts_one, stops_here}

module _ (asked : AskedAudit) (time : Option Time) (noted : Noted) (report : Report) where
  -- one that is not told has no line
  pub lines_passed : is_told_at asked time report ≡ false → [] ≡ lines_at asked time noted (report ∷ [])
  lines_passed passed = ap (λ b. shown_lines (line_at asked time) noted (if b then report ∷ [] else [])) (sym passed)

  -- and one that is told has its own, if it is shown
  pub lines_told : is_told_at asked time report ≡ true → line_if (is_shown noted (group_of report)) (line_at asked time report) ≡ lines_at asked time noted (report ∷ [])
  lines_told told =
      sym (append-nil (line_if (is_shown noted (group_of report)) (line_at asked time report)))
      ∙ ap (λ b. shown_lines (line_at asked time) noted (if b then report ∷ [] else [])) (sym told)

-- where it was not printed, printing it could stop here
pub stops_any : (a : Option (List ℕ)) (held text : List ℕ) → Stops a held a text
stops_any a held text = Stops-before a a held [] text (stops_here a held a held [] (Sends-nil a held))

-- one that is told is counted
pub told_counts : (asked : AskedAudit) (time : Option Time) (before after : Tally) (report : Report) → is_told_at asked time report ≡ true
    → after ≡ tally_after (kind_of report) (record before { noted = note (group_of report) before.noted }) → CountsMore before after (told_at asked time (report ∷ []))
told_counts asked time before after report told is = subst (CountsMore before after) (ap (λ b. if b then report ∷ [] else []) (sym told)) (counts_one before after report is)
