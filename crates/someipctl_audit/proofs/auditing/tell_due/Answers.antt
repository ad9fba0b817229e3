use Rattle.std.proofs.Common.{None, ◌∷◌, [], ap, sym, ◌∙◌}
use Rattle.someip_audit.specs.Audits.{fell}
use Rattle.someipctl_io.proofs.SendingLemmas.{OnErr-any}
use Rattle.someipctl_audit.specs.AskedAudits.{view_asked}
use Rattle.someipctl_audit.specs.AuditText.{kind_of}
use Rattle.someipctl_audit.specs.Notes.{note}
use Rattle.someipctl_audit.specs.Steps.{lines_at}
use Rattle.someipctl_audit.specs.Tallies.{tally_after}
use Rattle.someipctl_audit.proofs.ToldLemmas.{stops_any, told_counts}
use Rattle.someipctl_audit.proofs.auditing.tell_due.Goals as goal

pub returns-in_err-pass-clause-err : goal.returns-in_err-pass-clause-err
returns-in_err-pass-clause-err g c =
    OnErr-any c.from_residual.result
    (stops_any (g.W.Write.contents c.args.writer.now) c.args.buffer.now (lines_at (view_asked c.args.asked.now) None c.args.tally.now.noted (fell c.args.told.now ∷ [])))

pub returns-in_err-is_shown-clause-err : goal.returns-in_err-is_shown-clause-err
returns-in_err-is_shown-clause-err g c =
    OnErr-any c.from_residual-in_err-is_shown.result
    (stops_any (g.W.Write.contents c.args.writer.now) c.args.buffer.now (lines_at (view_asked c.args.asked.now) None c.args.tally.now.noted (fell c.args.told.now ∷ [])))

pub returns-clause-counts : goal.returns-clause-counts
returns-clause-counts g c =
    let tally = c.args.tally.now in
    let report = fell c.args.told.now in
    let grouped_so = c.in_ok-is_shown.ensures.after ∙ ap (λ key. record tally { noted = note key tally.noted }) c.group_of_due.ensures in
    told_counts (view_asked c.args.asked.now) None tally c.tell.new.self report (sym c.is_due_told.ensures ∙ c.if-not-is_due_told.false)
    (c.in_ok-tell.ensures.counted ∙ ap (λ kind. tally_after kind c.shows.new.self) c.kind_of_due.ensures ∙ ap (tally_after (kind_of report)) grouped_so)
