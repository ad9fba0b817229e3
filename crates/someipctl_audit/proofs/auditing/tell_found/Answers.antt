use Rattle.std.proofs.Common.{◌∷◌, [], ap, sym, ◌∙◌}
use Rattle.someip_audit.specs.Audits.{found}
use Rattle.someipctl_io.proofs.SendingLemmas.{OnErr-any}
use Rattle.someipctl_audit.specs.AskedAudits.{view_asked}
use Rattle.someipctl_audit.specs.AuditText.{kind_of}
use Rattle.someipctl_audit.specs.Notes.{note}
use Rattle.someipctl_audit.specs.Steps.{lines_at}
use Rattle.someipctl_audit.specs.Tallies.{tally_after}
use Rattle.someipctl_audit.proofs.ToldLemmas.{stops_any, told_counts}
use Rattle.someipctl_audit.proofs.auditing.tell_found.Goals as goal

pub returns-in_err-pass-clause-err : goal.returns-in_err-pass-clause-err
returns-in_err-pass-clause-err g c =
    OnErr-any c.from_residual.result
    (stops_any (g.W.Write.contents c.args.writer.now) c.args.buffer.now (lines_at (view_asked c.args.asked.now) c.args.time c.args.tally.now.noted (found c.args.origin.now c.args.finding.now ∷ [])))

pub returns-in_err-is_shown-clause-err : goal.returns-in_err-is_shown-clause-err
returns-in_err-is_shown-clause-err g c =
    OnErr-any c.from_residual-in_err-is_shown.result
    (stops_any (g.W.Write.contents c.args.writer.now) c.args.buffer.now (lines_at (view_asked c.args.asked.now) c.args.time c.args.tally.now.noted (found c.args.origin.now c.args.finding.now ∷ [])))

pub returns-clause-counts : goal.returns-clause-counts
returns-clause-counts g c =
    let tally = c.args.tally.now in
    let report = found c.args.origin.now c.args.finding.now in
    let grouped_so = c.in_ok-is_shown.ensures.after ∙ ap (λ key. record tally { noted = note key tally.noted }) c.group_of_found.ensures in
    told_counts (view_asked c.args.asked.now) c.args.time tally c.tell.new.self report (sym c.is_found_told.ensures ∙ c.if-not-is_found_told.false)
    (c.in_ok-tell.ensures.counted ∙ ap (λ kind. tally_after kind c.shows.new.self) c.kind_of.ensures ∙ ap (tally_after (kind_of report)) grouped_so)
