use Rattle.std.proofs.Common.{◌≡◌, length, arith, ap, ◌∙◌}
use Rattle.someip_explore.specs.Exploring.{judged_count}
use Rattle.someipctl_io.specs.declared.fault.Fault.TheVariants.{OutOfMemory}
use Rattle.someipctl_explore.specs.Noting.{LeavesNotes, Noted}
use Rattle.someipctl_explore.specs.ResultTexts.{exploration_text}
use Rattle.someipctl_explore.proofs.NoteLemmas.{left_by, none_left, noted_so}
use Rattle.someipctl_explore.proofs.exploring.explored.Goals as goal

pub returns-clause-told : goal.returns-clause-told
returns-clause-told g c =
    let found = c.in_ok-found.found in
    let long : c.len-done.result ≡ length c.in_ok-beginning.beginning.items = omega (arith, c.len-done.ensures, c.in_ok-beginning.beginning.ok) in (
      c.in_ok-beginning.beginning.items,
      found,
      (c.in_ok-beginning.ensures.said.0, c.in_ok-beginning.ensures.said.1, c.in_ok-found.ensures.explored),
      c.outcome_of-outcome.ensures,
      c.in_ok-text.ensures.is ∙ ap (λ n. exploration_text n c.args.limits found) long,
      c.in_ok-text.ensures.read,
      noted_so g.N.Write.contents (judged_count c.args.limits found) c.args.notes.now c.explore.new.watcher c.in_ok-found.ensures.watched,
    )

pub returns-in_err-beginning-clause-noted : goal.returns-in_err-beginning-clause-noted
returns-in_err-beginning-clause-noted g c =
    left_by (LeavesNotes (Noted g.N.Write.contents c.args.notes.now c.args.notes.now)) c.from_residual.result c.in_err-beginning.field-0.0 c.from_residual.ensures.1
    (none_left g.N.Write.contents c.args.setup.now.nodes c.args.text.now c.args.notes.now c.in_err-beginning.field-0.0 c.in_err-beginning.ensures.refused)

pub returns-in_err-found-clause-noted : goal.returns-in_err-found-clause-noted
returns-in_err-found-clause-noted g c =
    let heard = c.in_err-found.ensures.watched in
    left_by (LeavesNotes (Noted g.N.Write.contents c.args.notes.now c.explore.new.watcher)) c.from_residual-in_err-found.result OutOfMemory c.from_residual-in_err-found.ensures.1
    (heard.0, noted_so g.N.Write.contents heard.0 c.args.notes.now c.explore.new.watcher heard.1)

pub returns-in_err-text-clause-noted : goal.returns-in_err-text-clause-noted
returns-in_err-text-clause-noted g c =
    let judged = judged_count c.args.limits c.in_ok-found.found in
    left_by (LeavesNotes (Noted g.N.Write.contents c.args.notes.now c.explore.new.watcher)) c.from_residual-in_err-text.result OutOfMemory c.from_residual-in_err-text.ensures.1
    (judged, noted_so g.N.Write.contents judged c.args.notes.now c.explore.new.watcher c.in_ok-found.ensures.watched)
