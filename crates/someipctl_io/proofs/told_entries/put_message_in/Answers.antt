use Rattle.std.proofs.Common.{ap, codes, ◌∙◌}
use Rattle.std.proofs.lemmas.Result.{on_ok_weaker, on_err_weaker}
use Rattle.someipctl_io.specs.ToldLines.{line_text}
use Rattle.someipctl_io.specs.ToldViews.{view_head}
use Rattle.someipctl_io.specs.ToldItems.{told}
use Rattle.someipctl_io.proofs.SendingLemmas.{OnErr-any, Sends-as, Sends-trans, Stops-after, Stops-as, Stops-before}
use Rattle.someipctl_io.proofs.told_entries.put_message_in.Goals as goal

pub returns-in_err-put_line-clause-err : goal.returns-in_err-put_line-clause-err
returns-in_err-put_line-clause-err g c =
    let is = ap (line_text c.args.head.now.form (view_head c.args.head.now)) (c.line.ensures ∙ ap (told (codes "sd")) c.sd_fields.ensures) in
    OnErr-any c.from_residual.result (Stops-before _ _ _ _ _ (Stops-as _ _ _ _ _ is c.in_err-put_line.ensures.err))

pub returns-clause-ok : goal.returns-clause-ok
returns-clause-ok g c =
    let is = ap (line_text c.args.head.now.form (view_head c.args.head.now)) (c.line.ensures ∙ ap (told (codes "sd")) c.sd_fields.ensures) in
    on_ok_weaker c.put_entries_in.result (Sends-trans _ _ _ _ _ _ _ _ (Sends-as _ _ _ _ _ _ is c.in_ok-put_line.ensures.ok)) (rw c.deref.ensures.value at c.put_entries_in.ensures.ok)

pub returns-clause-err : goal.returns-clause-err
returns-clause-err g c =
    let is = ap (line_text c.args.head.now.form (view_head c.args.head.now)) (c.line.ensures ∙ ap (told (codes "sd")) c.sd_fields.ensures) in
    on_err_weaker c.put_entries_in.result (Stops-after _ _ _ _ _ _ _ (Sends-as _ _ _ _ _ _ is c.in_ok-put_line.ensures.ok)) (rw c.deref.ensures.value at c.put_entries_in.ensures.err)
