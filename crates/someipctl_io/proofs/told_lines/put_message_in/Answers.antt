use Rattle.std.proofs.Common.{ap, codes, ◌∙◌}
use Rattle.std.proofs.lemmas.Result.{on_ok_weaker, on_err_weaker}
use Rattle.someipctl_io.specs.ToldLines.{line_text}
use Rattle.someipctl_io.specs.ToldViews.{view_head}
use Rattle.someipctl_io.specs.ToldItems.{told}
use Rattle.someipctl_io.proofs.SendingLemmas.{Sends-as, Stops-as}
use Rattle.someipctl_io.proofs.told_lines.put_message_in.Goals as goal

pub returns-in-Plain-clause-ok : goal.returns-in-Plain-clause-ok
returns-in-Plain-clause-ok g c =
    let is = ap (line_text c.args.head.now.form (view_head c.args.head.now)) (c.line.ensures ∙ ap (told (codes "message")) c.message_fields.ensures) in
    on_ok_weaker c.put_line.result (Sends-as _ _ _ _ _ _ is) c.put_line.ensures.ok

pub returns-in-Plain-clause-err : goal.returns-in-Plain-clause-err
returns-in-Plain-clause-err g c =
    let is = ap (line_text c.args.head.now.form (view_head c.args.head.now)) (c.line.ensures ∙ ap (told (codes "message")) c.message_fields.ensures) in
    on_err_weaker c.put_line.result (Stops-as _ _ _ _ _ is) c.put_line.ensures.err
