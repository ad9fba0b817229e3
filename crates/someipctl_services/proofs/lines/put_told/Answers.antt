use Rattle.std.proofs.Common.{◌≡◌, ap, map, sym, ◌∙◌}
use Rattle.std.specs.Prelude.{codes}
use Rattle.std.proofs.lemmas.Result.{on_err_weaker, on_ok_weaker}
use Rattle.someipctl_io.specs.ToldLines.{line_text}
use Rattle.someipctl_io.specs.ToldViews.{view_field}
use Rattle.someipctl_io.proofs.SendingLemmas.{Sends-as, Stops-as}
use Rattle.someipctl_show.specs.VerdictForms.{no_head, wordless}
use Rattle.someipctl_services.specs.ServiceLines.{told_line}
use Rattle.someipctl_services.proofs.lines.put_told.Goals as goal

pub returns-in-Subscription-clause-ok : goal.returns-in-Subscription-clause-ok
returns-in-Subscription-clause-ok g c =
    let is : wordless (codes "subscription") (map view_field c.subscription_fields.result) ≡ told_line c.args.told.now =
    ap (wordless (codes "subscription")) c.subscription_fields.ensures ∙ sym (ap told_line c.in-Subscription.is) in
    on_ok_weaker c.put_headless-in-Subscription.result (Sends-as _ _ _ _ _ _ (ap (line_text c.args.form no_head) is)) c.put_headless-in-Subscription.ensures.ok

pub returns-in-Subscription-clause-err : goal.returns-in-Subscription-clause-err
returns-in-Subscription-clause-err g c =
    let is : wordless (codes "subscription") (map view_field c.subscription_fields.result) ≡ told_line c.args.told.now =
    ap (wordless (codes "subscription")) c.subscription_fields.ensures ∙ sym (ap told_line c.in-Subscription.is) in
    on_err_weaker c.put_headless-in-Subscription.result (Stops-as _ _ _ _ _ (ap (line_text c.args.form no_head) is)) c.put_headless-in-Subscription.ensures.err
