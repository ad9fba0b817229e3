use Rattle.std.proofs.Common.{Some, ap, ◌∙◌}
use Rattle.someip_audit.specs.FellDues.{deadline}
use Rattle.someipctl_audit.specs.AuditText.{origin_of_due, time_at}
use Rattle.someipctl_audit.specs.Notes.{is_allowed}
use Rattle.someipctl_audit.proofs.PutsLemmas.{head_is}
use Rattle.someipctl_audit.proofs.lines.put_fell_due.Goals as goal

pub returns : goal.returns
returns g c =
    let fields = rw (c.time_at-time.ensures, c.deadline_of.ensures, c.origin_of_due.ensures) at c.head_fields-fields.ensures in
    let head = c.head_of.ensures in
    let allowed = c.is_allowed-allowed.ensures ∙ ap (is_allowed c.args.asked.now.bench.now) c.group_of_due.ensures in
    let is = head_is c.args.asked.now.frames c.is_allowed-allowed.result (Some (time_at (deadline c.args.told.now))) (origin_of_due c.args.told.now) c.head_of.result _ _ _ head.number head.origin head.place fields.number fields.origin fields.place in
    rw (← allowed, ← is, ← head.form) c.put_fallen.ensures
