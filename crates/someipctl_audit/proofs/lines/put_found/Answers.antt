use Rattle.std.proofs.Common.{ap, ◌∙◌}
use Rattle.someipctl_audit.specs.Notes.{is_allowed}
use Rattle.someipctl_audit.proofs.PutsLemmas.{head_is}
use Rattle.someipctl_audit.proofs.lines.put_found.Goals as goal

pub returns : goal.returns
returns g c =
    let fields = c.head_fields-fields.ensures in
    let head = c.head_of.ensures in
    let allowed = c.is_allowed-allowed.ensures ∙ ap (is_allowed c.args.asked.now.bench.now) c.group_of_found.ensures in
    let is = head_is c.args.asked.now.frames c.is_allowed-allowed.result c.args.time c.args.origin.now c.head_of.result _ _ _ head.number head.origin head.place fields.number fields.origin fields.place in
    rw (← allowed, ← is, ← head.form) c.put_finding.ensures
