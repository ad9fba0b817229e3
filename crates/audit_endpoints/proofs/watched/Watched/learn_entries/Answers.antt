use Rattle.std.proofs.Common.{◌+◌, ap, map, drop, sym, ◌∙◌}
use Rattle.sd_wire.specs.contents.Values.{view_read}
use Rattle.audit_endpoints.specs.Learning.{learnt_of}
use Rattle.audit_endpoints.proofs.LearnerLemmas.{next_left}
use Rattle.audit_endpoints.proofs.watched.Watched.learn_entries.Goals as goal

pub loop-entry-preserved : goal.loop-entry-preserved
loop-entry-preserved c =
    let left = next_left c.args.entries.now c.loop-entry.entry-index c.entry-item.result c.loop-entry-test.true c.entry-item.is in
    ap (learnt_of (map view_read (drop (c.loop-entry.entry-index + 1) c.args.entries.now))) c.in_ok-learn_entry.ensures
    ∙ sym (ap (λ es. learnt_of (map view_read es) c.loop-entry.self) left)
    ∙ c.loop-entry.invariant
