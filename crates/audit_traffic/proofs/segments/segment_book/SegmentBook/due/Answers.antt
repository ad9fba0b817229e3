use Rattle.std.proofs.Common.{◌≤◌, arith}
use Rattle.std.proofs.Math.Nat.{le-max_left}
use Rattle.someip_tables.specs.Tables.{map_of}
use Rattle.someip_reassembly.proofs.MomentLemmas.{later}
use Rattle.audit_traffic.specs.segments.MessageKeys.{message_cmp}
use Rattle.audit_traffic.proofs.about_segments.MissingLemmas.{in_part, all_told, due_agrees}
use Rattle.audit_traffic.proofs.segments.segment_book.SegmentBook.due.Goals as goal

pub invariant_of-self : goal.invariant_of-self
invariant_of-self g c =
    let no_earlier : c.self.inside.latest ≤ c.later-self-inside.result = omega (arith, le-max_left c.self.inside.latest c.args.now, c.later-self-inside.ensures) in (
      c.self.invariant.0,
      later c.self.inside.latest c.later-self-inside.result (g.S.Reassembly.parts c.self.inside.store) no_earlier c.self.invariant.1,
      rw c.next_missing.ensures.after
          (due_agrees (g.S.Reassembly.limits c.self.inside.store) c.self.inside.latest c.later-self-inside.result (g.S.Reassembly.parts c.self.inside.store)
          (map_of message_cmp c.self.inside.waiting) c.next_missing.result no_earlier c.self.invariant.2 c.next_missing.ensures.waits c.next_missing.ensures.passed),
    )

pub returns-clause-in_part : goal.returns-clause-in_part
returns-clause-in_part g c =
    rw (← c.self.view_is)
    (in_part (g.S.Reassembly.limits c.self.inside.store) c.self.inside.latest (g.S.Reassembly.parts c.self.inside.store) (map_of message_cmp c.self.inside.waiting)
    c.next_missing.result c.self.invariant.2 c.next_missing.ensures.waits)

pub returns-clause-all_told : goal.returns-clause-all_told
returns-clause-all_told g c =
    rw (← c.self.view_is, ← c.later-self-inside.ensures)
    (all_told (g.S.Reassembly.limits c.self.inside.store) c.self.inside.latest c.later-self-inside.result (g.S.Reassembly.parts c.self.inside.store)
    (map_of message_cmp c.self.inside.waiting) c.next_missing.result c.self.invariant.2 c.next_missing.ensures.none)
