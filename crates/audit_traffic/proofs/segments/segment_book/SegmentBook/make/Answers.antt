use Rattle.std.proofs.Common.{ap, ◌∙◌}
use Rattle.audit_traffic.proofs.about_segments.WaitLemmas.{agrees_empty}
use Rattle.audit_traffic.proofs.segments.segment_book.SegmentBook.make.Goals as goal

pub invariant_of-result : goal.invariant_of-result
invariant_of-result g c = (
  ap (λ l. l.timeout) c.in-Ok.ensures.limits ∙ c.from.ensures,
  c.in-Ok.ensures.moments c.start.result,
  rw (c.in-Ok.ensures.parts, c.new.ensures) (agrees_empty (g.S.Reassembly.limits c.in-Ok.store) c.start.result),
)
