use Rattle.std.proofs.Common.{◌≡◌, ◌≤◌, false, ap, ◌∙◌, rules, arith}
use Rattle.std.proofs.Math.Nat.{le-max_left}
use Rattle.std.specs.Result.{is_err}
use Rattle.someip_tables.specs.Tables.{map_of}
use Rattle.someip_tables.proofs.Outcomes.{where_ok}
use Rattle.audit_traffic.specs.segments.MessageKeys.{message_cmp}
use Rattle.audit_traffic.proofs.about_segments.WaitLemmas.{agrees_empty, after_agrees_as}
use Rattle.audit_traffic.proofs.segments.segment_book.SegmentBook.saw.Goals as goal

pub invariant_of-self : goal.invariant_of-self
invariant_of-self g c = (
  ap (λ l. l.timeout) (c.clear.ensures.limits ∙ c.tell_piece-told.ensures.limits) ∙ c.self.invariant.0,
  c.clear.ensures.moments c.later-self-inside.result,
  rw (c.clear.ensures.parts, c.new.ensures) (agrees_empty (g.S.Reassembly.limits c.clear.new.self) c.later-self-inside.result),
)

pub invariant_of-self-else-is_err : goal.invariant_of-self-else-is_err
invariant_of-self-else-is_err g c =
    let well : is_err c.tell_piece-told.result ≡ false = search rules in
    let no_earlier : c.self.inside.latest ≤ c.later-self-inside.result = omega (arith, le-max_left c.self.inside.latest c.args.now, c.later-self-inside.ensures) in (
      ap (λ l. l.timeout) c.tell_piece-told.ensures.limits ∙ c.self.invariant.0,
      c.tell_piece-told.ensures.moments,
      after_agrees_as (g.S.Reassembly.limits c.self.inside.store) (g.S.Reassembly.limits c.tell_piece-told.new.store) c.self.inside.latest c.later-self-inside.result
          c.self.inside.timeout_ms (g.S.Reassembly.parts c.self.inside.store) (g.S.Reassembly.parts c.tell_piece-told.new.store) (map_of message_cmp c.self.inside.waiting)
          (map_of message_cmp c.tell_piece-told.new.waiting) _ c.args.numbers c.self.invariant.0 c.tell_piece-told.ensures.limits no_earlier c.self.invariant.2
          (where_ok c.tell_piece-told.result well c.tell_piece-told.ensures.parts) (where_ok c.tell_piece-told.result well c.tell_piece-told.ensures.waiting),
    )
