use Rattle.std.proofs.Common.{◌+◌, ◌≤◌, arith}
use Rattle.std.specs.FinMap as finite
use Rattle.someip_tables.specs.Tables.{map_of}
use Rattle.audit_traffic.specs.gaps.MissingKeys.{missing_cmp}
use Rattle.audit_traffic.proofs.about_gaps.GapLemmas.{skipped_within}
use Rattle.audit_traffic.proofs.gaps.gap_book.GapBook.skipped.Goals as goal

pub invariant_of-self-in_err-wait_for_gap : goal.invariant_of-self-in_err-wait_for_gap
invariant_of-self-in_err-wait_for_gap c =
    let room : finite.len (map_of missing_cmp c.self.inside.waiting) + c.key_count.result ≤ c.self.inside.room.limit =
    omega (arith, c.if-self-len.false, c.len.ensures, c.from.ensures, c.self.invariant) in
    skipped_within c.args.gap.now _ c.self.inside.room.limit (map_of missing_cmp c.self.inside.waiting) (map_of missing_cmp c.wait_for_gap.new.waiting) c.wait_for_gap.result (rw (← c.key_count.ensures) room)
    c.wait_for_gap.ensures.ok c.wait_for_gap.ensures.err

pub invariant_of-self-2 : goal.invariant_of-self-2
invariant_of-self-2 c =
    let room : finite.len (map_of missing_cmp c.self.inside.waiting) + c.key_count.result ≤ c.self.inside.room.limit =
    omega (arith, c.if-self-len.false, c.len.ensures, c.from.ensures, c.self.invariant) in
    skipped_within c.args.gap.now _ c.self.inside.room.limit (map_of missing_cmp c.self.inside.waiting) (map_of missing_cmp c.wait_for_gap.new.waiting) c.wait_for_gap.result (rw (← c.key_count.ensures) room)
    c.wait_for_gap.ensures.ok c.wait_for_gap.ensures.err
