use Rattle.std.proofs.Common.{arith}
use Rattle.someip_tables.specs.Tables.{map_of}
use Rattle.someip_tables.proofs.MapLaws.{len-remove-≤}
use Rattle.audit_traffic.specs.gaps.MissingKeys.{missing_cmp}
use Rattle.audit_traffic.specs.gaps.MissingOrder.{exact_missing, missing_total}
use Rattle.audit_traffic.proofs.gaps.gap_book.GapBook.due.Goals as goal

pub invariant_of-self : goal.invariant_of-self
invariant_of-self c =
    let less = len-remove-≤ missing_total exact_missing (map_of missing_cmp c.self.inside.waiting) c.in-Some.lost.key in
    rw c.remove.ensures (omega (arith, less, c.self.invariant))
