use Rattle.std.proofs.Common.{not, arith}
use Rattle.someip_tables.specs.Tables.{map_of}
use Rattle.someip_tables.proofs.Entries.{len-retain-≤}
use Rattle.audit_traffic.specs.gaps.MissingKeys.{is_from, missing_cmp}
use Rattle.audit_traffic.specs.gaps.MissingOrder.{exact_missing, missing_total}
use Rattle.audit_traffic.proofs.gaps.gap_book.GapBook.forget.Goals as goal

pub invariant_of-self : goal.invariant_of-self
invariant_of-self c =
    let less = len-retain-≤ missing_total exact_missing (map_of missing_cmp c.self.inside.waiting) (λ key _. not (is_from c.args.address key)) in
    rw c.forget.ensures (omega (arith, less, c.self.invariant))
