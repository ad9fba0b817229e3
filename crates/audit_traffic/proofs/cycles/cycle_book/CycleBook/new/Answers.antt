use Rattle.audit_traffic.proofs.about_cycles.SilenceLemmas.{none_within}
use Rattle.audit_traffic.proofs.cycles.cycle_book.CycleBook.new.Goals as goal

pub invariant_of-result : goal.invariant_of-result
invariant_of-result c = none_within _ c.new.result.limit c.new-2.ensures
