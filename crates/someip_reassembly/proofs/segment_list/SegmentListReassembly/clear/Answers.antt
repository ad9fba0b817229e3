use Rattle.std.proofs.Common.{sym, subst}
use Rattle.someip_reassembly.specs.Parts.{NoneAfter}
use Rattle.someip_reassembly.specs.Stores.{parts_of_entries}
use Rattle.someip_reassembly.proofs.MomentLemmas.{none_in_empty}
use Rattle.someip_reassembly.proofs.segment_list.SegmentListReassembly.clear.Goals as goal

pub returns-clause-moments : goal.returns-clause-moments
returns-clause-moments c = λ at. subst (λ items. NoneAfter at (parts_of_entries items)) (sym c.clear.ensures.items) (none_in_empty at)
