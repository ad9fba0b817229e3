use Rattle.std.proofs.Common.{sym, ap, subst, ◌∙◌}
use Rattle.someip_reassembly.specs.Parts.{NoneAfter}
use Rattle.someip_reassembly.specs.SegmentOffers.{parts_less}
use Rattle.someip_reassembly.specs.Stores.{parts_of_entries}
use Rattle.someip_reassembly.proofs.MomentLemmas.{none_after-take}
use Rattle.someip_reassembly.proofs.segment_list.SegmentListReassembly.take.Goals as goal

pub returns-in_err-taken-clause-moments : goal.returns-in_err-taken-clause-moments
returns-in_err-taken-clause-moments c = λ at none.
    subst (NoneAfter at) (sym (ap parts_of_entries c.in_err-taken.ensures.err.0 ∙ ap (λ s. s.parts) c.self.view_is)) none

pub returns-clause-moments : goal.returns-clause-moments
returns-clause-moments c = λ at none.
    subst (NoneAfter at) (sym (c.in_ok-taken.ensures.parts ∙ ap (λ s. parts_less s.parts c.args.key.now) c.self.view_is)) (none_after-take at c.args.key.now c.args.self.now.parts none)
