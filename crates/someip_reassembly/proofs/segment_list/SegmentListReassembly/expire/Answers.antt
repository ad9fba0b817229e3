use Rattle.std.proofs.Common.{sym, ap, subst, ◌∙◌}
use Rattle.someip_reassembly.specs.Parts.{Limits, NoneAfter, parts_at}
use Rattle.someip_reassembly.specs.Stores.{parts_of_entries}
use Rattle.someip_reassembly.proofs.MomentLemmas.{none_after-parts_at}
use Rattle.someip_reassembly.proofs.StoreLemmas.{left_distinct, left_parts}
use Rattle.someip_reassembly.proofs.segment_list.SegmentListReassembly.expire.Goals as goal

pub invariant_of-self : goal.invariant_of-self
invariant_of-self c = rw c.drop_gone.ensures (left_distinct c.self.inside.timeout c.args.now c.self.inside.partials.items c.self.invariant)

pub returns-clause-parts : goal.returns-clause-parts
returns-clause-parts c =
    let limits : Limits = record { slots = c.self.inside.slots; limit = c.self.inside.limit; timeout = c.self.inside.timeout } in
    ap parts_of_entries c.drop_gone.ensures ∙ (left_parts limits c.args.now c.self.inside.partials.items c.self.invariant ∙ ap (λ s. parts_at s.limits c.args.now s.parts) c.self.view_is)

pub returns-clause-moments : goal.returns-clause-moments
returns-clause-moments c = λ at none. subst (NoneAfter at) (sym (returns-clause-parts c)) (none_after-parts_at at c.args.self.now.limits c.args.now c.args.self.now.parts none)
