use Rattle.std.proofs.Common.{sym, ap, subst, ◌∙◌}
use Rattle.someip_reassembly.specs.Parts.{Limits, NoneAfter, parts_at}
use Rattle.someip_reassembly.specs.Stores.{parts_of_entries}
use Rattle.someip_tp.specs.Pools.{entries_in}
use Rattle.someip_reassembly.proofs.MomentLemmas.{none_after-parts_at}
use Rattle.someip_reassembly.proofs.StoreLemmas.{left_parts}
use Rattle.someip_tp.proofs.reserved_memory.RisingLemmas.{apart}
use Rattle.someip_tp.proofs.pool.interval_pool.IntervalPoolReassembly.expire.Goals as goal

pub returns-clause-parts : goal.returns-clause-parts
returns-clause-parts c =
    let slots = c.self.inside.slots in
    let limits : Limits = record { slots = slots.count; limit = slots.limit; timeout = c.self.inside.timeout } in
    ap parts_of_entries c.free_gone.ensures.entries ∙ (left_parts limits c.args.now (entries_in slots) (apart (entries_in slots) c.self.invariant.rising) ∙ ap (λ s. parts_at s.limits c.args.now s.parts) c.self.view_is)

pub returns-clause-moments : goal.returns-clause-moments
returns-clause-moments c = λ at none. subst (NoneAfter at) (sym (returns-clause-parts c)) (none_after-parts_at at c.args.self.now.limits c.args.now c.args.self.now.parts none)
