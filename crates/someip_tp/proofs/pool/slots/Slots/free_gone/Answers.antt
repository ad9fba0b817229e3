use Rattle.std.proofs.Common.{sym, ◌∙◌}
use Rattle.someip_tp.proofs.reserved_memory.SlotLemmas.{none_gone}
use Rattle.someip_tp.proofs.pool.slots.Slots.free_gone.Goals as goal

pub returns-else-is_over-clause-entries : goal.returns-else-is_over-clause-entries
returns-else-is_over-clause-entries c =
    none_gone c.args.timeout c.args.now c.args.self.now.soonest c.args.self.now.taken.items c.requires.soonest (sym c.is_over.ensures ∙ c.if-is_over.false)
