use Rattle.std.proofs.Common.{sym, ◌∙◌}
use Rattle.someip_tp.proofs.reserved_memory.BlockLemmas.{first_found}
use Rattle.someip_tp.proofs.pool.block.first_to.Goals as goal

pub returns-then-is_held : goal.returns-then-is_held
returns-then-is_held c = first_found c.args.message c.args.blocks.now c.args.k _ c.requires.tied c.requires.new c.if-k-gt0.true (sym c.is_held.ensures ∙ c.if-is_held.true)
