use Rattle.someip_tp.proofs.reserved_memory.BlockLemmas.{tied_so, up_to_set}
use Rattle.someip_tp.proofs.pool.block.tie.Goals as goal

pub returns-clause-tied : goal.returns-clause-tied
returns-clause-tied c = tied_so c.args.message c.args.blocks.now c.args.k c.args.first c.args.last c.requires.inside c.requires.tied c.requires.first c.requires.last

pub returns-clause-numbers : goal.returns-clause-numbers
returns-clause-numbers c = λ top le all.
    up_to_set top _ c.args.last _ le (up_to_set top _ c.args.first _ le (up_to_set top c.args.blocks.now c.args.k _ le all))
