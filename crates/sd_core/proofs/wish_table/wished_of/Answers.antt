use Rattle.std.proofs.Common.{rules}
use Rattle.sd_core.specs.declared.wish.Wish.{Wish}
use Rattle.sd_core.specs.Wishes.{is_wished}
use Rattle.sd_core.proofs.wish_table.wished_of.Goals as goal

pub returns-clause-wished : goal.returns-clause-wished
returns-clause-wished c = c.keys_of.ensures.chosen (λ (wish : Wish). is_wished wish.stage) (λ wish answer said. search rules)

pub returns-clause-grows : goal.returns-clause-grows
returns-clause-grows c = c.keys_of.ensures.grows (λ (wish : Wish). is_wished wish.stage) (λ wish answer said. search rules)
