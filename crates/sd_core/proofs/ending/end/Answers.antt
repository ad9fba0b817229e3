use Rattle.std.proofs.Common.{◌∙◌, rules}
use Rattle.sd_core.specs.declared.wish.Wish.{Wish}
use Rattle.sd_core.specs.declared.wish.Stage.TheVariants.{Waiting}
use Rattle.sd_core.specs.Endings.{ends_by}
use Rattle.sd_core.specs.Wishes.{has_begun}
use Rattle.sd_core.proofs.ending.end.Goals as goal

pub returns-clause-after : goal.returns-clause-after
returns-clause-after c =
    c.change_those.ensures (λ _ (wish : Wish). record wish { stage = Waiting }) (λ eventgroup wish. has_begun (ends_by c.args.ending c.args.passed.now eventgroup) wish.stage)
    (λ key value answer said. search rules) (c.deref.ensures.value ∙ c.in_ok-ended.ensures.ended)
