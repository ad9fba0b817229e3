use Rattle.std.proofs.Common.{true, ap, subst, ◌∙◌, rules}
use Rattle.std.specs.Prelude.{◌≢◌}
use Rattle.std.specs.Result.{OnErr}
use Rattle.std.specs.FinMap.{empty, keys}
use Rattle.std.proofs.lemmas.Result.{IfOk-weaker}
use Rattle.someip_tables.specs.Tables.{map_of}
use Rattle.sd_core.specs.Eventgroups.{eventgroup_cmp}
use Rattle.sd_core.specs.declared.wish.Wish.{Wish}
use Rattle.sd_core.specs.Wishes.{has_begun}
use Rattle.sd_core.proofs.WishLemmas.{begun_is}
use Rattle.sd_core.proofs.wish_table.begun_of.Goals as goal

pub returns-clause-begun : goal.returns-clause-begun
returns-clause-begun c =
    IfOk-weaker c.keys_of.result _ _ (λ n is. is ∙ ap keys (begun_is c.args.instance (map_of eventgroup_cmp c.args.table.now)))
    (c.keys_of.ensures.chosen (λ (wish : Wish). has_begun (λ _. true) wish.stage) (λ wish answer said. search rules))

pub returns-clause-grows : goal.returns-clause-grows
returns-clause-grows c =
    subst (λ begun. OnErr c.keys_of.result (begun ≢ empty)) (begun_is c.args.instance (map_of eventgroup_cmp c.args.table.now))
    (c.keys_of.ensures.grows (λ (wish : Wish). has_begun (λ _. true) wish.stage) (λ wish answer said. search rules))
