use Rattle.std.proofs.Common.{ap, subst, ◌∙◌, rules}
use Rattle.std.specs.Prelude.{◌≢◌}
use Rattle.std.specs.Result.{OnErr}
use Rattle.std.specs.FinMap.{empty, keys}
use Rattle.std.proofs.lemmas.Result.{IfOk-weaker}
use Rattle.someip_tables.specs.Tables.{map_of}
use Rattle.sd_core.specs.Eventgroups.{eventgroup_cmp}
use Rattle.sd_core.specs.Wishes.{has_begun, is_with}
use Rattle.sd_core.specs.WishTables.{begun_where}
use Rattle.sd_core.proofs.ending.begun_with.Goals as goal

pub returns-clause-ended : goal.returns-clause-ended
returns-clause-ended c =
    IfOk-weaker c.keys_where.result _ _ (λ n is. is ∙ ap (λ es. keys (begun_where (λ _ beginning. is_with c.args.peer beginning) (map_of eventgroup_cmp es))) c.held.ensures)
    (c.keys_where.ensures.chosen (λ _ wish. has_begun (λ beginning. is_with c.args.peer beginning) wish.stage) (λ key wish answer said. search rules))

pub returns-clause-grows : goal.returns-clause-grows
returns-clause-grows c =
    subst (λ es. OnErr c.keys_where.result (begun_where (λ _ beginning. is_with c.args.peer beginning) (map_of eventgroup_cmp es) ≢ empty)) c.held.ensures
    (c.keys_where.ensures.grows (λ _ wish. has_begun (λ beginning. is_with c.args.peer beginning) wish.stage) (λ key wish answer said. search rules))
