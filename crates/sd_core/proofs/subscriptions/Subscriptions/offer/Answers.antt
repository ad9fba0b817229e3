use Rattle.std.proofs.Common.{◌∙◌, rules}
use Rattle.someip_tables.specs.Tables.{map_of}
use Rattle.sd_core.specs.Eventgroups.{eventgroup_cmp}
use Rattle.sd_core.specs.Wishes.{is_renewed_by, subscribing}
use Rattle.someip_tables.proofs.Outcomes.{on_err}
use Rattle.sd_core.proofs.WishLemmas.{wished_sent}
use Rattle.sd_core.proofs.subscriptions.Subscriptions.offer.Goals as goal

pub returns-in_err-wished-clause-grows : goal.returns-in_err-wished-clause-grows
returns-in_err-wished-clause-grows c =
    on_err c.from_residual.result (rw (← c.self.view_is) (wished_sent c.args.now c.args.instance c.args.peer (map_of eventgroup_cmp c.self.inside.wishes) c.in_err-wished.ensures.grows))

pub returns-clause-begun : goal.returns-clause-begun
returns-clause-begun c =
    rw (← c.self.view_is)
    (c.change_those.ensures (λ _ wish. subscribing c.args.now c.args.peer wish) (is_renewed_by c.args.instance) (λ key value answer said. search rules) (c.deref.ensures.value ∙ c.in_ok-wished.ensures.wished))
