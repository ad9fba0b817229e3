use Rattle.std.proofs.Common.{ap, ◌∙◌, rules}
use Rattle.someip_tables.specs.Tables.{map_of}
use Rattle.sd_core.specs.Keys.{instance_cmp}
use Rattle.sd_core.specs.OfferTables.{offers_of}
use Rattle.someip_tables.proofs.Outcomes.{on_err}
use Rattle.sd_core.proofs.OfferLemmas.{offering_is_due, sent_offering, due_keys, none_due, all_advanced}
use Rattle.sd_core.proofs.offers.Offers.tick.Goals as goal

pub returns-in_err-due-clause-grows : goal.returns-in_err-due-clause-grows
returns-in_err-due-clause-grows c =
    on_err c.from_residual.result (rw (← c.self.view_is) (λ is. c.in_err-due.ensures.grows (none_due c.args.now (map_of instance_cmp c.self.inside.offerings) is)))

pub returns-clause-due : goal.returns-clause-due
returns-clause-due c = rw (← c.self.view_is) (c.in_ok-due.ensures.due ∙ due_keys c.args.now (map_of instance_cmp c.self.inside.offerings))

pub returns-clause-after : goal.returns-clause-after
returns-clause-after c =
    rw (← c.self.view_is)
    (ap offers_of (c.change_those.ensures (λ _ p. sent_offering c.args.phases c.args.now p) (offering_is_due c.args.now) (λ key value answer said. search rules) (c.deref.ensures.value ∙ c.in_ok-due.ensures.due))
    ∙ all_advanced c.args.phases c.args.now (map_of instance_cmp c.self.inside.offerings))
