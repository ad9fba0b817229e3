use Rattle.someip_tables.specs.Tables.{map_of}
use Rattle.sd_core.specs.Keys.{instance_cmp}
use Rattle.sd_core.proofs.OfferLemmas.{due_of_none, none_due}
use Rattle.sd_core.proofs.offers.Offers.next_due.Goals as goal

pub returns : goal.returns
returns c = λ now.
    rw (← c.self.view_is) (
      (λ due none. (c.first_due.ensures now).0 due (none_due now (map_of instance_cmp c.self.inside.offerings) none)),
      (λ some. (c.first_due.ensures now).1 (λ none. some (due_of_none now (map_of instance_cmp c.self.inside.offerings) none))),
    )
