use Rattle.std.proofs.Common.{◌∙◌, sym}
use Rattle.someip_tables.specs.Tables.{map_of}
use Rattle.sd_core.specs.Eventgroups.{eventgroup_cmp}
use Rattle.sd_core.proofs.WishLemmas.{due_is}
use Rattle.sd_core.proofs.subscriptions.Subscriptions.next_due.Goals as goal

pub returns : goal.returns
returns c = λ now.
    rw (← c.self.view_is) (
      (λ due none. (c.first_due.ensures now).0 due (due_is now (map_of eventgroup_cmp c.self.inside.wishes) ∙ none)),
      (λ some. (c.first_due.ensures now).1 (λ none. some (sym (due_is now (map_of eventgroup_cmp c.self.inside.wishes)) ∙ none))),
    )
