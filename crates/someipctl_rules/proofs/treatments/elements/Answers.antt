use Rattle.std.proofs.Common.{Option, Some, List, sym, ap, ◌∙◌, option_map}
use Rattle.toml.specs.Data.{Data, Items}
use Rattle.someipctl_show.specs.types.Tables.{elements}
use Rattle.someipctl_show.proofs.about_types.TableLemmas.{elements-items_of}
use Rattle.someipctl_rules.proofs.treatments.elements.Goals as goal

pub returns-in-Some : goal.returns-in-Some
returns-in-Some c =
    rw (c.deref.ensures.value) (ap (λ (t : List Data). Some t) (sym (elements-items_of _)) ∙ ap (λ (t : Option Items). option_map elements t) c.in-Some.ensures)
