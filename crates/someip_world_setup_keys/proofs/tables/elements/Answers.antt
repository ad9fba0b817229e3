use Rattle.std.proofs.Common.{Option, Some, List, sym, ap, ◌∙◌, option_map}
use Rattle.toml.specs.Data.{Data, Items}
use Rattle.someip_world_setup_keys.specs.Lists.{elements}
use Rattle.someip_world_setup_keys.proofs.ReadingLemmas.{elements-items_of}
use Rattle.someip_world_setup_keys.proofs.tables.elements.Goals as goal

pub returns-in-Some : goal.returns-in-Some
returns-in-Some c =
    rw (c.deref.ensures.value) (ap (λ (t : List Data). Some t) (sym (elements-items_of _)) ∙ ap (λ (t : Option Items). option_map elements t) c.in-Some.ensures)
