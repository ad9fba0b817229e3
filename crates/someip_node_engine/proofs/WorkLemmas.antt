-- A rule was done: what it meets is in the tables, and what it gives is among the outputs.
use Rattle.std.proofs.Common.{◌≡◌, List, [], ◌++◌, refl}
use Rattle.std.specs.List.{flat_map, fold}
use Rattle.std.proofs.lemmas.List.{append-nil}
use Rattle.sd_wire.specs.contents.Values.{EntryValue}
use Rattle.someip_node_rules.specs.declared.output.Output.{Output}
use Rattle.someip_node_rules.specs.histories.Items.{changed}
use Rattle.someip_node_rules.specs.rules.Outcomes.{Outcome}
use Rattle.someip_node_rules.specs.forms.Outputs.{written}
use Rattle.someip_node_rules.specs.rules.Plans.{does, plain, work}
use Rattle.someip_node_rules.specs.histories.Tables.{Tables}

pub done : (outcome : Tables → Outcome) (t new : Tables) (before after : List Output) (replies : List EntryValue)
    → new ≡ fold changed t (outcome t).items → after ≡ before ++ flat_map written (outcome t).given → (outcome t).replies ≡ []
    → work new after replies ≡ does plain outcome (work t before replies)
done outcome t new before after replies items given none = rw (items, given, none, append-nil replies) refl
