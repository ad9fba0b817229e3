use Rattle.std.proofs.Common.{map, sym, ◌∙◌}
use Rattle.std.specs.List.{list_any}
use Rattle.std.specs.Option.{is_some}
use Rattle.toml.specs.View.{view}
use Rattle.someip_world_setup_keys.specs.KnownKeys.{has_unknown, listed_at, listed_in}
use Rattle.someip_texts.proofs.FoundLemmas.{all_asked}
use Rattle.someip_world_setup_keys.proofs.FoundLemmas.{list_any-below}
use Rattle.someip_world_setup_keys.proofs.unknown.unknown_below.Goals as goal

pub returns : goal.returns
returns c =
    all_asked (λ d. list_any (has_unknown c.args.subject) (listed_in c.args.inner.now (listed_at c.args.outer.now d))) view (is_some c.loop-table.least) c.loop-table.table-index c.args.tables.now c.loop-table-test.false c.loop-table.invariant
    ∙ sym (list_any-below (has_unknown c.args.subject) (listed_at c.args.inner.now) (listed_at c.args.outer.now) (map view c.args.tables.now))
