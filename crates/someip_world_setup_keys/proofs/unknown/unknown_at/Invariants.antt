use Rattle.std.specs.Option.{is_some}
use Rattle.std.specs.List.{list_any}
use Rattle.toml.specs.View.{view}
use Rattle.someip_world_setup_keys.specs.KnownKeys.{has_unknown, listed_at}
use Rattle.someip_texts.proofs.FoundLemmas.{HasFound}
use Rattle.someip_world_setup_keys.proofs.unknown.unknown_at.Given as goal

abbrev pub invariant-loop-table : goal.invariant-loop-table
invariant-loop-table l = HasFound (λ d. list_any (has_unknown l.fn.subject) (listed_at l.key d)) view (is_some l.least) l.table-index l.tables
