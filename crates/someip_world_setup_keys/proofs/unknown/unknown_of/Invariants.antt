use Rattle.std.specs.Option.{is_some}
use Rattle.toml.specs.View.{view}
use Rattle.someip_world_setup_keys.specs.KnownKeys.{has_unknown}
use Rattle.someip_texts.proofs.FoundLemmas.{HasFound}
use Rattle.someip_world_setup_keys.proofs.unknown.unknown_of.Given as goal

abbrev pub invariant-loop-table : goal.invariant-loop-table
invariant-loop-table l = HasFound (has_unknown l.fn.subject) view (is_some l.least) l.table-index l.tables
