use Rattle.std.proofs.Common.{◌≡◌, drop}
use Rattle.std.specs.FinMap as finite
use Rattle.someip_tables.specs.Tables.{map_of}
use Rattle.audit_services.proofs.EntryLemmas.{set_if}
use Rattle.audit_services.proofs.table.Table.renew_all.Given as goal

-- once the keys that are left have it too, all have it
abbrev pub invariant-loop-key : goal.invariant-loop-key
invariant-loop-key g l =
    (q : g.row.K.Denot) → set_if g.K.Ord.cmp l.until q (drop l.key-index l.keys) (finite.get (map_of g.K.Ord.cmp l.self) q) ≡ set_if g.K.Ord.cmp l.until q l.keys (finite.get (map_of g.K.Ord.cmp l.fn.self) q)
