use Rattle.std.proofs.Common.{map}
use Rattle.std.specs.FinMap as finite
use Rattle.someip_tables.specs.Tables.{map_of}
use Rattle.audit_services.specs.declared.why.Why.TheVariants.{Open}
use Rattle.audit_services.specs.Stays.{ended_of}
use Rattle.audit_services.proofs.EntryLemmas.{IsToldSoFar}
use Rattle.audit_services.proofs.table.Table.tell_open.Given as goal

-- a beginning of what stands was told, and the rest is left
abbrev pub invariant-loop-key : goal.invariant-loop-key
invariant-loop-key g l = IsToldSoFar l.fn.ended.items l.ended.items (map (ended_of Open l.at) (finite.entries (map_of g.K.Ord.cmp l.fn.self))) (map (ended_of Open l.at) l.key-iterator)
