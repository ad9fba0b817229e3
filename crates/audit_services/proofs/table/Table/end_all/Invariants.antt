use Rattle.std.proofs.Common.{◌≡◌, ◌++◌, List, map, drop}
use Rattle.std.specs.List.Sorted.{IsStrictlySortedBy}
use Rattle.someip_tables.specs.Tables.{map_of}
use Rattle.audit_services.specs.declared.stay.Ended.{Ended}
use Rattle.audit_services.specs.Stays.{IsBegun, ended_of, entries_at, without_keys}
use Rattle.audit_services.proofs.EntryLemmas.{IsToldSoFar}
use Rattle.audit_services.proofs.table.Table.end_all.Given as goal

-- a beginning of what is to be told was appended, and what is left to tell stands
abbrev pub invariant-loop-key : goal.invariant-loop-key
invariant-loop-key g l = record {
  sorted : IsStrictlySortedBy g.K.Ord.cmp (drop l.key-index l.keys);
  told :
      IsToldSoFar l.fn.ended.items l.ended.items (map (ended_of l.why l.at) (entries_at (map_of g.K.Ord.cmp l.fn.self) l.keys))
      (map (ended_of l.why l.at) (entries_at (map_of g.K.Ord.cmp l.self) (drop l.key-index l.keys)));
  left : without_keys (map_of g.K.Ord.cmp l.self) (drop l.key-index l.keys) ≡ without_keys (map_of g.K.Ord.cmp l.fn.self) l.keys;
}
