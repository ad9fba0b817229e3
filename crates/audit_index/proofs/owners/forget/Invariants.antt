use Rattle.std.proofs.Common.{length}
use Rattle.someip_tables.specs.Endpoints.{address_cmp}
use Rattle.someip_tables.specs.Tables.{map_of}
use Rattle.audit_index.specs.Owners.{AreOwned, IsLess}
use Rattle.audit_index.specs.Slots.{stands}
use Rattle.audit_index.proofs.owners.forget.Given as goal

-- what is left lacks at most what the address owns, and is there for its owners
abbrev pub invariant-loop-key : goal.invariant-loop-key
invariant-loop-key g l = record {
  less : IsLess g.V.Owned.owners l.fn.address (map_of g.K.Ord.cmp l.fn.table) (map_of g.K.Ord.cmp l.table);
  owned : AreOwned g.V.Owned.owners (stands address_cmp g.K.Ord.cmp l.owned) (map_of g.K.Ord.cmp l.table);
}

-- each turn uses up a key
abbrev pub decreases-loop-key : goal.decreases-loop-key
decreases-loop-key g l = length l.owned
