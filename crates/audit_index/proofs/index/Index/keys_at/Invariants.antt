use Rattle.std.proofs.Common.{◌≡◌, ◌++◌}
use Rattle.audit_index.specs.Slots.{keys_at}
use Rattle.audit_index.proofs.KeysAtLemmas.{IsLeft}
use Rattle.audit_index.proofs.index.Index.keys_at.Given as goal

-- with those that are left of the place all are there
abbrev pub invariant-loop-slot : goal.invariant-loop-slot
invariant-loop-slot g l = record {
  left : IsLeft g.P.Ord.cmp g.K.Ord.cmp l.fn.place l.slot-iterator;
  keys : l.keys.items ++ keys_at g.P.Ord.cmp l.fn.place l.slot-iterator ≡ keys_at g.P.Ord.cmp l.fn.place l.fn.self;
}
