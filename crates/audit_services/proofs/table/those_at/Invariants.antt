use Rattle.std.proofs.Common.{◌≡◌, ◌++◌, drop, filter}
use Rattle.audit_services.specs.Places.{is_among}
use Rattle.audit_services.proofs.table.those_at.Given as goal

-- with those that are left all are there
abbrev pub invariant-loop-key : goal.invariant-loop-key
invariant-loop-key g l = l.those.items ++ filter (λ key. is_among g.P.Ord.cmp l.place (g.K.Placed.places key)) (drop l.key-index l.keys) ≡ filter (λ key. is_among g.P.Ord.cmp l.place (g.K.Placed.places key)) l.keys
