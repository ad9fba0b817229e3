use Rattle.std.proofs.Common.{◌≡◌, ◌++◌}
use Rattle.audit_services.proofs.table.listed.Given as goal

-- with those that are left all are listed
abbrev pub invariant-loop-key : goal.invariant-loop-key
invariant-loop-key g l = l.list.items ++ l.key-iterator ≡ l.fn.keys.keys
