use Rattle.std.proofs.Common.{◌≡◌, drop}
use Rattle.std.specs.List.{position_from}
use Rattle.audit_rules.specs.Fitting.{first_that_fits, fits}
use Rattle.audit_rules.proofs.rules.first_of.Given as goal

-- no rule so far fits: the first that does is among those that are left
abbrev pub invariant-loop-i : goal.invariant-loop-i
invariant-loop-i l = position_from (fits l.service l.method) l.i (drop l.i l.rules) ≡ first_that_fits l.service l.method l.rules
