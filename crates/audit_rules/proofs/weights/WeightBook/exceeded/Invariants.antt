use Rattle.std.proofs.Common.{◌≡◌, ◌++◌, drop}
use Rattle.audit_rules.specs.Weighing.{exceeded_of}
use Rattle.audit_rules.proofs.weights.WeightBook.exceeded.Given as goal

-- what was added, and what is left to add, is all
abbrev pub invariant-loop-number : goal.invariant-loop-number
invariant-loop-number l = l.list.items ++ exceeded_of l.self.bounded l.number (drop l.number l.self.rules) ≡ exceeded_of l.self.bounded 0 l.self.rules
