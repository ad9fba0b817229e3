use Rattle.std.proofs.Common.{◌≡◌, ◌++◌, drop}
use Rattle.audit_rules.specs.Weighing.{exceeded_from}
use Rattle.audit_rules.proofs.weights.add_exceeded.Given as goal

-- what was added, and what is left to add, is all
abbrev pub invariant-loop-kind : goal.invariant-loop-kind
invariant-loop-kind l =
    l.list.items ++ exceeded_from l.rule l.bounded l.number l.kind (drop l.kind l.rule.treatments)
    ≡ l.initial.list.items ++ exceeded_from l.rule l.bounded l.number 0 l.rule.treatments
