use Rattle.std.proofs.Common.{◌≡◌}
use Rattle.audit_endpoints.specs.Learning.{learnt_of_items}
use Rattle.audit_endpoints.proofs.learner.Learner.saw.Given as goal

-- what the items that are left teach now is what all teach
abbrev pub invariant-loop-item : goal.invariant-loop-item
invariant-loop-item l = learnt_of_items l.origin l.item-iterator l.self-inside.watched ≡ learnt_of_items l.origin l.initial.item-iterator l.initial.self-inside.watched
