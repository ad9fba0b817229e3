use Rattle.std.proofs.Common.{subst, IfSome}
use Rattle.someip_node_rules.specs.histories.History.{History}
use Rattle.someip_node_rules.specs.steps.Steps.{StandsFor}
use Rattle.someip_node_rules.specs.steps.Waking.{IsNextDue}
use Rattle.someip_c_node.proofs.node.CNode.next_due.Goals as goal

pub returns-clause-due : goal.returns-clause-due
returns-clause-due c = subst (λ v. IfSome c.next_due.result (λ ms. (h : History) → StandsFor v.node h → IsNextDue h ms)) c.self.view_is c.next_due.ensures.due
