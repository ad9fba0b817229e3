use Rattle.someip_node_engine.proofs.WakingLemmas.{brings_nothing_before, brings_something_from}
use Rattle.someip_node_engine.proofs.engine.Engine.first_due.Goals as goal

pub returns-clause-before : goal.returns-clause-before
returns-clause-before g c = λ now.
    rw (c.earlier.ensures, c.earlier-answers.ensures, c.earlier-instances.ensures, ← c.self.view_is)
    (brings_nothing_before _ now c.next_due.result c.next_due-2.result c.next_due-3.result c.next_due-4.result c.next_due.ensures c.next_due-2.ensures c.next_due-3.ensures.due c.next_due-4.ensures)

pub returns-clause-from : goal.returns-clause-from
returns-clause-from g c = λ now.
    rw (c.earlier.ensures, c.earlier-answers.ensures, c.earlier-instances.ensures, ← c.self.view_is)
    (brings_something_from _ now c.next_due.result c.next_due-2.result c.next_due-3.result c.next_due-4.result c.next_due.ensures c.next_due-2.ensures c.next_due-3.ensures.due c.next_due-4.ensures)
