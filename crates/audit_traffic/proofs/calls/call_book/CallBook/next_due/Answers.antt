use Rattle.someip_tables.proofs.about_hashed.FirstDues.{due_from_first, never_due}
use Rattle.audit_traffic.specs.calls.CallOrder.{calls_total, exact_calls}
use Rattle.audit_traffic.specs.calls.KnownCalls.{waits_of}
use Rattle.audit_traffic.proofs.calls.call_book.CallBook.next_due.Goals as goal

pub returns-in-Some : goal.returns-in-Some
returns-in-Some c = rw (← c.self.view_is) (due_from_first calls_total exact_calls waits_of c.self.inside.calls c.in-Some.due c.in-Some.ensures)

pub returns-in-None : goal.returns-in-None
returns-in-None c = rw (← c.self.view_is) (never_due calls_total exact_calls waits_of c.self.inside.calls c.in-None.ensures)
