use Rattle.audit_traffic.proofs.calls.call_book.CallBook.due.Goals as goal

pub returns-clause-none : goal.returns-clause-none
returns-clause-none c = rw (← c.self.view_is) c.next_overdue.ensures.none
