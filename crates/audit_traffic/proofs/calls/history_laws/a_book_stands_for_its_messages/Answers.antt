use Rattle.audit_traffic.proofs.about_calls.HistoryLemmas.{new_stands, saw_stands, told_stands, due_stands, none_due_stands}
use Rattle.audit_traffic.proofs.calls.history_laws.a_book_stands_for_its_messages.Goals as goal

pub returns-clause-new : goal.returns-clause-new
returns-clause-new c = new_stands

pub returns-clause-saw : goal.returns-clause-saw
returns-clause-saw c = saw_stands

pub returns-clause-told : goal.returns-clause-told
returns-clause-told c = told_stands

pub returns-clause-due : goal.returns-clause-due
returns-clause-due c = due_stands

pub returns-clause-none_due : goal.returns-clause-none_due
returns-clause-none_due c = none_due_stands
