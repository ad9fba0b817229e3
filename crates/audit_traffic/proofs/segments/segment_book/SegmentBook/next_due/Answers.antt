use Rattle.someip_tables.specs.Tables.{map_of}
use Rattle.someip_tables.proofs.about_hashed.FirstDues.{due_from_first, never_due}
use Rattle.audit_traffic.specs.segments.MessageKeys.{message_cmp, messages_total, exact_messages}
use Rattle.audit_traffic.specs.segments.SegmentWaits.{waits_of}
use Rattle.audit_traffic.proofs.segments.segment_book.SegmentBook.next_due.Goals as goal

pub returns-in-Some : goal.returns-in-Some
returns-in-Some g c =
    rw (← c.self.view_is) (due_from_first messages_total exact_messages waits_of (map_of message_cmp c.self.inside.waiting) c.in-Some.due c.in-Some.ensures)

pub returns-in-None : goal.returns-in-None
returns-in-None g c = rw (← c.self.view_is) (never_due messages_total exact_messages waits_of (map_of message_cmp c.self.inside.waiting) c.in-None.ensures)
