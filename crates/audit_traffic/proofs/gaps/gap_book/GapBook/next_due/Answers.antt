use Rattle.someip_tables.specs.Tables.{map_of}
use Rattle.someip_tables.proofs.about_hashed.FirstDues.{due_from_first, never_due}
use Rattle.audit_traffic.specs.gaps.GapRules.{waits_until}
use Rattle.audit_traffic.specs.gaps.MissingKeys.{missing_cmp}
use Rattle.audit_traffic.specs.gaps.MissingOrder.{exact_missing, missing_total}
use Rattle.audit_traffic.proofs.gaps.gap_book.GapBook.next_due.Goals as goal

pub returns-in-Some : goal.returns-in-Some
returns-in-Some c = rw (← c.self.view_is) (due_from_first missing_total exact_missing waits_until (map_of missing_cmp c.self.inside.waiting) c.in-Some.due c.in-Some.ensures)

pub returns-in-None : goal.returns-in-None
returns-in-None c = rw (← c.self.view_is) (never_due missing_total exact_missing waits_until (map_of missing_cmp c.self.inside.waiting) c.in-None.ensures)
