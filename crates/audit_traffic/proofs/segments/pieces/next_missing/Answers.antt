use Rattle.std.proofs.Common.{arith}
use Rattle.someip_tables.specs.Tables.{map_of}
use Rattle.audit_traffic.specs.segments.MessageKeys.{message_cmp}
use Rattle.audit_traffic.proofs.about_segments.MissingLemmas.{all_later, told_is_first}
use Rattle.audit_traffic.proofs.segments.pieces.next_missing.Goals as goal

pub returns-then-due-as_millis-clause-none : goal.returns-then-due-as_millis-clause-none
returns-then-due-as_millis-clause-none c =
    all_later c.args.now (map_of message_cmp c.args.waiting.now) c.in-Some.due c.in-Some.ensures (omega arith)

pub returns-in-Some-get-clause-first : goal.returns-in-Some-get-clause-first
returns-in-Some-get-clause-first c =
    told_is_first (map_of message_cmp c.args.waiting.now) c.in-Some.due c.in-Some-get.told c.in-Some.ensures c.in-Some-get.ensures
