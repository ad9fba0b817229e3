use Rattle.std.proofs.Common.{◌≡◌, true}
use Rattle.someip_tables.specs.Tables.{map_of}
use Rattle.someip_tables.specs.hashed.Rooms.{may_hold}
use Rattle.audit_traffic.specs.events.FlowKeys.{flow_cmp}
use Rattle.audit_traffic.proofs.about_cycles.SilenceLemmas.{still_within}
use Rattle.audit_traffic.proofs.cycles.cycle_book.CycleBook.came.Goals as goal

pub invariant_of-self-2 : goal.invariant_of-self-2
invariant_of-self-2 c =
    let may : may_hold c.self.inside.room.limit (map_of flow_cmp c.self.inside.watched) c.args.flow ≡ true = rw (← c.get.ensures, ← c.is_some-is_held.ensures, ← c.len.ensures, ← c.may_hold.ensures) c.if-not-may_hold.false in
    still_within (map_of flow_cmp c.self.inside.watched) (map_of flow_cmp c.insert.new.self) c.self.inside.room.limit c.args.flow _ c.in_ok-insert.ensures.ok may c.self.invariant
