use Rattle.std.proofs.Common.{arith}
use Rattle.someip_tables.specs.Tables.{map_of}
use Rattle.audit_traffic.specs.events.FlowKeys.{flow_cmp}
use Rattle.audit_traffic.proofs.about_cycles.SilenceLemmas.{none_by, none_ever}
use Rattle.audit_traffic.proofs.cycles.watching.first_silent.Goals as goal

pub returns-in_default : goal.returns-in_default
returns-in_default c = none_ever c.args.now (map_of flow_cmp c.args.watches.now) c.in_default.ensures

pub returns-then-as_millis-due : goal.returns-then-as_millis-due
returns-then-as_millis-due c = none_by c.args.now (map_of flow_cmp c.args.watches.now) c.in-Some.due c.in-Some.ensures (omega (arith, c.as_millis.ensures.value, c.if-as_millis-due.true))
