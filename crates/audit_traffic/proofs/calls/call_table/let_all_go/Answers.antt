use Rattle.std.proofs.Common.{◌∙◌}
use Rattle.someip_tables.specs.Tables.{map_of}
use Rattle.audit_traffic.specs.calls.AuditedCalls.{call_cmp}
use Rattle.audit_traffic.proofs.about_calls.TableLemmas.{all_stay, fewer, less_gone}
use Rattle.audit_traffic.proofs.calls.call_table.let_all_go.Goals as goal

pub loop-call-preserved : goal.loop-call-preserved
loop-call-preserved c =
    less_gone c.args.now (map_of call_cmp c.loop-call.answered) (map_of call_cmp c.remove.new.self) c.in-Some.call c.remove.ensures c.in-Some.ensures.gone ∙ c.loop-call.invariant

pub loop-call-smaller : goal.loop-call-smaller
loop-call-smaller c = fewer (map_of call_cmp c.loop-call.answered) (map_of call_cmp c.remove.new.self) c.in-Some.call c.remove.ensures c.in-Some.ensures.there

pub returns : goal.returns
returns c = all_stay c.args.now (map_of call_cmp c.loop-call.answered) c.in_default.ensures.none ∙ c.loop-call.invariant
