use Rattle.std.proofs.Common.{sym, ◌∙◌}
use Rattle.audit_stats.specs.Keys.{call_cmp}
use Rattle.audit_stats.specs.KeyOrder.{calls}
use Rattle.audit_stats.specs.Tables.{held_by}
use Rattle.audit_stats.proofs.TableLemmas.{put_back, taken_back}
use Rattle.audit_stats.proofs.calls.take_back.Goals as goal

pub returns-in-Some : goal.returns-in-Some
returns-in-Some c = λ old now has is.
    put_back calls.total calls.exact old (held_by call_cmp c.args.waiting.now) (held_by call_cmp c.put.new.self) c.args.call now c.in-Some.at c.put.result (sym c.in-Some.is ∙ has) is c.put.ensures.ok c.put.ensures.grows

pub returns-in-None : goal.returns-in-None
returns-in-None c = λ old now none is.
    taken_back calls.total calls.exact old (held_by call_cmp c.args.waiting.now) (held_by call_cmp c.remove.new.self) c.args.call now (sym c.in-None.is ∙ none) is c.remove.ensures
