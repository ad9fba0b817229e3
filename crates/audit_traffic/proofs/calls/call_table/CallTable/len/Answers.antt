use Rattle.std.proofs.Common.{◌≡◌, ◌+◌, ap, sym, ◌∙◌, arith}
use Rattle.std.specs.FinMap.{len}
use Rattle.someip_tables.specs.Tables.{map_of}
use Rattle.audit_traffic.specs.calls.AuditedCalls.{call_cmp}
use Rattle.audit_traffic.proofs.about_calls.TableLemmas.{len-all}
use Rattle.audit_traffic.proofs.calls.call_table.CallTable.len.Goals as goal

pub overflow_add-result : goal.overflow_add-result
overflow_add-result c =
    let both : len c.args.self.now ≡ c.len.result + c.len-2.result =
    ap len (sym c.self.view_is) ∙ len-all (map_of call_cmp c.self.inside.asked) (map_of call_cmp c.self.inside.answered) c.self.invariant ∙ ap (λ n. n + len (map_of call_cmp c.self.inside.answered)) (sym c.len.ensures) ∙ ap (λ n. c.len.result + n) (sym c.len-2.ensures) in
    let few = c.requires in
    omega (arith, both, few)

pub returns : goal.returns
returns c =
    ap (λ n. n + c.len-2.result) c.len.ensures ∙ ap (λ n. len (map_of call_cmp c.self.inside.asked) + n) c.len-2.ensures ∙ sym (len-all (map_of call_cmp c.self.inside.asked) (map_of call_cmp c.self.inside.answered) c.self.invariant) ∙ ap len c.self.view_is
