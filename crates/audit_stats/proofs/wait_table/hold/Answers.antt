use Rattle.std.proofs.Common.{Some, refl, sym, ◌∙◌}
use Rattle.someip_tables.proofs.Trees.{get-map_of, map_of-insert}
use Rattle.someip_tables.proofs.about_hashed.Hashed.{by_order, updates_by_order}
use Rattle.audit_stats.specs.Keys.{call_cmp}
use Rattle.audit_stats.specs.KeyOrder.{calls_total, exact_calls}
use Rattle.audit_stats.proofs.wait_table.hold.Goals as goal

pub returns-in-Ok-clause-before : goal.returns-in-Ok-clause-before
returns-in-Ok-clause-before c =
    c.in-Ok.ensures.old ∙ by_order call_cmp (λ x y. refl) c.args.held.now c.args.call ∙ sym (get-map_of calls_total c.args.held.now.entries c.args.call)

pub returns-in-Ok-clause-ok : goal.returns-in-Ok-clause-ok
returns-in-Ok-clause-ok c =
    map_of-insert calls_total exact_calls c.args.held.now.entries c.insert.new.self.entries c.args.call c.args.now
    (updates_by_order call_cmp (λ x y. refl) c.args.held.now c.insert.new.self c.args.call (Some c.args.now) c.in-Ok.ensures.updates.0)

pub returns-in-Err-clause-grows : goal.returns-in-Err-clause-grows
returns-in-Err-clause-grows c =
    get-map_of calls_total c.args.held.now.entries c.args.call ∙ sym (by_order call_cmp (λ x y. refl) c.args.held.now c.args.call) ∙ c.in-Err.ensures.absent
