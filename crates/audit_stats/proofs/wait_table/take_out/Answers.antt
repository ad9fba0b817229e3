use Rattle.std.proofs.Common.{None, refl}
use Rattle.someip_tables.proofs.Trees.{map_of-remove}
use Rattle.someip_tables.proofs.about_hashed.Hashed.{updates_by_order}
use Rattle.audit_stats.specs.Keys.{call_cmp}
use Rattle.audit_stats.specs.KeyOrder.{calls_total, exact_calls}
use Rattle.audit_stats.proofs.wait_table.take_out.Goals as goal

pub returns : goal.returns
returns c =
    map_of-remove calls_total exact_calls c.args.held.now.entries c.remove.new.self.entries c.args.call.now
    (updates_by_order call_cmp (λ x y. refl) c.args.held.now c.remove.new.self c.args.call.now None c.remove.ensures.updates.0)
