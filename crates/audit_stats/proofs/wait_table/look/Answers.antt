use Rattle.std.proofs.Common.{◌≡◌, refl, sym, ◌∙◌, rules}
use Rattle.std.specs.HashMap as hash
use Rattle.std.specs.Ordering.{eq_by_cmp}
use Rattle.someip_tables.proofs.Trees.{get-map_of}
use Rattle.someip_tables.proofs.about_hashed.Hashed.{by_order}
use Rattle.audit_stats.specs.Keys.{call_cmp}
use Rattle.audit_stats.specs.KeyOrder.{calls_total}
use Rattle.audit_stats.proofs.wait_table.look.Goals as goal

pub returns : goal.returns
returns c =
    let found : c.copied.result ≡ hash.get (eq_by_cmp call_cmp) c.args.held.now c.args.call.now = search rules in
    found ∙ by_order call_cmp (λ x y. refl) c.args.held.now c.args.call.now ∙ sym (get-map_of calls_total c.args.held.now.entries c.args.call.now)
