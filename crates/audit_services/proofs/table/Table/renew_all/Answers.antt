use Rattle.std.proofs.Common.{◌≡◌, ◌+◌, ◌∷◌, drop, ap, sym, refl, ◌∙◌}
use Rattle.std.specs.FinMap as finite
use Rattle.std.specs.List.{list_any}
use Rattle.std.specs.Ordering.{eq_by_cmp}
use Rattle.someip_tables.specs.Tables.{map_of}
use Rattle.audit_services.proofs.EntryLemmas.{next_left, none_left, set_if, set_more}
use Rattle.audit_services.proofs.table.Table.renew_all.Goals as goal

pub loop-key-init : goal.loop-key-init
loop-key-init g c = λ q. refl

pub loop-key-preserved : goal.loop-key-preserved
loop-key-preserved g c =
    let key = c.key-item.result in
    let rest = drop (c.loop-key.key-index + 1) c.args.keys.now in
    let is = next_left c.args.keys.now c.loop-key.key-index key c.loop-key-test.true c.key-item.is in
    λ q.
    set_more c.args.until (eq_by_cmp g.K.Ord.cmp q key) (list_any (eq_by_cmp g.K.Ord.cmp q) rest) (finite.get (map_of g.K.Ord.cmp c.loop-key.self) q) (finite.get (map_of g.K.Ord.cmp c.renew.new.self) q) (c.in_ok-renew.ensures q)
    ∙ ap (λ ks. set_if g.K.Ord.cmp c.args.until q ks (finite.get (map_of g.K.Ord.cmp c.loop-key.self) q)) (sym is) ∙ c.loop-key.invariant q

pub returns : goal.returns
returns g c =
    let end = none_left c.args.keys.now c.loop-key.key-index c.loop-key-test.false in
    λ q. ap (λ ks. set_if g.K.Ord.cmp c.args.until q ks (finite.get (map_of g.K.Ord.cmp c.loop-key.self) q)) (sym end) ∙ c.loop-key.invariant q
