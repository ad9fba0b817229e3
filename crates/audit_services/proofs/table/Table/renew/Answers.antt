use Rattle.std.proofs.Common.{◌≡◌, Some, refl, ap, sym, ◌∙◌}
use Rattle.std.specs.FinMap as finite
use Rattle.someip_tables.specs.Tables.{map_of}
use Rattle.audit_index.specs.Slots.{stands}
use Rattle.audit_services.proofs.EntryLemmas.{set_one}
use Rattle.audit_services.proofs.PlaceLemmas.{placed_insert}
use Rattle.audit_services.proofs.table.Table.renew.Goals as goal

pub invariant_of-self-2 : goal.invariant_of-self-2
invariant_of-self-2 g c =
    let found : finite.get (map_of g.K.Ord.cmp c.self.inside.held) c.args.key.now ≡ Some c.in-Some.stay = rw c.self.view_is (sym c.get.ensures ∙ c.in-Some.is) in
    placed_insert g.met.K.Ord.total g.met.K.Key.exact g.K.Placed.places (stands g.P.Ord.cmp g.K.Ord.cmp c.self.inside.at) (stands g.P.Ord.cmp g.K.Ord.cmp c.self.inside.at) (map_of g.K.Ord.cmp c.self.inside.held) (map_of g.K.Ord.cmp c.insert.new.self) c.args.key.now _ c.in_ok-insert.ensures.ok c.self.invariant
    (λ _ _ there. there) (c.self.invariant c.args.key.now c.in-Some.stay found)

pub returns : goal.returns
returns g c =
    set_one g.met.K.Ord.total g.met.K.Key.exact (map_of g.K.Ord.cmp c.args.self.now) (map_of g.K.Ord.cmp c.insert.new.self) c.args.key.now c.args.until c.in-Some.stay (sym c.get.ensures ∙ c.in-Some.is) (rw (← c.self.view_is) c.in_ok-insert.ensures.ok)
