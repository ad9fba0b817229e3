use Rattle.std.proofs.Common.{ap, sym, subst}
use Rattle.someip_tables.specs.Tables.{map_of}
use Rattle.audit_index.specs.Slots.{stands}
use Rattle.audit_services.specs.Places.{ArePlaced}
use Rattle.audit_services.proofs.PlaceLemmas.{placed_insert, placed_more}
use Rattle.audit_services.proofs.table.Table.put.Goals as goal

pub invariant_of-self : goal.invariant_of-self
invariant_of-self g c =
    placed_more g.met.K.Ord.total g.met.K.Key.exact g.K.Placed.places (stands g.P.Ord.cmp g.K.Ord.cmp c.self.inside.at) (stands g.P.Ord.cmp g.K.Ord.cmp c.place.new.at) (map_of g.K.Ord.cmp c.self.inside.held) c.place.ensures.kept c.self.invariant

pub invariant_of-self-in_err-insert : goal.invariant_of-self-in_err-insert
invariant_of-self-in_err-insert g c =
    placed_more g.met.K.Ord.total g.met.K.Key.exact g.K.Placed.places (stands g.P.Ord.cmp g.K.Ord.cmp c.self.inside.at) (stands g.P.Ord.cmp g.K.Ord.cmp c.place.new.at) (map_of g.K.Ord.cmp c.insert.new.self) c.place.ensures.kept
    (subst (λ es. ArePlaced g.K.Placed.places (stands g.P.Ord.cmp g.K.Ord.cmp c.self.inside.at) (map_of g.K.Ord.cmp es)) (sym c.in_err-insert.ensures.err) c.self.invariant)

pub invariant_of-self-2 : goal.invariant_of-self-2
invariant_of-self-2 g c =
    placed_insert g.met.K.Ord.total g.met.K.Key.exact g.K.Placed.places (stands g.P.Ord.cmp g.K.Ord.cmp c.self.inside.at) (stands g.P.Ord.cmp g.K.Ord.cmp c.place.new.at) (map_of g.K.Ord.cmp c.self.inside.held) (map_of g.K.Ord.cmp c.insert.new.self) c.args.key _ c.in_ok-insert.ensures.ok
    c.self.invariant c.place.ensures.kept c.in_ok-place.ensures.there
