use Rattle.someip_tables.specs.Tables.{map_of}
use Rattle.audit_index.specs.Slots.{stands}
use Rattle.audit_services.proofs.PlaceLemmas.{placed_remove}
use Rattle.audit_services.proofs.table.Table.end.Goals as goal

pub invariant_of-self : goal.invariant_of-self
invariant_of-self g c =
    placed_remove g.met.K.Ord.total g.met.K.Key.exact g.K.Placed.places (stands g.P.Ord.cmp g.K.Ord.cmp c.self.inside.at) (stands g.P.Ord.cmp g.K.Ord.cmp c.self.inside.at) (map_of g.K.Ord.cmp c.self.inside.held) (map_of g.K.Ord.cmp c.remove.new.self) c.args.key.now
    c.remove.ensures.rest c.self.invariant (λ _ _ _ there. there)

pub invariant_of-self-in_err-push : goal.invariant_of-self-in_err-push
invariant_of-self-in_err-push g c =
    placed_remove g.met.K.Ord.total g.met.K.Key.exact g.K.Placed.places (stands g.P.Ord.cmp g.K.Ord.cmp c.self.inside.at) (stands g.P.Ord.cmp g.K.Ord.cmp c.displace.new.at) (map_of g.K.Ord.cmp c.self.inside.held) (map_of g.K.Ord.cmp c.remove.new.self) c.args.key.now
    c.remove.ensures.rest c.self.invariant c.displace.ensures

pub invariant_of-self-2 : goal.invariant_of-self-2
invariant_of-self-2 g c =
    placed_remove g.met.K.Ord.total g.met.K.Key.exact g.K.Placed.places (stands g.P.Ord.cmp g.K.Ord.cmp c.self.inside.at) (stands g.P.Ord.cmp g.K.Ord.cmp c.displace.new.at) (map_of g.K.Ord.cmp c.self.inside.held) (map_of g.K.Ord.cmp c.remove.new.self) c.args.key.now
    c.remove.ensures.rest c.self.invariant c.displace.ensures
