use Rattle.someip_tables.specs.Endpoints.{address_cmp}
use Rattle.someip_tables.specs.Tables.{map_of}
use Rattle.audit_index.specs.Slots.{stands}
use Rattle.audit_index.proofs.OwnerLemmas.{owned_remove}
use Rattle.audit_index.proofs.owners.take_out.Goals as goal

pub returns-in-Some-clause-owned : goal.returns-in-Some-clause-owned
returns-in-Some-clause-owned g c =
    owned_remove g.met.K.Ord.total g.met.K.Key.exact g.V.Owned.owners (stands address_cmp g.K.Ord.cmp c.args.owned.now) (stands address_cmp g.K.Ord.cmp c.disown.new.owned) (map_of g.K.Ord.cmp c.args.table.now) (map_of g.K.Ord.cmp c.remove.new.self) c.args.key.now c.remove.ensures
    (λ other value _ found. c.requires other value found) c.disown.ensures.others

pub returns-in_default-clause-owned : goal.returns-in_default-clause-owned
returns-in_default-clause-owned g c =
    owned_remove g.met.K.Ord.total g.met.K.Key.exact g.V.Owned.owners (stands address_cmp g.K.Ord.cmp c.args.owned.now) (stands address_cmp g.K.Ord.cmp c.args.owned.now) (map_of g.K.Ord.cmp c.args.table.now) (map_of g.K.Ord.cmp c.remove.new.self) c.args.key.now c.remove.ensures
    (λ other value _ found. c.requires other value found) (λ _ _ _ there. there)
