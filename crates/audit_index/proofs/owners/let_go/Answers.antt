use Rattle.std.proofs.Common.{sym, ◌∙◌}
use Rattle.someip_tables.specs.Endpoints.{address_cmp}
use Rattle.someip_tables.specs.Tables.{map_of}
use Rattle.audit_index.specs.Slots.{stands}
use Rattle.audit_index.proofs.OwnerLemmas.{less_remove, others_owned, owned_remove}
use Rattle.audit_index.proofs.owners.let_go.Goals as goal

pub returns-then-is_owner-clause-left : goal.returns-then-is_owner-clause-left
returns-then-is_owner-clause-left g c =
    less_remove g.met.K.Ord.total g.met.K.Key.exact g.V.Owned.owners (map_of g.K.Ord.cmp c.args.table.now) (map_of g.K.Ord.cmp c.remove.new.self) c.args.address.now c.args.key.now c.in-Some.value c.remove.ensures (sym c.in-Some.ensures)
    (rw (← c.owners-owners.ensures) (sym c.is_owner.ensures ∙ c.if-is_owner.true))

pub returns-then-is_owner-clause-owned : goal.returns-then-is_owner-clause-owned
returns-then-is_owner-clause-owned g c =
    owned_remove g.met.K.Ord.total g.met.K.Key.exact g.V.Owned.owners (stands address_cmp g.K.Ord.cmp c.args.owned.now) (stands address_cmp g.K.Ord.cmp c.disown.new.owned) (map_of g.K.Ord.cmp c.args.table.now) (map_of g.K.Ord.cmp c.remove.new.self) c.args.key.now c.remove.ensures
    (others_owned g.met.K.Ord.total g.met.K.Key.exact g.V.Owned.owners (stands address_cmp g.K.Ord.cmp c.args.owned.now) (map_of g.K.Ord.cmp c.args.table.now) c.args.address.now c.args.key.now c.requires) c.disown.ensures.others
