use Rattle.someip_tables.specs.Endpoints.{address_cmp}
use Rattle.someip_tables.specs.Tables.{map_of}
use Rattle.audit_index.specs.Slots.{stands}
use Rattle.audit_index.proofs.OwnerLemmas.{owned_insert}
use Rattle.audit_index.proofs.owners.put.Goals as goal

pub returns-in-Some-clause-owned : goal.returns-in-Some-clause-owned
returns-in-Some-clause-owned g c =
    owned_insert g.met.K.Ord.total g.met.K.Key.exact g.V.Owned.owners (stands address_cmp g.K.Ord.cmp c.args.owned.now) (stands address_cmp g.K.Ord.cmp c.disown_earlier.new.owned) (map_of g.K.Ord.cmp c.args.table.now) (map_of g.K.Ord.cmp c.insert.new.self) c.args.key c.args.value c.in_ok-insert.ensures.ok
    c.requires.owned c.disown_earlier.ensures.others (rw (← c.requires.these) (c.disown_earlier.ensures.first c.requires.first)) (rw (← c.requires.these) (c.disown_earlier.ensures.second c.requires.second))

pub returns-in_default-clause-owned : goal.returns-in_default-clause-owned
returns-in_default-clause-owned g c =
    owned_insert g.met.K.Ord.total g.met.K.Key.exact g.V.Owned.owners (stands address_cmp g.K.Ord.cmp c.args.owned.now) (stands address_cmp g.K.Ord.cmp c.args.owned.now) (map_of g.K.Ord.cmp c.args.table.now) (map_of g.K.Ord.cmp c.insert.new.self) c.args.key c.args.value c.in_ok-insert.ensures.ok
    c.requires.owned (λ _ _ _ there. there) (rw (← c.requires.these) c.requires.first) (rw (← c.requires.these) c.requires.second)
