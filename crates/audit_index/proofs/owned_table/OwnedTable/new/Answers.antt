use Rattle.someip_tables.specs.Endpoints.{address_cmp}
use Rattle.someip_tables.specs.Tables.{map_of}
use Rattle.audit_index.specs.Slots.{stands}
use Rattle.audit_index.proofs.OwnerLemmas.{none_owned}
use Rattle.audit_index.proofs.owned_table.OwnedTable.new.Goals as goal

pub invariant_of-result : goal.invariant_of-result
invariant_of-result g c =
    none_owned g.met.K.Ord.total g.met.K.Key.exact g.V.Owned.owners (stands address_cmp g.K.Ord.cmp c.new-2.result) (map_of g.K.Ord.cmp c.new.result) c.new.ensures
