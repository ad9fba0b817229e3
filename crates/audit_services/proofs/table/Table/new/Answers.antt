use Rattle.someip_tables.specs.Tables.{map_of}
use Rattle.audit_index.specs.Slots.{stands}
use Rattle.audit_services.proofs.PlaceLemmas.{none_placed}
use Rattle.audit_services.proofs.table.Table.new.Goals as goal

pub invariant_of-result : goal.invariant_of-result
invariant_of-result g c =
    none_placed g.met.K.Ord.total g.met.K.Key.exact g.K.Placed.places (stands g.P.Ord.cmp g.K.Ord.cmp c.new-2.result) (map_of g.K.Ord.cmp c.new.result) c.new.ensures
