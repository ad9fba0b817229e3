use Rattle.someip_tables.specs.Endpoints.{address_cmp}
use Rattle.someip_tables.specs.Tables.{map_of}
use Rattle.audit_index.specs.Slots.{stands}
use Rattle.audit_index.proofs.OwnerLemmas.{all_gone, less_more, taken_from}
use Rattle.audit_index.proofs.owners.forget.Goals as goal

pub let_go-requires : goal.let_go-requires
let_go-requires g c =
    taken_from g.met.K.Ord.total g.met.K.Key.exact g.V.Owned.owners (stands address_cmp g.K.Ord.cmp c.loop-key.owned) (stands address_cmp g.K.Ord.cmp c.take.new.self) (map_of g.K.Ord.cmp c.loop-key.table) c.args.address c.in-Some.key
    c.loop-key.invariant.owned c.in-Some.ensures.taken

pub loop-key-preserved : goal.loop-key-preserved
loop-key-preserved g c = record {
  less =
      less_more g.met.K.Ord.total g.met.K.Key.exact g.V.Owned.owners (map_of g.K.Ord.cmp c.args.table.now) (map_of g.K.Ord.cmp c.loop-key.table) (map_of g.K.Ord.cmp c.let_go.new.table) c.args.address c.loop-key.invariant.less c.let_go.ensures.left;
  owned = c.let_go.ensures.owned;
}

pub returns-clause-left : goal.returns-clause-left
returns-clause-left g c =
    all_gone g.met.K.Ord.total g.met.K.Key.exact g.V.Owned.owners (stands address_cmp g.K.Ord.cmp c.loop-key.owned) (map_of g.K.Ord.cmp c.args.table.now) (map_of g.K.Ord.cmp c.loop-key.table) c.args.address
    c.loop-key.invariant.owned c.loop-key.invariant.less c.in_default.ensures.none
