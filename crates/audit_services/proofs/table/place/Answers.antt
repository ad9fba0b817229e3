use Rattle.audit_services.proofs.PlaceLemmas.{still}
use Rattle.audit_services.proofs.table.place.Goals as goal

pub returns-clause-kept : goal.returns-clause-kept
returns-clause-kept g c = λ place other there.
    still g.met.P.Ord.total g.met.K.Ord.total _ c.args.key _ _ c.in_ok-put-4.ensures.ok place other
    (still g.met.P.Ord.total g.met.K.Ord.total _ c.args.key _ _ c.in_ok-put-3.ensures.ok place other
    (still g.met.P.Ord.total g.met.K.Ord.total _ c.args.key _ _ c.in_ok-put-2.ensures.ok place other
    (still g.met.P.Ord.total g.met.K.Ord.total _ c.args.key _ _ c.in_ok-put.ensures.ok place other there)))
