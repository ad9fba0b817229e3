use Rattle.audit_index.proofs.OwnerLemmas.{alone}
use Rattle.audit_index.proofs.owners.disown.Goals as goal

pub returns-clause-others : goal.returns-clause-others
returns-clause-others g c = λ address other differs there.
    alone g.K.Ord.cmp c.args.owners.1 c.args.key _ _ c.remove-2.ensures.taken address other differs
    (alone g.K.Ord.cmp c.args.owners.0 c.args.key _ _ c.remove.ensures.taken address other differs there)
