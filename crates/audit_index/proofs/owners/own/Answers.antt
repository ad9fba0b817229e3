use Rattle.std.proofs.Common.{true, refl, ◌∙◌}
use Rattle.audit_index.proofs.OwnerLemmas.{slot_itself, stays}
use Rattle.audit_index.proofs.owners.own.Goals as goal

pub returns-clause-first : goal.returns-clause-first
returns-clause-first g c =
    stays g.K.Ord.cmp true c.args.owners.1 c.args.key _ _ c.in_ok-put-2.ensures.ok c.args.owners.0 c.args.key (λ _. refl)
    (c.in_ok-put.ensures.ok c.args.owners.0 c.args.key ∙ rw (slot_itself g.met.K.Ord.total c.args.owners.0 c.args.key) refl)

pub returns-clause-second : goal.returns-clause-second
returns-clause-second g c = c.in_ok-put-2.ensures.ok c.args.owners.1 c.args.key ∙ rw (slot_itself g.met.K.Ord.total c.args.owners.1 c.args.key) refl

pub returns-clause-kept : goal.returns-clause-kept
returns-clause-kept g c = λ address other there.
    stays g.K.Ord.cmp true c.args.owners.1 c.args.key _ _ c.in_ok-put-2.ensures.ok address other (λ _. refl)
    (stays g.K.Ord.cmp true c.args.owners.0 c.args.key _ _ c.in_ok-put.ensures.ok address other (λ _. refl) there)

pub returns-in_err-put-2-clause-kept : goal.returns-in_err-put-2-clause-kept
returns-in_err-put-2-clause-kept g c = λ address other there.
    rw c.in_err-put-2.ensures.err (stays g.K.Ord.cmp true c.args.owners.0 c.args.key _ _ c.in_ok-put.ensures.ok address other (λ _. refl) there)
