use Rattle.audit_sd.proofs.receivers.places.enter_owners.Goals as goal

pub returns-then-put_at-clause-stay : goal.returns-then-put_at-clause-stay
returns-then-put_at-clause-stay c = λ address other there. c.put_at-then-put_at.ensures.stay address other (c.put_at.ensures.stay address other there)
