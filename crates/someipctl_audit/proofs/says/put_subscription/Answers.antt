use Rattle.someipctl_audit.proofs.says.put_subscription.Goals as goal

pub returns-in-Full : goal.returns-in-Full
returns-in-Full g c = rw c.in-Full.is c.put_full.ensures
