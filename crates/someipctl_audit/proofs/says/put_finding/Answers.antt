use Rattle.someipctl_audit.proofs.says.put_finding.Goals as goal

pub returns-in-EndpointsFull : goal.returns-in-EndpointsFull
returns-in-EndpointsFull g c = rw c.in-EndpointsFull.is c.put_full.ensures
