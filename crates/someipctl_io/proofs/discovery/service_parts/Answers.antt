use Rattle.someipctl_io.proofs.discovery.service_parts.Goals as goal

pub returns : goal.returns
returns c = rw (c.name_of_service.ensures, c.ttl_of_service.ensures)
