use Rattle.someipctl_io.proofs.discovery.eventgroup_parts.Goals as goal

pub returns : goal.returns
returns c = rw (c.name_of_eventgroup.ensures, c.ttl_of_eventgroup.ensures, c.counter_of.ensures)
