use Rattle.someip_world_rules.proofs.AnnouncedLemmas.{no_discovery}
use Rattle.someip_world_rules.proofs.run_laws.other_services_are_no_discovery.Goals as goal

pub returns : goal.returns
returns c = no_discovery
