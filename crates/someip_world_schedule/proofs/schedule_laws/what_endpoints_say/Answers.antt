use Rattle.someip_world_schedule.proofs.EndpointLemmas.{only_endpoint, each_endpoint}
use Rattle.someip_world_schedule.proofs.schedule_laws.what_endpoints_say.Goals as goal

pub returns : goal.returns
returns c = record { only = only_endpoint; each = each_endpoint }
