use Rattle.someip_world_rules.proofs.RunExampleLemmas.{to_none, to_one}
use Rattle.someip_world_rules.proofs.run_laws.one_live_subscription_by_example.Goals as goal

pub returns-clause-live : goal.returns-clause-live
returns-clause-live c = to_one

pub returns-clause-lapsed : goal.returns-clause-lapsed
returns-clause-lapsed c = to_none
