use Rattle.someip_world_rules.proofs.OriginLemmas.{all_origins}
use Rattle.someip_world_rules.proofs.run_laws.each_item_was_met_by_a_rule.Goals as goal

pub returns : goal.returns
returns c = all_origins
