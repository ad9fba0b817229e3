use Rattle.someip_world_rules.proofs.Sendings.{all_sent}
use Rattle.someip_world_rules.proofs.run_laws.each_datagram_was_given_or_injected.Goals as goal

pub returns : goal.returns
returns c = all_sent
