use Rattle.std.proofs.Common.{◌∙◌}
use Rattle.someip_node_engine.proofs.PortLemmas.{own_ports}
use Rattle.someip_node_engine.proofs.config_checks.has_own_ports.Goals as goal

pub returns : goal.returns
returns c = c.has_each_port_once.ensures ∙ own_ports (λ offer. offer.1.rules.endpoint.port) (λ offer. offer.0) c.args.config.now.offers.entries
