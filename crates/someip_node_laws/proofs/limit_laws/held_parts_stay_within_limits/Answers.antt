use Rattle.someip_node_rules.specs.forms.Setups.{limits_of}
use Rattle.someip_node_laws.proofs.rules.LimitLemmas.{parts_within}
use Rattle.someip_node_laws.proofs.limit_laws.held_parts_stay_within_limits.Goals as goal

pub returns : goal.returns
returns c = λ h. parts_within (limits_of h.config) h.items
