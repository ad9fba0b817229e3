use Rattle.someip_world_rules.proofs.about_exchanges.messages.LiarBreaks.{breaks_nothing}
use Rattle.someip_world_rules.proofs.exchanges.laws.what_liars_send_breaks_nothing.Goals as goal

pub returns : goal.returns
returns c = breaks_nothing
