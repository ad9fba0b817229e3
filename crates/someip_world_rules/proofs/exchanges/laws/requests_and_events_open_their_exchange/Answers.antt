use Rattle.someip_world_rules.proofs.about_exchanges.openings.OpeningLemmas.{opens_its_own}
use Rattle.someip_world_rules.proofs.exchanges.laws.requests_and_events_open_their_exchange.Goals as goal

pub returns : goal.returns
returns c = opens_its_own
