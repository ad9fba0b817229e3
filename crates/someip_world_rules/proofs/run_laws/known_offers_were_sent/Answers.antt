use Rattle.someip_world_rules.proofs.KnownOfferLemmas.{was_offered}
use Rattle.someip_world_rules.proofs.run_laws.known_offers_were_sent.Goals as goal

pub returns : goal.returns
returns c nodes configs steps n w le led place h instance lasting here known = was_offered nodes configs steps n w le led place h here instance lasting known
