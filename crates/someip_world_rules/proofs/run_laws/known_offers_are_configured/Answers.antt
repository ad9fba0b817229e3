use Rattle.someip_world_rules.proofs.ConfiguredLemmas.{as_configured, configured_without_liars}
use Rattle.someip_world_rules.proofs.run_laws.known_offers_are_configured.Goals as goal

pub returns-clause-honest : goal.returns-clause-honest
returns-clause-honest c = as_configured

pub returns-clause-without_liars : goal.returns-clause-without_liars
returns-clause-without_liars c nodes configs steps w none led fit all = configured_without_liars nodes configs steps w led fit all none
