use Rattle.std.proofs.Common.{rules}
use Rattle.someip_world_rules.proofs.NumberLemmas.{limit_fits, offers_are}
use Rattle.someip_world_rules.proofs.number_laws.config_fits.Goals as goal

pub returns : goal.returns
returns c = record {
  address = search rules;
  client = search rules;
  port = search rules;
  limit = limit_fits c.args.config.now c.requires;
  offers = offers_are c.args.config.now c.requires (search rules);
  wants = search rules;
}
