use Rattle.std.proofs.Common.{ap, ◌∙◌}
use Rattle.someip_tables.specs.Lastings.{unexpired}
use Rattle.sd_core.proofs.OctetLemmas.{octets_put}
use Rattle.sd_core.proofs.subscriber_table.keep.Goals as goal

pub returns-clause-octets : goal.returns-clause-octets
returns-clause-octets c =
    octets_put c.args.subscription c.args.until c.args.now _ _ (c.drop_expired.ensures ∙ ap (unexpired c.args.now) c.in_ok-insert.ensures.ok) c.requires.new c.requires.known
