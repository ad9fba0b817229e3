use Rattle.std.proofs.Common.{Some, ap, ◌∙◌, rules}
use Rattle.someip_tables.specs.Tables.{map_of}
use Rattle.sd_core.specs.Keys.{instance_cmp}
use Rattle.sd_core.specs.OfferTables.{offers_of}
use Rattle.sd_core.proofs.OfferLemmas.{all_started}
use Rattle.sd_core.proofs.offers.start_all.Goals as goal

pub returns : goal.returns
returns c =
    ap offers_of (c.change_all.ensures (λ _ p. record { version = p.version; sending = Some c.args.first }) (λ key value answer said. search rules))
    ∙ all_started c.args.first (map_of instance_cmp c.args.offerings.now)
