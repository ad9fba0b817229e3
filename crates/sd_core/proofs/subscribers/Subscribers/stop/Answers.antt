use Rattle.std.proofs.Common.{◌≡◌, ◌∙◌, rules}
use Rattle.std.specs.Option.{is_some}
use Rattle.someip_tables.specs.Tables.{map_of}
use Rattle.sd_core.specs.SubscriptionKeys.{subscription_cmp}
use Rattle.sd_core.proofs.OctetLemmas.{octets_removed}
use Rattle.sd_core.proofs.SubscriberLemmas.{some_copied, live_is}
use Rattle.sd_core.proofs.subscribers.Subscribers.stop.Goals as goal

pub returns-clause-was_live : goal.returns-clause-was_live
returns-clause-was_live c =
    let some : c.is_some-was_live.result ≡ is_some c.get_unexpired.result = search rules in
    rw (← c.self.view_is) (some ∙ some_copied c.get_unexpired.result ∙ live_is c.args.now (map_of subscription_cmp c.self.inside.table) c.args.subscription _ c.get_unexpired.ensures)

pub invariant_of-self : goal.invariant_of-self
invariant_of-self c = octets_removed _ _ c.args.subscription c.remove.ensures.rest c.self.invariant
