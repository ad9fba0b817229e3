use Rattle.std.proofs.Common.{sym, ◌∙◌}
use Rattle.someip_tables.specs.Endpoints.{address_cmp}
use Rattle.someip_tables.specs.Tables.{map_of}
use Rattle.audit_index.specs.Slots.{stands}
use Rattle.audit_sd.specs.subscriptions.SubscriptionKeys.{subscription_cmp}
use Rattle.audit_sd.specs.receivers.ReceiverRules.{is_to}
use Rattle.audit_sd.specs.receivers.ReceiverPlaces.{end_cmp, withdrawn_cmp}
use Rattle.audit_sd.proofs.about_receivers.PlacedLemmas.{dropped_to, not_to, way_ended}
use Rattle.audit_sd.proofs.receivers.ending.withdraw_if_to.Goals as goal

pub returns-then-is_to-clause-way : goal.returns-then-is_to-clause-way
returns-then-is_to-clause-way c = way_ended (is_to c.args.offer.now) c.args.key.now (map_of subscription_cmp c.args.held.now) (map_of subscription_cmp c.drop_one.new.held) c.drop_one.ensures.gone (sym c.is_to.ensures ∙ c.if-is_to.true)

pub returns-then-is_to-clause-found : goal.returns-then-is_to-clause-found
returns-then-is_to-clause-found c =
    dropped_to (stands end_cmp subscription_cmp c.args.ends.now) (stands end_cmp subscription_cmp c.drop_one.new.ends) (stands withdrawn_cmp subscription_cmp c.args.offers.now) (stands withdrawn_cmp subscription_cmp c.drop_one.new.offers)
    (stands address_cmp subscription_cmp c.args.owners.now) (stands address_cmp subscription_cmp c.drop_one.new.owners) (map_of subscription_cmp c.args.held.now) (map_of subscription_cmp c.drop_one.new.held) c.args.key.now c.drop_one.ensures.gone
    c.drop_one.ensures.ends c.drop_one.ensures.offers c.drop_one.ensures.owners c.args.offer.now c.requires

pub returns-else-is_to-clause-found : goal.returns-else-is_to-clause-found
returns-else-is_to-clause-found c =
    not_to c.args.offer.now (stands end_cmp subscription_cmp c.args.ends.now) (stands withdrawn_cmp subscription_cmp c.args.offers.now) (stands address_cmp subscription_cmp c.args.owners.now) (map_of subscription_cmp c.args.held.now) c.args.key.now
    (sym c.is_to.ensures ∙ c.if-is_to.false) c.requires
