use Rattle.std.proofs.Common.{sym, ◌∙◌}
use Rattle.someip_tables.specs.Endpoints.{address_cmp}
use Rattle.someip_tables.specs.Tables.{map_of}
use Rattle.audit_index.specs.Slots.{stands}
use Rattle.audit_sd.specs.subscriptions.SubscriptionKeys.{subscription_cmp}
use Rattle.audit_sd.specs.subscriptions.SubscribeRules.{is_of}
use Rattle.audit_sd.specs.receivers.ReceiverPlaces.{end_cmp, withdrawn_cmp}
use Rattle.audit_sd.proofs.about_receivers.PlacedLemmas.{dropped_of, not_of, way_ended}
use Rattle.audit_sd.proofs.receivers.ending.forget_if_of.Goals as goal

pub returns-then-is_of-clause-way : goal.returns-then-is_of-clause-way
returns-then-is_of-clause-way c = way_ended (is_of c.args.address.now) c.args.key.now (map_of subscription_cmp c.args.held.now) (map_of subscription_cmp c.drop_one.new.held) c.drop_one.ensures.gone (sym c.is_of.ensures ∙ c.if-is_of.true)

pub returns-then-is_of-clause-found : goal.returns-then-is_of-clause-found
returns-then-is_of-clause-found c =
    dropped_of (stands end_cmp subscription_cmp c.args.ends.now) (stands end_cmp subscription_cmp c.drop_one.new.ends) (stands withdrawn_cmp subscription_cmp c.args.offers.now) (stands withdrawn_cmp subscription_cmp c.drop_one.new.offers)
    (stands address_cmp subscription_cmp c.args.owners.now) (stands address_cmp subscription_cmp c.drop_one.new.owners) (map_of subscription_cmp c.args.held.now) (map_of subscription_cmp c.drop_one.new.held) c.args.key.now c.drop_one.ensures.gone
    c.drop_one.ensures.ends c.drop_one.ensures.offers c.drop_one.ensures.owners c.args.address.now c.requires

pub returns-else-is_of-clause-found : goal.returns-else-is_of-clause-found
returns-else-is_of-clause-found c =
    not_of c.args.address.now (stands end_cmp subscription_cmp c.args.ends.now) (stands withdrawn_cmp subscription_cmp c.args.offers.now) (stands address_cmp subscription_cmp c.args.owners.now) (map_of subscription_cmp c.args.held.now) c.args.key.now
    (sym c.is_of.ensures ∙ c.if-is_of.false) c.requires
