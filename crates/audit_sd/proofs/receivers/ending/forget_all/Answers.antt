use Rattle.someip_tables.specs.Endpoints.{address_cmp}
use Rattle.someip_tables.specs.Tables.{map_of}
use Rattle.audit_index.specs.Slots.{stands}
use Rattle.audit_index.proofs.PlaceLemmas.{way_more}
use Rattle.audit_sd.specs.subscriptions.SubscriptionKeys.{subscription_cmp}
use Rattle.audit_sd.specs.subscriptions.SubscribeRules.{is_of}
use Rattle.audit_sd.specs.receivers.ReceiverPlaces.{becomes_ended, end_cmp, withdrawn_cmp}
use Rattle.audit_sd.proofs.about_receivers.PlacedLemmas.{all_ended, ended_again, none_of, taken_of}
use Rattle.audit_sd.proofs.receivers.ending.forget_all.Goals as goal

pub forget_if_of-requires : goal.forget_if_of-requires
forget_if_of-requires c =
    taken_of c.args.address (stands end_cmp subscription_cmp c.loop-key.ends) (stands withdrawn_cmp subscription_cmp c.loop-key.offers) (stands address_cmp subscription_cmp c.loop-key.owners) (stands address_cmp subscription_cmp c.take.new.self) (map_of subscription_cmp c.loop-key.held) c.in-Some.key c.in-Some.ensures.taken c.loop-key.invariant.found

pub loop-key-preserved : goal.loop-key-preserved
loop-key-preserved c = record {
  way =
      way_more (becomes_ended (is_of c.args.address)) (ended_again (is_of c.args.address)) (map_of subscription_cmp c.args.held.now) (map_of subscription_cmp c.loop-key.held) (map_of subscription_cmp c.forget_if_of.new.held)
      c.loop-key.invariant.way c.forget_if_of.ensures.way;
  found = c.forget_if_of.ensures.found;
}

pub returns-clause-left : goal.returns-clause-left
returns-clause-left c =
    all_ended (is_of c.args.address) (map_of subscription_cmp c.args.held.now) (map_of subscription_cmp c.loop-key.held)
    (none_of c.args.address (stands end_cmp subscription_cmp c.loop-key.ends) (stands withdrawn_cmp subscription_cmp c.loop-key.offers) (stands address_cmp subscription_cmp c.loop-key.owners) (map_of subscription_cmp c.loop-key.held) c.loop-key.invariant.found c.in_default.ensures.none) c.loop-key.invariant.way
