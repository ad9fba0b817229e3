use Rattle.someip_tables.specs.Endpoints.{address_cmp}
use Rattle.someip_tables.specs.Tables.{map_of}
use Rattle.audit_index.specs.Slots.{stands}
use Rattle.audit_index.proofs.PlaceLemmas.{way_more}
use Rattle.audit_sd.specs.subscriptions.SubscriptionKeys.{subscription_cmp}
use Rattle.audit_sd.specs.receivers.ReceiverRules.{is_to}
use Rattle.audit_sd.specs.receivers.ReceiverPlaces.{becomes_ended, end_cmp, withdrawn_cmp}
use Rattle.audit_sd.proofs.about_receivers.PlacedLemmas.{all_ended, ended_again, none_to, taken_to}
use Rattle.audit_sd.proofs.receivers.ending.withdraw_all.Goals as goal

pub withdraw_if_to-requires : goal.withdraw_if_to-requires
withdraw_if_to-requires c =
    taken_to c.args.offer (stands end_cmp subscription_cmp c.loop-key.ends) (stands withdrawn_cmp subscription_cmp c.loop-key.offers) (stands withdrawn_cmp subscription_cmp c.take.new.self) (stands address_cmp subscription_cmp c.loop-key.owners) (map_of subscription_cmp c.loop-key.held) c.in-Some.key c.in-Some.ensures.taken c.loop-key.invariant.found

pub loop-key-preserved : goal.loop-key-preserved
loop-key-preserved c = record {
  way =
      way_more (becomes_ended (is_to c.args.offer)) (ended_again (is_to c.args.offer)) (map_of subscription_cmp c.args.held.now) (map_of subscription_cmp c.loop-key.held) (map_of subscription_cmp c.withdraw_if_to.new.held)
      c.loop-key.invariant.way c.withdraw_if_to.ensures.way;
  found = c.withdraw_if_to.ensures.found;
}

pub returns-clause-left : goal.returns-clause-left
returns-clause-left c =
    all_ended (is_to c.args.offer) (map_of subscription_cmp c.args.held.now) (map_of subscription_cmp c.loop-key.held)
    (none_to c.args.offer (stands end_cmp subscription_cmp c.loop-key.ends) (stands withdrawn_cmp subscription_cmp c.loop-key.offers) (stands address_cmp subscription_cmp c.loop-key.owners) (map_of subscription_cmp c.loop-key.held) c.loop-key.invariant.found c.in_default.ensures.none) c.loop-key.invariant.way
