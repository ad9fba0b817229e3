use Rattle.someip_tables.specs.Endpoints.{address_cmp}
use Rattle.someip_tables.specs.Tables.{map_of}
use Rattle.audit_index.specs.Slots.{stands}
use Rattle.audit_sd.specs.subscriptions.SubscriptionKeys.{subscription_cmp}
use Rattle.someip_tables.proofs.DueLemmas.{test_is_true}
use Rattle.audit_sd.specs.receivers.ReceiverPlaces.{end_cmp, withdrawn_cmp}
use Rattle.audit_sd.proofs.about_receivers.PlacedLemmas.{found_still}
use Rattle.audit_sd.proofs.about_receivers.StandingLemmas.{no_expired_keys, nothing_expired}
use Rattle.audit_sd.proofs.receivers.standing.Standing.expire.Goals as goal

pub returns-then-not-has_expired-clause-told : goal.returns-then-not-has_expired-clause-told
returns-then-not-has_expired-clause-told c =
    rw (← c.self.view_is)
    (no_expired_keys c.args.now (map_of subscription_cmp c.self.inside.held) c.new.result.keys
    (λ some. let is = test_is_true (c.has_expired.ensures.1 some) in let isnt = c.if-not-has_expired.true in absurd (cc)) c.new.ensures.len)

pub returns-then-not-has_expired-clause-left : goal.returns-then-not-has_expired-clause-left
returns-then-not-has_expired-clause-left c =
    rw (← c.self.view_is)
    (nothing_expired c.args.now (map_of subscription_cmp c.self.inside.held)
    (λ some. let is = test_is_true (c.has_expired.ensures.1 some) in let isnt = c.if-not-has_expired.true in absurd (cc)))

pub invariant_of-self : goal.invariant_of-self
invariant_of-self c = λ whole.
    found_still c.args.now (map_of subscription_cmp c.self.inside.held) (stands end_cmp subscription_cmp c.self.inside.ends) (stands end_cmp subscription_cmp c.take_out_all.new.ends)
    (stands withdrawn_cmp subscription_cmp c.self.inside.offers) (stands withdrawn_cmp subscription_cmp c.take_out_all.new.offers) (stands address_cmp subscription_cmp c.self.inside.owners) (stands address_cmp subscription_cmp c.take_out_all.new.owners)
    (map_of subscription_cmp c.drop_expired.new.self) c.in_ok-ended.ended.keys c.in_ok-ended.ensures c.drop_expired.ensures c.take_out_all.ensures.ends c.take_out_all.ensures.offers c.take_out_all.ensures.owners (c.self.invariant whole)
