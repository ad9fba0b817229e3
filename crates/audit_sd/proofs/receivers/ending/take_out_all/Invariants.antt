use Rattle.std.proofs.Common.{◌≡◌, false}
use Rattle.std.specs.List.{list_any}
use Rattle.std.specs.Ordering.{eq_by_cmp}
use Rattle.someip_tables.specs.Endpoints.{address_cmp}
use Rattle.audit_sd.specs.declared.subscriptions.key.SubscriptionKey.{SubscriptionKey}
use Rattle.audit_sd.specs.subscriptions.SubscriptionKeys.{subscription_cmp}
use Rattle.audit_sd.specs.receivers.ReceiverPlaces.{UnlistedStay, end_cmp, withdrawn_cmp}
use Rattle.audit_sd.proofs.receivers.ending.take_out_all.Given as goal

-- what is not listed is not among the rest, and stays
abbrev pub invariant-loop-key : goal.invariant-loop-key
invariant-loop-key l = record {
  rest : (other : SubscriptionKey) → list_any (eq_by_cmp subscription_cmp other) l.keys.keys ≡ false → list_any (eq_by_cmp subscription_cmp other) l.key-iterator ≡ false;
  ends : UnlistedStay end_cmp l.keys.keys l.fn.ends l.ends;
  offers : UnlistedStay withdrawn_cmp l.keys.keys l.fn.offers l.offers;
  owners : UnlistedStay address_cmp l.keys.keys l.fn.owners l.owners;
}
