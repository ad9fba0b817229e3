use Rattle.std.proofs.Common.{◌≡◌}
use Rattle.std.specs.FinMap as finite
use Rattle.std.specs.List.{list_any}
use Rattle.someip_tables.specs.Tables.{map_of}
use Rattle.audit_sd.specs.subscriptions.SubscriptionKeys.{subscription_cmp}
use Rattle.audit_sd.specs.receivers.ReceiverRules.{goes_by}
use Rattle.audit_sd.proofs.receivers.steps.is_subscribed.Given as goal

-- what is left decides
abbrev pub invariant-loop-key : goal.invariant-loop-key
invariant-loop-key l =
    list_any (λ e. goes_by l.delivery e.0 e.1.value) l.key-iterator ≡ list_any (λ e. goes_by l.delivery e.0 e.1.value) (finite.entries (map_of subscription_cmp l.held))
