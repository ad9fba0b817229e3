use Rattle.std.proofs.Common.{◌≡◌, ◌++◌, map, drop}
use Rattle.someip_services.specs.declared.told.Told.TheVariants.{Subscription}
use Rattle.someip_services.proofs.messages.append_subscriptions.Given as goal

-- with those that are left all are appended
abbrev pub invariant-loop-one : goal.invariant-loop-one
invariant-loop-one l = l.told.items ++ map Subscription (drop l.one-index l.ended) ≡ l.fn.told.items ++ map Subscription l.ended
