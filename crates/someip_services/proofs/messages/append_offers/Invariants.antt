use Rattle.std.proofs.Common.{◌≡◌, ◌++◌, map, drop}
use Rattle.someip_services.specs.declared.told.Told.TheVariants.{Offer}
use Rattle.someip_services.proofs.messages.append_offers.Given as goal

-- with those that are left all are appended
abbrev pub invariant-loop-one : goal.invariant-loop-one
invariant-loop-one l = l.told.items ++ map Offer (drop l.one-index l.ended) ≡ l.fn.told.items ++ map Offer l.ended
