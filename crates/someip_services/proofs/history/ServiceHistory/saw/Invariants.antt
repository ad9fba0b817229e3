use Rattle.std.proofs.Common.{◌≡◌}
use Rattle.someip_services.specs.Services.{items_taken}
use Rattle.someip_services.proofs.history.ServiceHistory.saw.Given as goal

-- what the items that are left change now is what all change
abbrev pub invariant-loop-item : goal.invariant-loop-item
invariant-loop-item l = items_taken l.now l.origin l.item-iterator l.self ≡ items_taken l.now l.origin l.initial.item-iterator l.initial.self
