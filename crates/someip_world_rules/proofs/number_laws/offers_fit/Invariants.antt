use Rattle.std.proofs.Common.{◌≢◌}
use Rattle.std.specs.List.{AllByRecursion}
use Rattle.someip_node_laws.specs.Fitting.{FitsOffer}
use Rattle.someip_world_rules.proofs.number_laws.offers_fit.Given as goal

-- all fit where those that are left do
abbrev pub invariant-loop-instance : goal.invariant-loop-instance
invariant-loop-instance l =
    AllByRecursion (λ offer. offer.1.rules.service ≢ 0xFFFF → FitsOffer offer) l.instance-iterator
    → AllByRecursion (λ offer. offer.1.rules.service ≢ 0xFFFF → FitsOffer offer) l.offers.entries
