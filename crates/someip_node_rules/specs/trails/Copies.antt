-- Copies of what a node is set up with: they have the same values, and only their maps may lie elsewhere.
use Rattle.std.specs.Prelude.{◌≡◌}
use Rattle.std.specs.List.{AllZip}
use Rattle.someip_rpc.specs.Copies.{IsCopyOfRules}
use Rattle.someip_node_rules.specs.declared.config.Config.{Config}
use Rattle.someip_node_rules.specs.declared.config.OfferedService.{OfferedService}
use Rattle.someip_node_rules.specs.declared.config.WantedService.{WantedService}

abbrev pub IsCopyOfOffer : OfferedService → OfferedService → Type 0
IsCopyOfOffer offer copy = (copy ≡ record offer { rules = copy.rules }) × IsCopyOfRules offer.rules copy.rules

abbrev pub IsCopyOfWant : WantedService → WantedService → Type 0
IsCopyOfWant want copy = (copy ≡ record want { groups = copy.groups }) × (copy.groups.entries ≡ want.groups.entries)

-- a copy of a configuration: it has copies of its offers and wants, under the same instances
abbrev pub IsCopy : Config → Config → Type 0
IsCopy config copy =
    (copy ≡ record config { offers = copy.offers; wants = copy.wants })
    × AllZip (λ a b. (b.0 ≡ a.0) × IsCopyOfOffer a.1 b.1) config.offers.entries copy.offers.entries
    × AllZip (λ a b. (b.0 ≡ a.0) × IsCopyOfWant a.1 b.1) config.wants.entries copy.wants.entries
