-- The numbers of configurations that are good.
use Rattle.std.proofs.Common.{◌≡◌, ◌≢◌, ◌+◌, ◌<◌, ◌≤◌, ◌^◌, nat_le, true, ◌&&◌, arith, [], ◌∷◌}
use Rattle.std.specs.List.{AllByRecursion}
use Rattle.std.proofs.lemmas.Bool.{and_parts, leb-true}
use Rattle.someip_node_rules.specs.declared.config.Common.{Common}
use Rattle.someip_node_rules.specs.declared.config.Config.{Config}
use Rattle.someip_node_laws.specs.Fitting.{FitsOffer}
use Rattle.someip_node_rules.specs.forms.GoodConfigs.{is_good, is_good_common, is_good_offer, is_within}
use Rattle.someip_node_rules.proofs.forms.GoodConfigParts.{first_of, good_common, good_offers, other_service}
use Rattle.someip_node_rules.proofs.lists.MemberLemmas.{all_both}

-- ---- what all nodes share

message_limit : (common : Common) → is_good_common common ≡ true → common.message_limit ≤ 1048576
message_limit common good =
    let delays = nat_le common.initial_min_ms common.initial_max_ms && nat_le common.initial_max_ms 60000 in
    let limit = is_within 1400 1048576 common.message_limit in
    let within =
    first_of (delays && limit)
    (is_within 1 1024 common.slots ∷ is_within 1 1024 common.peers ∷ is_within 1 3600000 common.reassembly_timeout_ms ∷ is_within 1 3600000 common.call_timeout_ms ∷ [])
    good in
    leb-true common.message_limit 1048576 (and_parts (nat_le 1400 common.message_limit) (nat_le common.message_limit 1048576) (and_parts delays limit within).1).1

-- ---- configurations

module _ (config : Config) (good : is_good config ≡ true) where
  pub limit_fits : 8 + config.common.message_limit < 2 ^ 32
  limit_fits = let below : config.common.message_limit ≤ 1048576 = message_limit config.common (good_common config good) in omega (arith, below)

  pub offers_are : AllByRecursion (λ offer. offer.1.rules.service ≢ 0xFFFF → FitsOffer offer) config.offers.entries → AllByRecursion FitsOffer config.offers.entries
  offers_are all =
      all_both (λ offer. offer.1.rules.service ≢ 0xFFFF → FitsOffer offer) (λ offer. is_good_offer config offer ≡ true) FitsOffer
      (λ offer fits own. fits (other_service config offer own)) config.offers.entries all (good_offers config good)
