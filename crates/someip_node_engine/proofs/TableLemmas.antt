-- Tables are the same where each table is.
use Rattle.std.proofs.Common.{◌≡◌}
use Rattle.someip_node_rules.specs.histories.Tables.{Tables}

pub same_tables : (a b : Tables) → a.config ≡ b.config → a.clock ≡ b.clock → a.parts ≡ b.parts → a.peers ≡ b.peers → a.multicast ≡ b.multicast → a.unicast ≡ b.unicast → a.offers ≡ b.offers
    → a.seek ≡ b.seek → a.subscribers ≡ b.subscribers → a.wishes ≡ b.wishes → a.client ≡ b.client → a.server ≡ b.server → a ≡ b
same_tables a b config clock parts peers multicast unicast offers seek subscribers wishes client server = λ i. record {
  config = config i;
  clock = clock i;
  parts = parts i;
  peers = peers i;
  multicast = multicast i;
  unicast = unicast i;
  offers = offers i;
  seek = seek i;
  subscribers = subscribers i;
  wishes = wishes i;
  client = client i;
  server = server i;
}
