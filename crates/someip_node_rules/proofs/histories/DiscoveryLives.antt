-- What was heard of peers, and the stamps of what goes out, as each item changes them.
use Rattle.std.proofs.Common.{◌≡◌, Bool, true, false, cond, List, [], ◌∷◌, Option, None, Some, refl, ap, sym, ◌∙◌}
use Rattle.std.specs.List.{flat_map, list_any}
use Rattle.std.specs.Ordering.{eq_by_cmp}
use Rattle.std.specs.FinMap.{get, insert}
use Rattle.std.specs.declared.net.ipv4_addr.Ipv4Addr.{Ipv4Addr}
use Rattle.std.proofs.lemmas.Bool.{or_parts}
use Rattle.someip_tables.specs.Endpoints.{address_cmp}
use Rattle.someip_tables.specs.EndpointOrder.{addresses_total, exact_addresses}
use Rattle.someip_tables.proofs.Entries.{same_by_test}
use Rattle.sd_session.specs.declared.peers.Stamps.{Stamps}
use Rattle.sd_session.specs.declared.stamp.Channel.{Channel}
use Rattle.sd_session.specs.declared.stamp.Stamp.{Stamp}
use Rattle.sd_session.specs.Peers.{stamps_after, stamps_of, stamps_or_none}
use Rattle.sd_session.specs.Sessions.{after_uses, following}
use Rattle.someip_node_rules.specs.histories.Items.{Item, PeerAddressed, PeerHeard}
use Rattle.someip_node_rules.specs.histories.DiscoveryQuestions.{peer_addressed, peer_heard, peers_in, stamps_at, unicast_in}
use Rattle.someip_node_rules.specs.histories.Tables.{stamp_for, stamp_or_first}
use Rattle.someip_node_rules.proofs.lists.CountLemmas.{table-counted}
use Rattle.someip_node_rules.proofs.histories.QuestionLemmas.{get-named, table-insert}

-- of a peer that was not heard nothing is known
unheard : (items : List Item) (q : Ipv4Addr) → list_any (eq_by_cmp address_cmp q) (flat_map peer_heard items) ≡ false → stamps_at items q ≡ None
unheard [] q absent = refl
unheard (item ∷ before) q absent = cases item absent (unheard before q)
  where
    cases : (item : Item) → list_any (eq_by_cmp address_cmp q) (flat_map peer_heard (item ∷ before)) ≡ false
        → (list_any (eq_by_cmp address_cmp q) (flat_map peer_heard before) ≡ false → stamps_at before q ≡ None)
        → stamps_at (item ∷ before) q ≡ None
    cases (PeerHeard peer channel stamp) absent rest =
        let parts = or_parts (eq_by_cmp address_cmp q peer) (list_any (eq_by_cmp address_cmp q) (flat_map peer_heard before)) absent in rw parts.0 (rest parts.1)
    cases item absent rest = rest absent

pub get-peer : (items : List Item) (peer : Ipv4Addr) → get (peers_in items) peer ≡ stamps_at items peer
get-peer items peer = get-named addresses_total exact_addresses (flat_map peer_heard items) (stamps_at items) peer (unheard items peer)

module _ (items : List Item) where
  pub peers_heard : (peer : Ipv4Addr) (channel : Channel) (stamp : Stamp)
      → peers_in (PeerHeard peer channel stamp ∷ items) ≡ insert (peers_in items) peer (stamps_after channel stamp (stamps_of (peers_in items) peer))
  peers_heard peer channel stamp =
      table-insert addresses_total exact_addresses (flat_map peer_heard items) (stamps_at items) _ peer _ (λ q. at q (eq_by_cmp address_cmp q peer) refl)
    where
      after : Option Stamps → Stamps
      after stood = stamps_after channel stamp (stamps_or_none stood)

      at : (q : Ipv4Addr) (t : Bool) → eq_by_cmp address_cmp q peer ≡ t
          → cond t (Some (after (stamps_at items q))) (stamps_at items q) ≡ cond t (Some (after (get (peers_in items) peer))) (stamps_at items q)
      at q true is = ap (λ v. Some (after v)) (ap (stamps_at items) (same_by_test exact_addresses q peer is) ∙ sym (get-peer items peer))
      at q false is = refl

  pub unicast_addressed : (peer : Ipv4Addr) → unicast_in (PeerAddressed peer ∷ items) ≡ insert (unicast_in items) peer (following (stamp_for (unicast_in items) peer))
  unicast_addressed peer =
      table-counted addresses_total exact_addresses after_uses (λ stamp. following (stamp_or_first stamp)) (flat_map peer_addressed items) peer refl (λ n. refl)
