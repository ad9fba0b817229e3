-- A table of peers as a map.
use Rattle.std.proofs.Common.{◌≡◌, ℕ, ◌+◌, ◌<◌, ◌≤◌, nat_lt, Bool, true, false, cond, ◌||◌, Option, is_some, Result, Ok, Err, sym, ap₂, ◌∙◌, arith}
use Rattle.std.proofs.lemmas.Bool.{ltb-true}
use Rattle.sd_session.specs.declared.error.SessionError.{SessionError}
use Rattle.sd_session.specs.declared.error.SessionError.TheVariants.{PeersFull, OutOfMemory}
use Rattle.sd_session.specs.declared.peers.Seen.{Seen}
use Rattle.sd_session.specs.declared.stamp.Channel.{Channel}
use Rattle.sd_session.specs.declared.stamp.Stamp.{Stamp}
use Rattle.std.specs.BTreeMap as tree
use Rattle.std.specs.BTreeMap.{BTreeMap, btree_map_len, IsOrdered}
use Rattle.std.specs.FinMap as finite
use Rattle.std.specs.declared.net.ipv4_addr.Ipv4Addr.{Ipv4Addr}
use Rattle.someip_tables.specs.Endpoints.{address_cmp}
use Rattle.someip_tables.specs.EndpointOrder.{addresses_total, exact_addresses}
use Rattle.someip_tables.specs.Tables.{map_of}
use Rattle.someip_tables.proofs.Trees.{get-map_of, len-map_of}
use Rattle.sd_session.specs.declared.peers.Stamps.{Stamps}
use Rattle.sd_session.specs.Peers.{Held, Saw, may_hold, stamps_after, stamps_of}

-- what is known of a peer
pub known_is : (held : BTreeMap Ipv4Addr Stamps) (peer : Ipv4Addr) (known : Option Stamps) → known ≡ tree.get address_cmp held peer → known ≡ finite.get (map_of address_cmp held.entries) peer
known_is held peer known is = is ∙ sym (get-map_of addresses_total held.entries peer)

-- how many there are
pub len_is : (held : BTreeMap Ipv4Addr Stamps) (n : ℕ) → n ≡ btree_map_len held → IsOrdered address_cmp held → n ≡ finite.len (map_of address_cmp held.entries)
len_is held n is ordered = is ∙ sym (len-map_of addresses_total exact_addresses held.entries ordered)

-- whether there is a place
pub place_is : (held : BTreeMap Ipv4Addr Stamps) (limit n : ℕ) (peer : Ipv4Addr) (known : Option Stamps) → known ≡ tree.get address_cmp held peer → n ≡ btree_map_len held → IsOrdered address_cmp held
    → (is_some known || nat_lt n limit) ≡ may_hold limit (map_of address_cmp held.entries) peer
place_is held limit n peer known is long ordered =
    ap₂ (λ k m. is_some k || nat_lt m limit) (known_is held peer known is) (len_is held n long ordered)

-- a table that entered a message of a peer holds no more peers than it may
pub saw_within : (limit : ℕ) (peer : Ipv4Addr) (channel : Channel) (stamp : Stamp) (old : Held) (result : Result Seen SessionError) (new : Held) → finite.len old ≤ limit
    → Saw limit peer channel stamp old result new → finite.len new ≤ limit
saw_within limit peer channel stamp old (Ok seen) new few saw = rw (saw.2, finite.len-insert addresses_total old peer (stamps_after channel stamp (stamps_of old peer))) (cases (finite.contains_key old peer) saw.0)
  where
    cases : (b : Bool) → (b || nat_lt (finite.len old) limit) ≡ true → cond b (finite.len old) (finite.len old + 1) ≤ limit
    cases true may = few
    cases false may = let below : finite.len old < limit = ltb-true (finite.len old) limit may in omega (arith, below)
saw_within limit peer channel stamp old (Err PeersFull) new few saw = rw saw.1 few
saw_within limit peer channel stamp old (Err OutOfMemory) new few saw = rw saw.2 few

pub none_within : (held : BTreeMap Ipv4Addr Stamps) (limit : ℕ) → btree_map_len held ≡ 0 → IsOrdered address_cmp held → finite.len (map_of address_cmp held.entries) ≤ limit
none_within held limit is ordered = let none : 0 ≡ finite.len (map_of address_cmp held.entries) = len_is held 0 (sym is) ordered in omega (arith, none)
