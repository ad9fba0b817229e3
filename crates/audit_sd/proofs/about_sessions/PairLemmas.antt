-- The last messages as a map.
use Rattle.std.proofs.Common.{◌≡◌, ℕ, ◌+◌, ◌<◌, ◌≤◌, nat_lt, Bool, true, false, cond, not, ◌&&◌, ◌||◌, Option, None, Some, is_some, Result, Ok, Err, refl, sym, ap, ◌∙◌, arith}
use Rattle.std.specs.Result.{IfOk, OnErr}
use Rattle.std.proofs.lemmas.Bool.{ltb-true}
use Rattle.std.specs.declared.cmp.Ordering.{Ordering}
use Rattle.std.specs.declared.cmp.Ordering.TheVariants.{Less, Equal, Greater}
use Rattle.std.specs.Ordering.{eq_by_cmp, is_eq, ordering_then}
use Rattle.std.specs.BTreeMap as tree
use Rattle.std.specs.BTreeMap.{BTreeMap, btree_map_len, IsOrdered}
use Rattle.std.specs.FinMap as finite
use Rattle.std.specs.declared.net.ipv4_addr.Ipv4Addr.{Ipv4Addr}
use Rattle.someip_tables.specs.Endpoints.{address_cmp}
use Rattle.someip_tables.specs.Tables.{map_of}
use Rattle.someip_tables.proofs.Trees.{get-map_of, len-map_of}
use Rattle.someip_tables.proofs.Entries.{len-retain_keys-≤}
use Rattle.someip_tables.proofs.MapLaws.{len-insert-≤}
use Rattle.someip_tables.specs.hashed.Rooms.{may_hold}
use Rattle.sd_session.specs.Peers.{shows_reboot}
use Rattle.audit_sd.specs.declared.sessions.last.Last.{Last}
use Rattle.audit_sd.specs.sessions.SessionRules.{as_last, stamp_of}
use Rattle.audit_sd.specs.declared.sessions.message.SdMessage.{SdMessage}
use Rattle.audit_sd.specs.sessions.SessionBooks.{Pairs, pair_cmp, is_other, last_of, pairs_after}
use Rattle.audit_sd.specs.sessions.PairOrder.{pairs_total, exact_pairs}

-- what is known of a pair
pub known_is : (held : BTreeMap (Ipv4Addr × Ipv4Addr) Last) (pair : Ipv4Addr × Ipv4Addr) → tree.get pair_cmp held pair ≡ finite.get (map_of pair_cmp held.entries) pair
known_is held pair = sym (get-map_of pairs_total held.entries pair)

-- how many there are
pub len_is : (held : BTreeMap (Ipv4Addr × Ipv4Addr) Last) (n : ℕ) → n ≡ btree_map_len held → IsOrdered pair_cmp held → n ≡ finite.len (map_of pair_cmp held.entries)
len_is held n is ordered = is ∙ sym (len-map_of pairs_total exact_pairs held.entries ordered)

pub none_within : (held : BTreeMap (Ipv4Addr × Ipv4Addr) Last) (limit : ℕ) → btree_map_len held ≡ 0 → IsOrdered pair_cmp held → finite.len (map_of pair_cmp held.entries) ≤ limit
none_within held limit is ordered = let none : 0 ≡ finite.len (map_of pair_cmp held.entries) = len_is held 0 (sym is) ordered in omega (arith, none)

-- two pairs are equal where both parts are
pub both_tie : (r s : Ordering) → is_eq (ordering_then r s) ≡ (is_eq r && is_eq s)
both_tie Less s = refl
both_tie Equal s = refl
both_tie Greater s = refl

-- of a sender that began again the message alone is left, whether the others go before it or after
pub others_forgotten : (pairs : Pairs) (sender destination : Ipv4Addr) (last : Last)
    → finite.retain_keys (finite.insert pairs (sender, destination) last) (is_other sender destination)
    ≡ finite.insert (finite.retain_keys pairs (λ pair. not (eq_by_cmp address_cmp pair.0 sender))) (sender, destination) last
others_forgotten pairs sender destination last =
    finite.same_map pairs_total exact_pairs _ _ (λ q.
    finite.get-retain_keys (finite.insert pairs (sender, destination) last) (is_other sender destination) q (λ x tie. ap (is_other sender destination) (sym (exact_pairs q x tie)))
    ∙ ap (λ v. cond (is_other sender destination q) v None) (finite.get-insert pairs_total pairs (sender, destination) last q)
    ∙ at (eq_by_cmp pair_cmp q (sender, destination)) (eq_by_cmp address_cmp q.0 sender) (eq_by_cmp address_cmp q.1 destination) (finite.get pairs q) (both_tie _ _)
    ∙ sym (finite.get-insert pairs_total (finite.retain_keys pairs (λ pair. not (eq_by_cmp address_cmp pair.0 sender))) (sender, destination) last q
    ∙ ap (cond (eq_by_cmp pair_cmp q (sender, destination)) (Some last))
    (finite.get-retain_keys pairs (λ pair. not (eq_by_cmp address_cmp pair.0 sender)) q (λ x tie. ap (λ (k : Ipv4Addr × Ipv4Addr). not (eq_by_cmp address_cmp k.0 sender)) (sym (exact_pairs q x tie))))))
  where
    at : (t a b : Bool) (v : Option Last) → t ≡ (a && b) → cond (not a || b) (cond t (Some last) v) None ≡ cond t (Some last) (cond (not a) v None)
    at true true true v is = refl
    at true true false v is = absurd (cc)
    at true false b v is = absurd (cc)
    at false true true v is = absurd (cc)
    at false true false v is = refl
    at false false b v is = refl

-- a message makes at most its own pair more
after_len : (message : SdMessage) (pairs : Pairs) → finite.len (pairs_after message pairs) ≤ finite.len (finite.insert pairs (message.from, message.to) (as_last message))
after_len message pairs = cases (shows_reboot (stamp_of (last_of message pairs)) message.stamp)
  where
    cases : (b : Bool)
        → finite.len (finite.insert (cond b (finite.retain_keys pairs (λ pair. not (eq_by_cmp address_cmp pair.0 message.from))) pairs) (message.from, message.to) (as_last message))
        ≤ finite.len (finite.insert pairs (message.from, message.to) (as_last message))
    cases true = rw (← others_forgotten pairs message.from message.to (as_last message)) (len-retain_keys-≤ pairs_total exact_pairs (finite.insert pairs (message.from, message.to) (as_last message)) (is_other message.from message.to))
    cases false = omega arith

pub after_grows : (message : SdMessage) (pairs : Pairs) → finite.len (pairs_after message pairs) ≤ finite.len pairs + 1
after_grows message pairs =
    let put = len-insert-≤ pairs_total exact_pairs pairs (message.from, message.to) (as_last message) in
    omega (arith, after_len message pairs, put)

-- a book that took a message holds no more pairs than it may
pub after_within : (message : SdMessage) (limit : ℕ) (pairs : Pairs) → finite.len pairs ≤ limit → may_hold limit pairs (message.from, message.to) ≡ true → finite.len (pairs_after message pairs) ≤ limit
after_within message limit pairs few may =
    let put : finite.len (finite.insert pairs (message.from, message.to) (as_last message)) ≤ limit = rw (finite.len-insert pairs_total pairs (message.from, message.to) (as_last message)) (cases (is_some (last_of message pairs)) may) in
    omega (arith, after_len message pairs, put)
  where
    cases : (b : Bool) → (b || nat_lt (finite.len pairs) limit) ≡ true → cond b (finite.len pairs) (finite.len pairs + 1) ≤ limit
    cases true m = few
    cases false m = let below : finite.len pairs < limit = ltb-true (finite.len pairs) limit m in omega (arith, below)

-- whether or not there was memory for it
pub entered_within : {T E : Type 0} (message : SdMessage) (limit : ℕ) (old new : Pairs) (result : Result T E) → finite.len old ≤ limit → may_hold limit old (message.from, message.to) ≡ true
    → IfOk result (λ _. new ≡ pairs_after message old) → OnErr result (new ≡ old) → finite.len new ≤ limit
entered_within message limit old new (Ok told) few may after err = rw after (after_within message limit old few may)
entered_within message limit old new (Err e) few may after err = rw err few
