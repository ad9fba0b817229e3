-- A store holds a packet once.
use Rattle.std.proofs.Common.{◌≡◌, ◌≢◌, ℕ, nat_lt, Bool, true, false, cond, List, [], ◌∷◌, length, drop, filter, Option, Some, None, refl, ap, ◌∙◌}
use Rattle.recording_packets.specs.declared.fragments.piece.PacketKey.{PacketKey}
use Rattle.recording_packets.specs.fragments.Pieces.{key_of, piece_of, same_key, is_too_long}
use Rattle.recording_packets.specs.fragments.Parts.{Part, differs, with_piece, payload_of, is_fresh, part_under, without, with_part}
use Rattle.recording_packets.specs.fragments.Stores.{Store, nothing_held, newest, at_moment, part_for, given_up, with_difference, with_payload, received, offered}
use Rattle.recording_packets.specs.fragments.Wholes.{Offer, store_after}
use Rattle.recording_packets.proofs.about_fragments.StoreLemmas.{none-fresh, own-key}
use Rattle.recording_packets.proofs.about_fragments.SourceLemmas.{one-key, own-part}

-- each has another key than those after it
abbrev Apart : List Part → Type 0
Apart [] = Unit {0}
Apart (p ∷ ps) = (part_under p.key ps ≡ None) × Apart ps

other-key : (a b : PacketKey) → same_key a b ≡ false → same_key b a ≡ false
other-key a b other = cases (same_key b a) refl
  where
    cases : (t : Bool) → same_key b a ≡ t → same_key b a ≡ false
    cases false is = is
    cases true is = let same : same_key a b ≡ true = ap (same_key a) (one-key b a is) ∙ own-key a in cc

none-without : (k key : PacketKey) (parts : List Part) → part_under k parts ≡ None → part_under k (without key parts) ≡ None
none-without k key [] none = none
none-without k key (p ∷ ps) none = cases (same_key k p.key) (same_key key p.key) refl none (λ q. none-without k key ps q)
  where
    cases : (a b : Bool) → same_key k p.key ≡ a → cond a (Some p) (part_under k ps) ≡ None → (part_under k ps ≡ None → part_under k (without key ps) ≡ None)
        → part_under k (cond b ps (p ∷ without key ps)) ≡ None
    cases true b own is rest = cc
    cases false true own is rest = is
    cases false false own is rest = rw own (rest is)

none-with : (k key : PacketKey) (n : Part) (parts : List Part) → same_key k n.key ≡ false → part_under k parts ≡ None → part_under k (with_part key n parts) ≡ None
none-with k key n [] other none = rw other refl
none-with k key n (p ∷ ps) other none = cases (same_key k p.key) (same_key key p.key) refl none (λ q. none-with k key n ps other q)
  where
    cases : (a b : Bool) → same_key k p.key ≡ a → cond a (Some p) (part_under k ps) ≡ None → (part_under k ps ≡ None → part_under k (with_part key n ps) ≡ None)
        → part_under k (cond b (n ∷ ps) (p ∷ with_part key n ps)) ≡ None
    cases true b own is rest = cc
    cases false true own is rest = rw other is
    cases false false own is rest = rw own (rest is)

none-newest : (k : PacketKey) (parts : List Part) → part_under k parts ≡ None → part_under k (newest parts) ≡ None
none-newest k [] none = cases (nat_lt 64 0)
  where
    cases : (t : Bool) → part_under k (cond t (drop 1 []) []) ≡ None
    cases true = refl
    cases false = refl
none-newest k (p ∷ ps) none = cases (nat_lt 64 (length (p ∷ ps)))
  where
    tail : (a : Bool) → cond a (Some p) (part_under k ps) ≡ None → part_under k ps ≡ None
    tail true is = cc
    tail false is = is

    cases : (t : Bool) → part_under k (cond t (drop 1 (p ∷ ps)) (p ∷ ps)) ≡ None
    cases true = tail (same_key k p.key) none
    cases false = none

apart-filter : (now : ℕ) (parts : List Part) → Apart parts → Apart (filter (is_fresh now) parts)
apart-filter now [] apart = tt
apart-filter now (p ∷ ps) apart = cases (is_fresh now p) (apart-filter now ps apart.1)
  where
    cases : (t : Bool) → Apart (filter (is_fresh now) ps) → Apart (cond t (p ∷ filter (is_fresh now) ps) (filter (is_fresh now) ps))
    cases true rest = (none-fresh p.key now ps apart.0, rest)
    cases false rest = rest

apart-without : (key : PacketKey) (parts : List Part) → Apart parts → Apart (without key parts)
apart-without key [] apart = tt
apart-without key (p ∷ ps) apart = cases (same_key key p.key) (apart-without key ps apart.1)
  where
    cases : (t : Bool) → Apart (without key ps) → Apart (cond t ps (p ∷ without key ps))
    cases true rest = apart.1
    cases false rest = (none-without p.key key ps apart.0, rest)

apart-with : (key : PacketKey) (n : Part) (parts : List Part) → n.key ≡ key → Apart parts → Apart (with_part key n parts)
apart-with key n [] own apart = (refl, tt)
apart-with key n (p ∷ ps) own apart = cases (same_key key p.key) refl (apart-with key n ps own apart.1)
  where
    cases : (t : Bool) → same_key key p.key ≡ t → Apart (with_part key n ps) → Apart (cond t (n ∷ ps) (p ∷ with_part key n ps))
    cases true is rest = (ap (λ k. part_under k ps) (own ∙ one-key key p.key is) ∙ apart.0, apart.1)
    cases false is rest = (none-with p.key key n ps (ap (same_key p.key) own ∙ other-key key p.key is) apart.0, rest)

apart-newest : (parts : List Part) → Apart parts → Apart (newest parts)
apart-newest [] apart = cases (nat_lt 64 0)
  where
    cases : (t : Bool) → Apart (cond t (drop 1 []) [])
    cases true = tt
    cases false = tt
apart-newest (p ∷ ps) apart = cases (nat_lt 64 (length (p ∷ ps)))
  where
    cases : (t : Bool) → Apart (cond t (drop 1 (p ∷ ps)) (p ∷ ps))
    cases true = apart.1
    cases false = apart

-- but for one, none has this key
pub none-left : (key : PacketKey) (parts : List Part) → Apart parts → part_under key (without key parts) ≡ None
none-left key [] apart = refl
none-left key (p ∷ ps) apart = cases (same_key key p.key) refl (none-left key ps apart.1)
  where
    cases : (t : Bool) → same_key key p.key ≡ t → part_under key (without key ps) ≡ None → part_under key (cond t ps (p ∷ without key ps)) ≡ None
    cases true is rest = ap (λ k. part_under k ps) (one-key key p.key is) ∙ apart.0
    cases false is rest = rw is rest

-- ---- an offer

abbrev came : Offer → Store → Part
came o s = part_for (key_of o.packet) o.now (filter (is_fresh o.now) s.parts)

abbrev judged : Offer → Store → Bool → Bool → Option (List ℕ) → Store
judged o s a b w =
    cond a (given_up (at_moment o.now s))
    (cond b (with_difference (key_of o.packet) (came o s) (at_moment o.now s)) (with_payload (key_of o.packet) (with_piece (came o s) (piece_of o.packet)) w (at_moment o.now s)))

apart-judged : (o : Offer) (s : Store) → Apart s.parts → (a b : Bool) (w : Option (List ℕ)) → Apart (judged o s a b w).parts
apart-judged o s apart true b w = apart-filter o.now s.parts apart
apart-judged o s apart false true w = apart-without (key_of o.packet) (filter (is_fresh o.now) s.parts) (apart-filter o.now s.parts apart)
apart-judged o s apart false false None =
    apart-with (key_of o.packet) (with_piece (came o s) (piece_of o.packet)) (filter (is_fresh o.now) s.parts) (own-part (key_of o.packet) o.now (filter (is_fresh o.now) s.parts)) (apart-filter o.now s.parts apart)
apart-judged o s apart false false (Some payload) = apart-without (key_of o.packet) (filter (is_fresh o.now) s.parts) (apart-filter o.now s.parts apart)

apart-offered : (o : Offer) (s : Store) → Apart s.parts → Apart (offered o.now o.packet s).parts
apart-offered o s apart =
    apart-newest (received (key_of o.packet) o.now (piece_of o.packet) (at_moment o.now s)).parts
    (apart-judged o s apart (is_too_long (piece_of o.packet)) (differs (came o s) (piece_of o.packet)) (payload_of (with_piece (came o s) (piece_of o.packet))))

apart : (offers : List Offer) → Apart (store_after nothing_held offers).parts
apart [] = tt
apart (o ∷ offers) = apart-offered o (store_after nothing_held offers) (apart offers)

pub held-once : (offers : List Offer) (key : PacketKey) → part_under key (without key (store_after nothing_held offers).parts) ≡ None
held-once offers key = none-left key (store_after nothing_held offers).parts (apart offers)

gone-whole : (o : Offer) (s : Store) (payload : List ℕ) → Apart s.parts → (a b : Bool) (w : Option (List ℕ)) → (judged o s a b w).whole ≡ Some payload → part_under (key_of o.packet) (judged o s a b w).parts ≡ None
gone-whole o s payload apart true b w is = cc
gone-whole o s payload apart false true w is = cc
gone-whole o s payload apart false false None is = cc
gone-whole o s payload apart false false (Some x) is = none-left (key_of o.packet) (filter (is_fresh o.now) s.parts) (apart-filter o.now s.parts apart)

gone-differs : (o : Offer) (s : Store) → Apart s.parts → (a b : Bool) (w : Option (List ℕ)) → (judged o s a b w).that_differ ≢ s.that_differ → part_under (key_of o.packet) (judged o s a b w).parts ≡ None
gone-differs o s apart true b w other = absurd (other refl)
gone-differs o s apart false true w other = none-left (key_of o.packet) (filter (is_fresh o.now) s.parts) (apart-filter o.now s.parts apart)
gone-differs o s apart false false None other = absurd (other refl)
gone-differs o s apart false false (Some x) other = absurd (other refl)

pub whole-gone : (offers : List Offer) (o : Offer) (payload : List ℕ) → (store_after nothing_held (o ∷ offers)).whole ≡ Some payload
    → part_under (key_of o.packet) (store_after nothing_held (o ∷ offers)).parts ≡ None
whole-gone offers o payload is =
    let s : Store = store_after nothing_held offers in
    none-newest (key_of o.packet) (received (key_of o.packet) o.now (piece_of o.packet) (at_moment o.now s)).parts
    (gone-whole o s payload (apart offers) (is_too_long (piece_of o.packet)) (differs (came o s) (piece_of o.packet)) (payload_of (with_piece (came o s) (piece_of o.packet))) is)

pub differs-gone : (offers : List Offer) (o : Offer) → (store_after nothing_held (o ∷ offers)).that_differ ≢ (store_after nothing_held offers).that_differ
    → part_under (key_of o.packet) (store_after nothing_held (o ∷ offers)).parts ≡ None
differs-gone offers o other =
    let s : Store = store_after nothing_held offers in
    none-newest (key_of o.packet) (received (key_of o.packet) o.now (piece_of o.packet) (at_moment o.now s)).parts
    (gone-differs o s (apart offers) (is_too_long (piece_of o.packet)) (differs (came o s) (piece_of o.packet)) (payload_of (with_piece (came o s) (piece_of o.packet))) other)
