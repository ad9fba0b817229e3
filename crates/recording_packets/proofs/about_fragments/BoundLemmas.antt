-- What bounds a store, and what other packets leave.
use Rattle.std.proofs.Common.{◌≡◌, ℕ, zero, suc, ◌<◌, ◌≤◌, nat_lt, Bool, true, false, cond, List, [], ◌∷◌, length, filter, Option, Some, None, refl, ap, sym, ◌∙◌, arith}
use Rattle.std.proofs.lemmas.Bool.Decides.{nat_tests}
use Rattle.std.specs.List.{All}
use Rattle.recording.specs.Packets.{Ipv4Value}
use Rattle.recording_packets.specs.declared.fragments.piece.PacketKey.{PacketKey}
use Rattle.recording_packets.specs.fragments.Pieces.{key_of, piece_of, same_key, end_of, is_too_long}
use Rattle.recording_packets.specs.fragments.Parts.{Part, differs, with_piece, payload_of, is_fresh, part_under, without, with_part}
use Rattle.recording_packets.specs.fragments.Stores.{Store, nothing_held, newest, at_moment, part_for, given_up, with_difference, with_payload, received, offered}
use Rattle.recording_packets.specs.fragments.Wholes.{Offer, store_after}
use Rattle.recording_packets.proofs.about_fragments.KnownLemmas.{length-with_piece}
use Rattle.recording_packets.proofs.about_fragments.StoreLemmas.{filter-le, received-le, offered-le, found-fresh}
use Rattle.recording_packets.proofs.about_fragments.SourceLemmas.{Each, each-filter, each-without, each-with, each-newest, each-for, one-key, own-part}

-- ---- packets and bytes

pub few-held : (offers : List Offer) → length (store_after nothing_held offers).parts ≤ 64
few-held [] = omega arith
few-held (o ∷ offers) = offered-le o.now o.packet (store_after nothing_held offers) (few-held offers)

abbrev Short : Part → Type 0
Short part = length part.cells ≤ 65535

-- the store after an offer, by what the piece is found to be
abbrev judged : ℕ → Ipv4Value → Store → Bool → Bool → Option (List ℕ) → Store
judged now v s a b w =
    cond a (given_up (at_moment now s))
    (cond b (with_difference (key_of v) (part_for (key_of v) now (filter (is_fresh now) s.parts)) (at_moment now s))
    (with_payload (key_of v) (with_piece (part_for (key_of v) now (filter (is_fresh now) s.parts)) (piece_of v)) w (at_moment now s)))

short-judged : (now : ℕ) (v : Ipv4Value) (s : Store) → Each Short s.parts → (a b : Bool) (w : Option (List ℕ)) → is_too_long (piece_of v) ≡ a → Each Short (judged now v s a b w).parts
short-judged now v s each true b w is = each-filter Short (is_fresh now) s.parts each
short-judged now v s each false true w is = each-without Short (key_of v) (filter (is_fresh now) s.parts) (each-filter Short (is_fresh now) s.parts each)
short-judged now v s each false false (Some x) is = each-without Short (key_of v) (filter (is_fresh now) s.parts) (each-filter Short (is_fresh now) s.parts each)
short-judged now v s each false false None is =
    let left : List Part = filter (is_fresh now) s.parts in
    let all : Each Short left = each-filter Short (is_fresh now) s.parts each in
    let part : Part = part_for (key_of v) now left in
    let before : Short part = each-for Short (key_of v) now left (omega arith) all in
    let fits : end_of (piece_of v) ≤ 65535 = grind (arith, nat_tests, is) in
    each-with Short (key_of v) (with_piece part (piece_of v)) left (length-with_piece 65535 (piece_of v) part.cells before fits) all

short : (offers : List Offer) → Each Short (store_after nothing_held offers).parts
short [] = tt
short (o ∷ offers) =
    let s : Store = store_after nothing_held offers in
    let part : Part = part_for (key_of o.packet) o.now (filter (is_fresh o.now) s.parts) in
    each-newest Short (received (key_of o.packet) o.now (piece_of o.packet) (at_moment o.now s)).parts
    (short-judged o.now o.packet s (short offers) (is_too_long (piece_of o.packet)) (differs part (piece_of o.packet)) (payload_of (with_piece part (piece_of o.packet))) refl)

each-all : (P : Part → Type 0) (parts : List Part) → Each P parts → All P parts
each-all P [] each k d lt = absurd (omega (arith, lt))
each-all P (p ∷ ps) each zero d lt = each.0
each-all P (p ∷ ps) each (suc k) d lt = each-all P ps each.1 k d (omega (arith, lt))

pub short-held : (offers : List Offer) → All (λ part. length part.cells ≤ 65535) (store_after nothing_held offers).parts
short-held offers = each-all Short (store_after nothing_held offers).parts (short offers)

-- ---- another packet

other-without : (key k : PacketKey) (parts : List Part) → same_key key k ≡ false → part_under key (without k parts) ≡ part_under key parts
other-without key k [] other = refl
other-without key k (p ∷ ps) other = cases (same_key k p.key) refl (other-without key k ps other)
  where
    cases : (t : Bool) → same_key k p.key ≡ t → part_under key (without k ps) ≡ part_under key ps
        → part_under key (cond t ps (p ∷ without k ps)) ≡ part_under key (p ∷ ps)
    cases true is rest =
        let apart : same_key key p.key ≡ false = ap (same_key key) (sym (one-key k p.key is)) ∙ other in
        rw apart refl
    cases false is rest = ap (λ o. cond (same_key key p.key) (Some p) o) rest

other-with : (key k : PacketKey) (n : Part) (parts : List Part) → n.key ≡ k → same_key key k ≡ false → part_under key (with_part k n parts) ≡ part_under key parts
other-with key k n [] own other =
    let apart : same_key key n.key ≡ false = ap (same_key key) own ∙ other in
    rw apart refl
other-with key k n (p ∷ ps) own other = cases (same_key k p.key) refl (other-with key k n ps own other)
  where
    mine : same_key key n.key ≡ false
    mine = ap (same_key key) own ∙ other

    cases : (t : Bool) → same_key k p.key ≡ t → part_under key (with_part k n ps) ≡ part_under key ps
        → part_under key (cond t (n ∷ ps) (p ∷ with_part k n ps)) ≡ part_under key (p ∷ ps)
    cases true is rest =
        let apart : same_key key p.key ≡ false = ap (same_key key) (sym (one-key k p.key is)) ∙ other in
        rw (mine, apart) refl
    cases false is rest = ap (λ o. cond (same_key key p.key) (Some p) o) rest

other-judged : (key : PacketKey) (now : ℕ) (v : Ipv4Value) (s : Store) → same_key key (key_of v) ≡ false → (a b : Bool) (w : Option (List ℕ))
    → part_under key (judged now v s a b w).parts ≡ part_under key (filter (is_fresh now) s.parts)
other-judged key now v s other true b w = refl
other-judged key now v s other false true w = other-without key (key_of v) (filter (is_fresh now) s.parts) other
other-judged key now v s other false false (Some x) = other-without key (key_of v) (filter (is_fresh now) s.parts) other
other-judged key now v s other false false None =
    other-with key (key_of v) (with_piece (part_for (key_of v) now (filter (is_fresh now) s.parts)) (piece_of v)) (filter (is_fresh now) s.parts) (own-part (key_of v) now (filter (is_fresh now) s.parts)) other

all-newest : (parts : List Part) → length parts ≤ 64 → newest parts ≡ parts
all-newest parts le = let few : nat_lt 64 (length parts) ≡ false = grind (arith, nat_tests, le) in rw few refl

pub other-stays : (key : PacketKey) (now : ℕ) (v : Ipv4Value) (s : Store) (part : Part) → same_key key (key_of v) ≡ false → part_under key s.parts ≡ Some part
    → is_fresh now part ≡ true → length s.parts < 64 → part_under key (offered now v s).parts ≡ Some part
other-stays key now v s part other held fresh room =
    let left : List Part = filter (is_fresh now) s.parts in
    let mine : Part = part_for (key_of v) now left in
    let few : length left ≤ 63 = omega (arith, room, filter-le (is_fresh now) s.parts) in
    ap (part_under key) (all-newest (received (key_of v) now (piece_of v) (at_moment now s)).parts (received-le 63 (key_of v) now (piece_of v) (at_moment now s) few))
    ∙ (other-judged key now v s other (is_too_long (piece_of v)) (differs mine (piece_of v)) (payload_of (with_piece mine (piece_of v))) ∙ found-fresh key now part s.parts held fresh)
