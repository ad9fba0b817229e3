-- A store to which the fragments of one packet are offered.
use Rattle.std.proofs.Common.{◌≡◌, ℕ, suc, ◌+◌, ◌≤◌, nat_lt, Bool, true, false, cond, ◌==◌, List, [], ◌∷◌, length, drop, filter, Option, Some, None, unwrap_or, refl, ap, sym, subst, ◌∙◌, arith}
use Rattle.std.proofs.lemmas.Bool.Decides.{nat_tests}
use Rattle.std.specs.List.{All}
use Rattle.std.specs.Str.{bytes_eq}
use Rattle.recording.specs.Packets.{Ipv4Value}
use Rattle.recording_packets.specs.declared.fragments.piece.PacketKey.{PacketKey}
use Rattle.recording_packets.specs.fragments.Pieces.{Piece, key_of, piece_of, same_key, end_of, is_too_long}
use Rattle.recording_packets.specs.fragments.Parts.{Part, nothing_of, differs, with_piece, payload_of, is_fresh, part_under, without, with_part}
use Rattle.recording_packets.specs.fragments.Stores.{Store, newest, at_most_64, at_moment, part_for, given_up, with_difference, with_payload, joined, received, offered}
use Rattle.recording_packets.specs.fragments.Wholes.{covers, Offer, IsOfferOf, store_after, pieces_of}
use Rattle.recording_packets.proofs.about_fragments.KnownLemmas.{Made, made-none, made-more, made-agrees, made-payload}
use Rattle.recording_packets.proofs.about_fragments.OrderLemmas.{not-covered-before}

-- ---- how many are held

pub filter-le : (t : Part → Bool) (parts : List Part) → length (filter t parts) ≤ length parts
filter-le t [] = omega arith
filter-le t (p ∷ ps) = cases (t p) (filter-le t ps)
  where
    cases : (b : Bool) → length (filter t ps) ≤ length ps → length (cond b (p ∷ filter t ps) (filter t ps)) ≤ length (p ∷ ps)
    cases true le = omega (arith, le)
    cases false le = omega (arith, le)

without-le : (key : PacketKey) (parts : List Part) → length (without key parts) ≤ length parts
without-le key [] = omega arith
without-le key (p ∷ ps) = cases (same_key key p.key) (without-le key ps)
  where
    cases : (b : Bool) → length (without key ps) ≤ length ps → length (cond b ps (p ∷ without key ps)) ≤ length (p ∷ ps)
    cases true le = omega arith
    cases false le = omega (arith, le)

with-le : (key : PacketKey) (n : Part) (parts : List Part) → length (with_part key n parts) ≤ length parts + 1
with-le key n [] = omega arith
with-le key n (p ∷ ps) = cases (same_key key p.key) (with-le key n ps)
  where
    cases : (b : Bool) → length (with_part key n ps) ≤ length ps + 1 → length (cond b (n ∷ ps) (p ∷ with_part key n ps)) ≤ length (p ∷ ps) + 1
    cases true le = omega arith
    cases false le = omega (arith, le)

newest-le : (parts : List Part) → length parts ≤ 65 → length (newest parts) ≤ 64
newest-le [] le = omega arith
newest-le (p ∷ ps) le = cases (nat_lt 64 (length (p ∷ ps))) refl
  where
    cases : (b : Bool) → nat_lt 64 (length (p ∷ ps)) ≡ b → length (cond b (drop 1 (p ∷ ps)) (p ∷ ps)) ≤ 64
    cases true is = omega (arith, le)
    cases false is = let short : length (p ∷ ps) ≤ 64 = grind (arith, nat_tests, is) in short

pub received-le : (m : ℕ) (key : PacketKey) (now : ℕ) (piece : Piece) (s : Store) → length s.parts ≤ m → length (received key now piece s).parts ≤ m + 1
received-le m key now piece s le = first (is_too_long piece) (differs part piece) (payload_of (with_piece part piece))
  where
    part : Part
    part = part_for key now s.parts

    held : (o : Option (List ℕ)) → length (with_payload key (with_piece part piece) o s).parts ≤ m + 1
    held None = omega (arith, le, with-le key (with_piece part piece) s.parts)
    held (Some payload) = omega (arith, le, without-le key s.parts)

    second : (b : Bool) (o : Option (List ℕ)) → length (cond b (with_difference key part s) (with_payload key (with_piece part piece) o s)).parts ≤ m + 1
    second true o = omega (arith, le, without-le key s.parts)
    second false o = held o

    first : (a b : Bool) (o : Option (List ℕ)) → length (cond a (given_up s) (cond b (with_difference key part s) (with_payload key (with_piece part piece) o s))).parts ≤ m + 1
    first true b o = omega (arith, le)
    first false b o = second b o

pub offered-le : (now : ℕ) (v : Ipv4Value) (s : Store) → length s.parts ≤ 64 → length (offered now v s).parts ≤ 64
offered-le now v s le =
    newest-le (received (key_of v) now (piece_of v) (at_moment now s)).parts
    (received-le 64 (key_of v) now (piece_of v) (at_moment now s) (omega (arith, le, filter-le (is_fresh now) s.parts)))

-- ---- what is found

bytes-same : (xs : List ℕ) → bytes_eq xs xs ≡ true
bytes-same [] = refl
bytes-same (x ∷ xs) = let one : (x == x) ≡ true = grind (arith, nat_tests) in rw one (bytes-same xs)

pub own-key : (key : PacketKey) → same_key key key ≡ true
own-key key =
    let last : (key.identification == key.identification) ≡ true = grind (arith, nat_tests) in
    rw (bytes-same key.source, bytes-same key.destination, last) refl

found-with : (key : PacketKey) (n : Part) (parts : List Part) → same_key key n.key ≡ true → part_under key (with_part key n parts) ≡ Some n
found-with key n [] own = rw own refl
found-with key n (p ∷ ps) own = cases (same_key key p.key) refl (found-with key n ps own)
  where
    cases : (b : Bool) → same_key key p.key ≡ b → part_under key (with_part key n ps) ≡ Some n → part_under key (cond b (n ∷ ps) (p ∷ with_part key n ps)) ≡ Some n
    cases true is rest = rw own refl
    cases false is rest = rw is rest

found-newest : (key : PacketKey) (n : Part) (parts : List Part) → length parts ≤ 64 → same_key key n.key ≡ true → part_under key (newest (with_part key n parts)) ≡ Some n
found-newest key n [] le own = rw own refl
found-newest key n (p ∷ ps) le own = cases (same_key key p.key) refl
  where
    held : (b : Bool) → same_key key p.key ≡ false → part_under key (cond b (drop 1 (p ∷ with_part key n ps)) (p ∷ with_part key n ps)) ≡ Some n
    held true is = found-with key n ps own
    held false is = rw is (found-with key n ps own)

    cases : (b : Bool) → same_key key p.key ≡ b → part_under key (newest (cond b (n ∷ ps) (p ∷ with_part key n ps))) ≡ Some n
    cases true is = let short : nat_lt 64 (length (n ∷ ps)) ≡ false = grind (arith, nat_tests, le) in rw (short, own) refl
    cases false is = held (nat_lt 64 (length (p ∷ with_part key n ps))) is

pub found-fresh : (key : PacketKey) (now : ℕ) (n : Part) (parts : List Part) → part_under key parts ≡ Some n → is_fresh now n ≡ true → part_under key (filter (is_fresh now) parts) ≡ Some n
found-fresh key now n [] is fresh = cc
found-fresh key now n (p ∷ ps) is fresh = cases (same_key key p.key) (is_fresh now p) refl refl is (λ q. found-fresh key now n ps q fresh)
  where
    cases : (b f : Bool) → same_key key p.key ≡ b → is_fresh now p ≡ f → cond b (Some p) (part_under key ps) ≡ Some n → (part_under key ps ≡ Some n → part_under key (filter (is_fresh now) ps) ≡ Some n)
        → part_under key (cond f (p ∷ filter (is_fresh now) ps) (filter (is_fresh now) ps)) ≡ Some n
    cases true true own left some later = rw own some
    cases true false own left some later =
        let this : p ≡ n = cc in
        let both : is_fresh now p ≡ true = ap (is_fresh now) this ∙ fresh in
        cc
    cases false true own left some later = rw own (later some)
    cases false false own left some later = later some

pub none-fresh : (key : PacketKey) (now : ℕ) (parts : List Part) → part_under key parts ≡ None → part_under key (filter (is_fresh now) parts) ≡ None
none-fresh key now [] none = refl
none-fresh key now (p ∷ ps) none = cases (same_key key p.key) (is_fresh now p) refl none (λ q. none-fresh key now ps q)
  where
    cases : (b f : Bool) → same_key key p.key ≡ b → cond b (Some p) (part_under key ps) ≡ None → (part_under key ps ≡ None → part_under key (filter (is_fresh now) ps) ≡ None)
        → part_under key (cond f (p ∷ filter (is_fresh now) ps) (filter (is_fresh now) ps)) ≡ None
    cases true f own is later = cc
    cases false true own is later = rw own (later is)
    cases false false own is later = later is

-- ---- the fragments of one packet

-- what came of the packet with this key, at a moment
abbrev came : PacketKey → ℕ → Store → Part
came key now s = part_for key now (filter (is_fresh now) s.parts)

-- a store to which these pieces of a payload were offered, which do not cover it
record Holding (key : PacketKey) (payload : List ℕ) (start : ℕ) (pieces : List Piece) (s : Store) : Type 0 where
  pub few : length s.parts ≤ 64
  pub own : (now : ℕ) → start ≤ now → now ≤ start + 30000000000 → same_key key (came key now s).key ≡ true
  pub made : (now : ℕ) → start ≤ now → now ≤ start + 30000000000 → Made payload pieces (came key now s)
  pub from : (now : ℕ) → start ≤ now → now ≤ start + 30000000000 → start ≤ (came key now s).first

holding-none : (key : PacketKey) (payload : List ℕ) (start : ℕ) (s : Store) → length s.parts ≤ 64 → part_under key s.parts ≡ None → Holding key payload start [] s
holding-none key payload start s le none =
    record {
      few = le;
      own = λ now from to. subst (λ (p : Part). same_key key p.key ≡ true) (sym (nothing now)) (own-key key);
      made = λ now from to. subst (Made payload []) (sym (nothing now)) (made-none payload key now);
      from = λ now from to. subst (λ (p : Part). start ≤ p.first) (sym (nothing now)) from;
    }
  where
    nothing : (now : ℕ) → came key now s ≡ nothing_of key now
    nothing now = ap (λ o. unwrap_or o (nothing_of key now)) (none-fresh key now s.parts none)

offered-is : (key : PacketKey) (payload : List ℕ) (start : ℕ) (pieces : List Piece) (s : Store) (o : Offer) → length payload ≤ 65535 → IsOfferOf key payload start o
    → Holding key payload start pieces s
    → offered o.now o.packet s ≡ at_most_64 (with_payload key (with_piece (came key o.now s) (piece_of o.packet)) (cond (covers (length payload) (piece_of o.packet ∷ pieces)) (Some payload) None) (at_moment o.now s))
offered-is key payload start pieces s o le of hold =
    let piece : Piece = piece_of o.packet in
    let part : Part = came key o.now s in
    let before : Made payload pieces part = hold.made o.now of.from of.to in
    let within : end_of piece ≤ length payload = of.piece.within in
    let short : is_too_long piece ≡ false = grind (arith, nat_tests, within, le) in
    let agree : differs part piece ≡ false = made-agrees payload pieces part piece of.piece before in
    let whole : payload_of (with_piece part piece) ≡ cond (covers (length payload) (piece ∷ pieces)) (Some payload) None =
    made-payload payload (piece ∷ pieces) (with_piece part piece) (made-more payload pieces part piece of.piece before) in
    ap (λ k. at_most_64 (received k o.now piece (at_moment o.now s))) of.own ∙ (received_so short agree ∙ ap (λ w. at_most_64 (with_payload key (with_piece part piece) w (at_moment o.now s))) whole)
  where
    received_so : is_too_long (piece_of o.packet) ≡ false → differs (came key o.now s) (piece_of o.packet) ≡ false
        → at_most_64 (received key o.now (piece_of o.packet) (at_moment o.now s))
        ≡ at_most_64 (with_payload key (with_piece (came key o.now s) (piece_of o.packet)) (payload_of (with_piece (came key o.now s) (piece_of o.packet))) (at_moment o.now s))
    received_so short agree =
        ap (λ t. at_most_64 (cond t (given_up (at_moment o.now s)) (joined key (came key o.now s) (piece_of o.packet) (at_moment o.now s)))) short
        ∙ ap (λ t. at_most_64 (cond t (with_difference key (came key o.now s) (at_moment o.now s)) (with_payload key (with_piece (came key o.now s) (piece_of o.packet)) (payload_of (with_piece (came key o.now s) (piece_of o.packet))) (at_moment o.now s)))) agree

told-of : (key : PacketKey) (n : Part) (payload : List ℕ) (now : ℕ) (s : Store) (t : Bool)
    → ((at_most_64 (with_payload key n (cond t (Some payload) None) (at_moment now s))).whole ≡ cond t (Some payload) None)
    × ((at_most_64 (with_payload key n (cond t (Some payload) None) (at_moment now s))).that_differ ≡ s.that_differ)
told-of key n payload now s true = (refl, refl)
told-of key n payload now s false = (refl, refl)

told : (key : PacketKey) (payload : List ℕ) (start : ℕ) (pieces : List Piece) (s : Store) (o : Offer) → length payload ≤ 65535 → IsOfferOf key payload start o
    → Holding key payload start pieces s
    → ((offered o.now o.packet s).whole ≡ cond (covers (length payload) (piece_of o.packet ∷ pieces)) (Some payload) None) × ((offered o.now o.packet s).that_differ ≡ s.that_differ)
told key payload start pieces s o le of hold =
    let is = offered-is key payload start pieces s o le of hold in
    let both = told-of key (with_piece (came key o.now s) (piece_of o.packet)) payload o.now s (covers (length payload) (piece_of o.packet ∷ pieces)) in
    (ap (λ (x : Store). x.whole) is ∙ both.0, ap (λ (x : Store). x.that_differ) is ∙ both.1)

holding-more : (key : PacketKey) (payload : List ℕ) (start : ℕ) (pieces : List Piece) (s : Store) (o : Offer) → length payload ≤ 65535 → IsOfferOf key payload start o
    → covers (length payload) (piece_of o.packet ∷ pieces) ≡ false → Holding key payload start pieces s → Holding key payload start (piece_of o.packet ∷ pieces) (offered o.now o.packet s)
holding-more key payload start pieces s o le of not_yet hold =
    record {
      few = offered-le o.now o.packet s hold.few;
      own = λ now from to. subst (λ (p : Part). same_key key p.key ≡ true) (sym (found now from to)) (hold.own o.now of.from of.to);
      made = λ now from to. subst (Made payload (piece_of o.packet ∷ pieces)) (sym (found now from to)) (made-more payload pieces (came key o.now s) (piece_of o.packet) of.piece (hold.made o.now of.from of.to));
      from = λ now from to. subst (λ (p : Part). start ≤ p.first) (sym (found now from to)) (hold.from o.now of.from of.to);
    }
  where
    n : Part
    n = with_piece (came key o.now s) (piece_of o.packet)

    held : (offered o.now o.packet s).parts ≡ newest (with_part key n (filter (is_fresh o.now) s.parts))
    held =
        ap (λ (x : Store). x.parts) (offered-is key payload start pieces s o le of hold)
        ∙ ap (λ t. (at_most_64 (with_payload key n (cond t (Some payload) None) (at_moment o.now s))).parts) not_yet

    found : (now : ℕ) → start ≤ now → now ≤ start + 30000000000 → came key now (offered o.now o.packet s) ≡ n
    found now from to =
        let first : start ≤ (came key o.now s).first = hold.from o.now of.from of.to in
        let fresh : is_fresh now n ≡ true = grind (arith, nat_tests, first, to) in
        let few : length (filter (is_fresh o.now) s.parts) ≤ 64 = omega (arith, hold.few, filter-le (is_fresh o.now) s.parts) in
        let under : part_under key (offered o.now o.packet s).parts ≡ Some n = ap (part_under key) held ∙ found-newest key n (filter (is_fresh o.now) s.parts) few (hold.own o.now of.from of.to) in
        ap (λ q. unwrap_or q (nothing_of key now)) (found-fresh key now n (offered o.now o.packet s).parts under fresh)

holding : (key : PacketKey) (payload : List ℕ) (start : ℕ) (s : Store) (offers : List Offer) → length payload ≤ 65535 → length s.parts ≤ 64 → part_under key s.parts ≡ None
    → All (IsOfferOf key payload start) offers → covers (length payload) (pieces_of offers) ≡ false
    → Holding key payload start (pieces_of offers) (store_after s offers) × ((store_after s offers).that_differ ≡ s.that_differ)
holding key payload start s [] le few none all not_yet = (holding-none key payload start s few none, refl)
holding key payload start s (o ∷ offers) le few none all not_yet =
    let of : IsOfferOf key payload start o = all 0 o (omega arith) in
    let rest = holding key payload start s offers le few none (λ k d lt. all (suc k) d (omega (arith, lt))) (not-covered-before (length payload) (piece_of o.packet) (pieces_of offers) not_yet) in (
      holding-more key payload start (pieces_of offers) (store_after s offers) o le of not_yet rest.0,
      (told key payload start (pieces_of offers) (store_after s offers) o le of rest.0).1 ∙ rest.1,
    )

pub told-when-covered : (s : Store) (key : PacketKey) (payload : List ℕ) (start : ℕ) (o : Offer) (offers : List Offer) → length payload ≤ 65535 → length s.parts ≤ 64
    → part_under key s.parts ≡ None → All (IsOfferOf key payload start) (o ∷ offers) → covers (length payload) (pieces_of offers) ≡ false
    → ((store_after s (o ∷ offers)).whole ≡ cond (covers (length payload) (pieces_of (o ∷ offers))) (Some payload) None) × ((store_after s (o ∷ offers)).that_differ ≡ s.that_differ)
told-when-covered s key payload start o offers le few none all not_yet =
    let rest = holding key payload start s offers le few none (λ k d lt. all (suc k) d (omega (arith, lt))) not_yet in
    let last = told key payload start (pieces_of offers) (store_after s offers) o le (all 0 o (omega arith)) rest.0 in
    (last.0, last.1 ∙ rest.1)
