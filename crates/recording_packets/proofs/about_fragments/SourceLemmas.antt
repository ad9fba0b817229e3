-- Where the bytes of a store come from.
use Rattle.std.proofs.Common.{◌≡◌, ℕ, suc, nat_lt, Bool, true, false, cond, ◌&&◌, ◌==◌, List, [], ◌∷◌, length, drop, filter, Option, Some, None, unwrap_or, refl, sym, subst, ◌∙◌, arith}
use Rattle.std.proofs.lemmas.Bool.{and_parts}
use Rattle.std.proofs.lemmas.Bool.Decides.{nat_tests}
use Rattle.std.proofs.lemmas.Slice.Eq.{bytes_eq-Decides}
use Rattle.std.specs.List.{slice_get}
use Rattle.std.specs.Str.{bytes_eq}
use Rattle.recording_packets.specs.declared.fragments.piece.PacketKey.{PacketKey}
use Rattle.recording_packets.specs.fragments.Pieces.{key_of, piece_of, same_key, is_too_long}
use Rattle.recording_packets.specs.fragments.Cells.{known_at, all_bytes}
use Rattle.recording_packets.specs.fragments.Parts.{Part, nothing_of, differs, with_piece, is_end, payload_of, is_fresh, part_under, without, with_part}
use Rattle.recording_packets.specs.fragments.Stores.{Store, nothing_held, newest, at_moment, part_for, given_up, with_difference, with_payload, received, offered}
use Rattle.recording_packets.specs.fragments.Wholes.{byte_at, Offer, store_after, Brings}
use Rattle.recording_packets.proofs.about_fragments.KnownLemmas.{over, known-with_piece}
use Rattle.recording_packets.proofs.about_fragments.OrderLemmas.{all-known, some-all}

-- ---- one key

bytes-one : (xs ys : List ℕ) → bytes_eq xs ys ≡ true → xs ≡ ys
bytes-one xs ys is = (bytes_eq-Decides xs ys).0 is

pub one-key : (a b : PacketKey) → same_key a b ≡ true → a ≡ b
one-key a b is =
    let first = and_parts (bytes_eq a.source b.source && bytes_eq a.destination b.destination) (a.identification == b.identification) is in
    let ends = and_parts (bytes_eq a.source b.source) (bytes_eq a.destination b.destination) first.0 in
    let source : a.source ≡ b.source = bytes-one a.source b.source ends.0 in
    let destination : a.destination ≡ b.destination = bytes-one a.destination b.destination ends.1 in
    let test = first.1 in
    let number : a.identification ≡ b.identification = grind (arith, nat_tests, test) in
    λ i. record { source = source i; destination = destination i; identification = number i }

-- ---- what holds of each packet that is held

abbrev pub Each : (Part → Type 0) → List Part → Type 0
Each P [] = Unit {0}
Each P (p ∷ ps) = P p × Each P ps

pub each-filter : (P : Part → Type 0) (t : Part → Bool) (parts : List Part) → Each P parts → Each P (filter t parts)
each-filter P t [] each = tt
each-filter P t (p ∷ ps) each = cases (t p) (each-filter P t ps each.1)
  where
    cases : (b : Bool) → Each P (filter t ps) → Each P (cond b (p ∷ filter t ps) (filter t ps))
    cases true rest = (each.0, rest)
    cases false rest = rest

pub each-without : (P : Part → Type 0) (key : PacketKey) (parts : List Part) → Each P parts → Each P (without key parts)
each-without P key [] each = tt
each-without P key (p ∷ ps) each = cases (same_key key p.key) (each-without P key ps each.1)
  where
    cases : (b : Bool) → Each P (without key ps) → Each P (cond b ps (p ∷ without key ps))
    cases true rest = each.1
    cases false rest = (each.0, rest)

pub each-with : (P : Part → Type 0) (key : PacketKey) (n : Part) (parts : List Part) → P n → Each P parts → Each P (with_part key n parts)
each-with P key n [] new each = (new, tt)
each-with P key n (p ∷ ps) new each = cases (same_key key p.key) (each-with P key n ps new each.1)
  where
    cases : (b : Bool) → Each P (with_part key n ps) → Each P (cond b (n ∷ ps) (p ∷ with_part key n ps))
    cases true rest = (new, each.1)
    cases false rest = (each.0, rest)

pub each-newest : (P : Part → Type 0) (parts : List Part) → Each P parts → Each P (newest parts)
each-newest P [] each = cases (nat_lt 64 0)
  where
    cases : (b : Bool) → Each P (cond b (drop 1 []) [])
    cases true = tt
    cases false = tt
each-newest P (p ∷ ps) each = cases (nat_lt 64 (length (p ∷ ps)))
  where
    cases : (b : Bool) → Each P (cond b (drop 1 (p ∷ ps)) (p ∷ ps))
    cases true = each.1
    cases false = each

each-weaker : (P Q : Part → Type 0) (parts : List Part) → ((p : Part) → P p → Q p) → Each P parts → Each Q parts
each-weaker P Q [] weaker each = tt
each-weaker P Q (p ∷ ps) weaker each = (weaker p each.0, each-weaker P Q ps weaker each.1)

pub each-for : (P : Part → Type 0) (key : PacketKey) (now : ℕ) (parts : List Part) → P (nothing_of key now) → Each P parts → P (part_for key now parts)
each-for P key now [] nothing each = nothing
each-for P key now (p ∷ ps) nothing each = cases (same_key key p.key) (each-for P key now ps nothing each.1)
  where
    cases : (b : Bool) → P (part_for key now ps) → P (unwrap_or (cond b (Some p) (part_under key ps)) (nothing_of key now))
    cases true rest = each.0
    cases false rest = rest

pub own-part : (key : PacketKey) (now : ℕ) (parts : List Part) → (part_for key now parts).key ≡ key
own-part key now [] = refl
own-part key now (p ∷ ps) = cases (same_key key p.key) refl (own-part key now ps)
  where
    cases : (b : Bool) → same_key key p.key ≡ b → (part_for key now ps).key ≡ key → (unwrap_or (cond b (Some p) (part_under key ps)) (nothing_of key now)).key ≡ key
    cases true is rest = sym (one-key key p.key is)
    cases false is rest = rest

-- ---- where bytes come from

-- each byte that is known of a packet was brought by one of these offers
abbrev Stems : List Offer → Part → Type 0
Stems offers part = (place byte : ℕ) → known_at part.cells place ≡ Some byte → Brings offers part.key place byte

later : (o : Offer) (offers : List Offer) (key : PacketKey) (place byte : ℕ) → Brings offers key place byte → Brings (o ∷ offers) key place byte
later o offers key place byte b = (b.0, (suc b.1.0, omega (arith, b.1.1), b.1.2), b.2, b.3)

stems-more : (o : Offer) (offers : List Offer) (part : Part) → part.key ≡ key_of o.packet → Stems offers part → Stems (o ∷ offers) (with_piece part (piece_of o.packet))
stems-more o offers part own stems place byte known =
    cases (byte_at (piece_of o.packet) place) refl (sym (known-with_piece (piece_of o.packet) part.cells place) ∙ known)
  where
    cases : (b : Option ℕ) → byte_at (piece_of o.packet) place ≡ b → over b (known_at part.cells place) ≡ Some byte → Brings (o ∷ offers) part.key place byte
    cases (Some b) at same = (o, (0, omega arith, refl), sym own, at ∙ same)
    cases None at same = later o offers part.key place byte (stems place byte same)

-- what is true of a store after these offers
record Sound (offers : List Offer) (s : Store) : Type 0 where
  pub parts : Each (Stems offers) s.parts

sound-none : Sound [] nothing_held
sound-none = record { parts = tt }

-- the packet to which an offer brings its piece
abbrev with_newest : Offer → Store → Part
with_newest o s = with_piece (part_for (key_of o.packet) o.now (filter (is_fresh o.now) s.parts)) (piece_of o.packet)

newest-stems : (o : Offer) (offers : List Offer) (s : Store) → Sound offers s → Stems (o ∷ offers) (with_newest o s)
newest-stems o offers s sound =
    let left : List Part = filter (is_fresh o.now) s.parts in
    let before : Stems offers (part_for (key_of o.packet) o.now left) =
    each-for (Stems offers) (key_of o.packet) o.now left (λ place byte known. absurd (cc)) (each-filter (Stems offers) (is_fresh o.now) s.parts sound.parts) in
    stems-more o offers (part_for (key_of o.packet) o.now left) (own-part (key_of o.packet) o.now left) before

sound-more : (o : Offer) (offers : List Offer) (s : Store) → Sound offers s → Sound (o ∷ offers) (offered o.now o.packet s)
sound-more o offers s sound =
    record {
      parts = each-newest (Stems (o ∷ offers)) (received (key_of o.packet) o.now (piece_of o.packet) (at_moment o.now s)).parts
          (first (is_too_long (piece_of o.packet)) (differs part (piece_of o.packet)) (payload_of (with_newest o s)));
    }
  where
    left : List Part
    left = filter (is_fresh o.now) s.parts

    part : Part
    part = part_for (key_of o.packet) o.now left

    each : Each (Stems (o ∷ offers)) left
    each = each-weaker (Stems offers) (Stems (o ∷ offers)) left (λ p stems place byte known. later o offers p.key place byte (stems place byte known)) (each-filter (Stems offers) (is_fresh o.now) s.parts sound.parts)

    held : (w : Option (List ℕ)) → Each (Stems (o ∷ offers)) (with_payload (key_of o.packet) (with_newest o s) w (at_moment o.now s)).parts
    held None = each-with (Stems (o ∷ offers)) (key_of o.packet) (with_newest o s) left (newest-stems o offers s sound) each
    held (Some payload) = each-without (Stems (o ∷ offers)) (key_of o.packet) left each

    second : (b : Bool) (w : Option (List ℕ)) → Each (Stems (o ∷ offers)) (cond b (with_difference (key_of o.packet) part (at_moment o.now s)) (with_payload (key_of o.packet) (with_newest o s) w (at_moment o.now s))).parts
    second true w = each-without (Stems (o ∷ offers)) (key_of o.packet) left each
    second false w = held w

    first : (a b : Bool) (w : Option (List ℕ))
        → Each (Stems (o ∷ offers)) (cond a (given_up (at_moment o.now s)) (cond b (with_difference (key_of o.packet) part (at_moment o.now s)) (with_payload (key_of o.packet) (with_newest o s) w (at_moment o.now s)))).parts
    first true b w = each
    first false b w = second b w

sound : (offers : List Offer) → Sound offers (store_after nothing_held offers)
sound [] = sound-none
sound (o ∷ offers) = sound-more o offers (store_after nothing_held offers) (sound offers)

-- the payload that an offer makes whole is that of its packet
whole-of : (o : Offer) (s : Store) (payload : List ℕ) → (offered o.now o.packet s).whole ≡ Some payload → payload_of (with_newest o s) ≡ Some payload
whole-of o s payload is = first (is_too_long (piece_of o.packet)) (differs part (piece_of o.packet)) (payload_of (with_newest o s)) is
  where
    part : Part
    part = part_for (key_of o.packet) o.now (filter (is_fresh o.now) s.parts)

    held : (w : Option (List ℕ)) → (with_payload (key_of o.packet) (with_newest o s) w (at_moment o.now s)).whole ≡ Some payload → w ≡ Some payload
    held None h = h
    held (Some x) h = h

    first : (a b : Bool) (w : Option (List ℕ))
        → (cond a (given_up (at_moment o.now s)) (cond b (with_difference (key_of o.packet) part (at_moment o.now s)) (with_payload (key_of o.packet) (with_newest o s) w (at_moment o.now s)))).whole ≡ Some payload → w ≡ Some payload
    first true b w h = cc
    first false true w h = cc
    first false false w h = held w h

pub store-brings : (o : Offer) (offers : List Offer) (payload : List ℕ) (place byte : ℕ) → (store_after nothing_held (o ∷ offers)).whole ≡ Some payload
    → slice_get payload place ≡ Some byte → Brings (o ∷ offers) (key_of o.packet) place byte
store-brings o offers payload place byte whole get =
    let s : Store = store_after nothing_held offers in
    let n : Part = with_newest o s in
    let known : known_at n.cells place ≡ Some byte = all-known n.cells payload place byte (some-all (is_end (length n.cells) n.end) (all_bytes n.cells) payload (whole-of o s payload whole)) get in
    subst (λ key. Brings (o ∷ offers) key place byte) (own-part (key_of o.packet) o.now (filter (is_fresh o.now) s.parts)) (newest-stems o offers s (sound offers) place byte known)
