-- What a piece that does not differ leaves as it was, and where the cells end.
use Rattle.std.proofs.Common.{◌≡◌, ℕ, zero, suc, ◌+◌, ◌-◌, ◌<◌, ◌≤◌, nat_lt, Bool, true, false, cond, not, ◌&&◌, ◌||◌, ◌==◌, List, [], ◌∷◌, length, drop, Option, Some, None, refl, ap, sym, ◌∙◌, arith}
use Rattle.std.proofs.lemmas.Bool.Decides.{nat_tests}
use Rattle.std.specs.List.{slice_get}
use Rattle.std.specs.Option.{is_some}
use Rattle.recording_packets.specs.declared.fragments.piece.PacketKey.{PacketKey}
use Rattle.recording_packets.specs.fragments.Pieces.{Piece, end_of}
use Rattle.recording_packets.specs.fragments.Cells.{Cells, known_at, with_first, with_bytes, has_another}
use Rattle.recording_packets.specs.fragments.Parts.{Part, is_past, is_before, differs, with_those_of, with_piece}
use Rattle.recording_packets.specs.fragments.Wholes.{bytes_from, byte_at, part_of}
use Rattle.recording_packets.proofs.about_fragments.KnownLemmas.{over, known-with_piece, known-drop}

-- ---- tests that fail

or-left : (a b : Bool) → (a || b) ≡ false → a ≡ false
or-left false b is = refl
or-left true b is = cc

or-right : (a b : Bool) → (a || b) ≡ false → b ≡ false
or-right false b is = is
or-right true b is = cc

-- ---- no other byte

none-another : (bs : List ℕ) (cells : Cells) (i a b : ℕ) → has_another bs cells ≡ false → known_at cells i ≡ Some a → slice_get bs i ≡ Some b → a ≡ b
none-another [] cells i a b none p q = cc
none-another (x ∷ bs) [] i a b none p q = cc
none-another (x ∷ bs) (None ∷ cells) zero a b none p q = cc
none-another (x ∷ bs) (None ∷ cells) (suc i) a b none p q = none-another bs cells i a b none p q
none-another (x ∷ bs) (Some y ∷ cells) zero a b none p q =
    let test : not (y == x) ≡ false = or-left (not (y == x)) (has_another bs cells) none in
    let same : y ≡ x = equal y x test in
    cc
  where
    equal : (m n : ℕ) → not (m == n) ≡ false → m ≡ n
    equal m n test = cases (m == n) refl test
      where
        cases : (t : Bool) → (m == n) ≡ t → not t ≡ false → m ≡ n
        cases true is h = grind (arith, nat_tests, is)
        cases false is h = cc
none-another (x ∷ bs) (Some y ∷ cells) (suc i) a b none p q = none-another bs cells i a b (or-right (not (y == x)) (has_another bs cells) none) p q

-- a byte of a piece at a place is one of its bytes
from-offset : (n : ℕ) (bs : List ℕ) (i b : ℕ) → bytes_from n bs i ≡ Some b → (n ≤ i) × (slice_get bs (i - n) ≡ Some b)
from-offset zero bs i b is = (omega arith, ap (slice_get bs) (omega arith) ∙ is)
from-offset (suc n) bs zero b is = cc
from-offset (suc n) bs (suc i) b is =
    let rest = from-offset n bs i b is in
    (omega (arith, rest.0), ap (slice_get bs) (omega arith) ∙ rest.1)

-- what is known stays, where a piece does not differ
pub known-stays : (part : Part) (piece : Piece) (i b : ℕ) → differs part piece ≡ false → known_at part.cells i ≡ Some b → known_at (with_piece part piece).cells i ≡ Some b
known-stays part piece i b none known = known-with_piece piece part.cells i ∙ cases (byte_at piece i) refl
  where
    cases : (o : Option ℕ) → byte_at piece i ≡ o → over o (known_at part.cells i) ≡ Some b
    cases None at = known
    cases (Some x) at =
        let there = from-offset piece.offset piece.bytes i x at in
        let split : piece.offset + (i - piece.offset) ≡ i = omega (arith, there.0) in
        let held : known_at (drop piece.offset part.cells) (i - piece.offset) ≡ Some b = known-drop piece.offset part.cells (i - piece.offset) ∙ (ap (known_at part.cells) split ∙ known) in
        let same : b ≡ x = none-another piece.bytes (drop piece.offset part.cells) (i - piece.offset) b x (or-left _ _ none) held there.1 in
        ap Some (sym same)

-- the bytes of a piece are known once it came
pub known-then : (part : Part) (piece : Piece) (i b : ℕ) → byte_at piece i ≡ Some b → known_at (with_piece part piece).cells i ≡ Some b
known-then part piece i b at = known-with_piece piece part.cells i ∙ ap (λ o. over o (known_at part.cells i)) at

-- the end stays, where it is known
pub end-stays : (part : Part) (piece : Piece) (end : ℕ) → differs part piece ≡ false → part.end ≡ Some end → (with_piece part piece).end ≡ Some end
end-stays part piece end none known = cases piece.last refl
  where
    rest : (is_past part.end (end_of piece) || (piece.last && (nat_lt (end_of piece) (length part.cells) || is_before part.end (end_of piece)))) ≡ false
    rest = or-right (has_another piece.bytes (drop piece.offset part.cells)) _ none

    cases : (t : Bool) → piece.last ≡ t → cond t (Some (end_of piece)) part.end ≡ Some end
    cases false is = known
    cases true is =
        let past : nat_lt end (end_of piece) ≡ false = ap (λ o. is_past o (end_of piece)) (sym known) ∙ or-left (is_past part.end (end_of piece)) _ rest in
        let both : (nat_lt (end_of piece) (length part.cells) || is_before part.end (end_of piece)) ≡ false =
        ap (λ l. l && (nat_lt (end_of piece) (length part.cells) || is_before part.end (end_of piece))) (sym is) ∙ or-right (is_past part.end (end_of piece)) _ rest in
        let before : nat_lt (end_of piece) end ≡ false = ap (λ o. is_before o (end_of piece)) (sym known) ∙ or-right (nat_lt (end_of piece) (length part.cells)) _ both in
        let same : end_of piece ≡ end = grind (arith, nat_tests, past, before) in
        ap Some same

-- ---- where the cells end

-- the last of these is known
abbrev EndsKnown : Cells → Type 0
EndsKnown cells = (n : ℕ) → length cells ≡ suc n → is_some (known_at cells n) ≡ true

behind : (c : Option ℕ) (cells : Cells) → EndsKnown (c ∷ cells) → EndsKnown cells
behind c cells ends n is = ends (suc n) (omega (arith, is))

ends-first : (bs : List ℕ) (cells : Cells) → EndsKnown cells → EndsKnown (with_first bs cells)
ends-first [] cells ends n is = ends n is
ends-first (b ∷ bs) [] ends zero is = refl
ends-first (b ∷ bs) [] ends (suc n) is = ends-first bs [] (λ m no. absurd (omega (arith, no))) n (omega (arith, is))
ends-first (b ∷ bs) (c ∷ cells) ends zero is = refl
ends-first (b ∷ bs) (c ∷ cells) ends (suc n) is = ends-first bs cells (behind c cells ends) n (omega (arith, is))

some-cells : (n b : ℕ) (bs : List ℕ) (cells : Cells) → 0 < length (with_bytes n (b ∷ bs) cells)
some-cells zero b bs [] = omega arith
some-cells zero b bs (c ∷ cells) = omega arith
some-cells (suc n) b bs [] = omega arith
some-cells (suc n) b bs (c ∷ cells) = omega arith

ends-with : (n b : ℕ) (bs : List ℕ) (cells : Cells) → EndsKnown cells → EndsKnown (with_bytes n (b ∷ bs) cells)
ends-with zero b bs cells ends i is = ends-first (b ∷ bs) cells ends i is
ends-with (suc n) b bs [] ends zero is = absurd (omega (arith, is, some-cells n b bs []))
ends-with (suc n) b bs [] ends (suc i) is = ends-with n b bs [] ends i (omega (arith, is))
ends-with (suc n) b bs (c ∷ cells) ends zero is = absurd (omega (arith, is, some-cells n b bs cells))
ends-with (suc n) b bs (c ∷ cells) ends (suc i) is = ends-with n b bs cells (behind c cells ends) i (omega (arith, is))

ends-piece : (piece : Piece) (cells : Cells) → EndsKnown cells → EndsKnown (with_those_of piece cells)
ends-piece piece cells ends = cases piece.bytes refl
  where
    cases : (bs : List ℕ) → piece.bytes ≡ bs → EndsKnown (with_those_of piece cells)
    cases [] is = rw is ends
    cases (b ∷ bs) is =
        let some : (suc (length bs) == 0) ≡ false = grind (arith, nat_tests) in
        rw (is, some) (ends-with piece.offset b bs cells ends)

ends-known : (key : PacketKey) (now : ℕ) (pieces : List Piece) → EndsKnown (part_of key now pieces).cells
ends-known key now [] n is = absurd (omega (arith, is))
ends-known key now (p ∷ pieces) n is = ends-piece p (part_of key now pieces).cells (ends-known key now pieces) n is

pub last-is-known : (key : PacketKey) (now : ℕ) (pieces : List Piece) (place : ℕ) → length (part_of key now pieces).cells ≡ place + 1
    → is_some (known_at (part_of key now pieces).cells place) ≡ true
last-is-known key now pieces place is = ends-known key now pieces place (omega (arith, is))
