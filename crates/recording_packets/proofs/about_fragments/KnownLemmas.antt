-- What is known of a packet after pieces of it came.
use Rattle.std.proofs.Common.{◌≡◌, ℕ, zero, suc, ◌+◌, ◌<◌, ◌≤◌, nat_lt, Bool, true, false, cond, ◌&&◌, ◌||◌, ◌==◌, List, [], ◌∷◌, length, get_or, take, drop, Option, Some, None, refl, ap, sym, ◌∙◌, arith}
use Rattle.std.proofs.lemmas.Bool.Decides.{nat_tests}
use Rattle.std.proofs.lemmas.Bool.{and_parts}
use Rattle.std.proofs.lemmas.Option.{slice_get-get_or}
use Rattle.std.specs.List.{slice_get, list_any, list_all, range_with_len, All}
use Rattle.std.specs.Option.{is_some, option_map}
use Rattle.recording_packets.specs.declared.fragments.piece.PacketKey.{PacketKey}
use Rattle.recording_packets.specs.fragments.Pieces.{Piece, end_of}
use Rattle.recording_packets.specs.fragments.Cells.{Cells, known_at, with_first, with_bytes, has_another, all_bytes}
use Rattle.recording_packets.specs.fragments.Parts.{Part, nothing_of, is_past, is_before, differs, with_those_of, with_piece, is_end, payload_of}
use Rattle.recording_packets.specs.fragments.Wholes.{bytes_from, byte_at, IsPieceOf, is_covered, covers, part_of}

-- ---- the cells

-- the first, or else the second
abbrev pub over : Option ℕ → Option ℕ → Option ℕ
over (Some b) o = Some b
over None o = o

known-with_first : (bs : List ℕ) (cells : Cells) (i : ℕ) → known_at (with_first bs cells) i ≡ over (slice_get bs i) (known_at cells i)
known-with_first [] cells i = refl
known-with_first (b ∷ bs) [] zero = refl
known-with_first (b ∷ bs) [] (suc i) = known-with_first bs [] i
known-with_first (b ∷ bs) (c ∷ cells) zero = refl
known-with_first (b ∷ bs) (c ∷ cells) (suc i) = known-with_first bs cells i

known-with_bytes : (n : ℕ) (bs : List ℕ) (cells : Cells) (i : ℕ) → known_at (with_bytes n bs cells) i ≡ over (bytes_from n bs i) (known_at cells i)
known-with_bytes zero bs cells i = known-with_first bs cells i
known-with_bytes (suc n) bs [] zero = refl
known-with_bytes (suc n) bs [] (suc i) = known-with_bytes n bs [] i
known-with_bytes (suc n) bs (c ∷ cells) zero = refl
known-with_bytes (suc n) bs (c ∷ cells) (suc i) = known-with_bytes n bs cells i

no_bytes_from : (n i : ℕ) → bytes_from n [] i ≡ None
no_bytes_from zero i = refl
no_bytes_from (suc n) zero = refl
no_bytes_from (suc n) (suc i) = no_bytes_from n i

-- what is known with a piece more
pub known-with_piece : (piece : Piece) (cells : Cells) (i : ℕ) → known_at (with_those_of piece cells) i ≡ over (byte_at piece i) (known_at cells i)
known-with_piece piece cells i = cases piece.bytes refl
  where
    cases : (bs : List ℕ) → piece.bytes ≡ bs → known_at (with_those_of piece cells) i ≡ over (byte_at piece i) (known_at cells i)
    cases [] is = rw (is, no_bytes_from piece.offset i) refl
    cases (b ∷ bs) is =
        let some : (suc (length bs) == 0) ≡ false = grind (arith, nat_tests) in
        rw (is, some) (known-with_bytes piece.offset (b ∷ bs) cells i)

pub known_past : (cells : Cells) (i : ℕ) → length cells ≤ i → known_at cells i ≡ None
known_past [] i le = refl
known_past (c ∷ cells) zero le = absurd (omega (arith, le))
known_past (c ∷ cells) (suc i) le = known_past cells i (omega (arith, le))

pub known-drop : (n : ℕ) (cells : Cells) (i : ℕ) → known_at (drop n cells) i ≡ known_at cells (n + i)
known-drop zero cells i = ap (known_at cells) (omega arith)
known-drop (suc n) [] i = refl
known-drop (suc n) (c ∷ cells) i = let next : suc n + i ≡ suc (n + i) = omega arith in rw next (known-drop n cells i)

-- ---- how far the cells go

length-with_first : (m : ℕ) (bs : List ℕ) (cells : Cells) → length cells ≤ m → length bs ≤ m → length (with_first bs cells) ≤ m
length-with_first m [] cells le bs_le = le
length-with_first zero (b ∷ bs) cells le bs_le = absurd (omega (arith, bs_le))
length-with_first (suc m) (b ∷ bs) [] le bs_le = let rest : length (with_first bs []) ≤ m = length-with_first m bs [] (omega arith) (omega (arith, bs_le)) in omega (arith, rest)
length-with_first (suc m) (b ∷ bs) (c ∷ cells) le bs_le = let rest : length (with_first bs cells) ≤ m = length-with_first m bs cells (omega (arith, le)) (omega (arith, bs_le)) in omega (arith, rest)

length-with_bytes : (m n : ℕ) (bs : List ℕ) (cells : Cells) → length cells ≤ m → n + length bs ≤ m → length (with_bytes n bs cells) ≤ m
length-with_bytes m zero bs cells le bs_le = length-with_first m bs cells le (omega (arith, bs_le))
length-with_bytes zero (suc n) bs cells le bs_le = absurd (omega (arith, bs_le))
length-with_bytes (suc m) (suc n) bs [] le bs_le = let rest : length (with_bytes n bs []) ≤ m = length-with_bytes m n bs [] (omega arith) (omega (arith, bs_le)) in omega (arith, rest)
length-with_bytes (suc m) (suc n) bs (c ∷ cells) le bs_le = let rest : length (with_bytes n bs cells) ≤ m = length-with_bytes m n bs cells (omega (arith, le)) (omega (arith, bs_le)) in omega (arith, rest)

pub length-with_piece : (m : ℕ) (piece : Piece) (cells : Cells) → length cells ≤ m → end_of piece ≤ m → length (with_those_of piece cells) ≤ m
length-with_piece m piece cells le end_le = cases (length piece.bytes == 0)
  where
    cases : (t : Bool) → length (cond t cells (with_bytes piece.offset piece.bytes cells)) ≤ m
    cases true = le
    cases false = length-with_bytes m piece.offset piece.bytes cells le end_le

-- ---- the bytes of a piece of a payload

get-take : (m : ℕ) (p : List ℕ) (i b : ℕ) → slice_get (take m p) i ≡ Some b → slice_get p i ≡ Some b
get-take zero p i b is = cc
get-take (suc m) [] i b is = cc
get-take (suc m) (x ∷ p) zero b is = is
get-take (suc m) (x ∷ p) (suc i) b is = get-take m p i b is

take_nothing : (m : ℕ) → take {A = ℕ} m [] ≡ []
take_nothing zero = refl
take_nothing (suc m) = refl

from-payload : (n m : ℕ) (p : List ℕ) (i b : ℕ) → bytes_from n (take m (drop n p)) i ≡ Some b → slice_get p i ≡ Some b
from-payload zero m p i b is = get-take m p i b is
from-payload (suc n) m p zero b is = cc
from-payload (suc n) m [] (suc i) b is =
    let none : bytes_from n (take m []) i ≡ None = ap (λ bs. bytes_from n bs i) (take_nothing m) ∙ no_bytes_from n i in
    cc
from-payload (suc n) m (x ∷ p) (suc i) b is = from-payload n m p i b is

-- the byte of a piece stands there in the payload
pub piece_byte : (payload : List ℕ) (piece : Piece) (i b : ℕ) → IsPieceOf payload piece → byte_at piece i ≡ Some b → slice_get payload i ≡ Some b
piece_byte payload piece i b of is = from-payload piece.offset (length piece.bytes) payload i b (ap (λ bs. bytes_from piece.offset bs i) (sym of.bytes) ∙ is)

bytes_from-at : (n : ℕ) (bs : List ℕ) (i : ℕ) → bytes_from n bs (n + i) ≡ slice_get bs i
bytes_from-at zero bs i = ap (slice_get bs) (omega arith)
bytes_from-at (suc n) bs i = let next : suc n + i ≡ suc (n + i) = omega arith in rw next (bytes_from-at n bs i)

-- ---- nothing differs

agree-none : (bs : List ℕ) (cells : Cells) → ((i a b : ℕ) → known_at cells i ≡ Some a → slice_get bs i ≡ Some b → a ≡ b) → has_another bs cells ≡ false
agree-none [] cells agree = refl
agree-none (b ∷ bs) [] agree = refl
agree-none (b ∷ bs) (None ∷ cells) agree = agree-none bs cells (λ i. agree (suc i))
agree-none (b ∷ bs) (Some a ∷ cells) agree =
    let same : (a == b) ≡ true = grind (arith, nat_tests, agree 0 a b refl refl) in
    rw same (agree-none bs cells (λ i. agree (suc i)))

-- a packet of which these pieces of a payload came
pub record Made (payload : List ℕ) (pieces : List Piece) (part : Part) : Type 0 where
  pub known : (i : ℕ) → known_at part.cells i ≡ cond (is_covered pieces i) (slice_get payload i) None
  pub size : length part.cells ≤ length payload
  pub ends : part.end ≡ cond (list_any (λ piece. piece.last) pieces) (Some (length payload)) None

pub made-none : (payload : List ℕ) (key : PacketKey) (now : ℕ) → Made payload [] (nothing_of key now)
made-none payload key now = record { known = λ i. refl; size = omega arith; ends = refl }

some-of-cond : (t : Bool) (o : Option ℕ) (a : ℕ) → cond t o None ≡ Some a → o ≡ Some a
some-of-cond true o a is = is
some-of-cond false o a is = cc

pub made-more : (payload : List ℕ) (pieces : List Piece) (part : Part) (piece : Piece) → IsPieceOf payload piece → Made payload pieces part → Made payload (piece ∷ pieces) (with_piece part piece)
made-more payload pieces part piece of made =
    record {
      known = λ i. known-with_piece piece part.cells i ∙ here i (byte_at piece i) refl;
      size = length-with_piece (length payload) piece part.cells made.size of.within;
      ends = end_here piece.last refl;
    }
  where
    here : (i : ℕ) (o : Option ℕ) → byte_at piece i ≡ o → over o (known_at part.cells i) ≡ cond (is_some o || is_covered pieces i) (slice_get payload i) None
    here i (Some b) is = sym (piece_byte payload piece i b of is)
    here i None is = made.known i

    end_here : (t : Bool) → piece.last ≡ t → cond t (Some (end_of piece)) part.end ≡ cond (t || list_any (λ (p : Piece). p.last) pieces) (Some (length payload)) None
    end_here true is =
        let test : (end_of piece == length payload) ≡ true = sym of.last ∙ is in
        ap Some (grind (arith, nat_tests, test))
    end_here false is = made.ends

pub made-agrees : (payload : List ℕ) (pieces : List Piece) (part : Part) (piece : Piece) → IsPieceOf payload piece → Made payload pieces part → differs part piece ≡ false
made-agrees payload pieces part piece of made =
    let another : has_another piece.bytes (drop piece.offset part.cells) ≡ false =
    agree-none piece.bytes (drop piece.offset part.cells) (λ i a b p q.
    let held : slice_get payload (piece.offset + i) ≡ Some a = some-of-cond (is_covered pieces (piece.offset + i)) (slice_get payload (piece.offset + i)) a (sym (made.known (piece.offset + i)) ∙ (sym (known-drop piece.offset part.cells i) ∙ p)) in
    let new : slice_get payload (piece.offset + i) ≡ Some b = piece_byte payload piece (piece.offset + i) b of (bytes_from-at piece.offset piece.bytes i ∙ q) in
    cc) in
    rw (another, made.ends) (ap (λ t. t || (piece.last && (nat_lt (end_of piece) (length part.cells) || is_before (cond (list_any (λ (p : Piece). p.last) pieces) (Some (length payload)) None) (end_of piece)))) (past (list_any (λ (p : Piece). p.last) pieces)) ∙ rest piece.last (list_any (λ (p : Piece). p.last) pieces) refl)
  where
    past : (t : Bool) → is_past (cond t (Some (length payload)) None) (end_of piece) ≡ false
    past true = let within = of.within in grind (arith, nat_tests, within)
    past false = refl

    before : (t : Bool) → length payload ≤ end_of piece → is_before (cond t (Some (length payload)) None) (end_of piece) ≡ false
    before true le = grind (arith, nat_tests, le)
    before false le = refl

    rest : (l t : Bool) → piece.last ≡ l → (l && (nat_lt (end_of piece) (length part.cells) || is_before (cond t (Some (length payload)) None) (end_of piece))) ≡ false
    rest false t is = refl
    rest true t is =
        let test : (end_of piece == length payload) ≡ true = sym of.last ∙ is in
        let ends : end_of piece ≡ length payload = grind (arith, nat_tests, test) in
        let short : nat_lt (end_of piece) (length part.cells) ≡ false = grind (arith, nat_tests, ends, made.size) in
        rw short (before t (omega (arith, ends)))

-- ---- a payload that is whole

covered_at : (t : ℕ → Bool) (a n i : ℕ) → list_all t (range_with_len a n) ≡ true → i < n → t (a + i) ≡ true
covered_at t a zero i all lt = absurd (omega (arith, lt))
covered_at t a (suc n) zero all lt = ap t (omega arith) ∙ (and_parts (t a) (list_all t (range_with_len (a + 1) n)) all).0
covered_at t a (suc n) (suc i) all lt =
    ap t (omega arith) ∙ covered_at t (a + 1) n i (and_parts (t a) (list_all t (range_with_len (a + 1) n)) all).1 (omega (arith, lt))

all-covered : (t : ℕ → Bool) (a : ℕ) (payload : List ℕ) (cells : Cells) → length cells ≡ length payload
    → ((i : ℕ) → known_at cells i ≡ cond (t (a + i)) (slice_get payload i) None) → all_bytes cells ≡ cond (list_all t (range_with_len a (length payload))) (Some payload) None
all-covered t a [] [] same known = refl
all-covered t a [] (c ∷ cells) same known = absurd (omega (arith, same))
all-covered t a (x ∷ payload) [] same known = absurd (omega (arith, same))
all-covered t a (x ∷ payload) (c ∷ cells) same known = first (t a) c (known 0 ∙ ap (λ n. cond (t n) (Some x) None) (omega arith)) (all-covered t (a + 1) payload cells (omega (arith, same)) (λ i. known (suc i) ∙ ap (λ n. cond (t n) (slice_get payload i) None) (omega arith)))
  where
    longer : (s : Bool) → option_map (λ bs. x ∷ bs) (cond s (Some payload) None) ≡ cond s (Some (x ∷ payload)) None
    longer true = refl
    longer false = refl

    first : (s : Bool) (o : Option ℕ) → o ≡ cond s (Some x) None → all_bytes cells ≡ cond (list_all t (range_with_len (a + 1) (length payload))) (Some payload) None
        → all_bytes (o ∷ cells) ≡ cond (s && list_all t (range_with_len (a + 1) (length payload))) (Some (x ∷ payload)) None
    first true o is rest = rw is (ap (option_map (λ bs. x ∷ bs)) rest ∙ longer (list_all t (range_with_len (a + 1) (length payload))))
    first false o is rest = rw is refl

pub made-payload : (payload : List ℕ) (pieces : List Piece) (part : Part) → Made payload pieces part → payload_of part ≡ cond (covers (length payload) pieces) (Some payload) None
made-payload payload pieces part made = rw made.ends (cases (list_any (λ (p : Piece). p.last) pieces) (length part.cells == length payload) refl (list_all (is_covered pieces) (range_with_len 0 (length payload))) refl)
  where
    cases : (l t : Bool) → (length part.cells == length payload) ≡ t → (s : Bool) → list_all (is_covered pieces) (range_with_len 0 (length payload)) ≡ s
        → cond (is_end (length part.cells) (cond l (Some (length payload)) None)) (all_bytes part.cells) None ≡ cond (l && list_all (is_covered pieces) (range_with_len 0 (length payload))) (Some payload) None
    cases false t test s all = refl
    cases true true test s all =
        rw test (all-covered (is_covered pieces) 0 payload part.cells (grind (arith, nat_tests, test)) (λ i. made.known i ∙ ap (λ n. cond (is_covered pieces n) (slice_get payload i) None) (omega arith)))
    cases true false test false all = rw (test, all) refl
    cases true false test true all =
        let other : (length part.cells ≡ length payload) → ⊥ = λ is. grind (arith, nat_tests, test, is) in
        let room : length part.cells < length payload = omega (arith, other, made.size) in
        let covered : is_covered pieces (length part.cells) ≡ true = ap (is_covered pieces) (omega arith) ∙ covered_at (is_covered pieces) 0 (length payload) (length part.cells) all room in
        let known : known_at part.cells (length part.cells) ≡ slice_get payload (length part.cells) = made.known (length part.cells) ∙ ap (λ t. cond t (slice_get payload (length part.cells)) None) covered in
        let none : known_at part.cells (length part.cells) ≡ None = known_past part.cells (length part.cells) (omega arith) in
        let some : slice_get payload (length part.cells) ≡ Some (get_or payload (length part.cells) 0) = slice_get-get_or payload (length part.cells) 0 room in
        cc

pub made : (payload : List ℕ) (key : PacketKey) (now : ℕ) (pieces : List Piece) → All (IsPieceOf payload) pieces → Made payload pieces (part_of key now pieces)
made payload key now [] all = made-none payload key now
made payload key now (piece ∷ pieces) all = made-more payload pieces (part_of key now pieces) piece (all 0 piece (omega arith)) (made payload key now pieces (λ k d lt. all (suc k) d (omega (arith, lt))))
