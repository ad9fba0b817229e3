-- Pieces in another order, and where the bytes of a payload come from.
use Rattle.std.proofs.Common.{◌≡◌, ℕ, zero, suc, Bool, true, false, cond, ◌&&◌, ◌||◌, List, [], ◌∷◌, length, Option, Some, None, refl, ap, sym, ◌∙◌, arith}
use Rattle.std.proofs.lemmas.Bool.{and_parts, and_from}
use Rattle.std.proofs.lemmas.List.Sorted.{list_any-IsPermutation, All-permutation}
use Rattle.std.specs.List.{slice_get, list_any, list_all, range_with_len, All, Contains}
use Rattle.std.specs.List.Sorted.{IsPermutation}
use Rattle.std.specs.Option.{is_some, option_map}
use Rattle.recording_packets.specs.declared.fragments.piece.PacketKey.{PacketKey}
use Rattle.recording_packets.specs.fragments.Pieces.{Piece}
use Rattle.recording_packets.specs.fragments.Cells.{Cells, known_at, all_bytes}
use Rattle.recording_packets.specs.fragments.Parts.{Part, is_end, payload_of}
use Rattle.recording_packets.specs.fragments.Wholes.{byte_at, IsPieceOf, is_covered, covers, part_of}
use Rattle.recording_packets.proofs.about_fragments.KnownLemmas.{over, known-with_piece, made, made-payload}

-- ---- another order

all-same : (t u : ℕ → Bool) (xs : List ℕ) → ((i : ℕ) → t i ≡ u i) → list_all t xs ≡ list_all u xs
all-same t u [] same = refl
all-same t u (x ∷ xs) same = λ i. same x i && all-same t u xs same i

covers-order : (len : ℕ) (pieces others : List Piece) → IsPermutation pieces others → covers len pieces ≡ covers len others
covers-order len pieces others order = λ i.
    list_any-IsPermutation (λ (p : Piece). p.last) pieces others order i
    && all-same (is_covered pieces) (is_covered others) (range_with_len 0 len) (λ place. list_any-IsPermutation (λ (p : Piece). is_some (byte_at p place)) pieces others order) i

pub same-payload : (key : PacketKey) (now : ℕ) (payload : List ℕ) (pieces others : List Piece) → All (IsPieceOf payload) pieces → IsPermutation pieces others
    → payload_of (part_of key now pieces) ≡ payload_of (part_of key now others)
same-payload key now payload pieces others all order =
    made-payload payload pieces (part_of key now pieces) (made payload key now pieces all)
    ∙ (ap (λ t. cond t (Some payload) None) (covers-order (length payload) pieces others order)
    ∙ sym (made-payload payload others (part_of key now others) (made payload key now others (All-permutation (IsPieceOf payload) pieces others order all))))

-- ---- where a byte comes from

pub all-known : (cells : Cells) (payload : List ℕ) (i b : ℕ) → all_bytes cells ≡ Some payload → slice_get payload i ≡ Some b → known_at cells i ≡ Some b
all-known [] payload i b is get =
    let none : [] ≡ payload = cc in
    let nothing : slice_get [] i ≡ Some b = ap (λ xs. slice_get xs i) none ∙ get in
    cc
all-known (None ∷ cells) payload i b is get = cc
all-known (Some x ∷ cells) payload i b is get = cases (all_bytes cells) refl is (λ rest j p q. all-known cells rest j b p q)
  where
    here : (j : ℕ) (rest : List ℕ) → slice_get (x ∷ rest) j ≡ Some b → ((k : ℕ) → slice_get rest k ≡ Some b → known_at cells k ≡ Some b) → known_at (Some x ∷ cells) j ≡ Some b
    here zero rest p later = p
    here (suc j) rest p later = later j p

    cases : (o : Option (List ℕ)) → all_bytes cells ≡ o → option_map (λ bs. x ∷ bs) o ≡ Some payload
        → ((rest : List ℕ) (j : ℕ) → all_bytes cells ≡ Some rest → slice_get rest j ≡ Some b → known_at cells j ≡ Some b) → known_at (Some x ∷ cells) i ≡ Some b
    cases None all same later = cc
    cases (Some rest) all same later =
        let split : (x ∷ rest) ≡ payload = cc in
        here i rest (ap (λ xs. slice_get xs i) split ∙ get) (λ k q. later rest k all q)

abbrev Comes : List Piece → ℕ → ℕ → Type 0
Comes pieces place byte = (piece : Piece) × Contains pieces piece × (byte_at piece place ≡ Some byte)

comes_later : (p : Piece) (pieces : List Piece) (place byte : ℕ) → Comes pieces place byte → Comes (p ∷ pieces) place byte
comes_later p pieces place byte c = (c.0, (suc c.1.0, omega (arith, c.1.1), c.1.2), c.2)

known-comes : (key : PacketKey) (now : ℕ) (pieces : List Piece) (place byte : ℕ) → known_at (part_of key now pieces).cells place ≡ Some byte → Comes pieces place byte
known-comes key now [] place byte is = absurd (cc)
known-comes key now (p ∷ pieces) place byte is =
    cases (byte_at p place) refl (sym (known-with_piece p (part_of key now pieces).cells place) ∙ is) (λ q. known-comes key now pieces place byte q)
  where
    cases : (o : Option ℕ) → byte_at p place ≡ o → over o (known_at (part_of key now pieces).cells place) ≡ Some byte
        → (known_at (part_of key now pieces).cells place ≡ Some byte → Comes pieces place byte) → Comes (p ∷ pieces) place byte
    cases (Some b) at same later = (p, (0, omega arith, refl), at ∙ same)
    cases None at same later = comes_later p pieces place byte (later same)

pub some-all : (t : Bool) (o : Option (List ℕ)) (payload : List ℕ) → cond t o None ≡ Some payload → o ≡ Some payload
some-all true o payload is = is
some-all false o payload is = cc

pub payload-comes : (key : PacketKey) (now : ℕ) (payload : List ℕ) (pieces : List Piece) (place byte : ℕ) → payload_of (part_of key now pieces) ≡ Some payload
    → slice_get payload place ≡ Some byte → (piece : Piece) × Contains pieces piece × (byte_at piece place ≡ Some byte)
payload-comes key now payload pieces place byte whole get =
    let part : Part = part_of key now pieces in
    known-comes key now pieces place byte (all-known part.cells payload place byte (some-all (is_end (length part.cells) part.end) (all_bytes part.cells) payload whole) get)

-- ---- more pieces

any-more : (t u : ℕ → Bool) (xs : List ℕ) → ((i : ℕ) → t i ≡ true → u i ≡ true) → list_all t xs ≡ true → list_all u xs ≡ true
any-more t u [] more all = refl
any-more t u (x ∷ xs) more all =
    let both = and_parts (t x) (list_all t xs) all in
    and_from (u x) (list_all u xs) (more x both.0) (any-more t u xs more both.1)

or_right : (a b : Bool) → b ≡ true → (a || b) ≡ true
or_right true b is = refl
or_right false b is = is

-- what some pieces cover, more cover too
covers-more : (len : ℕ) (p : Piece) (pieces : List Piece) → covers len pieces ≡ true → covers len (p ∷ pieces) ≡ true
covers-more len p pieces is =
    let both = and_parts (list_any (λ (q : Piece). q.last) pieces) (list_all (is_covered pieces) (range_with_len 0 len)) is in
    and_from _ _ (or_right p.last (list_any (λ (q : Piece). q.last) pieces) both.0)
    (any-more (is_covered pieces) (is_covered (p ∷ pieces)) (range_with_len 0 len) (λ i t. or_right (is_some (byte_at p i)) (is_covered pieces i) t) both.1)

pub not-covered-before : (len : ℕ) (p : Piece) (pieces : List Piece) → covers len (p ∷ pieces) ≡ false → covers len pieces ≡ false
not-covered-before len p pieces is = cases (covers len pieces) refl
  where
    cases : (t : Bool) → covers len pieces ≡ t → covers len pieces ≡ false
    cases false h = h
    cases true h = let more : covers len (p ∷ pieces) ≡ true = covers-more len p pieces h in cc
