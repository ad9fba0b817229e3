-- What the words that are printed are read as.
use Rattle.std.proofs.Common.{◌≡◌, ◌==◌, ◌&&◌, ◌||◌, zero, suc, ℕ, ◌+◌, ◌<◌, ◌≤◌, ◌^◌, Bool, true, false, nat_lt, nat_le, List, [], ◌∷◌, ◌++◌, length, take, drop, replicate, slice_index, decimal, codes, bytes_eq, Option, Some, None, option_map, Result, Ok, Err, refl, sym, ap, ◌∙◌, arith, append_assoc, append-nil, length-append, lt-ltb, le-ltb, eq-eqb, ne_eqb, eqb-true, leb-true, ltb-true}
use Rattle.std.specs.List.{All, list_all, list_any, position_or_len, before_first, after_first}
use Rattle.std.specs.Int.{w16, from_be_bytes, to_be_bytes}
use Rattle.std.specs.Result.{result_ok}
use Rattle.std.proofs.lemmas.Bool.{and_parts}
use Rattle.std.proofs.lemmas.List.Elements.{All-head, All-tail}
use Rattle.std.proofs.lemmas.Nat.{from_be_bytes-to_be_bytes_2}
use Rattle.hex.specs.Hex.{IsBytes, decode_of, encode_lower, encode_with, lower_digits}
use Rattle.hex.proofs.HexLemmas.{decode_of-encode_lower, decode_sized-encode_lower}
use Rattle.someip_texts.specs.Numbers.{number_in}
use Rattle.someip_texts.specs.Words.{bytes_text, hex2, hex4, ids_text}
use Rattle.someip_texts.proofs.NumberLemmas.{each_decimal}
use Rattle.someip_world_schedule.specs.StepWords.{◌>>=◌, byte_in, byte_of, code_in, cut_in, hex_in, id_in, instance_in, method_in, payload_in, repeated_in, repeated_or_hex_in}
use Rattle.someipctl_explore.specs.StepLines.{is_run, payload_word, run_text}
use Rattle.someipctl_explore.proofs.WordLemmas.{AreSigns, IsSign, bytes_of_16, decimal_signs, hex_signs, one_byte}

-- ---- numbers in hex

pub id_back : (n : ℕ) → n < 2 ^ 16 → id_in (hex4 n) ≡ Some n
id_back n small =
    ap (λ r. option_map (from_be_bytes w16) (result_ok r)) (decode_sized-encode_lower (to_be_bytes w16 n) 2 refl (bytes_of_16 n))
    ∙ ap (λ (v : ℕ). Some v) (from_be_bytes-to_be_bytes_2 n small)

pub method_back : (n : ℕ) → n < 0x8000 → method_in (hex4 n) ≡ Some n
method_back n small = rw (id_back n (omega (arith, small)), lt-ltb n 0x8000 small) refl

pub byte_back : (n : ℕ) → n < 256 → byte_in (hex2 n) ≡ Some n
byte_back n small = ap (λ r. result_ok r >>= byte_of) (decode_sized-encode_lower (n ∷ []) 1 refl (one_byte n small))

-- ---- words that are cut

-- a text without a byte
abbrev Lacks : ℕ → List ℕ → Type 0
Lacks c text = All (λ b. (b == c) ≡ false) text

signs_lack : (c : ℕ) (text : List ℕ) → c < 0x30 → AreSigns text → Lacks c text
signs_lack c text low h = λ k d within. let s = h k d within in ne_eqb _ c (λ e. omega (arith, low, s.0, e))

first_at : (c : ℕ) (x y : List ℕ) → Lacks c x → position_or_len (λ b. b == c) (x ++ c ∷ y) ≡ length x
first_at c [] y h = rw (eq-eqb c c refl) refl
first_at c (b ∷ x) y h =
    let more : 1 + length x ≡ suc (length x) = omega arith in
    rw (h 0 0 (omega arith)) (ap (λ n. 1 + n) (first_at c x y (All-tail (λ b. (b == c) ≡ false) b x h)) ∙ more)

never_at : (c : ℕ) (x : List ℕ) → Lacks c x → position_or_len (λ b. b == c) x ≡ length x
never_at c [] h = refl
never_at c (b ∷ x) h =
    let more : 1 + length x ≡ suc (length x) = omega arith in
    rw (h 0 0 (omega arith)) (ap (λ n. 1 + n) (never_at c x (All-tail (λ b. (b == c) ≡ false) b x h)) ∙ more)

take_front : (x y : List ℕ) → take (length x) (x ++ y) ≡ x
take_front [] y = refl
take_front (b ∷ x) y = ap (λ t. b ∷ t) (take_front x y)

drop_front : (c : ℕ) (x y : List ℕ) → drop (length x + 1) (x ++ c ∷ y) ≡ y
drop_front c [] y = refl
drop_front c (b ∷ x) y = let e : length (b ∷ x) + 1 ≡ suc (length x + 1) = omega arith in rw e (drop_front c x y)

-- a word is cut at the first byte of its kind, or not at all
cut_front : (c : ℕ) (x y : List ℕ) → Lacks c x → cut_in c (x ++ c ∷ y) ≡ Some (x, y)
cut_front c x y h =
    let within : length x < length (x ++ c ∷ y) = omega (arith, length-append x (c ∷ y)) in
    rw (first_at c x y h, lt-ltb (length x) (length (x ++ c ∷ y)) within, take_front x (c ∷ y), drop_front c x y) refl

cut_none : (c : ℕ) (x : List ℕ) → Lacks c x → cut_in c x ≡ None
cut_none c x h = rw (never_at c x h, le-ltb (length x) (length x) (omega arith)) refl

pub instance_back : (service instance : ℕ) → service < 2 ^ 16 → instance < 2 ^ 16
    → instance_in (ids_text service instance) ≡ Some (record { service = service; instance = instance })
instance_back service instance low high =
    let cut = cut_front 0x2e (hex4 service) (hex4 instance) (signs_lack 0x2e (hex4 service) (omega arith) (hex_signs (to_be_bytes w16 service) (bytes_of_16 service))) in
    let text : ids_text service instance ≡ hex4 service ++ 0x2e ∷ hex4 instance = append_assoc (hex4 service) (0x2e ∷ []) (hex4 instance) in
    rw (text, cut, id_back service low, id_back instance high) refl

-- ---- payloads

two_digits : (b : ℕ) (bytes : List ℕ) → (x y : ℕ) × (rest : List ℕ) × (encode_lower (b ∷ bytes) ≡ x ∷ y ∷ rest)
unfolding encode_with
two_digits b bytes = (_, _, _, refl)

no_hyphen : (x y : ℕ) (rest : List ℕ) → bytes_eq (x ∷ y ∷ rest) (codes "-") ≡ false
no_hyphen x y rest = go (x == 0x2d) refl
  where
    go : (same : Bool) → (x == 0x2d) ≡ same → bytes_eq (x ∷ y ∷ rest) (codes "-") ≡ false
    go true e = rw e refl
    go false e = rw e refl

some_hex : (word bytes : List ℕ) (x y : ℕ) (rest : List ℕ) → word ≡ x ∷ y ∷ rest → decode_of word ≡ Ok bytes → hex_in word ≡ Some bytes
some_hex word bytes x y rest is h = rw is (ap result_ok (rw is at h))

hex_back : (b : ℕ) (bytes : List ℕ) → IsBytes (b ∷ bytes) → payload_in (encode_lower (b ∷ bytes)) ≡ Some (b ∷ bytes)
hex_back b bytes h =
    let word = encode_lower (b ∷ bytes) in
    let digits = two_digits b bytes in
    let other : bytes_eq word (codes "-") ≡ false = rw digits.3 (no_hyphen digits.0 digits.1 digits.2) in
    rw (other, cut_none 0x2a word (signs_lack 0x2a word (omega arith) (hex_signs (b ∷ bytes) h)))
    (some_hex word (b ∷ bytes) digits.0 digits.1 digits.2 digits.3 (decode_of-encode_lower (b ∷ bytes) h))

plain_back : (bytes : List ℕ) → IsBytes bytes → payload_in (bytes_text bytes) ≡ Some bytes
plain_back [] h = refl
plain_back (b ∷ bytes) h = hex_back b bytes h

-- a run is one byte, so many times
alike : (b : ℕ) (others : List ℕ) → list_all (λ c. c == b) others ≡ true → others ≡ replicate (length others) b
alike b [] h = refl
alike b (c ∷ others) h =
    let parts = and_parts (c == b) (list_all (λ c. c == b) others) h in
    ap (λ x. x ∷ others) (eqb-true c b parts.0) ∙ ap (λ (xs : List ℕ). b ∷ xs) (alike b others parts.1)

run_is : (b : ℕ) (others : List ℕ) → is_run (b ∷ others) ≡ true → (length others < 1048576) × (b ∷ others ≡ replicate (length (b ∷ others)) b)
run_is b others h =
    let parts = and_parts (nat_le 7 (length others) && nat_lt (length others) 1048576) (list_all (λ c. c == b) others) h in
    let bounds = and_parts (nat_le 7 (length others)) (nat_lt (length others) 1048576) parts.0 in
    (ltb-true (length others) 1048576 bounds.1, ap (λ (xs : List ℕ). b ∷ xs) (alike b others parts.1))

star_text : (front back : List ℕ) → front ++ codes "*" ++ back ≡ front ++ 0x2a ∷ back
star_text front back = append_assoc front (codes "*") back

two_and_more : (b : ℕ) (back : List ℕ) → bytes_eq (hex2 b ++ 0x2a ∷ back) (codes "-") ≡ false
two_and_more b back =
    let digits = two_digits b [] in
    rw digits.3 (no_hyphen digits.0 digits.1 (digits.2 ++ 0x2a ∷ back))

run_back : (b : ℕ) (others : List ℕ) → IsBytes (b ∷ others) → is_run (b ∷ others) ≡ true → payload_in (run_text (b ∷ others)) ≡ Some (b ∷ others)
run_back b others h run =
    let count = length (b ∷ others) in
    let is = run_is b others run in
    let low : count < 1048577 = omega (arith, is.0) in
    let byte : b < 256 = h 0 in
    let cut = cut_front 0x2a (hex2 b) (decimal count) (signs_lack 0x2a (hex2 b) (omega arith) (hex_signs (b ∷ []) (one_byte b byte))) in
    rw (star_text (hex2 b) (decimal count), two_and_more b (decimal count), cut, byte_back b byte, each_decimal 1048577 count low (omega arith))
    (ap (λ (xs : List ℕ). Some xs) (sym is.1))

-- a payload is read back from its word
pub payload_back : (bytes : List ℕ) → IsBytes bytes → payload_in (payload_word bytes) ≡ Some bytes
payload_back [] h = refl
payload_back (b ∷ others) h = go (is_run (b ∷ others)) refl
  where
    go : (run : Bool) → is_run (b ∷ others) ≡ run → payload_in (payload_word (b ∷ others)) ≡ Some (b ∷ others)
    go true run = rw run (run_back b others h run)
    go false run = rw run (plain_back (b ∷ others) h)
