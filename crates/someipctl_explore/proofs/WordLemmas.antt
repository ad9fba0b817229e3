-- The bytes of the words that are printed.
use Rattle.std.proofs.Common.{◌≡◌, ◌/◌, ◌%◌, ◌&&◌, ◌||◌, zero, suc, ℕ, ◌<◌, ◌≤◌, ◌==◌, ◌^◌, Bool, true, false, nat_lt, nat_le, List, [], ◌∷◌, ◌++◌, length, slice_index, decimal, codes, refl, sym, ap, ◌∙◌, arith, leb-true, ltb-true}
use Rattle.std.specs.List.{All, list_all}
use Rattle.std.specs.Int.{w16, to_be_bytes}
use Rattle.std.specs.Net.Text.{dotted_text}
use Rattle.std.proofs.lemmas.Bool.{and_parts}
use Rattle.std.proofs.lemmas.List.Elements.{All-append, All-cons, All-head, All-nil, All-tail, All-weaker}
use Rattle.std.proofs.lemmas.List.Sums.{AllPass-from_list_all}
use Rattle.hex.specs.Hex.{IsBytes, encode_lower, encode_with, lower_digits}
use Rattle.someip_texts.specs.Numbers.{is_digit}
use Rattle.someip_texts.specs.Words.{bytes_text, hex2, hex4, ids_text}
use Rattle.someip_texts.proofs.NumberLemmas.{decimal_digits}
use Rattle.someipctl_explore.specs.StepLines.{is_run, payload_word, run_text}
use Rattle.someip_world_schedule.specs.StepWords.{is_name, is_name_byte}

-- a byte that stands in a word: ASCII, and neither a control character nor a space
abbrev pub IsWordByte : ℕ → Type 0
IsWordByte b = (0x20 < b) × (b < 0x80)

abbrev pub IsWord : List ℕ → Type 0
IsWord word = All IsWordByte word

-- a byte from 0 on: a digit or a letter, and no dot, star or hyphen
abbrev pub IsSign : ℕ → Type 0
IsSign b = (0x30 ≤ b) × (b < 0x80)

abbrev pub AreSigns : List ℕ → Type 0
AreSigns word = All IsSign word

pub signs_word : (word : List ℕ) → AreSigns word → IsWord word
signs_word word h = All-weaker IsSign IsWordByte (λ b s. (omega (arith, s.0), s.1)) word h

-- ---- numbers

digit_sign : (b : ℕ) → is_digit b ≡ true → IsSign b
digit_sign b h =
    let parts = and_parts (nat_le 0x30 b) (nat_le b 0x39) h in
    let low : 0x30 ≤ b = leb-true 0x30 b parts.0 in
    let high : b ≤ 0x39 = leb-true b 0x39 parts.1 in
    (low, omega (arith, high))

pub decimal_signs : (n : ℕ) → n < 2 ^ 64 → AreSigns (decimal n)
decimal_signs n small = All-weaker (λ b. is_digit b ≡ true) IsSign digit_sign (decimal n) (AllPass-from_list_all is_digit (decimal n) (decimal_digits n small))

pub decimal_word : (n : ℕ) → n < 2 ^ 64 → IsWord (decimal n)
decimal_word n small = signs_word (decimal n) (decimal_signs n small)

-- ---- hex

abbrev is_sign : ℕ → Bool
is_sign b = nat_le 0x30 b && nat_lt b 0x80

tested : (b : ℕ) → is_sign b ≡ true → IsSign b
tested b h =
    let parts = and_parts (nat_le 0x30 b) (nat_lt b 0x80) h in
    (leb-true 0x30 b parts.0, ltb-true b 0x80 parts.1)

hex_digit : (d : ℕ) → d < 16 → is_sign (slice_index lower_digits d) ≡ true
hex_digit zero small = refl
hex_digit (suc zero) small = refl
hex_digit (suc (suc zero)) small = refl
hex_digit (suc (suc (suc zero))) small = refl
hex_digit (suc (suc (suc (suc zero)))) small = refl
hex_digit (suc (suc (suc (suc (suc zero))))) small = refl
hex_digit (suc (suc (suc (suc (suc (suc zero)))))) small = refl
hex_digit (suc (suc (suc (suc (suc (suc (suc zero))))))) small = refl
hex_digit (suc (suc (suc (suc (suc (suc (suc (suc zero)))))))) small = refl
hex_digit (suc (suc (suc (suc (suc (suc (suc (suc (suc zero))))))))) small = refl
hex_digit (suc (suc (suc (suc (suc (suc (suc (suc (suc (suc zero)))))))))) small = refl
hex_digit (suc (suc (suc (suc (suc (suc (suc (suc (suc (suc (suc zero))))))))))) small = refl
hex_digit (suc (suc (suc (suc (suc (suc (suc (suc (suc (suc (suc (suc zero)))))))))))) small = refl
hex_digit (suc (suc (suc (suc (suc (suc (suc (suc (suc (suc (suc (suc (suc zero))))))))))))) small = refl
hex_digit (suc (suc (suc (suc (suc (suc (suc (suc (suc (suc (suc (suc (suc (suc zero)))))))))))))) small = refl
hex_digit (suc (suc (suc (suc (suc (suc (suc (suc (suc (suc (suc (suc (suc (suc (suc zero))))))))))))))) small = refl
hex_digit (suc (suc (suc (suc (suc (suc (suc (suc (suc (suc (suc (suc (suc (suc (suc (suc n)))))))))))))))) small = absurd (omega arith)

pub hex_signs : (bytes : List ℕ) → IsBytes bytes → AreSigns (encode_lower bytes)
unfolding encode_with
hex_signs [] h = All-nil IsSign
hex_signs (b ∷ bytes) h =
    let fits : b < 256 = h 0 in
    let high : b / 16 < 16 = omega arith in
    let low : b % 16 < 16 = omega arith in
    All-cons IsSign (slice_index lower_digits (b / 16)) (slice_index lower_digits (b % 16) ∷ encode_with lower_digits bytes)
    (tested (slice_index lower_digits (b / 16)) (hex_digit (b / 16) high))
    (All-cons IsSign (slice_index lower_digits (b % 16)) (encode_with lower_digits bytes)
    (tested (slice_index lower_digits (b % 16)) (hex_digit (b % 16) low)) (hex_signs bytes (λ k. h (suc k))))

pub hex_word : (bytes : List ℕ) → IsBytes bytes → IsWord (encode_lower bytes)
hex_word bytes h = signs_word (encode_lower bytes) (hex_signs bytes h)

pub bytes_of_16 : (n : ℕ) → IsBytes (to_be_bytes w16 n)
bytes_of_16 n zero = omega arith
bytes_of_16 n (suc zero) = omega arith
bytes_of_16 n (suc (suc k)) = omega arith

pub id_word : (n : ℕ) → IsWord (hex4 n)
id_word n = hex_word (to_be_bytes w16 n) (bytes_of_16 n)

pub one_byte : (n : ℕ) → n < 256 → IsBytes (n ∷ [])
one_byte n small zero = small
one_byte n small (suc k) = omega arith

pub byte_word : (n : ℕ) → n < 256 → IsWord (hex2 n)
byte_word n small = hex_word (n ∷ []) (one_byte n small)

-- ---- words of parts

-- a byte alone
single : (b : ℕ) → 0x20 < b → b < 0x80 → IsWord (b ∷ [])
single b low high = All-cons IsWordByte b [] (low, high) (All-nil IsWordByte)

-- two words with a byte between them
pub between : (b : ℕ) (front back : List ℕ) → 0x20 < b → b < 0x80 → IsWord front → IsWord back → IsWord (front ++ b ∷ [] ++ back)
between b front back low high f g = All-append IsWordByte (front ++ b ∷ []) back (All-append IsWordByte front (b ∷ []) f (single b low high)) g

pub ids_word : (first second : ℕ) → IsWord (ids_text first second)
ids_word first second = between 0x2e (hex4 first) (hex4 second) (omega arith) (omega arith) (id_word first) (id_word second)

dotted_word : (a b c d : ℕ) → a < 2 ^ 8 → b < 2 ^ 8 → c < 2 ^ 8 → d < 2 ^ 8 → IsWord (dotted_text a b c d)
dotted_word a b c d la lb lc ld =
    let part : (n : ℕ) → n < 2 ^ 8 → IsWord (decimal n) = λ n small. decimal_word n (omega (arith, small)) in
    between 0x2e _ (decimal d) (omega arith) (omega arith)
    (between 0x2e _ (decimal c) (omega arith) (omega arith) (between 0x2e (decimal a) (decimal b) (omega arith) (omega arith) (part a la) (part b lb)) (part c lc))
    (part d ld)

pub endpoint_word : (a b c d port : ℕ) → a < 2 ^ 8 → b < 2 ^ 8 → c < 2 ^ 8 → d < 2 ^ 8 → port < 2 ^ 16
    → IsWord (dotted_text a b c d ++ codes ":" ++ decimal port)
endpoint_word a b c d port la lb lc ld small =
    between 0x3a (dotted_text a b c d) (decimal port) (omega arith) (omega arith) (dotted_word a b c d la lb lc ld) (decimal_word port (omega (arith, small)))

pub bytes_word : (bytes : List ℕ) → IsBytes bytes → IsWord (bytes_text bytes)
bytes_word [] h = single 0x2d (omega arith) (omega arith)
bytes_word (b ∷ bytes) h = hex_word (b ∷ bytes) h

run_word : (b : ℕ) (others : List ℕ) → IsBytes (b ∷ others) → length (b ∷ others) < 2 ^ 64 → IsWord (run_text (b ∷ others))
run_word b others h small = between 0x2a (hex2 b) (decimal (length (b ∷ others))) (omega arith) (omega arith) (byte_word b (h 0)) (decimal_word (length (b ∷ others)) small)

pub payload_is_word : (bytes : List ℕ) → IsBytes bytes → IsWord (payload_word bytes)
payload_is_word [] h = bytes_word [] h
payload_is_word (b ∷ others) h = go (is_run (b ∷ others)) refl
  where
    go : (run : Bool) → is_run (b ∷ others) ≡ run → IsWord (payload_word (b ∷ others))
    go true run =
        let parts = and_parts (nat_le 7 (length others) && nat_lt (length others) 1048576) (list_all (λ c. c == b) others) run in
        let bounds = and_parts (nat_le 7 (length others)) (nat_lt (length others) 1048576) parts.0 in
        let few : length others < 1048576 = ltb-true (length others) 1048576 bounds.1 in
        rw run (run_word b others h (omega (arith, few)))
    go false run = rw run (bytes_word (b ∷ others) h)

-- ---- names

name_byte : (b : ℕ) → is_name_byte b ≡ true → IsWordByte b
name_byte b h = go (nat_le 0x61 b && nat_le b 0x7a) refl h
  where
    go : (letter : Bool) → (nat_le 0x61 b && nat_le b 0x7a) ≡ letter → (letter || is_digit b) ≡ true → IsWordByte b
    go true is e =
        let parts = and_parts (nat_le 0x61 b) (nat_le b 0x7a) is in
        let low : 0x61 ≤ b = leb-true 0x61 b parts.0 in
        let high : b ≤ 0x7a = leb-true b 0x7a parts.1 in
        (omega (arith, low), omega (arith, high))
    go false is e = let s = digit_sign b e in (omega (arith, s.0), s.1)

pub name_word : (name : List ℕ) → is_name name ≡ true → IsWord name
name_word name h =
    let parts = and_parts (nat_le 1 (length name) && nat_le (length name) 16) (list_all is_name_byte name) h in
    All-weaker (λ b. is_name_byte b ≡ true) IsWordByte name_byte name (AllPass-from_list_all is_name_byte name parts.1)
