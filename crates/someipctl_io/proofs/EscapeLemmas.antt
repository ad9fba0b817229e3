-- Texts of which no byte is escaped between quotes.
use Rattle.std.proofs.Common.{◌≡◌, ℕ, zero, suc, ◌<◌, ◌≤◌, ◌^◌, ◌/◌, ◌%◌, List, [], ◌∷◌, ◌++◌, decimal, codes, refl, sym, ap, ap₂, ◌∙◌, arith, append_assoc, Bool, true, ◌&&◌, ◌==◌, ◌||◌, inl, inr, eq-eqb}
use Rattle.std.specs.Prelude.{◌+◌, drop, slice_index, nat_le, nat_lt, not}
use Rattle.std.specs.Char.{digit_char}
use Rattle.std.specs.Int.{w16, to_be_bytes}
use Rattle.std.specs.List.{list_all}
use Rattle.std.specs.Net.Addr.{ipv4_octets}
use Rattle.std.specs.Net.Text.{ipv4_text, socket_v4_text}
use Rattle.std.specs.Net.Socket.{v4_ip, v4_port}
use Rattle.std.specs.declared.net.socket_addr.SocketAddrV4.{SocketAddrV4}
use Rattle.std.proofs.lemmas.Bool.{and_parts, or_parts, cases_lt, leb-true, not-true, eqb-false, eqb-true, ltb-false, lt-ltb, le-ltb}
use Rattle.std.proofs.lemmas.Grind.{flat_map-append}
use Rattle.hex.specs.Hex.{encode_lower, encode_with, lower_digits, IsBytes}
use Rattle.json.specs.Print.{escape, escape_byte, escape_letter, quoted}
use Rattle.json.specs.Run.{is_plain}
use Rattle.json.proofs.Printed.Strings.{escape_byte_plain}
use Rattle.someip_texts.specs.Numbers.{is_digit}
use Rattle.someip_texts.specs.Words.{hex2, hex4}
use Rattle.someipctl_io.specs.Parts.{nine_digits, seconds_text}
use Rattle.someip_texts.proofs.NumberLemmas.{decimal_digits}

pub quoted-plain : (text : List ℕ) → escape text ≡ text → 34 ∷ (text ++ 34 ∷ []) ≡ quoted text
quoted-plain text plain = ap (λ (t : List ℕ). 34 ∷ (t ++ 34 ∷ [])) (sym plain)

pub escape-append : (xs ys : List ℕ) → escape (xs ++ ys) ≡ escape xs ++ escape ys
escape-append xs ys = flat_map-append escape_byte xs ys

-- bytes that pass a test which lets no byte through that is escaped
by_test : (p : ℕ → Bool) → ((b : ℕ) → p b ≡ true → escape_byte b ≡ b ∷ []) → (xs : List ℕ) → list_all p xs ≡ true → escape xs ≡ xs
by_test p one [] h = refl
by_test p one (x ∷ xs) h =
    let parts = and_parts (p x) (list_all p xs) h in
    ap₂ (λ (a b : List ℕ). a ++ b) (one x parts.0) (by_test p one xs parts.1)

plain_byte : (x : ℕ) → is_plain x ≡ true → escape_byte x ≡ x ∷ []
plain_byte x h =
    let none = or_parts ((x == 34) || (x == 92)) (nat_lt x 32) (not-true _ h) in
    let tests = or_parts (x == 34) (x == 92) none.0 in
    escape_byte_plain x (eqb-false x 34 tests.0) (eqb-false x 92 tests.1) (ltb-false x 32 none.1)

pub escape-plain : (xs : List ℕ) → list_all is_plain xs ≡ true → escape xs ≡ xs
escape-plain = by_test is_plain plain_byte

digit_byte : (x : ℕ) → is_digit x ≡ true → escape_byte x ≡ x ∷ []
digit_byte x h =
    let parts = and_parts (nat_le 48 x) (nat_le x 57) h in
    let low : 48 ≤ x = leb-true 48 x parts.0 in
    let high : x ≤ 57 = leb-true x 57 parts.1 in
    escape_byte_plain x (λ e. omega arith) (λ e. omega arith) (omega arith)

pub escape-decimal : (n : ℕ) → n < 2 ^ 64 → escape (decimal n) ≡ decimal n
escape-decimal n fits = by_test is_digit digit_byte (decimal n) (decimal_digits n fits)

all_behind : (p : ℕ → Bool) (xs : List ℕ) → list_all p xs ≡ true → list_all p (drop 1 xs) ≡ true
all_behind p [] h = refl
all_behind p (x ∷ xs) h = (and_parts (p x) (list_all p xs) h).1

escape-nine : (n : ℕ) → n < 2 ^ 32 → escape (nine_digits n) ≡ nine_digits n
escape-nine n fits =
    by_test is_digit digit_byte (nine_digits n) (all_behind is_digit (decimal (1000000000 + n)) (decimal_digits (1000000000 + n) (omega (arith, fits))))

-- ---- hex digits

abbrev passes : ℕ → Bool
passes d = nat_le 48 (slice_index lower_digits d) && not (slice_index lower_digits d == 92)

-- the test of the first n digits, which computes
abbrev all_pass : ℕ → Bool
all_pass zero = true
all_pass (suc n) = passes n && all_pass n

all_pass-at : (n d : ℕ) → all_pass n ≡ true → d < n → passes d ≡ true
all_pass-at zero d h lt = absurd (omega arith)
all_pass-at (suc n) d h lt =
    let parts = and_parts (passes n) (all_pass n) h in
    elim (cases_lt d n) [
      | inl below ↦ all_pass-at n d parts.1 below
      | inr top ↦ let e : d ≡ n = omega arith in ap passes e ∙ parts.0
    ]

plain_by : (x : ℕ) → (nat_le 48 x && not (x == 92)) ≡ true → escape_byte x ≡ x ∷ []
plain_by x h =
    let parts = and_parts (nat_le 48 x) (not (x == 92)) h in
    let low : 48 ≤ x = leb-true 48 x parts.0 in
    escape_byte_plain x (λ e. omega arith) (λ e. let same : (x == 92) ≡ true = eq-eqb x 92 e in cc) (omega arith)

pub escape-hex : (xs : List ℕ) → IsBytes xs → escape (encode_lower xs) ≡ encode_lower xs
unfolding encode_with
escape-hex [] h = refl
escape-hex (b ∷ xs) h =
    let fits : b < 256 = h 0 in
    let high = plain_by (slice_index lower_digits (b / 16)) (all_pass-at 16 (b / 16) refl (omega arith)) in
    let low = plain_by (slice_index lower_digits (b % 16)) (all_pass-at 16 (b % 16) refl (omega arith)) in
    rw (high, low, escape-hex xs (λ i. h (suc i))) refl

bytes_of_16 : (n : ℕ) → IsBytes (to_be_bytes w16 n)
bytes_of_16 n zero = omega arith
bytes_of_16 n (suc zero) = omega arith
bytes_of_16 n (suc (suc i)) = omega arith

pub escape-hex4 : (n : ℕ) → escape (hex4 n) ≡ hex4 n
escape-hex4 n = escape-hex (to_be_bytes w16 n) (bytes_of_16 n)

byte_alone : (n : ℕ) → n < 256 → IsBytes (n ∷ [])
byte_alone n fits zero = fits
byte_alone n fits (suc i) = omega arith

pub escape-hex2 : (n : ℕ) → n < 256 → escape (hex2 n) ≡ hex2 n
escape-hex2 n fits = escape-hex (n ∷ []) (byte_alone n fits)

-- ---- addresses

-- texts with a dot or a colon between them
by_dot : (a rest : List ℕ) → escape a ≡ a → escape rest ≡ rest → escape (a ++ 46 ∷ rest) ≡ a ++ 46 ∷ rest
unfolding escape_byte
by_dot a rest plain others = escape-append a (46 ∷ rest) ∙ ap₂ (λ (x y : List ℕ). x ++ 46 ∷ y) plain others

by_colon : (a rest : List ℕ) → escape a ≡ a → escape rest ≡ rest → escape (a ++ 58 ∷ rest) ≡ a ++ 58 ∷ rest
unfolding escape_byte
by_colon a rest plain others = escape-append a (58 ∷ rest) ∙ ap₂ (λ (x y : List ℕ). x ++ 58 ∷ y) plain others

pub escape-ipv4 : (o : List ℕ) → IsBytes o → escape (ipv4_text o) ≡ ipv4_text o
escape-ipv4 o h =
    let d : (i : ℕ) → escape (decimal (slice_index o i)) ≡ decimal (slice_index o i) = λ i. escape-decimal (slice_index o i) (let low : slice_index o i < 256 = h i in omega arith) in
    dotted (decimal (slice_index o 0)) (decimal (slice_index o 1)) (decimal (slice_index o 2)) (decimal (slice_index o 3)) (d 0) (d 1) (d 2) (d 3)
  where
    dotted : (a b c d : List ℕ) → escape a ≡ a → escape b ≡ b → escape c ≡ c → escape d ≡ d
        → escape (a ++ codes "." ++ b ++ codes "." ++ c ++ codes "." ++ d) ≡ a ++ codes "." ++ b ++ codes "." ++ c ++ codes "." ++ d
    dotted a b c d pa pb pc pd =
        let nested : a ++ codes "." ++ b ++ codes "." ++ c ++ codes "." ++ d ≡ a ++ 46 ∷ (b ++ 46 ∷ (c ++ 46 ∷ d)) = simp append_assoc in
        ap escape nested ∙ by_dot a _ pa (by_dot b _ pb (by_dot c d pc pd)) ∙ sym nested

pub escape-socket : (e : SocketAddrV4) → IsBytes (ipv4_octets (v4_ip e)) → v4_port e < 65536 → escape (socket_v4_text e) ≡ socket_v4_text e
escape-socket e h port =
    let a = ipv4_text (ipv4_octets (v4_ip e)) in
    let nested : socket_v4_text e ≡ a ++ 58 ∷ decimal (v4_port e) = append_assoc a (codes ":") (decimal (v4_port e)) in
    ap escape nested ∙ by_colon a (decimal (v4_port e)) (escape-ipv4 (ipv4_octets (v4_ip e)) h) (escape-decimal (v4_port e) (omega (arith, port))) ∙ sym nested

-- ---- times

pub escape-seconds : (seconds nanoseconds : ℕ) → seconds < 2 ^ 64 → nanoseconds < 2 ^ 32 → escape (seconds_text seconds nanoseconds) ≡ seconds_text seconds nanoseconds
escape-seconds seconds nanoseconds fits low =
    let nested : seconds_text seconds nanoseconds ≡ decimal seconds ++ 46 ∷ nine_digits nanoseconds = append_assoc (decimal seconds) (codes ".") (nine_digits nanoseconds) in
    ap escape nested ∙ by_dot (decimal seconds) (nine_digits nanoseconds) (escape-decimal seconds fits) (escape-nine nanoseconds low) ∙ sym nested

-- ---- control characters

abbrev agrees : ℕ → Bool
agrees d = slice_index lower_digits d == digit_char d

abbrev all_agree : ℕ → Bool
all_agree zero = true
all_agree (suc n) = agrees n && all_agree n

all_agree-at : (n d : ℕ) → all_agree n ≡ true → d < n → agrees d ≡ true
all_agree-at zero d h lt = absurd (omega arith)
all_agree-at (suc n) d h lt =
    let parts = and_parts (agrees n) (all_agree n) h in
    elim (cases_lt d n) [
      | inl below ↦ all_agree-at n d parts.1 below
      | inr top ↦ let e : d ≡ n = omega arith in ap agrees e ∙ parts.0
    ]

pub hex2-digits : (n : ℕ) → n < 32 → hex2 n ≡ digit_char (n / 16) ∷ digit_char (n % 16) ∷ []
unfolding encode_with
hex2-digits n fits =
    let high : slice_index lower_digits (n / 16) ≡ digit_char (n / 16) = eqb-true _ _ (all_agree-at 16 (n / 16) refl (omega arith)) in
    let low : slice_index lower_digits (n % 16) ≡ digit_char (n % 16) = eqb-true _ _ (all_agree-at 16 (n % 16) refl (omega arith)) in
    rw (high, low) refl

-- ---- a byte that is escaped, by the letter of its short escape

pub escape-short : (x letter : ℕ) → letter ≡ escape_letter x → 0 < letter → escape_byte x ≡ 92 ∷ letter ∷ []
unfolding escape_byte
escape-short x letter is some = rw (← is, lt-ltb 0 letter some) refl

pub escape-control : (x letter : ℕ) → letter ≡ escape_letter x → letter ≤ 0 → x < 32 → escape_byte x ≡ codes "\\u00" ++ (hex2 x ++ [])
unfolding escape_byte
escape-control x letter is none low = rw (← is, le-ltb 0 letter none, lt-ltb x 32 low, hex2-digits x low) refl

pub escape-other : (x letter : ℕ) → letter ≡ escape_letter x → letter ≤ 0 → 32 ≤ x → escape_byte x ≡ x ∷ []
unfolding escape_byte
escape-other x letter is none high = rw (← is, le-ltb 0 letter none, le-ltb x 32 high) refl
