-- What a line of a capture says.
use Rattle.std.proofs.Common.{◌≡◌, ℕ, ◌%◌, ◌==◌, true, false, List, [], ◌∷◌, length, Some, Result, Ok, Err, inl, inr, refl, sym, ap}
use Rattle.std.proofs.lemmas.List.Elements.{All-head, All-tail}
use Rattle.std.proofs.lemmas.Bool.{cases_eq, ne_eqb}
use Rattle.std.specs.List.{list_all, AllPass}
use Rattle.std.specs.Result.{result_ok}
use Rattle.hex.specs.Hex.{decode_of, is_hex_digit}
use Rattle.hex.proofs.HexLemmas.{decode_of-ok}
use Rattle.someipctl_show.specs.Capture.{bytes_of, without_blanks}

-- a line has nothing but spaces if nothing is left of it
pub list_all-blank : (line : List ℕ) → list_all (λ b. b == 0x20) line ≡ (length (without_blanks line) == 0)
list_all-blank [] = refl
list_all-blank (b ∷ line) =
    let more = list_all-blank line in
    elim (cases_eq b 0x20) [
      | inl blank ↦ rw blank more
      | inr other ↦ rw (ne_eqb b 0x20 other) (sym (ne_eqb (length (b ∷ without_blanks line)) 0 (λ e. cc e)))
    ]

-- digits have no space among them
pub without_blanks-digits : (line : List ℕ) → AllPass is_hex_digit line → without_blanks line ≡ line
without_blanks-digits [] h = refl
without_blanks-digits (b ∷ line) h =
    let more = without_blanks-digits line (All-tail (λ c. is_hex_digit c ≡ true) b line h) in
    let digit = All-head (λ c. is_hex_digit c ≡ true) b line h in
    elim (cases_eq b 0x20) [
      | inl blank ↦ let e = rw blank at digit in cc e
      | inr other ↦ rw (ne_eqb b 0x20 other) (ap (λ (rest : List ℕ). b ∷ rest) more)
    ]

-- the result of which `result_ok` is some value
Ok-from_result_ok : {T E : Type 0} (r : Result T E) (x : T) → result_ok r ≡ Some x → r ≡ Ok x
Ok-from_result_ok (Ok y) x h = cc h
Ok-from_result_ok (Err e) x h = cc h

-- a line that decodes as it stands says those bytes
pub bytes_of-decoded : (line bytes : List ℕ) → result_ok (decode_of line) ≡ Some bytes → bytes_of line ≡ Some bytes
bytes_of-decoded line bytes h =
    let ok = decode_of-ok line bytes (Ok-from_result_ok (decode_of line) bytes h) in
    let even = ok.0 in
    let not_single : length line ≡ 1 → ⊥ = λ one. (let h : 1 % 2 ≡ 0 = rw one at even in cc h) in
    let not_one : (length line == 1) ≡ false = ne_eqb (length line) 1 not_single in
    rw (without_blanks-digits line ok.1, not_one, h) refl
