-- What is printed of a value is a text of it.
use Rattle.std.proofs.Common.{◌≡◌, ℕ, ◌⊎◌, inl, inr, Bool, true, false, not, ◌||◌, cond, List, [], ◌∷◌, map, Some, refl, sym, ap}
use Rattle.std.specs.Prelude.{ℤ}
use Rattle.std.specs.List.{list_all, list_any}
use Rattle.std.specs.Ordering.{int_eq}
use Rattle.std.specs.Fmt.{signed_decimal}
use Rattle.std.specs.Str.{bytes_eq}
use Rattle.std.proofs.lemmas.Bool.{false≢true}
use Rattle.std.proofs.lemmas.Bool.Decides.{Decides-int_eq}
use Rattle.someip_payload_values.specs.Check.{is_first, is_later, is_name, are_names}
use Rattle.someip_payload.specs.ValueReading.{IsWord, SaysNumber, is_plain, labelled}
use Rattle.someip_payload_values.specs.ValueText.{number_said}
use Rattle.someip_payload.proofs.Fronts.{both}
use Rattle.someip_payload.proofs.ValueTokens.{same_bytes}

-- ---- names

later_plain : (b : ℕ) → is_later b ≡ true → is_plain b ≡ true
later_plain b is = rw is refl

laters_plain : (bs : List ℕ) → list_all is_later bs ≡ true → list_all is_plain bs ≡ true
laters_plain [] all = refl
laters_plain (b ∷ bs) all = let parts = both (is_later b) (list_all is_later bs) all in rw (later_plain b parts.0, laters_plain bs parts.1) refl

first_later : (b : ℕ) → is_first b ≡ true → is_later b ≡ true
first_later b is = rw is refl

-- a name is a word
pub name_word : (n : List ℕ) → is_name n ≡ true → IsWord n
name_word [] is = absurd (false≢true is)
name_word (b ∷ bs) is =
    let parts = both (is_first b) _ is in
    let rest = both (list_all is_later bs) _ parts.1 in
    (parts.0, rw (later_plain b (first_later b parts.0), laters_plain bs rest.0) refl)

int_same : (x y : ℤ) → int_eq x y ≡ true → x ≡ y
int_same x y is = (Decides-int_eq x y).0 is

not_true : (b : Bool) → not b ≡ true → b ≡ false
not_true true is = absurd (false≢true is)
not_true false is = refl

-- a name of an enumeration's value, and the value
abbrev pub IsLabel : List (ℤ × List ℕ) → ℤ → List ℕ → Type 0
IsLabel ls z n = (is_name n ≡ true) × (labelled ls n ≡ Some z)

any_here : (e : List ℕ) (earlier : List (List ℕ)) (n : List ℕ) → list_any (λ m. bytes_eq m n) (e ∷ earlier) ≡ false → (bytes_eq e n ≡ false) × (list_any (λ m. bytes_eq m n) earlier ≡ false)
any_here e earlier n is = by (bytes_eq e n) is
  where
    by : (b : Bool) → (b || list_any (λ m. bytes_eq m n) earlier) ≡ false → (b ≡ false) × (list_any (λ m. bytes_eq m n) earlier ≡ false)
    by true h = absurd (false≢true (sym h))
    by false h = (refl, h)

-- the text of a number is its decimal, or a name that no earlier value has
label_said : (ls : List (ℤ × List ℕ)) (earlier : List (List ℕ)) (z : ℤ) → are_names earlier (map (λ l. l.1) ls) ≡ true
    → (number_said ls z ≡ signed_decimal z) ⊎ ((is_name (number_said ls z) ≡ true) × (labelled ls (number_said ls z) ≡ Some z) × (list_any (λ m. bytes_eq m (number_said ls z)) earlier ≡ false))
unfolding labelled
label_said [] earlier z names = inl refl
label_said (l ∷ ls) earlier z names =
    let parts = both (is_name l.1) _ names in
    let rest = both (not (list_any (λ e. bytes_eq e l.1) earlier)) _ parts.1 in
    by (int_eq l.0 z) refl parts.0 (not_true _ rest.0) (label_said ls (l.1 ∷ earlier) z rest.1)
  where
    by : (b : Bool) → int_eq l.0 z ≡ b → is_name l.1 ≡ true → list_any (λ e. bytes_eq e l.1) earlier ≡ false
        → ((number_said ls z ≡ signed_decimal z) ⊎ ((is_name (number_said ls z) ≡ true) × (labelled ls (number_said ls z) ≡ Some z) × (list_any (λ m. bytes_eq m (number_said ls z)) (l.1 ∷ earlier) ≡ false)))
        → (cond b l.1 (number_said ls z) ≡ signed_decimal z) ⊎ ((is_name (cond b l.1 (number_said ls z)) ≡ true)
        × (cond (bytes_eq l.1 (cond b l.1 (number_said ls z))) (Some l.0) (labelled ls (cond b l.1 (number_said ls z))) ≡ Some z)
        × (list_any (λ m. bytes_eq m (cond b l.1 (number_said ls z))) earlier ≡ false))
    by true same name new others = inr (name, rw (same_bytes l.1) (ap (λ (x : ℤ). Some x) (int_same l.0 z same)), new)
    by false other name new others = elim others [
      | inl plain ↦ inl plain
      | inr later ↦ let here = any_here l.1 earlier (number_said ls z) later.2 in inr (later.0, rw here.0 later.1, here.1)
    ]

pub says_number : (ls : List (ℤ × List ℕ)) (z : ℤ) → are_names [] (map (λ l. l.1) ls) ≡ true → SaysNumber ls z (number_said ls z)
says_number ls z names = elim (label_said ls [] z names) [
  | inl plain ↦ inl plain
  | inr word ↦ inr (name_word (number_said ls z) word.0, word.1)
]
