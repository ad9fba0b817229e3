-- What is known where steps of reading a value come out.
use Rattle.std.proofs.Common.{◌≡◌, ℕ, ◌<◌, ◌≤◌, ◌^◌, ◌-◌, suc, ◌⊎◌, inl, inr, Bool, true, false, ◌&&◌, cond, eqb, List, [], ◌∷◌, ◌++◌, codes, Option, Some, None, refl, sym, ap, subst, ◌∙◌, append_assoc, arith, eqb-true}
use Rattle.std.specs.Prelude.{ℤ, pos, negsuc, nat_lt, nat_le}
use Rattle.std.specs.List.{list_all}
use Rattle.std.specs.Fmt.{decimal, signed_decimal}
use Rattle.std.specs.Str.{bytes_eq}
use Rattle.std.proofs.lemmas.Bool.Decides.{nat_tests}
use Rattle.std.proofs.lemmas.Slice.Eq.{bytes_eq-Decides}
use Rattle.someip_payload_values.specs.Data.{Data}
use Rattle.someip_payload.specs.ReadValues.{◌>>=◌, or_else, token, past_token, after, atom_in, number_of, below_zero, above_zero, signed_of, natural_of, long_of, skip_name, or_text}
use Rattle.someip_payload.specs.ValueReading.{IsLong, IsNameOf, is_plain}
use Rattle.someip_payload.proofs.Fronts.{both}
use Rattle.someip_payload.proofs.ValueTokens.{number_or, true_lt}

pub none_some : {A : Type 0} (y : A) → None ≡ Some y → ⊥
none_some y is = cc

abbrev pub some_or : {A : Type 0} → A → Option A → A
some_or d (Some x) = x
some_or d None = d

pub some_is : {A : Type 0} (x y : A) → Some x ≡ Some y → x ≡ y
some_is x y is = ap (some_or x) is

abbrev first_or : {A B : Type 0} → A → Option (A × B) → A
first_or d (Some x) = x.0
first_or d None = d

abbrev second_or : {A B : Type 0} → B → Option (A × B) → B
second_or d (Some x) = x.1
second_or d None = d

abbrev pub some_pair : {A B : Type 0} → A → B → Option (A × B)
some_pair a b = Some (a, b)

pub pair_is : {A B : Type 0} (a c : A) (b d : B) → some_pair a b ≡ some_pair c d → (a ≡ c) × (b ≡ d)
pair_is a c b d is = (ap (first_or a) is, ap (second_or b) is)

pub some_then : {A B : Type 0} (o : Option A) (k : A → Option B) (y : B) → (o >>= k) ≡ Some y → (x : A) × (o ≡ Some x) × (k x ≡ Some y)
some_then (Some x) k y is = (x, refl, is)
some_then None k y is = absurd (none_some y is)

pub if_then : {A : Type 0} (b : Bool) (o : Option A) (y : A) → cond b o None ≡ Some y → (b ≡ true) × (o ≡ Some y)
if_then true o y is = (refl, is)
if_then false o y is = absurd (none_some y is)

pub if_either : {A : Type 0} (b : Bool) (o p : Option A) (y : A) → cond b o p ≡ Some y → ((b ≡ true) × (o ≡ Some y)) ⊎ ((b ≡ false) × (p ≡ Some y))
if_either true o p y is = inl (refl, is)
if_either false o p y is = inr (refl, is)

pub or_either : {A : Type 0} (o : Option (List ℕ)) (found : List ℕ → Option A) (other : Option A) (y : A) → or_else o found other ≡ Some y
    → ((rest : List ℕ) × (o ≡ Some rest) × (found rest ≡ Some y)) ⊎ ((o ≡ None) × (other ≡ Some y))
or_either (Some rest) found other y is = inl (rest, refl, is)
or_either None found other y is = inr (refl, is)

-- ---- tokens and single bytes

pub token_whole : (text : List ℕ) → token text ++ past_token text ≡ text
unfolding token past_token
token_whole [] = refl
token_whole (b ∷ bs) = by (is_plain b) (token_whole bs)
  where
    by : (p : Bool) → token bs ++ past_token bs ≡ bs → cond p (b ∷ token bs) [] ++ cond p (past_token bs) (b ∷ bs) ≡ b ∷ bs
    by true rest = ap (λ (t : List ℕ). b ∷ t) rest
    by false rest = refl

pub token_plain : (text : List ℕ) → list_all is_plain (token text) ≡ true
unfolding token
token_plain [] = refl
token_plain (b ∷ bs) = by (is_plain b) refl (token_plain bs)
  where
    by : (p : Bool) → is_plain b ≡ p → list_all is_plain (token bs) ≡ true → list_all is_plain (cond p (b ∷ token bs) []) ≡ true
    by true is rest = rw (is, rest) refl
    by false is rest = refl

pub after_is : (b : ℕ) (text rest : List ℕ) → after b text ≡ Some rest → text ≡ b ∷ rest
unfolding after
after_is b [] rest is = absurd (none_some rest is)
after_is b (x ∷ xs) rest is =
    let p = if_then (eqb x b) (Some xs) rest is in
    let first : x ≡ b = eqb-true x b p.0 in
    let others : xs ≡ rest = some_is xs rest p.1 in
    λ i. first i ∷ others i

-- such a text at the front
abbrev pub Found : (List ℕ → Type 0) → List ℕ → List ℕ → Type 0
Found P text rest = (front : List ℕ) × P front × (text ≡ front ++ rest)

pub atom_found : (atom : List ℕ → Option Data) (P : Data → List ℕ → Type 0) → ((t : List ℕ) (d : Data) → list_all is_plain t ≡ true → atom t ≡ Some d → P d t)
    → (text : List ℕ) (d : Data) (rest : List ℕ) → atom_in atom text ≡ Some (d, rest) → Found (P d) text rest
unfolding atom_in
atom_found atom P each text d rest is =
    let s = some_then (atom (token text)) (λ x. Some (x, past_token text)) (d, rest) is in
    let same = pair_is s.0 d (past_token text) rest s.2 in
    (token text, subst (λ x. P x (token text)) same.0 (each (token text) s.0 (token_plain text) s.1), sym (token_whole text) ∙ ap (λ (r : List ℕ). token text ++ r) same.1)

-- ---- numbers

pub number_is : (t : List ℕ) (n : ℕ) → number_of t ≡ Some n → (t ≡ decimal n) × (n < 2 ^ 64)
number_is t n is = elim (number_or t) [
  | inl none ↦ absurd (none_some n (sym none ∙ is))
  | inr s ↦ let same : s.0 ≡ n = some_is s.0 n (sym s.1 ∙ is) in (s.3 ∙ ap (λ m. decimal m) same, omega (arith, s.2, same))
]

pub natural_is : (z : ℤ) (n : ℕ) → natural_of z ≡ Some n → (z ≡ pos n) × (n < 2 ^ 64)
natural_is (pos m) n is =
    let p = if_then _ (Some m) n is in
    let same : m ≡ n = some_is m n p.1 in
    let small : m < 2 ^ 64 = true_lt m (2 ^ 64) p.0 in
    (ap pos same, omega (arith, small, same))
natural_is (negsuc m) n is = absurd (none_some n is)

pub long_is : (y z : ℤ) → long_of y ≡ Some z → (y ≡ z) × IsLong z
long_is (pos m) z is =
    let p = if_then _ (Some (pos m)) z is in
    let same : pos m ≡ z = some_is (pos m) z p.1 in
    (same, subst IsLong same (true_lt m (2 ^ 63) p.0))
long_is (negsuc m) z is =
    let p = if_then _ (Some (negsuc m)) z is in
    let same : negsuc m ≡ z = some_is (negsuc m) z p.1 in
    (same, subst IsLong same (true_lt m (2 ^ 63) p.0))

above_is : (n : ℕ) (z : ℤ) → above_zero n ≡ Some z → (pos n ≡ z) × IsLong z
above_is n z is =
    let p = if_then _ (Some (pos n)) z is in
    let same : pos n ≡ z = some_is (pos n) z p.1 in
    (same, subst IsLong same (true_lt n (2 ^ 63) p.0))

below_bounds : (n : ℕ) → (nat_lt 0 n && nat_le n (2 ^ 63)) ≡ true → (0 < n) × (n ≤ 2 ^ 63)
below_bounds n is = let parts = both (nat_lt 0 n) (nat_le n (2 ^ 63)) is in (true_lt 0 n parts.0, grind (arith, nat_tests, parts))

below_is : (n : ℕ) (z : ℤ) → below_zero n ≡ Some z → (45 ∷ decimal n ≡ signed_decimal z) × IsLong z
below_is n z is =
    let p = if_then _ (Some (negsuc (n - 1))) z is in
    let bounds = below_bounds n p.0 in
    let same : negsuc (n - 1) ≡ z = some_is (negsuc (n - 1)) z p.1 in
    let next : n ≡ suc (n - 1) = omega (arith, bounds.0) in
    (ap (λ m. 45 ∷ decimal m) next ∙ ap signed_decimal same, subst IsLong same (omega (arith, bounds)))

-- a number with a sign
pub signed_is : (t : List ℕ) (z : ℤ) → signed_of t ≡ Some z → (t ≡ signed_decimal z) × IsLong z
unfolding signed_of
signed_is t z is = elim (or_either (after 45 t) (λ ds. number_of ds >>= below_zero) (number_of t >>= above_zero) z is) [
  | inl minus ↦
      let s = some_then (number_of minus.0) below_zero z minus.2 in
      let n = number_is minus.0 s.0 s.1 in
      let below = below_is s.0 z s.2 in
      (after_is 45 t minus.0 minus.1 ∙ ap (λ (ds : List ℕ). 45 ∷ ds) n.0 ∙ below.0, below.1)
  | inr plain ↦
      let s = some_then (number_of t) above_zero z plain.1 in
      let n = number_is t s.0 s.1 in
      let above = above_is s.0 z s.2 in
      (n.0 ∙ ap signed_decimal above.0, above.1)
]

-- ---- names of members

pub skip_is : (names : List (List ℕ)) (text : List ℕ) → (name : List ℕ) × IsNameOf names name × (text ≡ name ++ skip_name names text)
unfolding skip_name
skip_is [] text = ([], refl, refl)
skip_is (n ∷ ns) text = by (bytes_eq (token text) n) refl
  where
    behind : token text ≡ n → (o : Option (List ℕ)) → after 61 (past_token text) ≡ o → (name : List ℕ) × IsNameOf (n ∷ ns) name × (text ≡ name ++ or_text o text)
    behind same None is = ([], inl refl, refl)
    behind same (Some rest) is = (
      n ++ codes "=",
      inr (ap (list_all is_plain) (sym same) ∙ token_plain text, refl),
      sym (token_whole text) ∙ ap (λ (t : List ℕ). t ++ past_token text) same ∙ ap (λ (t : List ℕ). n ++ t) (after_is 61 (past_token text) rest is) ∙ sym (append_assoc n (codes "=") rest),
    )

    by : (b : Bool) → bytes_eq (token text) n ≡ b → (name : List ℕ) × IsNameOf (n ∷ ns) name × (text ≡ name ++ cond b (or_text (after 61 (past_token text)) text) text)
    by false is = ([], inl refl, refl)
    by true is = behind ((bytes_eq-Decides (token text) n).0 is) (after 61 (past_token text)) refl
