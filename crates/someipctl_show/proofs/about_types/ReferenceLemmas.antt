-- The names that a text refers to, part by part.
use Rattle.std.proofs.Common.{◌≡◌, ℕ, ◌+◌, ◌-◌, ◌<◌, ◌≤◌, ◌==◌, ⊎_elim, Bool, true, false, cond, ◌&&◌, ◌||◌, List, [], ◌∷◌, ◌++◌, length, get_or, take, drop, slice_range, append-nil, refl, sym, ap, ◌∙◌, subst, arith, length-append, append_assoc}
use Rattle.std.specs.Prelude.{nat_lt}
use Rattle.std.specs.List.{list_all}
use Rattle.std.proofs.lemmas.Bool.{cases_lt, false≢true, and_parts, ne_eqb}
use Rattle.std.proofs.lemmas.Bool.Decides.{nat_tests}
use Rattle.std.proofs.lemmas.List.{take_all, take-append-le, take-append-drop, drop-drop, drop_more, length-take, length-drop}
use Rattle.std.proofs.lemmas.List.Folds.{list_all-append}
use Rattle.someip_payload_values.specs.Check.{is_first, is_later, is_name}
use Rattle.someip_payload.specs.References.{HasNoSign, IsLongestName}
use Rattle.someip_payload.specs.ShapeText.{EndsName, begins_name}
use Rattle.someipctl_show.specs.types.References.{later_front, front_name, references}

-- ---- texts one after the other

-- what has no `@` refers to no name
pub no_sign_before : (a b : List ℕ) → HasNoSign a → references (a ++ b) ≡ references b
no_sign_before [] b none = refl
no_sign_before (x ∷ xs) b none =
    let other : (x == 64) ≡ false = ne_eqb x 64 none.0 in
    rw other (no_sign_before xs b none.1)

later_front-none : (b : List ℕ) → EndsName b → later_front b ≡ []
later_front-none [] ends = refl
later_front-none (x ∷ xs) ends = rw ends refl

later_front-append : (a b : List ℕ) → EndsName b → later_front (a ++ b) ≡ later_front a
later_front-append [] b ends = later_front-none b ends
later_front-append (x ∷ xs) b ends = ap (λ (t : List ℕ). cond (is_later x) (x ∷ t) []) (later_front-append xs b ends)

or_false : (a b : Bool) → (a || b) ≡ false → a ≡ false
or_false true b is = is
or_false false b is = refl

begins-append : (a b : List ℕ) → EndsName b → begins_name (a ++ b) ≡ begins_name a
begins-append [] [] ends = refl
begins-append [] (x ∷ xs) ends = or_false (is_first x) (nat_lt 47 x && nat_lt x 58) (other x ends)
  where
    other : (x : ℕ) → is_later x ≡ false → (is_first x || (nat_lt 47 x && nat_lt x 58)) ≡ false
    other x is = grind (arith, nat_tests)
begins-append (x ∷ xs) b ends = refl

cond-append : (t : Bool) (n : List ℕ) (xs ys : List (List ℕ)) → cond t (n ∷ (xs ++ ys)) (xs ++ ys) ≡ cond t (n ∷ xs) xs ++ ys
cond-append true n xs ys = refl
cond-append false n xs ys = refl

-- where no name goes on, the names of both
pub references-append : (a b : List ℕ) → EndsName b → references (a ++ b) ≡ references a ++ references b
references-append [] b ends = refl
references-append (x ∷ xs) b ends =
    rw (begins-append xs b ends, later_front-append xs b ends, references-append xs b ends)
    (cond-append ((x == 64) && begins_name xs) (front_name xs) (references xs) (references b))

-- ---- names

lt_true : (m n : ℕ) → m < n → nat_lt m n ≡ true
lt_true m n lt = grind (arith, nat_tests)

true_lt : (m n : ℕ) → nat_lt m n ≡ true → m < n
true_lt m n is = grind (arith, nat_tests)

first_later : (b : ℕ) → is_first b ≡ true → is_later b ≡ true
first_later b is = rw is refl

pub name_parts : (n : List ℕ) → is_name n ≡ true → list_all is_later n ≡ true × (0 < length n) × (length n ≤ 64) × (begins_name n ≡ true)
name_parts [] is = absurd (false≢true is)
name_parts (b ∷ bs) is =
    let (first, rest) = and_parts (is_first b) (list_all is_later bs && nat_lt (length bs) 64) is in
    let (all, short) = and_parts (list_all is_later bs) (nat_lt (length bs) 64) rest in
    let lt = true_lt (length bs) 64 short in
    (rw (first_later b first, all) refl, omega arith, omega (arith, lt), first)

name_more : (n : List ℕ) (b : ℕ) → is_name n ≡ true → is_later b ≡ true → length n < 64 → is_name (n ++ b ∷ []) ≡ true
name_more [] b is later short = absurd (false≢true is)
name_more (c ∷ cs) b is later short =
    let (first, rest) = and_parts (is_first c) (list_all is_later cs && nat_lt (length cs) 64) is in
    let (all, less) = and_parts (list_all is_later cs) (nat_lt (length cs) 64) rest in
    let more : list_all is_later (cs ++ b ∷ []) ≡ true = list_all-append is_later cs (b ∷ []) ∙ rw (all, later) refl in
    let small : nat_lt (length (cs ++ b ∷ [])) 64 ≡ true = lt_true (length (cs ++ b ∷ [])) 64 (omega (arith, short, length-append cs (b ∷ []))) in
    rw (first, more, small) refl

pub no_sign_later : (n : List ℕ) → list_all is_later n ≡ true → HasNoSign n
no_sign_later [] all = tt
no_sign_later (b ∷ bs) all =
    let (here, rest) = and_parts (is_later b) (list_all is_later bs) all in
    (λ e. false≢true (subst (λ (x : ℕ). is_later x ≡ true) e here), no_sign_later bs rest)

later_front-all : (n rest : List ℕ) → list_all is_later n ≡ true → later_front (n ++ rest) ≡ n ++ later_front rest
later_front-all [] rest all = refl
later_front-all (b ∷ bs) rest all =
    let (here, more) = and_parts (is_later b) (list_all is_later bs) all in
    rw here (ap (λ (t : List ℕ). b ∷ t) (later_front-all bs rest more))

-- the longest name is the one that is read at the front
front_is : (n rest : List ℕ) → is_name n ≡ true → ((m more : List ℕ) → n ++ rest ≡ m ++ more → is_name m ≡ true → length m ≤ length n) → front_name (n ++ rest) ≡ n
front_is n rest name longest =
    let parts = name_parts n name in
    ap (take 64) (later_front-all n rest parts.0) ∙ by rest longest parts.2
  where
    whole : length n ≤ 64 → take 64 (n ++ []) ≡ n
    whole short = rw (append-nil n) (take_all 64 n short)

    by : (r : List ℕ) → ((m more : List ℕ) → n ++ r ≡ m ++ more → is_name m ≡ true → length m ≤ length n) → length n ≤ 64 → take 64 (n ++ later_front r) ≡ n
    by [] most short = whole short
    by (b ∷ bs) most short = cases (is_later b) refl
      where
        goes_on : is_later b ≡ true → length n < 64 → ⊥
        goes_on later less =
            omega (arith, most (n ++ b ∷ []) bs (simp append_assoc) (name_more n b name later less), length-append n (b ∷ []))

        cases : (t : Bool) → is_later b ≡ t → take 64 (n ++ cond t (b ∷ later_front bs) []) ≡ n
        cases false other = whole short
        cases true later =
            ⊎_elim (λ less. absurd (goes_on later less))
            (λ le. let full : length n ≡ 64 = omega (arith, le, short) in take-append-le 64 n (b ∷ later_front bs) (omega (arith, full)) ∙ take_all 64 n short)
            (cases_lt (length n) 64)

-- ---- the next `@`

no_name : (text : List ℕ) → ((m more : List ℕ) → text ≡ m ++ more → is_name m ≡ true → length m ≤ 0) → begins_name text ≡ false
no_name [] longest = refl
no_name (b ∷ bs) longest = cases (is_first b) refl
  where
    cases : (t : Bool) → is_first b ≡ t → t ≡ false
    cases false is = refl
    cases true is = absurd (let le = longest (b ∷ []) bs refl (rw is refl) in omega (arith, le))

module _ (text : List ℕ) (from sign end : ℕ) (le : from ≤ sign) (inside : sign < length text) (is : get_or text sign 0 ≡ 64) (none : HasNoSign (slice_range text from sign))
    (longest : IsLongestName (drop (sign + 1) text) (slice_range text (sign + 1) end)) (past : sign < end) (within : end ≤ length text) where
  at_sign : drop from text ≡ slice_range text from sign ++ 64 ∷ drop (sign + 1) text
  at_sign =
      let there : from + (sign - from) ≡ sign = omega (arith, le) in
      sym (take-append-drop (sign - from) (drop from text))
      ∙ ap (λ (t : List ℕ). slice_range text from sign ++ t) (drop-drop (sign - from) from text ∙ ap (λ i. drop i text) there ∙ drop_more text sign 0 inside ∙ ap (λ b. b ∷ drop (sign + 1) text) is)

  from_sign : references (drop from text) ≡ references (64 ∷ drop (sign + 1) text)
  from_sign = ap references at_sign ∙ no_sign_before (slice_range text from sign) (64 ∷ drop (sign + 1) text) none

  behind : drop (sign + 1) text ≡ slice_range text (sign + 1) end ++ drop end text
  behind =
      let there : sign + 1 + (end - (sign + 1)) ≡ end = omega (arith, past) in
      sym (take-append-drop (end - (sign + 1)) (drop (sign + 1) text)) ∙ ap (λ (t : List ℕ). slice_range text (sign + 1) end ++ t) (drop-drop (end - (sign + 1)) (sign + 1) text ∙ ap (λ i. drop i text) there)

  name_len : length (slice_range text (sign + 1) end) ≡ end - (sign + 1)
  name_len = omega (arith, length-take (end - (sign + 1)) (drop (sign + 1) text), length-drop (sign + 1) text, within, past)

  -- a name stands behind it
  pub named_next : sign + 1 < end → references (drop from text) ≡ slice_range text (sign + 1) end ∷ references (drop end text)
  named_next some =
      let n : List ℕ = slice_range text (sign + 1) end in
      let name : is_name n ≡ true = longest.1 (omega (arith, name_len, some)) in
      let parts = name_parts n name in
      let begins : begins_name (n ++ drop end text) ≡ true = begun n parts.3 in
      let front : front_name (n ++ drop end text) ≡ n = front_is n (drop end text) name (λ m more e. longest.2 m more (behind ∙ e)) in
      from_sign ∙ ap (λ (t : List ℕ). references (64 ∷ t)) behind ∙ rw (begins, front, no_sign_before n (drop end text) (no_sign_later n parts.0)) refl
    where
      begun : (n : List ℕ) → begins_name n ≡ true → begins_name (n ++ drop end text) ≡ true
      begun [] h = absurd (false≢true h)
      begun (b ∷ bs) h = h

  -- none does
  pub unnamed_next : sign + 1 ≡ end → references (drop from text) ≡ references (drop end text)
  unnamed_next same =
      let short : length (slice_range text (sign + 1) end) ≡ 0 = omega (arith, name_len, same) in
      let none_there : begins_name (drop (sign + 1) text) ≡ false = no_name (drop (sign + 1) text) (λ m more e name. omega (arith, longest.2 m more e name, short)) in
      from_sign ∙ rw none_there (ap (λ i. references (drop i text)) same)

pub no_next : (text : List ℕ) (from : ℕ) → HasNoSign (drop from text) → references (drop from text) ≡ []
no_next text from none = ap references (sym (append-nil (drop from text))) ∙ no_sign_before (drop from text) [] none

-- a reference is one to its name
pub name_alone : (n : List ℕ) → is_name n ≡ true → references (64 ∷ n) ≡ n ∷ []
name_alone n name =
    let parts = name_parts n name in
    let none : references n ≡ [] = ap references (sym (append-nil n)) ∙ no_sign_before n [] (no_sign_later n parts.0) in
    let front : front_name n ≡ n = ap front_name (sym (append-nil n)) ∙ front_is n [] name (λ m more e. omega (arith, ap length e, length-append m more, length-append n [])) in
    rw (parts.3, none, front) refl
