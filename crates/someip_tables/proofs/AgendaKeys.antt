-- What is due, found by the moments in order.
use Rattle.std.specs.Prelude.{◌≢◌, IsTrue, take_while}
use Rattle.std.proofs.Common.{◌≡◌, ℕ, ◌+◌, ◌≤◌, zero, suc, nat_le, Bool, true, false, cond, ◌&&◌, ◌||◌, List, [], ◌∷◌, ◌++◌, map, filter, reverse, take, length, get_or, Option, None, Some, refl, ap, sym, subst, ◌∙◌, arith}
use Rattle.std.specs.Option.{option_and_then, is_some}
use Rattle.std.specs.List.{list_any, AllByRecursion, IsDistinct}
use Rattle.std.specs.List.Sorted.{IsStrictlySortedBy, IsSorted, IsPermutation}
use Rattle.std.specs.declared.cmp.Ordering.{Ordering}
use Rattle.std.specs.declared.cmp.Ordering.TheVariants.{Less}
use Rattle.std.specs.Ordering.{eq_by_cmp, is_gt}
use Rattle.std.specs.Cmp.{IsTotalOrder, eq_by_cmp_equiv}
use Rattle.std.specs.FinMap.{FinMap, IsAntisymmetric, get, keys, empty, get-empty, same_map}
use Rattle.std.proofs.lemmas.Bool.{and_parts, and_from}
use Rattle.std.proofs.lemmas.Bool.Decides.{nat_tests}
use Rattle.std.proofs.lemmas.List.{take-map, reverse-append}
use Rattle.std.proofs.lemmas.List.Sorted.{IsPermutation-reverse, IsPermutation-map, list_any-IsPermutation}
use Rattle.std.proofs.lemmas.List.Sums.{take_while-cons}
use Rattle.std.proofs.lemmas.Map.Keys.{Less-from_sorted, IsDistinct-IsPermutation}
use Rattle.someip_tables.specs.declared.due.Due.{Due}
use Rattle.someip_tables.specs.Agendas.{falling, is_awaited, IsAgenda}
use Rattle.someip_tables.specs.Dues.{due_cmp}
use Rattle.someip_tables.specs.Retained.{kept_if}
use Rattle.someip_tables.specs.Waits.{is_due_by, due_by}
use Rattle.someip_tables.proofs.AgendaLemmas.{falling_total, exact_falling, agenda_keys}
use Rattle.someip_tables.proofs.DueLemmas.{not_before, test_is_true, true_is_test}
use Rattle.someip_tables.proofs.Entries.{same_by_test, own_test, get-retain}
use Rattle.someip_tables.proofs.ExpiredKeys.{in_front}
use Rattle.someip_tables.proofs.Members.{any_map, any_filter, any_at, any_found, both_or_none}
use Rattle.someip_tables.proofs.Ranked.{sorted_rises}
use Rattle.someip_tables.proofs.Sorted.{keys_of_list}

-- ---- the last of a list that falls is the first to be due

module _ {K : Type 0} (R : K → K → Ordering) (now : ℕ) where
  pub last_tells : (dues : List (Due K)) (n : ℕ) (last : Due K) → IsStrictlySortedBy (falling R) dues → n + 1 ≡ length dues → get_or dues n last ≡ last
      → list_any (λ due. nat_le due.at now) dues ≡ nat_le last.at now
  unfolding IsStrictlySortedBy
  last_tells [] n last falls len is = absurd (omega (arith, len))
  last_tells (due ∷ []) zero last falls len is = alone (nat_le due.at now) ∙ ap (λ (d : Due K). nat_le d.at now) is
    where
      alone : (b : Bool) → (b || false) ≡ b
      alone true = refl
      alone false = refl
  last_tells (due ∷ []) (suc n) last falls len is = absurd (omega (arith, len))
  last_tells (due ∷ other ∷ dues) zero last falls len is = absurd (omega (arith, len))
  last_tells (due ∷ other ∷ dues) (suc n) last falls len is =
      let less : falling R due last ≡ Less = ap (falling R due) (sym is) ∙ Less-from_sorted (falling R) (due ∷ other ∷ dues) 0 (suc n) last falls (omega arith) (omega (arith, len)) in
      let before : last.at ≤ due.at = not_before R last due (ap is_gt less) in
      ap (λ b. nat_le due.at now || b) (last_tells (other ∷ dues) n last falls.1 (omega (arith, len)) is) ∙ cases (nat_le due.at now) (nat_le last.at now) refl refl before
    where
      cases : (a b : Bool) → nat_le due.at now ≡ a → nat_le last.at now ≡ b → last.at ≤ due.at → (a || b) ≡ b
      cases true true is_a is_b le = refl
      cases true false is_a is_b le = absurd (grind (arith, nat_tests))
      cases false b is_a is_b le = refl

none_taken : {X : Type 0} (p : X → Bool) (xs : List X) → list_any p xs ≡ false → take_while p xs ≡ []
none_taken p [] none = refl
none_taken p (x ∷ xs) none = take_while-cons p x xs ∙ cases (p x) none
  where
    cases : (b : Bool) → (b || list_any p xs) ≡ false → cond b (x ∷ take_while p xs) [] ≡ []
    cases true none = absurd (cc)
    cases false none = refl

pub none_at_end : {X : Type 0} (p : X → Bool) (xs : List X) → list_any p xs ≡ false → take_while p (reverse xs) ≡ []
none_at_end p xs none = none_taken p (reverse xs) (sym (list_any-IsPermutation p xs (reverse xs) (IsPermutation-reverse xs)) ∙ none)

-- the last of a list comes first where it is turned
pub last_first : {X : Type 0} (xs : List X) (n : ℕ) (x : X) → n + 1 ≡ length xs → x ≡ get_or xs n x → reverse xs ≡ x ∷ reverse (take n xs)
last_first [] n x len is = absurd (omega (arith, len))
last_first (y ∷ []) zero x len is = ap (λ z. z ∷ []) (sym is)
last_first (y ∷ []) (suc n) x len is = absurd (omega (arith, len))
last_first (y ∷ z ∷ zs) zero x len is = absurd (omega (arith, len))
last_first (y ∷ z ∷ zs) (suc n) x len is =
    reverse-append (y ∷ []) (z ∷ zs) ∙ ap (λ l. l ++ y ∷ []) (last_first (z ∷ zs) n x (omega (arith, len)) is) ∙ ap (λ l. x ∷ l) (sym (reverse-append (y ∷ []) (take n (z ∷ zs))))

-- ---- a list that falls rises from its end

all_pushed : {X : Type 0} (P : X → Type 0) (xs : List X) (y : X) → AllByRecursion P xs → P y → AllByRecursion P (xs ++ y ∷ [])
all_pushed P [] y all one = (one, tt)
all_pushed P (x ∷ xs) y all one = (all.0, all_pushed P xs y all.1 one)

all_turned : {X : Type 0} (P : X → Type 0) (xs : List X) → AllByRecursion P xs → AllByRecursion P (reverse xs)
all_turned P [] all = tt
all_turned P (x ∷ xs) all = subst (AllByRecursion P) (sym (reverse-append (x ∷ []) xs)) (all_pushed P (reverse xs) x (all_turned P xs all.1) all.0)

module _ {X : Type 0} (R : X → X → Ordering) where
  pushed_rises : (xs : List X) (y : X) → IsStrictlySortedBy R xs → AllByRecursion (λ x. R x y ≡ Less) xs → IsStrictlySortedBy R (xs ++ y ∷ [])
  unfolding IsStrictlySortedBy
  pushed_rises [] y rises below = (tt, tt)
  pushed_rises (x ∷ xs) y rises below = (all_pushed (λ z. R x z ≡ Less) xs y rises.0 below.0, pushed_rises xs y rises.1 below.1)

  turned_rises : (xs : List X) → IsStrictlySortedBy (λ x y. R y x) xs → IsStrictlySortedBy R (reverse xs)
  unfolding IsStrictlySortedBy
  turned_rises [] falls = tt
  turned_rises (x ∷ xs) falls = subst (IsStrictlySortedBy R) (sym (reverse-append (x ∷ []) xs)) (pushed_rises (reverse xs) x (turned_rises xs falls.1) (all_turned (λ y. R y x ≡ Less) xs falls.0))

distinct_taken : {X : Type 0} (e : X → X → Bool) (n : ℕ) (xs : List X) → IsDistinct e xs → IsDistinct e (take n xs)
unfolding IsDistinct
distinct_taken e zero xs apart = tt
distinct_taken e (suc n) [] apart = tt
distinct_taken {X = X} e (suc n) (x ∷ xs) apart = (all_taken n xs apart.0, distinct_taken e n xs apart.1)
  where
    all_taken : (n : ℕ) (ys : List X) → AllByRecursion (λ y. e x y ≡ false) ys → AllByRecursion (λ y. e x y ≡ false) (take n ys)
    all_taken zero ys all = tt
    all_taken (suc n) [] all = tt
    all_taken (suc n) (y ∷ ys) all = (all.0, all_taken n ys all.1)

-- ---- what a moment says of its value

module _ {V : Type 0} (moment : V → Option ℕ) (now : ℕ) where
  due_there : (at : ℕ) (v : Option V) → is_awaited at (option_and_then moment v) ≡ true → nat_le at now ≡ true → is_some (kept_if (λ x. is_due_by now (moment x)) v) ≡ true
  due_there at None is le = absurd (cc)
  due_there at (Some x) is le = cases (moment x) refl is
    where
      cases : (m : Option ℕ) → moment x ≡ m → is_awaited at m ≡ true → is_some (cond (is_due_by now (moment x)) (Some x) None) ≡ true
      cases None known is = absurd (cc)
      cases (Some moment') known is =
          let passed : is_due_by now (moment x) ≡ true = ap (is_due_by now) known ∙ grind (arith, nat_tests) in
          rw passed refl

  moment_there : (v : Option V) → is_some (kept_if (λ x. is_due_by now (moment x)) v) ≡ true → (at : ℕ) × (is_awaited at (option_and_then moment v) ≡ true) × (nat_le at now ≡ true)
  moment_there None some = absurd (cc)
  moment_there (Some x) some = cases (moment x) refl some
    where
      own : (at : ℕ) → is_awaited at (Some at) ≡ true
      own at = grind (arith, nat_tests)

      passes : (at : ℕ) (b : Bool) → nat_le at now ≡ b → is_some (cond b (Some x) None) ≡ true → nat_le at now ≡ true
      passes at true is some = is
      passes at false is some = absurd (cc)

      cases : (m : Option ℕ) → moment x ≡ m → is_some (cond (is_due_by now (moment x)) (Some x) None) ≡ true → (at : ℕ) × (is_awaited at (moment x) ≡ true) × (nat_le at now ≡ true)
      cases None known some = absurd (let none : is_some (cond (is_due_by now None) (Some x) None) ≡ true = ap (λ m. is_some (cond (is_due_by now m) (Some x) None)) (sym known) ∙ some in cc)
      cases (Some at) known some =
          let shown : is_some (cond (nat_le at now) (Some x) None) ≡ true = ap (λ m. is_some (cond (is_due_by now m) (Some x) None)) (sym known) ∙ some in
          (at, ap (is_awaited at) known ∙ own at, passes at (nat_le at now) refl shown)

module _ {K V : Type 0} {R : K → K → Ordering} (o : IsTotalOrder R) (exact : IsAntisymmetric R) (moment : V → Option ℕ) (now : ℕ) where
  -- the keys of the moments that have come are those of the values whose moment has
  due_at_key : (m : FinMap R V) (dues : List (Due K)) → IsAgenda moment dues m → (q : K)
      → list_any (λ due. nat_le due.at now && eq_by_cmp R q due.key) dues ≡ is_some (get (due_by moment now m) q)
  due_at_key m dues agenda q =
      both_or_none _ _ from to ∙ ap (λ v. is_some v) (sym (get-retain o exact m (λ _ x. is_due_by now (moment x)) q))
    where
      from : list_any (λ due. nat_le due.at now && eq_by_cmp R q due.key) dues ≡ true → is_some (kept_if (λ x. is_due_by now (moment x)) (get m q)) ≡ true
      from found =
          let at = any_found (falling_total o exact) (exact_falling o exact) (λ due. nat_le due.at now && eq_by_cmp R q due.key) dues found in
          let parts = and_parts _ _ at.1 in
          let waits : is_awaited at.0.at (option_and_then moment (get m at.0.key)) ≡ true = sym (agenda.1 at.0) ∙ at.2 in
          due_there moment now at.0.at (get m q) (ap (λ k. is_awaited at.0.at (option_and_then moment (get m k))) (same_by_test exact q at.0.key parts.1) ∙ waits) parts.0

      to : is_some (kept_if (λ x. is_due_by now (moment x)) (get m q)) ≡ true → list_any (λ due. nat_le due.at now && eq_by_cmp R q due.key) dues ≡ true
      to some =
          let at = moment_there moment now (get m q) some in
          let due : Due K = record { at = at.0; key = q } in
          any_at (falling_total o exact) (exact_falling o exact) (λ d. nat_le d.at now && eq_by_cmp R q d.key) due (and_from _ _ at.2 (own_key q)) dues (agenda.1 due ∙ at.1)
        where
          own_key : (k : K) → eq_by_cmp R k k ≡ true
          own_key k = own_test o k

  weaker_any : (q : K) (dues : List (Due K)) → list_any (λ due. nat_le due.at now) dues ≡ false → list_any (λ due. nat_le due.at now && eq_by_cmp R q due.key) dues ≡ false
  weaker_any q [] none = refl
  weaker_any q (due ∷ dues) none = cases (nat_le due.at now) none (weaker_any q dues)
    where
      cases : (b : Bool) → (b || list_any (λ d. nat_le d.at now) dues) ≡ false → (list_any (λ d. nat_le d.at now) dues ≡ false → list_any (λ d. nat_le d.at now && eq_by_cmp R q d.key) dues ≡ false)
          → ((b && eq_by_cmp R q due.key) || list_any (λ d. nat_le d.at now && eq_by_cmp R q d.key) dues) ≡ false
      cases true none rest = absurd (cc)
      cases false none rest = rest none

  none_there : {X : Type 0} (v : Option X) → is_some v ≡ false → v ≡ None
  none_there None is = refl
  none_there (Some x) is = absurd (cc)

  -- a moment has come where a value is due
  pub some_due : (m : FinMap R V) (dues : List (Due K)) → IsAgenda moment dues m → list_any (λ due. nat_le due.at now) dues ≡ true → due_by moment now m ≢ empty
  some_due m dues agenda some gone =
      let at = any_found (falling_total o exact) (exact_falling o exact) (λ due. nat_le due.at now) dues some in
      let here : list_any (λ due. nat_le due.at now && eq_by_cmp R at.0.key due.key) dues ≡ true =
      any_at (falling_total o exact) (exact_falling o exact) (λ d. nat_le d.at now && eq_by_cmp R at.0.key d.key) at.0 (and_from _ _ at.1 (own_test o at.0.key)) dues at.2 in
      let there : is_some (get (due_by moment now m) at.0.key) ≡ true = sym (due_at_key m dues agenda at.0.key) ∙ here in
      let none : get (due_by moment now m) at.0.key ≡ None = ap (λ n. get n at.0.key) gone ∙ get-empty R at.0.key in
      absurd (cc)

  none_due : (m : FinMap R V) (dues : List (Due K)) → IsAgenda moment dues m → list_any (λ due. nat_le due.at now) dues ≡ false → due_by moment now m ≡ empty
  none_due m dues agenda none =
      same_map o exact _ _ (λ q. none_there (get (due_by moment now m) q) (sym (due_at_key m dues agenda q) ∙ weaker_any q dues none) ∙ sym (get-empty R q))

  pub come_tells : (m : FinMap R V) (dues : List (Due K)) → IsAgenda moment dues m
      → (IsTrue (list_any (λ due. nat_le due.at now) dues) → due_by moment now m ≢ empty) × (due_by moment now m ≢ empty → IsTrue (list_any (λ due. nat_le due.at now) dues))
  come_tells m dues agenda = (λ some. some_due m dues agenda (test_is_true some), λ some. true_is_test (found (list_any (λ due. nat_le due.at now) dues) refl some))
    where
      found : (b : Bool) → list_any (λ due. nat_le due.at now) dues ≡ b → due_by moment now m ≢ empty → list_any (λ due. nat_le due.at now) dues ≡ true
      found true is some = is
      found false is some = absurd (some (none_due m dues agenda is))

  -- the keys at the end of the list, sorted
  pub due_keys_are : (m : FinMap R V) (dues : List (Due K)) (ks : List K) → IsAgenda moment dues m
      → IsPermutation (map (λ due. due.key) (take_while (λ due. nat_le due.at now) (reverse dues))) ks → IsSorted R ks → ks ≡ keys (due_by moment now m)
  due_keys_are m dues ks agenda same sorted = keys_of_list o exact (due_by moment now m) ks rises members
    where
      taken : List (Due K)
      taken = take_while (λ due. nat_le due.at now) (reverse dues)

      whole : IsDistinct (eq_by_cmp R) (map (λ (due : Due K). due.key) (reverse dues))
      whole = IsDistinct-IsPermutation (eq_by_cmp R) (eq_by_cmp_equiv o).symm _ _ (IsPermutation-map (λ (due : Due K). due.key) dues (reverse dues) (IsPermutation-reverse dues)) (agenda_keys o exact moment m dues agenda)

      rises : IsStrictlySortedBy R ks
      rises = sorted_rises o exact _ ks (subst (IsDistinct (eq_by_cmp R)) (take-map _ _ _) (distinct_taken (eq_by_cmp R) _ _ whole)) same sorted

      members : (q : K) → list_any (eq_by_cmp R q) ks ≡ is_some (get (due_by moment now m) q)
      members q =
          sym (list_any-IsPermutation (eq_by_cmp R q) _ ks same)
          ∙ ap (λ ds. list_any (eq_by_cmp R q) (map (λ due. due.key) ds)) (in_front R now (reverse dues) (turned_rises (due_cmp R) dues agenda.0))
          ∙ any_map (eq_by_cmp R q) (λ due. due.key) (filter (λ due. nat_le due.at now) (reverse dues))
          ∙ any_filter (λ due. eq_by_cmp R q due.key) (λ due. nat_le due.at now) (reverse dues)
          ∙ sym (list_any-IsPermutation (λ due. nat_le due.at now && eq_by_cmp R q due.key) dues (reverse dues) (IsPermutation-reverse dues))
          ∙ due_at_key m dues agenda q
