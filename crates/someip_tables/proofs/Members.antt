-- What a test finds among the keys of a map.
use Rattle.std.proofs.Common.{◌≡◌, Bool, true, false, cond, ◌&&◌, ◌||◌, List, [], ◌∷◌, map, filter, refl, ap, sym, ◌∙◌}
use Rattle.std.specs.List.{list_any}
use Rattle.std.specs.Option.{is_some}
use Rattle.std.specs.declared.cmp.Ordering.{Ordering}
use Rattle.std.specs.Ordering.{eq_by_cmp}
use Rattle.std.specs.Cmp.{IsTotalOrder}
use Rattle.std.specs.FinMap.{IsAntisymmetric, keys, from_entries, get-from_entries, contains_key-keys}
use Rattle.std.specs.FinMap.Entries.{is_some-find}
use Rattle.std.proofs.lemmas.Bool.{or_left, or_right}
use Rattle.someip_tables.proofs.Entries.{same_by_test, own_test}

pub any_map : {X Y : Type 0} (t : Y → Bool) (f : X → Y) (xs : List X) → list_any t (map f xs) ≡ list_any (λ x. t (f x)) xs
any_map t f [] = refl
any_map t f (x ∷ xs) = ap (λ b. t (f x) || b) (any_map t f xs)

pub any_filter : {X : Type 0} (t p : X → Bool) (xs : List X) → list_any t (filter p xs) ≡ list_any (λ x. p x && t x) xs
any_filter t p [] = refl
any_filter t p (x ∷ xs) = elim (p x) as (λ b. list_any t (cond b (x ∷ filter p xs) (filter p xs)) ≡ ((b && t x) || list_any (λ y. p y && t y) xs)) [ true ↦ ap (λ b. t x || b) (any_filter t p xs) | false ↦ any_filter t p xs ]

pub any_same : {X : Type 0} (t u : X → Bool) (xs : List X) → ((x : X) → t x ≡ u x) → list_any t xs ≡ list_any u xs
any_same t u [] same = refl
any_same t u (x ∷ xs) same = rw (same x) (ap (λ b. u x || b) (any_same t u xs same))

pub or_false : (b : Bool) → b ≡ (b || false)
or_false true = refl
or_false false = refl

-- what was found in a part is found, with the rest of it
pub or_moved : (a b c d e : Bool) → c ≡ (a || d) → (d || b) ≡ e → (c || b) ≡ (a || e)
or_moved true b c d e is so = ap (λ x. x || b) is
or_moved false b c d e is so = ap (λ x. x || b) is ∙ so

-- and what is put in
pub one_moved : (n a t r : Bool) → n ≡ cond t true a → (n || r) ≡ (a || (t || r))
one_moved n true true r is = ap (λ b. b || r) is
one_moved n true false r is = ap (λ b. b || r) is
one_moved n false true r is = ap (λ b. b || r) is
one_moved n false false r is = ap (λ b. b || r) is

pub both_or_none : (a b : Bool) → (a ≡ true → b ≡ true) → (b ≡ true → a ≡ true) → a ≡ b
both_or_none true b f g = sym (f refl)
both_or_none false true f g = g refl
both_or_none false false f g = refl

module _ {K : Type 0} {R : K → K → Ordering} (o : IsTotalOrder R) (exact : IsAntisymmetric R) where
  pub any_at : (t : K → Bool) (k : K) → t k ≡ true → (ls : List K) → list_any (eq_by_cmp R k) ls ≡ true → list_any t ls ≡ true
  any_at t k passes [] found = cc
  any_at t k passes (l ∷ ls) found = cases (eq_by_cmp R k l) refl found (any_at t k passes ls)
    where
      cases : (b : Bool) → eq_by_cmp R k l ≡ b → (b || list_any (eq_by_cmp R k) ls) ≡ true → (list_any (eq_by_cmp R k) ls ≡ true → list_any t ls ≡ true) → (t l || list_any t ls) ≡ true
      cases true b found rest = or_left _ _ (ap t (sym (same_by_test exact k l b)) ∙ passes)
      cases false b found rest = or_right _ _ (rest found)

  -- an element of which a test holds
  pub any_found : (t : K → Bool) (ks : List K) → list_any t ks ≡ true → (k : K) × (t k ≡ true) × (list_any (eq_by_cmp R k) ks ≡ true)
  any_found t [] found = absurd (cc)
  any_found t (k ∷ ks) found = cases (t k) refl found (any_found t ks)
    where
      cases : (b : Bool) → t k ≡ b → (b || list_any t ks) ≡ true → (list_any t ks ≡ true → (x : K) × (t x ≡ true) × (list_any (eq_by_cmp R x) ks ≡ true))
          → (x : K) × (t x ≡ true) × (list_any (eq_by_cmp R x) (k ∷ ks) ≡ true)
      cases true passes found rest = (k, passes, or_left _ _ (own_test o k))
      cases false passes found rest = let at = rest found in (at.0, at.1, or_right _ _ at.2)

  any_within : (t : K → Bool) (ks ls : List K) → ((q : K) → list_any (eq_by_cmp R q) ks ≡ true → list_any (eq_by_cmp R q) ls ≡ true) → list_any t ks ≡ true → list_any t ls ≡ true
  any_within t [] ls within found = cc
  any_within t (k ∷ ks) ls within found = cases (t k) refl found (any_within t ks ls (λ q h. within q (or_right _ _ h)))
    where
      cases : (b : Bool) → t k ≡ b → (b || list_any t ks) ≡ true → (list_any t ks ≡ true → list_any t ls ≡ true) → list_any t ls ≡ true
      cases true passes found rest = any_at t k passes ls (within k (or_left _ _ (own_test o k)))
      cases false passes found rest = rest found

  -- lists with the same elements
  pub any_alike : (t : K → Bool) (ks ls : List K) → ((q : K) → list_any (eq_by_cmp R q) ks ≡ list_any (eq_by_cmp R q) ls) → list_any t ks ≡ list_any t ls
  any_alike t ks ls same = both_or_none _ _ (any_within t ks ls (λ q h. sym (same q) ∙ h)) (any_within t ls ks (λ q h. same q ∙ h))

  pub any_keys : {X : Type 0} (t : K → Bool) (es : List (K × X)) → list_any t (keys (from_entries {R = R} es)) ≡ list_any (λ e. t e.0) es
  any_keys t es =
      any_alike t (keys (from_entries es)) (map (λ e. e.0) es) (λ q.
      sym (contains_key-keys (from_entries es) q) ∙ ap is_some (get-from_entries o es q) ∙ is_some-find R q es)
      ∙ any_map t (λ e. e.0) es
