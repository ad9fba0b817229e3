-- Maps with their values changed.
use Rattle.std.proofs.Common.{◌≡◌, Bool, true, false, cond, List, [], ◌∷◌, Option, None, Some, refl, ap, sym, ◌∙◌}
use Rattle.std.specs.Option.{is_some, option_map}
use Rattle.std.specs.List.{filter_map, list_any}
use Rattle.std.specs.declared.cmp.Ordering.{Ordering}
use Rattle.std.specs.Ordering.{eq_by_cmp}
use Rattle.std.specs.Cmp.{IsTotalOrder}
use Rattle.std.specs.FinMap.{FinMap, IsAntisymmetric, get, insert, get-insert, same_map}
use Rattle.someip_tables.proofs.Entries.{same_by_test}
use Rattle.someip_tables.specs.Changed.{changed_at}
use Rattle.someip_tables.proofs.ChangedLemmas.{get-changed}

module _ {K X : Type 0} {R : K → K → Ordering} (o : IsTotalOrder R) (exact : IsAntisymmetric R) where
  -- a value is put in place of one that it is made of
  insert-changed : (f : X → X) (m : FinMap R X) (k : K) (x : X) → get m k ≡ Some x → insert m k (f x) ≡ changed_at k f m
  insert-changed f m k x some =
      same_map o exact _ _ (λ q. get-insert o m k (f x) q ∙ cases q (eq_by_cmp R q k) refl ∙ sym (get-changed o exact (λ q y. cond (eq_by_cmp R q k) (f y) y) m q))
    where
      plain : (v : Option X) → v ≡ option_map (λ y. y) v
      plain None = refl
      plain (Some y) = refl

      cases : (q : K) (t : Bool) → eq_by_cmp R q k ≡ t → cond t (Some (f x)) (get m q) ≡ option_map (λ y. cond t (f y) y) (get m q)
      cases q true t = sym (ap (option_map f) (ap (get m) (same_by_test exact q k t) ∙ some))
      cases q false t = plain (get m q)

  -- a value is replaced by one that is made of it
  pub replaced : (f : X → X) (old new : FinMap R X) (k : K) (x y : X) (held : Bool) → get old k ≡ Some x → y ≡ f x → held ≡ is_some (get old k) → new ≡ cond held (insert old k y) old
      → new ≡ changed_at k f old
  replaced f old new k x y held some is there at =
      at ∙ ap (λ b. cond b (insert old k y) old) (there ∙ ap is_some some) ∙ ap (insert old k) is ∙ insert-changed f old k x some

  -- a key without a value
  pub absent-changed : (f : X → X) (m : FinMap R X) (k : K) → get m k ≡ None → m ≡ changed_at k f m
  absent-changed f m k none =
      same_map o exact _ _ (λ q. cases q (eq_by_cmp R q k) refl ∙ sym (get-changed o exact (λ q y. cond (eq_by_cmp R q k) (f y) y) m q))
    where
      plain : (v : Option X) → v ≡ option_map (λ y. y) v
      plain None = refl
      plain (Some y) = refl

      cases : (q : K) (t : Bool) → eq_by_cmp R q k ≡ t → get m q ≡ option_map (λ y. cond t (f y) y) (get m q)
      cases q true t =
          let gone : get m q ≡ None = ap (get m) (same_by_test exact q k t) ∙ none in
          gone ∙ sym (ap (option_map f) gone)
      cases q false t = plain (get m q)

-- ---- what a function finds in a list

pub some_found_in : {A B : Type 0} (f : A → Option B) (xs : List A) → list_any (λ x. is_some (f x)) xs ≡ true → filter_map f xs ≡ [] → ⊥
some_found_in f [] some none = absurd (cc)
some_found_in {A = A} {B = B} f (x ∷ xs) some none = cases (f x) refl some none (some_found_in f xs)
  where
    cases : (v : Option B) → f x ≡ v → list_any (λ y. is_some (f y)) (x ∷ xs) ≡ true → filter_map f (x ∷ xs) ≡ [] → (list_any (λ y. is_some (f y)) xs ≡ true → filter_map f xs ≡ [] → ⊥) → ⊥
    cases None is some none rest = rest (rw is at some) (rw is at none)
    cases (Some y) is some none rest = absurd (cc)
