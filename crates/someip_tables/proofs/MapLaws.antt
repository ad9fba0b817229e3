-- Laws of maps: what a change shows at a key, what two changes in turn make, and how many entries are left.
-- Each is stated for keys that only tie where they are equal.
use Rattle.std.proofs.Common.{◌≡◌, ◌+◌, ◌-◌, ◌≤◌, Bool, true, false, cond, ◌&&◌, Option, None, Some, refl, ap, sym, ◌∙◌, arith}
use Rattle.std.specs.Option.{is_some}
use Rattle.std.specs.declared.cmp.Ordering.{Ordering}
use Rattle.std.specs.Ordering.{eq_by_cmp}
use Rattle.std.specs.Cmp.{IsTotalOrder}
use Rattle.std.specs.FinMap.{FinMap, IsAntisymmetric, get, insert, remove, len, empty, contains_key, get-empty, get-insert, get-remove, len-insert, len-remove, same_map}
use Rattle.someip_tables.specs.Retained.{kept_if, retain}
use Rattle.someip_tables.proofs.Entries.{same_by_test, own_test, get-retain}

-- ---- of one value

kept_if-kept_if : {X : Type 0} (p q : X → Bool) (v : Option X) → kept_if q (kept_if p v) ≡ kept_if (λ x. p x && q x) v
kept_if-kept_if p q None = refl
kept_if-kept_if p q (Some x) = cases (p x)
  where
    cases : (b : Bool) → kept_if q (cond b (Some x) None) ≡ cond (b && q x) (Some x) None
    cases true = refl
    cases false = refl

kept_if_same : {X : Type 0} (p q : X → Bool) (v : Option X) → ((x : X) → p x ≡ q x) → kept_if p v ≡ kept_if q v
kept_if_same p q None same = refl
kept_if_same p q (Some x) same = ap (λ b. cond b (Some x) None) (same x)

kept_if_all : {X : Type 0} (p : X → Bool) (v : Option X) → ((x : X) → v ≡ Some x → p x ≡ true) → kept_if p v ≡ v
kept_if_all p None all = refl
kept_if_all p (Some x) all = rw (all x refl) refl

kept_if_none : {X : Type 0} (p : X → Bool) (v : Option X) → ((x : X) → v ≡ Some x → p x ≡ false) → kept_if p v ≡ None
kept_if_none p None none = refl
kept_if_none p (Some x) none = rw (none x refl) refl

module _ {K X : Type 0} {R : K → K → Ordering} (o : IsTotalOrder R) (exact : IsAntisymmetric R) where
  -- ---- what is kept_if of what is kept_if

  pub retain-retain : (m : FinMap R X) (p q : K → X → Bool) → retain (retain m p) q ≡ retain m (λ k x. p k x && q k x)
  retain-retain m p q =
      same_map o exact _ _ (λ k.
      get-retain o exact (retain m p) q k ∙ ap (kept_if (q k)) (get-retain o exact m p k) ∙ kept_if-kept_if (p k) (q k) (get m k)
      ∙ sym (get-retain o exact m (λ j x. p j x && q j x) k))

  -- the same test
  pub retain_same : (m : FinMap R X) (p q : K → X → Bool) → ((k : K) (x : X) → p k x ≡ q k x) → retain m p ≡ retain m q
  retain_same m p q same = same_map o exact _ _ (λ k. get-retain o exact m p k ∙ kept_if_same (p k) (q k) (get m k) (same k) ∙ sym (get-retain o exact m q k))

  -- a test that each entry passes, and one that none does
  pub retain_all : (m : FinMap R X) (p : K → X → Bool) → ((k : K) (x : X) → get m k ≡ Some x → p k x ≡ true) → retain m p ≡ m
  retain_all m p all = same_map o exact _ _ (λ k. get-retain o exact m p k ∙ kept_if_all (p k) (get m k) (all k))

  pub retain_none : (m : FinMap R X) (p : K → X → Bool) → ((k : K) (x : X) → get m k ≡ Some x → p k x ≡ false) → retain m p ≡ empty
  retain_none m p none = same_map o exact _ _ (λ k. get-retain o exact m p k ∙ kept_if_none (p k) (get m k) (none k) ∙ sym (get-empty R k))

  pub retain-empty : (p : K → X → Bool) → retain (empty {R = R}) p ≡ empty
  retain-empty p = same_map o exact _ _ (λ k. get-retain o exact empty p k ∙ ap (kept_if (p k)) (get-empty R k) ∙ sym (get-empty R k))

  -- what passes the weaker test and then the stronger passes the stronger
  pub retain_stronger : (m : FinMap R X) (p q : K → X → Bool) → ((k : K) (x : X) → q k x ≡ true → p k x ≡ true) → retain (retain m p) q ≡ retain m q
  retain_stronger m p q stronger = retain-retain m p q ∙ retain_same m (λ k x. p k x && q k x) q (λ k x. both (p k x) (q k x) (stronger k x))
    where
      both : (a b : Bool) → (b ≡ true → a ≡ true) → (a && b) ≡ b
      both a true h = rw (h refl) refl
      both true false h = refl
      both false false h = refl

  -- ---- what is kept_if after a change

  pub retain-insert_kept : (m : FinMap R X) (p : K → X → Bool) (k : K) (x : X) → p k x ≡ true → retain (insert m k x) p ≡ insert (retain m p) k x
  retain-insert_kept m p k x passes =
      same_map o exact _ _ (λ q.
      get-retain o exact (insert m k x) p q ∙ ap (kept_if (p q)) (get-insert o m k x q) ∙ at q (eq_by_cmp R q k) refl
      ∙ sym (get-insert o (retain m p) k x q ∙ ap (cond (eq_by_cmp R q k) (Some x)) (get-retain o exact m p q)))
    where
      at : (q : K) (t : Bool) → eq_by_cmp R q k ≡ t → kept_if (p q) (cond t (Some x) (get m q)) ≡ cond t (Some x) (kept_if (p q) (get m q))
      at q true t = let here : p q x ≡ true = ap (λ j. p j x) (same_by_test exact q k t) ∙ passes in rw here refl
      at q false t = refl

  pub retain-insert_dropped : (m : FinMap R X) (p : K → X → Bool) (k : K) (x : X) → p k x ≡ false → retain (insert m k x) p ≡ remove (retain m p) k
  retain-insert_dropped m p k x fails =
      same_map o exact _ _ (λ q.
      get-retain o exact (insert m k x) p q ∙ ap (kept_if (p q)) (get-insert o m k x q) ∙ at q (eq_by_cmp R q k) refl
      ∙ sym (get-remove o (retain m p) k q ∙ ap (cond (eq_by_cmp R q k) None) (get-retain o exact m p q)))
    where
      at : (q : K) (t : Bool) → eq_by_cmp R q k ≡ t → kept_if (p q) (cond t (Some x) (get m q)) ≡ cond t None (kept_if (p q) (get m q))
      at q true t = let here : p q x ≡ false = ap (λ j. p j x) (same_by_test exact q k t) ∙ fails in rw here refl
      at q false t = refl

  -- ---- two changes in turn

  pub insert-insert : (m : FinMap R X) (k : K) (x y : X) → insert (insert m k x) k y ≡ insert m k y
  insert-insert m k x y =
      same_map o exact _ _ (λ q.
      get-insert o (insert m k x) k y q ∙ ap (cond (eq_by_cmp R q k) (Some y)) (get-insert o m k x q) ∙ at (eq_by_cmp R q k) (get m q) ∙ sym (get-insert o m k y q))
    where
      at : (t : Bool) (v : Option X) → cond t (Some y) (cond t (Some x) v) ≡ cond t (Some y) v
      at true v = refl
      at false v = refl

  pub remove-insert : (m : FinMap R X) (k : K) (x : X) → remove (insert m k x) k ≡ remove m k
  remove-insert m k x =
      same_map o exact _ _ (λ q.
      get-remove o (insert m k x) k q ∙ ap (cond (eq_by_cmp R q k) None) (get-insert o m k x q) ∙ at (eq_by_cmp R q k) (get m q) ∙ sym (get-remove o m k q))
    where
      at : (t : Bool) (v : Option X) → cond t None (cond t (Some x) v) ≡ cond t None v
      at true v = refl
      at false v = refl

  pub insert-remove : (m : FinMap R X) (k : K) (x : X) → insert (remove m k) k x ≡ insert m k x
  insert-remove m k x =
      same_map o exact _ _ (λ q.
      get-insert o (remove m k) k x q ∙ ap (cond (eq_by_cmp R q k) (Some x)) (get-remove o m k q) ∙ at (eq_by_cmp R q k) (get m q) ∙ sym (get-insert o m k x q))
    where
      at : (t : Bool) (v : Option X) → cond t (Some x) (cond t None v) ≡ cond t (Some x) v
      at true v = refl
      at false v = refl

  -- what is not there is taken out
  pub remove_absent : (m : FinMap R X) (k : K) → get m k ≡ None → remove m k ≡ m
  remove_absent m k none = same_map o exact _ _ (λ q. get-remove o m k q ∙ at q (eq_by_cmp R q k) refl)
    where
      at : (q : K) (t : Bool) → eq_by_cmp R q k ≡ t → cond t None (get m q) ≡ get m q
      at q true t = sym (ap (get m) (same_by_test exact q k t) ∙ none)
      at q false t = refl

  -- what is new is taken out again
  pub remove-insert_absent : (m : FinMap R X) (k : K) (x : X) → get m k ≡ None → remove (insert m k x) k ≡ m
  remove-insert_absent m k x none = remove-insert m k x ∙ remove_absent m k none

  -- what is there is put in
  pub insert_present : (m : FinMap R X) (k : K) (x : X) → get m k ≡ Some x → insert m k x ≡ m
  insert_present m k x some = same_map o exact _ _ (λ q. get-insert o m k x q ∙ at q (eq_by_cmp R q k) refl)
    where
      at : (q : K) (t : Bool) → eq_by_cmp R q k ≡ t → cond t (Some x) (get m q) ≡ get m q
      at q true t = sym (ap (get m) (same_by_test exact q k t) ∙ some)
      at q false t = refl

  -- ---- at the key itself

  pub get-insert_own : (m : FinMap R X) (k : K) (x : X) → get (insert m k x) k ≡ Some x
  get-insert_own m k x = get-insert o m k x k ∙ rw (own_test o k) refl

  pub get-remove_own : (m : FinMap R X) (k : K) → get (remove m k) k ≡ None
  get-remove_own m k = get-remove o m k k ∙ rw (own_test o k) refl

  -- ---- how many

  pub len-insert_new : (m : FinMap R X) (k : K) (x : X) → get m k ≡ None → len (insert m k x) ≡ len m + 1
  len-insert_new m k x none = let new : contains_key m k ≡ false = ap is_some none in len-insert o m k x ∙ rw new refl

  pub len-insert_known : (m : FinMap R X) (k : K) (x y : X) → get m k ≡ Some y → len (insert m k x) ≡ len m
  len-insert_known m k x y some = let known : contains_key m k ≡ true = ap is_some some in len-insert o m k x ∙ rw known refl

  pub len-insert-≤ : (m : FinMap R X) (k : K) (x : X) → len (insert m k x) ≤ len m + 1
  len-insert-≤ m k x = rw (len-insert o m k x) (cases (contains_key m k))
    where
      cases : (b : Bool) → cond b (len m) (len m + 1) ≤ len m + 1
      cases true = omega arith
      cases false = omega arith

  pub len-remove-≤ : (m : FinMap R X) (k : K) → len (remove m k) ≤ len m
  len-remove-≤ m k = rw (len-remove o m k) (cases (contains_key m k))
    where
      cases : (b : Bool) → cond b (len m - 1) (len m) ≤ len m
      cases true = omega arith
      cases false = omega arith
