-- What a change of a map makes of the finite map that it shows.
use Rattle.std.proofs.Common.{◌≡◌, ℕ, ◌<◌, ◌≤◌, nat_lt, Bool, true, false, cond, ◌||◌, None, Some, Result, Ok, Err, refl, ap, sym, ◌∙◌, arith}
use Rattle.std.specs.Prelude.{IfOk, OnOk, OnErr}
use Rattle.std.proofs.lemmas.Bool.Decides.{nat_tests}
use Rattle.std.specs.declared.cmp.Ordering.{Ordering}
use Rattle.std.specs.Ordering.{eq_by_cmp}
use Rattle.std.specs.Cmp.{IsTotalOrder}
use Rattle.std.specs.FinMap.{FinMap, IsAntisymmetric, get, insert, remove, get-insert, get-remove, same_map}
use Rattle.someip_tables.proofs.Entries.{own_test, same_by_test}
use Rattle.audit_stats.specs.Tables.{Held, with_held, without_held}

pub on_ok_from : {T E P Q : Type 0} (r : Result T E) → (P → Q) → OnOk r P → OnOk r Q
on_ok_from (Ok x) f p = f p
on_ok_from (Err e) f p = tt

pub on_err_from : {T E P Q : Type 0} (r : Result T E) → (P → Q) → OnErr r P → OnErr r Q
on_err_from (Ok x) f p = tt
on_err_from (Err e) f p = f p

pub if_ok_from : {T E : Type 0} {P Q : T → Type 0} (r : Result T E) → ((x : T) → P x → Q x) → IfOk r P → IfOk r Q
if_ok_from (Ok x) f p = f x p
if_ok_from (Err e) f p = tt

below : (count limit : ℕ) → count < limit → nat_lt count limit ≡ true
below count limit lt = grind (arith, nat_tests)

not_below : (count limit : ℕ) → limit ≤ count → nat_lt count limit ≡ false
not_below count limit le = grind (arith, nat_tests)

-- there is room for one more key, or there is not
pub one_more : (count len limit : ℕ) → count < limit → count ≡ len → nat_lt len limit ≡ true
one_more count len limit lt is = ap (λ n. nat_lt n limit) (sym is) ∙ below count limit lt

pub no_more : (count len limit : ℕ) → limit ≤ count → count ≡ len → nat_lt len limit ≡ false
no_more count len limit le is = ap (λ n. nat_lt n limit) (sym is) ∙ not_below count limit le

-- whether a key has room: there is some for one more, or it was looked for
pub room_left : (has : Bool) (count len limit : ℕ) → count < limit → count ≡ len → nat_lt count limit ≡ (has || nat_lt len limit)
room_left true count len limit lt is = below count limit lt
room_left false count len limit lt is = ap (λ n. nat_lt n limit) is

pub room_by_key : (held has : Bool) (count len limit : ℕ) → limit ≤ count → held ≡ has → count ≡ len → held ≡ (has || nat_lt len limit)
room_by_key held true count len limit le has_is is = has_is
room_by_key held false count len limit le has_is is = has_is ∙ sym (no_more count len limit le is)

module _ {K V : Type 0} {R : K → K → Ordering} (o : IsTotalOrder R) (exact : IsAntisymmetric R) where
  -- what a key has already changes nothing
  pub insert_same : (m : FinMap R V) (key : K) (value : V) → get m key ≡ Some value → insert m key value ≡ m
  insert_same m key value has = same_map o exact _ _ (λ q. get-insert o m key value q ∙ cases q (eq_by_cmp R q key) refl)
    where
      cases : (q : K) (t : Bool) → eq_by_cmp R q key ≡ t → cond t (Some value) (get m q) ≡ get m q
      cases q true tie = sym has ∙ ap (get m) (sym (same_by_test exact q key tie))
      cases q false tie = refl

  -- what was put under a key is taken back
  pub insert_back : (m : FinMap R V) (key : K) (value before : V) → get m key ≡ Some before → insert (insert m key value) key before ≡ m
  insert_back m key value before has = same_map o exact _ _ (λ q. get-insert o (insert m key value) key before q ∙ ap (cond (eq_by_cmp R q key) (Some before)) (get-insert o m key value q) ∙ cases q (eq_by_cmp R q key) refl)
    where
      cases : (q : K) (t : Bool) → eq_by_cmp R q key ≡ t → cond t (Some before) (cond t (Some value) (get m q)) ≡ get m q
      cases q true tie = sym has ∙ ap (get m) (sym (same_by_test exact q key tie))
      cases q false tie = refl

  pub remove_back : (m : FinMap R V) (key : K) (value : V) → get m key ≡ None → remove (insert m key value) key ≡ m
  remove_back m key value none = same_map o exact _ _ (λ q. get-remove o (insert m key value) key q ∙ ap (cond (eq_by_cmp R q key) None) (get-insert o m key value q) ∙ cases q (eq_by_cmp R q key) refl)
    where
      cases : (q : K) (t : Bool) → eq_by_cmp R q key ≡ t → cond t None (cond t (Some value) (get m q)) ≡ get m q
      cases q true tie = sym none ∙ ap (get m) (sym (same_by_test exact q key tie))
      cases q false tie = refl

  -- a table from which what was put in is taken back: an earlier value is put, or none was there
  pub put_back : (old mid new : Held R V) (key : K) (value before : V) {T E : Type 0} (r : Result T E) → Some before ≡ get old.values key → mid ≡ with_held key value old → OnOk r (new ≡ with_held key before mid)
      → OnErr r (get mid.values key ≡ None) → new ≡ old
  put_back old mid new key value before (Ok x) has is put err =
      put ∙ ap (with_held key before) is ∙ ap (λ (m : FinMap R V). record { limit = old.limit; values = m; told_full = old.told_full }) (insert_back old.values key value before (sym has))
  put_back old mid new key value before (Err e) has is put err =
      let held : get (insert old.values key value) key ≡ Some value = get-insert o old.values key value key ∙ rw (own_test o key) refl in
      let none : get (insert old.values key value) key ≡ None = ap (λ (t : Held R V). get t.values key) (sym is) ∙ err in
      absurd (cc)

  pub taken_back : (old mid new : Held R V) (key : K) (value : V) → None ≡ get old.values key → mid ≡ with_held key value old → new ≡ without_held key mid → new ≡ old
  taken_back old mid new key value none is taken =
      taken ∙ ap (without_held key) is ∙ ap (λ (m : FinMap R V). record { limit = old.limit; values = m; told_full = old.told_full }) (remove_back old.values key value (sym none))
