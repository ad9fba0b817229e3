-- What has passed at a moment, and what has not.
use Rattle.std.proofs.Common.{◌≡◌, ℕ, ◌<◌, ◌≤◌, Bool, true, false, cond, not, ◌&&◌, List, Option, None, Some, refl, ap, sym, ◌∙◌, arith}
use Rattle.std.specs.Option.{is_some}
use Rattle.std.specs.declared.cmp.Ordering.{Ordering}
use Rattle.std.specs.Ordering.{eq_by_cmp}
use Rattle.std.specs.Cmp.{IsTotalOrder}
use Rattle.std.specs.Map.{lookup}
use Rattle.std.specs.BTreeMap.{is_at}
use Rattle.std.specs.FinMap.{FinMap, IsAntisymmetric, get, insert, remove, retain_keys, get-remove, same_map}
use Rattle.std.proofs.lemmas.Bool.Decides.{nat_tests}
use Rattle.someip_tables.specs.declared.deadline.Deadline.{Deadline}
use Rattle.someip_tables.specs.declared.deadline.Deadline.TheVariants.{At, Never}
use Rattle.someip_tables.specs.declared.lasting.Lasting.{Lasting}
use Rattle.someip_tables.specs.Deadlines.{has_passed}
use Rattle.someip_tables.specs.Retained.{kept_if}
use Rattle.someip_tables.specs.Lastings.{until_of, unless_passed, unexpired, expired}
use Rattle.someip_tables.specs.Dues.{is_due}
use Rattle.someip_tables.specs.Tables.{map_of}
use Rattle.someip_tables.proofs.Entries.{same_by_test, get-retain, retain_keys_retain, retain_both}
use Rattle.someip_tables.proofs.MapLaws.{retain-retain, retain_same, retain_stronger, retain-insert_kept}
use Rattle.someip_tables.proofs.Trees.{map_of-remove, get-map_of}

-- a deadline at a moment has passed from then on
pub at_passed : (at now : ℕ) (until : Deadline) → is_due at (Some until) ≡ true → at ≤ now → has_passed now until ≡ true
at_passed at now (At moment) is le = grind (arith, nat_tests)
at_passed at now Never is le = cc

-- a deadline whose moment is still to come has not
pub not_passed : (now : ℕ) (until : Deadline) → ((at : ℕ) → is_due at (Some until) ≡ true → now < at) → has_passed now until ≡ false
not_passed now (At moment) later = let lt : now < moment = later moment (grind (arith, nat_tests)) in grind (arith, nat_tests)
not_passed now Never later = refl

-- what has not passed later has not passed before
pub passed_later : (now later : ℕ) (until : Deadline) → now ≤ later → not (has_passed later until) ≡ true → not (has_passed now until) ≡ true
passed_later now later (At moment) le stands = grind (arith, nat_tests)
passed_later now later Never le stands = refl

module _ {V : Type 0} where
  -- what has a deadline is there
  pub due_is_there : (at : ℕ) (v : Option (Lasting V)) → is_due at (until_of v) ≡ true → is_some v ≡ true
  due_is_there at None is = cc
  due_is_there at (Some lasting) is = refl

  pub due_has_passed : (at now : ℕ) (v : Option (Lasting V)) → is_due at (until_of v) ≡ true → at ≤ now → unless_passed now v ≡ None
  due_has_passed at now None is le = refl
  due_has_passed at now (Some lasting) is le = rw (at_passed at now lasting.until is le) refl

  pub none_has_passed : (now : ℕ) (v : Option (Lasting V)) → ((at : ℕ) → is_due at (until_of v) ≡ true → now < at) → unless_passed now v ≡ v
  none_has_passed now None later = refl
  none_has_passed now (Some lasting) later = rw (not_passed now lasting.until later) refl

module _ {K V : Type 0} {R : K → K → Ordering} (o : IsTotalOrder R) (exact : IsAntisymmetric R) where
  pub get-unexpired : (now : ℕ) (m : FinMap R (Lasting V)) (q : K) → get (unexpired now m) q ≡ unless_passed now (get m q)
  get-unexpired now m q = get-retain o exact m (λ _ lasting. not (has_passed now lasting.until)) q

  pub get-expired : (now : ℕ) (m : FinMap R (Lasting V)) (q : K) → get (expired now m) q ≡ kept_if (λ lasting. has_passed now lasting.until) (get m q)
  get-expired now m q = get-retain o exact m (λ _ lasting. has_passed now lasting.until) q

  -- what has passed may go first
  pub unexpired-remove : (now : ℕ) (m : FinMap R (Lasting V)) (k : K) → unless_passed now (get m k) ≡ None → unexpired now (remove m k) ≡ unexpired now m
  unexpired-remove now m k gone =
      same_map o exact _ _ (λ q. get-unexpired now (remove m k) q ∙ ap (unless_passed now) (get-remove o m k q) ∙ at q (eq_by_cmp R q k) refl ∙ sym (get-unexpired now m q))
    where
      at : (q : K) (t : Bool) → eq_by_cmp R q k ≡ t → unless_passed now (cond t None (get m q)) ≡ unless_passed now (get m q)
      at q true t = sym (ap (λ x. unless_passed now (get m x)) (same_by_test exact q k t) ∙ gone)
      at q false t = refl

  -- nothing has passed
  pub unexpired-all : (now : ℕ) (m : FinMap R (Lasting V)) → ((q : K) → unless_passed now (get m q) ≡ get m q) → unexpired now m ≡ m
  unexpired-all now m stays = same_map o exact _ _ (λ q. get-unexpired now m q ∙ stays q)

  -- a key that has passed is taken out
  pub unexpired-taken : (now : ℕ) (old new : List (K × Lasting V)) (k : K) → ((q : K) → lookup (is_at (R q)) new ≡ cond (is_at (R k) q) None (lookup (is_at (R q)) old))
      → unless_passed now (lookup (is_at (R k)) old) ≡ None → unexpired now (map_of R new) ≡ unexpired now (map_of R old)
  unexpired-taken now old new k is gone = ap (unexpired now) (map_of-remove o exact old new k is) ∙ unexpired-remove now (map_of R old) k (ap (unless_passed now) (get-map_of o old k) ∙ gone)

  pub unexpired-none : (now : ℕ) (es : List (K × Lasting V)) → ((q : K) → unless_passed now (lookup (is_at (R q)) es) ≡ lookup (is_at (R q)) es) → map_of R es ≡ unexpired now (map_of R es)
  unexpired-none now es stays = sym (unexpired-all now (map_of R es) (λ q. ap (unless_passed now) (get-map_of o es q) ∙ stays q ∙ sym (get-map_of o es q)))

  -- what has passed once has passed later too
  pub unexpired-unexpired : (now later : ℕ) (m : FinMap R (Lasting V)) → now ≤ later → unexpired later (unexpired now m) ≡ unexpired later m
  unexpired-unexpired now later m le =
      retain_stronger o exact m (λ _ lasting. not (has_passed now lasting.until)) (λ _ lasting. not (has_passed later lasting.until)) (λ k lasting. passed_later now later lasting.until le)

  -- a value that has not passed is put in
  pub unexpired-insert : (now : ℕ) (m : FinMap R (Lasting V)) (k : K) (lasting : Lasting V) → has_passed now lasting.until ≡ false → unexpired now (insert m k lasting) ≡ insert (unexpired now m) k lasting
  unexpired-insert now m k lasting stands = retain-insert_kept o exact m (λ _ x. not (has_passed now x.until)) k lasting (ap not stands)

  -- a test of keys and the time that is over
  pub unexpired-retain_keys : (now : ℕ) (m : FinMap R (Lasting V)) (p : K → Bool) → unexpired now (retain_keys m p) ≡ retain_keys (unexpired now m) p
  unexpired-retain_keys now m p =
      ap (unexpired now) (sym (retain_keys_retain o exact m p)) ∙ retain-retain o exact m (λ k _. p k) (λ _ x. not (has_passed now x.until))
      ∙ retain_same o exact m (λ k x. p k && not (has_passed now x.until)) (λ k x. not (has_passed now x.until) && p k) (λ k x. swapped (p k) (not (has_passed now x.until)))
      ∙ sym (retain_both o exact m (λ _ x. not (has_passed now x.until)) p)
    where
      swapped : (a b : Bool) → (a && b) ≡ (b && a)
      swapped true true = refl
      swapped true false = refl
      swapped false true = refl
      swapped false false = refl
