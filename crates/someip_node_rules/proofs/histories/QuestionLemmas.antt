-- A table of what stands of some keys, once an item said something of them.
use Rattle.std.proofs.Common.{◌≡◌, ℕ, ◌≤◌, Bool, true, false, not, cond, ◌||◌, List, [], ◌∷◌, Option, None, Some, refl, ap, sym, ◌∙◌, arith}
use Rattle.std.specs.List.{list_any, filter_map, cons_option}
use Rattle.std.specs.Option.{option_map, option_and_then}
use Rattle.std.specs.declared.cmp.Ordering.{Ordering}
use Rattle.std.specs.Ordering.{eq_by_cmp}
use Rattle.std.specs.Cmp.{IsTotalOrder}
use Rattle.std.specs.FinMap.{IsAntisymmetric, find, get, insert, remove, retain_keys, get-from_entries, get-insert, get-remove, get-retain_keys, same_map}
use Rattle.someip_tables.specs.declared.lasting.Lasting.{Lasting}
use Rattle.someip_tables.specs.Deadlines.{has_passed}
use Rattle.someip_tables.specs.Lastings.{unless_passed, unexpired}
use Rattle.someip_tables.specs.Retained.{kept_if, retain}
use Rattle.someip_tables.proofs.Entries.{same_by_test, get-retain}
use Rattle.someip_tables.proofs.Expiry.{get-unexpired, passed_later}
use Rattle.someip_tables.specs.Changed.{each_changed}
use Rattle.sd_core.specs.Shown.{shown}
use Rattle.someip_tables.proofs.ChangedLemmas.{get-changed}
use Rattle.sd_core.proofs.ShownLemmas.{get-shown}
use Rattle.someip_node_rules.specs.histories.Questions.{table_of}

no_either : {X : Type 0} (b : Bool) → cond {A = Option X} b None None ≡ None
no_either true = refl
no_either false = refl

module _ {K V : Type 0} {R : K → K → Ordering} (o : IsTotalOrder R) (exact : IsAntisymmetric R) where
  find-stands : (stands : K → Option V) (q : K) (keys : List K)
      → find R q (filter_map (λ k. option_map (λ v. (k, v)) (stands k)) keys) ≡ cond (list_any (eq_by_cmp R q) keys) (stands q) None
  find-stands stands q [] = refl
  find-stands stands q (k ∷ keys) =
      cases (eq_by_cmp R q k) (stands k) refl (λ t. ap stands (sym (same_by_test exact q k t))) (find-stands stands q keys)
    where
      rest : List (K × V)
      rest = filter_map (λ x. option_map (λ v. (x, v)) (stands x)) keys

      cases : (t : Bool) (v : Option V) → eq_by_cmp R q k ≡ t → (eq_by_cmp R q k ≡ true → v ≡ stands q)
          → find R q rest ≡ cond (list_any (eq_by_cmp R q) keys) (stands q) None
          → find R q (cons_option (option_map (λ x. (k, x)) v) rest) ≡ cond (t || list_any (eq_by_cmp R q) keys) (stands q) None
      cases true (Some x) t is others = rw t (is t)
      cases true None t is others =
          others ∙ ap (λ v. cond (list_any (eq_by_cmp R q) keys) v None) (sym (is t)) ∙ no_either (list_any (eq_by_cmp R q) keys) ∙ is t
      cases false (Some x) t is others = rw t others
      cases false None t is others = others

  -- what the table has of a key
  pub get-table_of : (keys : List K) (stands : K → Option V) (q : K)
      → get (table_of {R = R} keys stands) q ≡ cond (list_any (eq_by_cmp R q) keys) (stands q) None
  get-table_of keys stands q = get-from_entries o _ q ∙ find-stands stands q keys

  -- and of one of which nothing stands without being named
  pub get-named : (keys : List K) (stands : K → Option V) (q : K) → (list_any (eq_by_cmp R q) keys ≡ false → stands q ≡ None)
      → get (table_of {R = R} keys stands) q ≡ stands q
  get-named keys stands q unnamed = get-table_of keys stands q ∙ cases (list_any (eq_by_cmp R q) keys) refl
    where
      cases : (b : Bool) → list_any (eq_by_cmp R q) keys ≡ b → cond b (stands q) None ≡ stands q
      cases true is = refl
      cases false is = sym (unnamed is)

  -- ---- an item said something

  -- of one key, which it names
  pub table-insert : (keys : List K) (old new : K → Option V) (k : K) (v : V) → ((q : K) → new q ≡ cond (eq_by_cmp R q k) (Some v) (old q))
      → table_of {R = R} (k ∷ keys) new ≡ insert (table_of keys old) k v
  table-insert keys old new k v is =
      same_map o exact _ _ (λ q.
      get-table_of (k ∷ keys) new q ∙ ap (λ x. cond (eq_by_cmp R q k || list_any (eq_by_cmp R q) keys) x None) (is q)
      ∙ cases q (eq_by_cmp R q k) (list_any (eq_by_cmp R q) keys)
      ∙ sym (get-insert o (table_of keys old) k v q ∙ ap (cond (eq_by_cmp R q k) (Some v)) (get-table_of keys old q)))
    where
      cases : (q : K) (t b : Bool) → cond (t || b) (cond t (Some v) (old q)) None ≡ cond t (Some v) (cond b (old q) None)
      cases q true b = refl
      cases q false b = refl

  -- that one key ends
  pub table-remove : (keys : List K) (old new : K → Option V) (k : K) → ((q : K) → new q ≡ cond (eq_by_cmp R q k) None (old q))
      → table_of {R = R} keys new ≡ remove (table_of keys old) k
  table-remove keys old new k is =
      same_map o exact _ _ (λ q.
      get-table_of keys new q ∙ ap (λ x. cond (list_any (eq_by_cmp R q) keys) x None) (is q) ∙ cases q (eq_by_cmp R q k) (list_any (eq_by_cmp R q) keys)
      ∙ sym (get-remove o (table_of keys old) k q ∙ ap (cond (eq_by_cmp R q k) None) (get-table_of keys old q)))
    where
      cases : (q : K) (t b : Bool) → cond b (cond t None (old q)) None ≡ cond t None (cond b (old q) None)
      cases q true b = no_either b
      cases q false b = refl

  -- that keys end by a test
  pub table-retain_keys : (keys : List K) (old new : K → Option V) (p : K → Bool) → ((q : K) → new q ≡ cond (p q) (old q) None)
      → table_of {R = R} keys new ≡ retain_keys (table_of keys old) p
  table-retain_keys keys old new p is =
      same_map o exact _ _ (λ q.
      get-table_of keys new q ∙ ap (λ x. cond (list_any (eq_by_cmp R q) keys) x None) (is q) ∙ cases q (p q) (list_any (eq_by_cmp R q) keys)
      ∙ sym (get-retain_keys (table_of keys old) p q (λ x tie. ap p (sym (exact q x tie))) ∙ ap (λ v. cond (p q) v None) (get-table_of keys old q)))
    where
      cases : (q : K) (t b : Bool) → cond b (cond t (old q) None) None ≡ cond t (cond b (old q) None) None
      cases q true b = refl
      cases q false b = no_either b

  -- that keys end by a test of them and their values
  pub table-retain : (keys : List K) (old new : K → Option V) (p : K → V → Bool) → ((q : K) → new q ≡ kept_if (p q) (old q))
      → table_of {R = R} keys new ≡ retain (table_of keys old) p
  table-retain keys old new p is =
      same_map o exact _ _ (λ q.
      get-table_of keys new q ∙ ap (λ x. cond (list_any (eq_by_cmp R q) keys) x None) (is q) ∙ cases q (list_any (eq_by_cmp R q) keys)
      ∙ sym (get-retain o exact (table_of keys old) p q ∙ ap (kept_if (p q)) (get-table_of keys old q)))
    where
      cases : (q : K) (b : Bool) → cond b (kept_if (p q) (old q)) None ≡ kept_if (p q) (cond b (old q) None)
      cases q true = refl
      cases q false = refl

  -- that values change by their keys
  pub table-changed : (keys : List K) (old new : K → Option V) (g : K → V → V) → ((q : K) → new q ≡ option_map (g q) (old q))
      → table_of {R = R} keys new ≡ each_changed g (table_of keys old)
  table-changed keys old new g is =
      same_map o exact _ _ (λ q.
      get-table_of keys new q ∙ ap (λ x. cond (list_any (eq_by_cmp R q) keys) x None) (is q) ∙ cases q (list_any (eq_by_cmp R q) keys)
      ∙ sym (get-changed o exact g (table_of keys old) q ∙ ap (option_map (g q)) (get-table_of keys old q)))
    where
      cases : (q : K) (b : Bool) → cond b (option_map (g q) (old q)) None ≡ option_map (g q) (cond b (old q) None)
      cases q true = refl
      cases q false = refl

  -- that values change, or end
  pub table-shown : (keys : List K) (old new : K → Option V) (f : V → Option V) → ((q : K) → new q ≡ option_and_then f (old q))
      → table_of {R = R} keys new ≡ shown f (table_of keys old)
  table-shown keys old new f is =
      same_map o exact _ _ (λ q.
      get-table_of keys new q ∙ ap (λ x. cond (list_any (eq_by_cmp R q) keys) x None) (is q) ∙ cases q (list_any (eq_by_cmp R q) keys)
      ∙ sym (get-shown o exact f (table_of keys old) q ∙ ap (option_and_then f) (get-table_of keys old q)))
    where
      cases : (q : K) (b : Bool) → cond b (option_and_then f (old q)) None ≡ option_and_then f (cond b (old q) None)
      cases q true = refl
      cases q false = refl

-- ---- what stands until a deadline

-- what has passed now has passed later too
pub passed_later_too : {V : Type 0} (now later : ℕ) (v : Option (Lasting V)) → now ≤ later → unless_passed later (unless_passed now v) ≡ unless_passed later v
passed_later_too now later None le = refl
passed_later_too {V = V} now later (Some lasting) le = cases (not (has_passed now lasting.until)) (not (has_passed later lasting.until)) refl refl (passed_later now later lasting.until le)
  where
    cases : (a b : Bool) → not (has_passed now lasting.until) ≡ a → not (has_passed later lasting.until) ≡ b
        → (not (has_passed later lasting.until) ≡ true → not (has_passed now lasting.until) ≡ true)
        → unless_passed later (cond a (Some lasting) None) ≡ cond (not (has_passed later lasting.until)) (Some lasting) None
    cases true b a is stood = refl
    cases false true a is stood = let before : not (has_passed now lasting.until) ≡ true = stood is in absurd (cc)
    cases false false a is stood = rw is

module _ {K V : Type 0} {R : K → K → Ordering} (o : IsTotalOrder R) (exact : IsAntisymmetric R) where
  -- the clock goes on
  pub lasting-ticked : (keys : List K) (stands : K → Option (Lasting V)) (now later : ℕ) → now ≤ later
      → table_of {R = R} keys (λ q. unless_passed later (stands q)) ≡ unexpired later (table_of keys (λ q. unless_passed now (stands q)))
  lasting-ticked keys stands now later le =
      table-retain o exact keys _ _ (λ _ lasting. not (has_passed later lasting.until)) (λ q. sym (passed_later_too now later (stands q) le))

  -- a value is kept until a deadline
  pub lasting-insert : (keys : List K) (stands : K → Option (Lasting V)) (now : ℕ) (k : K) (v : Lasting V)
      → table_of {R = R} (k ∷ keys) (λ q. unless_passed now (cond (eq_by_cmp R q k) (Some v) (stands q)))
      ≡ unexpired now (insert (table_of keys (λ q. unless_passed now (stands q))) k v)
  lasting-insert keys stands now k v =
      same_map o exact _ _ (λ q.
      get-table_of o exact (k ∷ keys) (λ x. unless_passed now (cond (eq_by_cmp R x k) (Some v) (stands x))) q ∙ cases q (eq_by_cmp R q k) (list_any (eq_by_cmp R q) keys)
      ∙ sym (get-unexpired o exact now (insert (table_of keys (λ x. unless_passed now (stands x))) k v) q
      ∙ ap (unless_passed now)
      (get-insert o (table_of keys (λ x. unless_passed now (stands x))) k v q
      ∙ ap (cond (eq_by_cmp R q k) (Some v)) (get-table_of o exact keys (λ x. unless_passed now (stands x)) q))))
    where
      cases : (q : K) (t b : Bool) → cond (t || b) (unless_passed now (cond t (Some v) (stands q))) None
          ≡ unless_passed now (cond t (Some v) (cond b (unless_passed now (stands q)) None))
      cases q true b = refl
      cases q false true = sym (passed_later_too now now (stands q) (omega arith))
      cases q false false = refl

  -- one ends
  pub lasting-remove : (keys : List K) (stands : K → Option (Lasting V)) (now : ℕ) (k : K)
      → table_of {R = R} keys (λ q. unless_passed now (cond (eq_by_cmp R q k) None (stands q)))
      ≡ remove (table_of keys (λ q. unless_passed now (stands q))) k
  lasting-remove keys stands now k = table-remove o exact keys _ _ k (λ q. cases q (eq_by_cmp R q k))
    where
      cases : (q : K) (t : Bool) → unless_passed now (cond t None (stands q)) ≡ cond t None (unless_passed now (stands q))
      cases q true = refl
      cases q false = refl

  -- those end that pass a test
  pub lasting-end : (keys : List K) (stands : K → Option (Lasting V)) (now : ℕ) (p : K → Bool)
      → table_of {R = R} keys (λ q. unless_passed now (cond (p q) None (stands q)))
      ≡ retain_keys (table_of keys (λ q. unless_passed now (stands q))) (λ q. not (p q))
  lasting-end keys stands now p = table-retain_keys o exact keys _ _ (λ q. not (p q)) (λ q. cases q (p q))
    where
      cases : (q : K) (t : Bool) → unless_passed now (cond t None (stands q)) ≡ cond (not t) (unless_passed now (stands q)) None
      cases q true = refl
      cases q false = refl
