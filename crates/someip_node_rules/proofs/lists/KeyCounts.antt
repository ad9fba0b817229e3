-- How many keys of a map pass a test, by a list of different ones.
use Rattle.std.proofs.Common.{◌≡◌, ◌+◌, ◌≤◌, Bool, true, false, cond, List, [], ◌∷◌, length, filter, Option, None, Some, refl, ap, sym, ◌∙◌, arith}
use Rattle.std.specs.List.{AllByRecursion, IsDistinct}
use Rattle.std.specs.Option.{is_some}
use Rattle.std.specs.Ordering.{eq_by_cmp}
use Rattle.std.specs.declared.cmp.Ordering.{Ordering}
use Rattle.std.specs.Cmp.{IsTotalOrder, eq_by_cmp_equiv}
use Rattle.std.specs.FinMap.{FinMap, IsAntisymmetric, from_entries, get, remove, len, retain_keys, get-remove, get-retain_keys}
use Rattle.someip_tables.specs.Distinct.{are_distinct}
use Rattle.someip_tables.proofs.Entries.{distinct-filter, from_entries-filter, len-from_entries, retain_keys_retain}
use Rattle.someip_tables.proofs.MapLaws.{get-remove_own, insert-remove, insert_present, len-insert_new}
use Rattle.someip_node_rules.proofs.lists.MemberLemmas.{all_both}

module _ {K X : Type 0} {R : K → K → Ordering} (o : IsTotalOrder R) (exact : IsAntisymmetric R) where
  -- a key that is there is one more than there are without it
  one_more : (m : FinMap R X) (k : K) (v : Option X) → get m k ≡ v → is_some v ≡ true → len m ≡ len (remove m k) + 1
  one_more m k None is there = absurd (cc)
  one_more m k (Some x) is there =
      ap len (sym (insert-remove o exact m k x ∙ insert_present o exact m k x is)) ∙ len-insert_new o exact (remove m k) k x (get-remove_own o exact m k)

  -- another key stays
  stays : (m : FinMap R X) (k q : K) → eq_by_cmp R k q ≡ false → is_some (get m q) ≡ true → is_some (get (remove m k) q) ≡ true
  stays m k q apart there = ap is_some (get-remove o m k q ∙ ap (λ b. cond b None (get m q)) ((eq_by_cmp_equiv o).symm q k ∙ apart)) ∙ there

  -- different keys that are there are no more than all
  pub different : (m : FinMap R X) (ks : List K) → IsDistinct (eq_by_cmp R) ks → AllByRecursion (λ k. is_some (get m k) ≡ true) ks → length ks ≤ len m
  unfolding IsDistinct
  different m [] apart there = omega arith
  different m (k ∷ ks) apart there =
      let rest : length ks ≤ len (remove m k) =
      different (remove m k) ks apart.1
      (all_both (λ q. eq_by_cmp R k q ≡ false) (λ q. is_some (get m q) ≡ true) (λ q. is_some (get (remove m k) q) ≡ true) (λ q. stays m k q) ks apart.0 there.1) in
      let more = one_more m k (get m k) refl there.0 in
      omega arith

  -- a key that passes the test is kept
  pub passes : (m : FinMap R X) (t : K → Bool) (k : K) → t k ≡ true → is_some (get m k) ≡ true → is_some (get (retain_keys m t) k) ≡ true
  passes m t k pass there =
      ap is_some (get-retain_keys m t k (λ x tie. ap t (sym (exact k x tie))) ∙ ap (λ b. cond b (get m k) None) pass) ∙ there

  -- how many pass a test is how many entries do
  pub counts : (t : K → Bool) (es : List (K × X)) → are_distinct R es ≡ true → len (retain_keys (from_entries {R = R} es) t) ≡ length (filter (λ e. t e.0) es)
  counts t es apart =
      ap len (sym (retain_keys_retain o exact (from_entries es) t) ∙ sym (from_entries-filter o exact (λ e. t e.0) es apart))
      ∙ len-from_entries o exact (filter (λ e. t e.0) es) (distinct-filter o exact (λ e. t e.0) es apart)
