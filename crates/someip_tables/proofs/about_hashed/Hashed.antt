-- A look by hash, as one by order.
use Rattle.std.proofs.Common.{◌≡◌, ◌+◌, Bool, true, false, cond, ◌&&◌, List, [], ◌∷◌, length, Option, None, Some, refl, ap, sym, ◌∙◌, arith}
use Rattle.std.specs.declared.cmp.Ordering.{Ordering}
use Rattle.std.specs.Ordering.{eq_by_cmp, is_eq}
use Rattle.std.specs.Option.{is_none, is_some}
use Rattle.std.specs.Cmp.{IsTotalOrder, eq_by_cmp_equiv}
use Rattle.std.specs.BTreeMap.{is_at}
use Rattle.std.specs.HashMap.{HashMap}
use Rattle.std.specs.HashMap as hash
use Rattle.std.specs.Map.{keys_of, lookup}
use Rattle.std.specs.List.{AllByRecursion, IsDistinct}
use Rattle.std.specs.FinMap.{find, get-from_entries, len, len-empty, len-insert}
use Rattle.someip_tables.specs.Tables.{map_of}
use Rattle.std.proofs.lemmas.Bool.{and_from}
use Rattle.std.proofs.lemmas.Map.Entries.{none_past_head}
use Rattle.std.proofs.lemmas.Map.{lookup-none}
use Rattle.std.proofs.lemmas.Map.Keys.{IsDistinct-tail}
use Rattle.someip_tables.specs.Distinct.{are_distinct}
use Rattle.someip_tables.proofs.Entries.{own_test}
use Rattle.someip_tables.proofs.Trees.{find-lookup}
use Rattle.someip_tables.specs.hashed.Dues.{at_key}

lookup_same : {K V : Type 0} (p q : K → Bool) → ((k : K) → p k ≡ q k) → (es : List (K × V)) → lookup p es ≡ lookup q es
lookup_same p q same [] = refl
lookup_same p q same (e ∷ es) = ap (λ b. cond b (Some e.1) (lookup p es)) (same e.0) ∙ ap (cond (q e.0) (Some e.1)) (lookup_same p q same es)

module _ {K V S : Type 0} (R : K → K → Ordering) {eq : K → K → Bool} (agree : (x y : K) → eq x y ≡ is_eq (R x y)) where
  pub by_order : (m : HashMap K V S) (key : K) → hash.get eq m key ≡ at_key R m.entries key
  by_order m key = lookup_same (eq key) (is_at (R key)) (agree key) m.entries

  pub updates_by_order : (old new : HashMap K V S) (key : K) (w : Option V) → ((q : K) → hash.get eq new q ≡ cond (eq key q) w (hash.get eq old q))
      → (q : K) → at_key R new.entries q ≡ cond (eq_by_cmp R key q) w (at_key R old.entries q)
  updates_by_order old new key w is q =
      sym (by_order new q) ∙ is q ∙ ap (λ b. cond b w (hash.get eq old q)) (agree key q) ∙ ap (cond (eq_by_cmp R key q) w) (by_order old q)

module _ {K : Type 0} (R : K → K → Ordering) {eq : K → K → Bool} (agree : (x y : K) → eq x y ≡ is_eq (R x y)) where
  none_ties : (x : K) (xs : List K) → AllByRecursion (λ y. eq x y ≡ false) xs → AllByRecursion (λ y. eq_by_cmp R x y ≡ false) xs
  none_ties x [] none = none
  none_ties x (y ∷ ys) none = (sym (agree x y) ∙ none.0, none_ties x ys none.1)

  pub distinct_by_order : (xs : List K) → IsDistinct eq xs → IsDistinct (eq_by_cmp R) xs
  unfolding IsDistinct
  distinct_by_order [] apart = apart
  distinct_by_order (x ∷ xs) apart = (none_ties x xs apart.0, distinct_by_order xs apart.1)

both : (a b : Bool) → (a && b) ≡ true → (a ≡ true) × (b ≡ true)
both true true is = (refl, refl)
both true false is = cc
both false b is = cc

module _ {K V : Type 0} {R : K → K → Ordering} (o : IsTotalOrder R) where
  pub entries_distinct : (es : List (K × V)) → IsDistinct (eq_by_cmp R) (keys_of es) → are_distinct R es ≡ true
  entries_distinct [] apart = refl
  entries_distinct (e ∷ es) apart =
      let none : find R e.0 es ≡ None = find-lookup R e.0 es ∙ lookup-none (is_at (R e.0)) es (none_past_head (eq_by_cmp_equiv o) e.0 e es apart (own_test o e.0)) in
      and_from _ _ (ap is_none none) (entries_distinct es (IsDistinct-tail (eq_by_cmp R) e.0 (keys_of es) apart))

  not_some : (v : Option V) → is_none v ≡ true → is_some v ≡ false
  not_some None is = refl
  not_some (Some x) is = cc

  pub len_distinct : (es : List (K × V)) → are_distinct R es ≡ true → len (map_of R es) ≡ length es
  len_distinct [] apart = len-empty R V
  len_distinct (e ∷ es) apart =
      len-insert o (map_of R es) e.0 e.1
      ∙ ap (λ b. cond b (len (map_of R es)) (len (map_of R es) + 1)) (ap is_some (get-from_entries o es e.0) ∙ not_some (find R e.0 es) (both _ _ apart).0)
      ∙ ap (λ n. n + 1) (len_distinct es (both _ _ apart).1)
      ∙ more
    where
      more : length es + 1 ≡ length (e ∷ es)
      more = omega arith
