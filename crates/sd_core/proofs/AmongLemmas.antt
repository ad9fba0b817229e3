-- The keys of the entries that pass a test, found among those that pass a weaker one.
use Rattle.std.proofs.Common.{◌≡◌, Bool, true, false, cond, List, [], ◌∷◌, map, filter, Option, None, Some, refl, ap, sym, ◌∙◌}
use Rattle.std.specs.Option.{is_some, option_map_or}
use Rattle.std.specs.declared.cmp.Ordering.{Ordering}
use Rattle.std.specs.Cmp.{IsTotalOrder}
use Rattle.std.specs.FinMap.{FinMap, IsAntisymmetric, get, keys, entries}
use Rattle.someip_tables.specs.Retained.{kept_if, retain}
use Rattle.someip_tables.proofs.Entries.{get-retain}
use Rattle.someip_tables.proofs.SortedEntries.{entries-retain, same_keys}

filter-keys : {K X : Type 0} (p : K → Bool) (es : List (K × X)) → filter p (map (λ e. e.0) es) ≡ map (λ e. e.0) (filter (λ e. p e.0) es)
filter-keys p [] = refl
filter-keys p (e ∷ es) =
    elim (p e.0) as (λ b. cond b (e.0 ∷ filter p (map (λ d. d.0) es)) (filter p (map (λ d. d.0) es)) ≡ map (λ d. d.0) (cond b (e ∷ filter (λ d. p d.0) es) (filter (λ d. p d.0) es)))
    [ true ↦ ap (λ ks. e.0 ∷ ks) (filter-keys p es) | false ↦ filter-keys p es ]

module _ {K X : Type 0} {R : K → K → Ordering} (o : IsTotalOrder R) (exact : IsAntisymmetric R) where
  pub keys-among : (m : FinMap R X) (p weaker : K → X → Bool) → ((q : K) (x : X) → p q x ≡ true → weaker q x ≡ true)
      → filter (λ q. option_map_or (p q) (get m q) false) (keys (retain m weaker)) ≡ keys (retain m p)
  keys-among m p weaker holds =
      filter-keys passes (entries (retain m weaker)) ∙ ap (map (λ e. e.0)) (sym (entries-retain o exact (retain m weaker) (λ q _. passes q)))
      ∙ same_keys o exact (retain (retain m weaker) (λ q _. passes q)) (retain m p) (λ q. ap is_some (twice q))
    where
      passes : K → Bool
      passes q = option_map_or (p q) (get m q) false

      both : (x : X) (a b : Bool) → (a ≡ true → b ≡ true) → kept_if (λ _. a) (cond b (Some x) None) ≡ cond a (Some x) None
      both x true b h = ap (λ t. kept_if (λ _. true) (cond t (Some x) None)) (h refl)
      both x false true h = refl
      both x false false h = refl

      at : (q : K) (v : Option X) → kept_if (λ _. option_map_or (p q) v false) (kept_if (weaker q) v) ≡ kept_if (p q) v
      at q None = refl
      at q (Some x) = both x (p q x) (weaker q x) (holds q x)

      twice : (q : K) → get (retain (retain m weaker) (λ k _. passes k)) q ≡ get (retain m p) q
      twice q =
          get-retain o exact (retain m weaker) (λ k _. passes k) q ∙ ap (kept_if (λ _. passes q)) (get-retain o exact m weaker q) ∙ at q (get m q)
          ∙ sym (get-retain o exact m p q)
