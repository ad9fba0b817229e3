-- Maps of one entry, and of none.
use Rattle.std.proofs.Common.{◌≡◌, Bool, true, if◌then◌else◌, [], ◌∷◌, map, refl, ap, sym, ◌∙◌}
use Rattle.std.specs.List.Sorted.{IsStrictlySortedBy}
use Rattle.std.specs.declared.cmp.Ordering.{Ordering}
use Rattle.std.specs.Cmp.{IsTotalOrder}
use Rattle.std.specs.FinMap.{IsAntisymmetric, empty, entries, from_entries, keys}
use Rattle.someip_tables.specs.Retained.{retain}
use Rattle.someip_tables.proofs.Entries.{from_entries-filter}
use Rattle.someip_tables.proofs.Trees.{entries-map_of}

module _ {K X : Type 0} {R : K → K → Ordering} (o : IsTotalOrder R) (exact : IsAntisymmetric R) where
  pub entries_of_none : entries (empty {X = X} {R = R}) ≡ []
  unfolding IsStrictlySortedBy
  entries_of_none = entries-map_of o exact [] tt

  module _ (k : K) (x : X) where
    pub entries_of_one : entries (from_entries {R = R} ((k, x) ∷ [])) ≡ (k, x) ∷ []
    unfolding IsStrictlySortedBy
    entries_of_one = entries-map_of o exact ((k, x) ∷ []) (tt, tt)

    pub keys_of_one : keys (from_entries {R = R} ((k, x) ∷ [])) ≡ k ∷ []
    keys_of_one = ap (map (λ (e : K × X). e.0)) entries_of_one

  -- ---- the entry, if it passes a test

  module _ (p : K → X → Bool) (k : K) (x : X) where
    kept_is : (b : Bool) → p k x ≡ b → retain (from_entries {R = R} ((k, x) ∷ [])) p ≡ from_entries (if b then (k, x) ∷ [] else [])
    kept_is b is =
        sym (from_entries-filter o exact (λ e. p e.0 e.1) ((k, x) ∷ []) refl) ∙ ap (λ b. from_entries {R = R} (if b then (k, x) ∷ [] else [])) is

    pub entry_kept : p k x ≡ true → retain (from_entries {R = R} ((k, x) ∷ [])) p ≡ from_entries ((k, x) ∷ [])
    entry_kept is = kept_is true is

    pub key_kept : p k x ≡ true → keys (retain (from_entries {R = R} ((k, x) ∷ [])) p) ≡ k ∷ []
    key_kept is = ap (λ m. keys m) (kept_is true is) ∙ keys_of_one k x
