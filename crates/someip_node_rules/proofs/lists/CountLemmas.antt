-- A table of what follows from how often each key was named.
use Rattle.std.proofs.Common.{◌≡◌, ℕ, suc, Bool, true, false, cond, ◌||◌, List, [], ◌∷◌, filter, length, Option, None, Some, refl, ap, sym, ◌∙◌}
use Rattle.std.specs.List.{list_any}
use Rattle.std.specs.declared.cmp.Ordering.{Ordering}
use Rattle.std.specs.Ordering.{eq_by_cmp}
use Rattle.std.specs.Cmp.{IsTotalOrder}
use Rattle.std.specs.FinMap.{IsAntisymmetric, get, insert}
use Rattle.someip_tables.proofs.Entries.{same_by_test}
use Rattle.someip_node_rules.specs.histories.Questions.{table_of}
use Rattle.someip_node_rules.proofs.histories.QuestionLemmas.{get-table_of, table-insert}

module _ {K : Type 0} {R : K → K → Ordering} (o : IsTotalOrder R) (exact : IsAntisymmetric R) where
  -- what is not among others stands no times there
  none_there : (q : K) (ks : List K) → list_any (eq_by_cmp R q) ks ≡ false → length (filter (eq_by_cmp R q) ks) ≡ 0
  none_there q [] absent = refl
  none_there q (k ∷ ks) absent = cases (eq_by_cmp R q k) absent (none_there q ks)
    where
      cases : (t : Bool) → (t || list_any (eq_by_cmp R q) ks) ≡ false → (list_any (eq_by_cmp R q) ks ≡ false → length (filter (eq_by_cmp R q) ks) ≡ 0)
          → length (cond t (k ∷ filter (eq_by_cmp R q) ks) (filter (eq_by_cmp R q) ks)) ≡ 0
      cases true absent rest = absurd (cc)
      cases false absent rest = rest absent

  -- a key is named once more
  pub table-counted : {V : Type 0} (f : ℕ → V) (next : Option V → V) (ks : List K) (k : K) → next None ≡ f 1 → ((n : ℕ) → next (Some (f n)) ≡ f (suc n))
      → table_of {R = R} (k ∷ ks) (λ q. Some (f (length (filter (eq_by_cmp R q) (k ∷ ks)))))
      ≡ insert (table_of ks (λ q. Some (f (length (filter (eq_by_cmp R q) ks))))) k (next (get (table_of {R = R} ks (λ q. Some (f (length (filter (eq_by_cmp R q) ks))))) k))
  table-counted {V = V} f next ks k first later = table-insert o exact ks (λ q. Some (f (length (filter (eq_by_cmp R q) ks)))) _ k after (λ q. at q (eq_by_cmp R q k) refl)
    where
      after : V
      after = next (get (table_of {R = R} ks (λ q. Some (f (length (filter (eq_by_cmp R q) ks))))) k)

      cases : (b : Bool) → list_any (eq_by_cmp R k) ks ≡ b
          → next (cond b (Some (f (length (filter (eq_by_cmp R k) ks)))) None) ≡ f (suc (length (filter (eq_by_cmp R k) ks)))
      cases true is = later (length (filter (eq_by_cmp R k) ks))
      cases false is = first ∙ ap (λ n. f (suc n)) (sym (none_there k ks is))

      given : after ≡ f (suc (length (filter (eq_by_cmp R k) ks)))
      given = ap next (get-table_of o exact ks (λ q. Some (f (length (filter (eq_by_cmp R q) ks)))) k) ∙ cases (list_any (eq_by_cmp R k) ks) refl

      at : (q : K) (t : Bool) → eq_by_cmp R q k ≡ t → Some (f (length (cond t (k ∷ filter (eq_by_cmp R q) ks) (filter (eq_by_cmp R q) ks))))
          ≡ cond t (Some after) (Some (f (length (filter (eq_by_cmp R q) ks))))
      at q true is = ap (λ x. Some (f (suc (length (filter (eq_by_cmp R x) ks))))) (same_by_test exact q k is) ∙ sym (ap Some given)
      at q false is = refl

  -- what follows from how often a key was named, where no entry is as good as none before the first
  pub get-counted : {V W : Type 0} (f : ℕ → V) (h : Option V → W) (ks : List K) (k : K) → h None ≡ h (Some (f 0))
      → h (get (table_of {R = R} ks (λ q. Some (f (length (filter (eq_by_cmp R q) ks))))) k) ≡ h (Some (f (length (filter (eq_by_cmp R k) ks))))
  get-counted f h ks k none = ap h (get-table_of o exact ks (λ q. Some (f (length (filter (eq_by_cmp R q) ks)))) k) ∙ cases (list_any (eq_by_cmp R k) ks) refl
    where
      cases : (b : Bool) → list_any (eq_by_cmp R k) ks ≡ b
          → h (cond b (Some (f (length (filter (eq_by_cmp R k) ks)))) None) ≡ h (Some (f (length (filter (eq_by_cmp R k) ks))))
      cases true is = refl
      cases false is = none ∙ ap (λ n. h (Some (f n))) (sym (none_there k ks is))
