-- What a test of keys leaves of a map and of its deadlines.
use Rattle.std.proofs.Common.{◌≡◌, ℕ, Bool, true, false, cond, ◌&&◌, List, [], ◌∷◌, filter, Option, None, Some, refl, ap, sym, ◌∙◌}
use Rattle.std.specs.Option.{is_some}
use Rattle.std.specs.List.{IsDistinct, list_any}
use Rattle.std.specs.Map.{keys_of, lookup}
use Rattle.std.specs.Map.Calls.{RetainsPairs}
use Rattle.std.specs.BTreeMap.{is_at}
use Rattle.std.specs.declared.cmp.Ordering.{Ordering}
use Rattle.std.specs.Ordering.{eq_by_cmp}
use Rattle.std.specs.Cmp.{IsTotalOrder, eq_by_cmp_equiv}
use Rattle.std.proofs.lemmas.Map.{lookup-none}
use Rattle.std.proofs.lemmas.Map.Entries.{none_past_head}
use Rattle.std.proofs.lemmas.Map.Keys.{IsDistinct-tail}
use Rattle.std.specs.BTreeSet.{BTreeSet, contains}
use Rattle.std.specs.FinMap.{IsAntisymmetric}
use Rattle.std.proofs.lemmas.Map.Made.{is_member-filter}
use Rattle.someip_tables.specs.Dues.{due_cmp, is_due}
use Rattle.someip_tables.specs.declared.due.Due.{Due}
use Rattle.someip_tables.proofs.Entries.{same_by_test}
use Rattle.someip_tables.proofs.DueLemmas.{dues_total, exact_dues}
use Rattle.someip_tables.specs.Lastings.{until_of}
use Rattle.someip_tables.specs.declared.lasting.Lasting.{Lasting}

-- the entry of a key that was kept_if is what it was
module _ {F K X : Type 0} {R : K → K → Ordering} (o : IsTotalOrder R) (T : F → K → X → Bool → X → F → Type 0)
    (reads : (f : F) (k : K) (v : X) (b : Bool) (w : X) (f' : F) → T f k v b w f' → w ≡ v) where
  gone_stays : (q : K) (f : F) (es left : List (K × X)) → RetainsPairs T f es left → lookup (is_at (R q)) es ≡ None → lookup (is_at (R q)) left ≡ None
  gone_stays q f [] left is none = ap (lookup (is_at (R q))) is
  gone_stays q f (e ∷ es) left h none =
      ap (lookup (is_at (R q))) h.6 ∙ cases (is_at (R q) e.0) h.0 refl none (gone_stays q h.2 es h.3 h.5)
    where
      cases : (t b : Bool) → is_at (R q) e.0 ≡ t → cond t (Some e.1) (lookup (is_at (R q)) es) ≡ None → (lookup (is_at (R q)) es ≡ None → lookup (is_at (R q)) h.3 ≡ None)
          → lookup (is_at (R q)) (cond b ((e.0, h.1) ∷ h.3) h.3) ≡ None
      cases true b t none rest = absurd (cc)
      cases false true t none rest = rw t (rest none)
      cases false false t none rest = rest none

  pub kept_is_old : (q : K) (f : F) (es left : List (K × X)) → IsDistinct (eq_by_cmp R) (keys_of es) → RetainsPairs T f es left → is_some (lookup (is_at (R q)) left) ≡ true
      → lookup (is_at (R q)) left ≡ lookup (is_at (R q)) es
  kept_is_old q f [] left d is some = ap (lookup (is_at (R q))) is
  kept_is_old q f (e ∷ es) left d h some =
      ap (lookup (is_at (R q))) h.6
      ∙ cases (is_at (R q) e.0) h.0 refl (sym (ap (λ l. is_some (lookup (is_at (R q)) l)) h.6) ∙ some)
      (kept_is_old q h.2 es h.3 (IsDistinct-tail (eq_by_cmp R) e.0 (keys_of es) d) h.5)
    where
      gone : is_at (R q) e.0 ≡ true → lookup (is_at (R q)) h.3 ≡ None
      gone t = gone_stays q h.2 es h.3 h.5 (lookup-none (is_at (R q)) es (none_past_head (eq_by_cmp_equiv o) q e es d t))

      cases : (t b : Bool) → is_at (R q) e.0 ≡ t → is_some (lookup (is_at (R q)) (cond b ((e.0, h.1) ∷ h.3) h.3)) ≡ true
          → (is_some (lookup (is_at (R q)) h.3) ≡ true → lookup (is_at (R q)) h.3 ≡ lookup (is_at (R q)) es)
          → lookup (is_at (R q)) (cond b ((e.0, h.1) ∷ h.3) h.3) ≡ cond t (Some e.1) (lookup (is_at (R q)) es)
      cases true true t some rest = rw t (ap Some (reads f e.0 e.1 h.0 h.1 h.2 h.4))
      cases true false t some rest = let none = gone t in absurd (cc)
      cases false true t some rest = rw t (rest (rw t at some))
      cases false false t some rest = rest some

-- a deadline stays where its key does
pub due_left : {V : Type 0} (at : ℕ) (old new : Option (Lasting V)) → (is_some new ≡ true → new ≡ old) → (is_due at (until_of old) && is_some new) ≡ is_due at (until_of new)
due_left at old None same = none (is_due at (until_of old))
  where
    none : (b : Bool) → (b && false) ≡ false
    none true = refl
    none false = refl
due_left at old (Some lasting) same = ap (λ v. is_due at (until_of v) && true) (sym (same refl)) ∙ some (is_due at (Some lasting.until))
  where
    some : (b : Bool) → (b && true) ≡ b
    some true = refl
    some false = refl

module _ {K : Type 0} {R : K → K → Ordering} (o : IsTotalOrder R) (exact : IsAntisymmetric R) where
  -- the deadlines of the keys that pass a test
  pub dues-filter : (p : K → Bool) (due : Due K) (old new : BTreeSet (Due K)) → new.keys ≡ filter (λ d. p d.key) old.keys → contains (due_cmp R) new due ≡ (contains (due_cmp R) old due && p due.key)
  dues-filter p due old new is =
      ap (list_any (is_at (due_cmp R due))) is
      ∙ is_member-filter (eq_by_cmp_equiv (dues_total o)) (λ d. p d.key) due (λ d tie. ap (λ x. p x.key) (same_by_test (exact_dues exact) due d tie)) old.keys
