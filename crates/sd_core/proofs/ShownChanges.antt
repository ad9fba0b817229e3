-- What is shown of a map whose values were changed.
use Rattle.std.proofs.Common.{◌≡◌, Option, None, Some, refl, ap, sym, ◌∙◌}
use Rattle.std.specs.Option.{option_and_then, option_map}
use Rattle.std.specs.declared.cmp.Ordering.{Ordering}
use Rattle.std.specs.Cmp.{IsTotalOrder}
use Rattle.std.specs.FinMap.{FinMap, IsAntisymmetric, get, empty, get-empty, same_map}
use Rattle.someip_tables.specs.Changed.{each_changed}
use Rattle.someip_tables.proofs.ChangedLemmas.{get-changed}
use Rattle.sd_core.specs.Shown.{shown}
use Rattle.sd_core.proofs.ShownLemmas.{get-shown}

module _ {K X : Type 0} {R : K → K → Ordering} (o : IsTotalOrder R) (exact : IsAntisymmetric R) where
  -- what is shown of the changed values is what h shows of the old
  pub shown-changed : {Y Z : Type 0} (g : K → X → X) (f : X → Option Z) (at : Y → Option Z) (h : X → Option Y) (m : FinMap R X) → ((q : K) (x : X) → f (g q x) ≡ option_and_then at (h x))
      → shown f (each_changed g m) ≡ shown at (shown h m)
  shown-changed g f at h m same =
      same_map o exact _ _ (λ q.
      get-shown o exact f (each_changed g m) q ∙ ap (option_and_then f) (get-changed o exact g m q) ∙ cases q (get m q)
      ∙ sym (get-shown o exact at (shown h m) q ∙ ap (option_and_then at) (get-shown o exact h m q)))
    where
      cases : (q : K) (v : Option X) → option_and_then f (option_map (g q) v) ≡ option_and_then at (option_and_then h v)
      cases q None = refl
      cases q (Some x) = same q x

  -- the same, where what is shown stays
  pub shown-changed_same : {Y : Type 0} (g : K → X → X) (f : X → Option Y) (m : FinMap R X) → ((q : K) (x : X) → f (g q x) ≡ f x) → shown f (each_changed g m) ≡ shown f m
  shown-changed_same g f m same =
      same_map o exact _ _ (λ q.
      get-shown o exact f (each_changed g m) q ∙ ap (option_and_then f) (get-changed o exact g m q) ∙ cases q (get m q) ∙ sym (get-shown o exact f m q))
    where
      cases : (q : K) (v : Option X) → option_and_then f (option_map (g q) v) ≡ option_and_then f v
      cases q None = refl
      cases q (Some x) = same q x

  -- values change so that none shows anything
  pub shown-changed_none : {Y : Type 0} (g : K → X → X) (f : X → Option Y) (m : FinMap R X) → ((q : K) (x : X) → f (g q x) ≡ None) → shown f (each_changed g m) ≡ empty
  shown-changed_none g f m none =
      same_map o exact _ _ (λ q.
      get-shown o exact f (each_changed g m) q ∙ ap (option_and_then f) (get-changed o exact g m q) ∙ cases q (get m q) ∙ sym (get-empty R q))
    where
      cases : (q : K) (v : Option X) → option_and_then f (option_map (g q) v) ≡ None
      cases q None = refl
      cases q (Some x) = none q x
