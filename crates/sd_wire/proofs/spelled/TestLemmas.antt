-- A fact by a test of a number.
use Rattle.std.proofs.Common.{◌≡◌, ℕ, Bool, true, false, cond, eqb, refl, sym, ◌∙◌}
use Rattle.std.proofs.lemmas.Bool.{eqb-true, eq-eqb}

pub pick : {A : Type 0} (P : A → Type 0) (kind k : ℕ) (x y : A) → (kind ≡ k → P x) → ((kind ≡ k → ⊥) → P y) → P (cond (eqb kind k) x y)
pick P kind k x y hit miss =
    let Q : Bool → Type 0 = λ b. eqb kind k ≡ b → P (cond b x y) in
    (elim (eqb kind k) as Q [
      | true ↦ λ e. hit (eqb-true kind k e)
      | false ↦ λ e. miss (λ is. let bad = sym e ∙ eq-eqb kind k is in cc)
    ]) refl
