-- From tests of equality to equal values.
use Rattle.std.proofs.Common.{◌≡◌, refl, ℕ, List, [], ◌∷◌}
use Rattle.std.specs.Prelude.{Bool, true, ◌==◌, ◌&&◌}
use Rattle.std.specs.BTreeSet.{BTreeSet}
use Rattle.std.specs.Cmp.Lexicographic.{pointwise}
use Rattle.std.proofs.lemmas.Bool.{and_parts, false≢true}
use Rattle.std.proofs.lemmas.Bool.Decides.{Decides-eqb}
use Rattle.std.proofs.lemmas.Slice.Eq.{slice_eq-Decides}
use Rattle.someip_world_setup_keys.specs.Made.{keys_of_set, plain_entries}

abbrev SameList : ℕ × BTreeSet ℕ → ℕ × BTreeSet ℕ → Bool
SameList p q = (p.0 == q.0) && pointwise (λ x y. x == y) p.1.keys q.1.keys

abbrev plain : ℕ × BTreeSet ℕ → ℕ × List ℕ
plain e = (e.0, keys_of_set e.1)

same_list : (p q : ℕ × BTreeSet ℕ) → SameList p q ≡ true → plain p ≡ plain q
same_list p q e =
    let parts = and_parts (p.0 == q.0) (pointwise (λ x y. x == y) p.1.keys q.1.keys) e in
    let key : p.0 ≡ q.0 = (Decides-eqb p.0 q.0).0 parts.0 in
    let keys : p.1.keys ≡ q.1.keys = (slice_eq-Decides Decides-eqb p.1.keys q.1.keys (pointwise (λ x y. x == y) p.1.keys q.1.keys) refl).0 parts.1 in
    λ i. (key i, keys i)

-- the same sets stand at the same keys
pub same_lists : (xs ys : List (ℕ × BTreeSet ℕ)) → pointwise SameList xs ys ≡ true → plain_entries keys_of_set xs ≡ plain_entries keys_of_set ys
same_lists [] [] e = refl
same_lists [] (y ∷ ys) e = absurd (false≢true e)
same_lists (x ∷ xs) [] e = absurd (false≢true e)
same_lists (x ∷ xs) (y ∷ ys) e =
    let parts = and_parts (SameList x y) (pointwise SameList xs ys) e in
    let first = same_list x y parts.0 in
    let rest = same_lists xs ys parts.1 in
    λ i. first i ∷ rest i
