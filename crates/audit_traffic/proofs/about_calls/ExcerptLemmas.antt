-- The first 64 bytes of a payload.
use Rattle.std.proofs.Common.{◌≡◌, ◌↔◌, ℕ, ◌+◌, ◌-◌, ◌≤◌, nat_le, min, Bool, true, false, List, ◌++◌, length, take, drop, replicate, refl, sym, ap, ◌∙◌, arith}
use Rattle.std.proofs.Math.Nat.{min-eq_left, min-eq_right, min_comm}
use Rattle.std.proofs.Math.Seq.{take-append-add, take-append_seam, take-length}
use Rattle.std.proofs.lemmas.Bool.{leb-true, leb-false}
use Rattle.std.proofs.lemmas.List.{drop-replicate, take-replicate, take-append-le, take_min, length-take, append-nil}
use Rattle.std.proofs.lemmas.Bool.Decides.{Decides-and, Decides-eqb}
use Rattle.std.proofs.lemmas.Slice.Eq.{slice_eq-Decides}
use Rattle.audit_traffic.specs.calls.Excerpts.{excerpt_of, same_excerpt}

-- the bytes that there are, and zeros after them
pub first_bytes : (p : List ℕ) → take (min (length p) 64) p ++ drop (min (length p) 64) (replicate 64 0) ≡ take 64 (p ++ replicate 64 0)
first_bytes p = cases (nat_le (length p) 64) refl
  where
    cases : (b : Bool) → nat_le (length p) 64 ≡ b → take (min (length p) 64) p ++ drop (min (length p) 64) (replicate 64 0) ≡ take 64 (p ++ replicate 64 0)
    cases true is =
        let le : length p ≤ 64 = leb-true (length p) 64 is in
        let few : min (length p) 64 ≡ length p = min-eq_left le in
        let all : length p + (64 - length p) ≡ 64 = omega arith in
        let left : take (min (length p) 64) p ++ drop (min (length p) 64) (replicate 64 0) ≡ p ++ replicate (64 - length p) 0 =
        ap (λ n. take n p ++ drop n (replicate 64 0)) few ∙ ap (λ xs. xs ++ drop (length p) (replicate 64 0)) (take-length p)
        ∙ ap (λ xs. p ++ xs) (drop-replicate (length p) 64 0) in
        let right : take 64 (p ++ replicate 64 0) ≡ p ++ replicate (64 - length p) 0 =
        ap (λ n. take n (p ++ replicate 64 0)) (sym all) ∙ take-append-add p (replicate 64 0) (64 - length p)
        ∙ ap (λ xs. p ++ xs) (take-replicate (64 - length p) 64 0 (omega arith)) in
        left ∙ sym right
    cases false is =
        let le : 64 ≤ length p = omega (arith, leb-false (length p) 64 is) in
        let few : min (length p) 64 ≡ 64 = min-eq_right le in
        let left : take (min (length p) 64) p ++ drop (min (length p) 64) (replicate 64 0) ≡ take 64 p ++ drop 64 (replicate 64 0) =
        ap (λ n. take n p ++ drop n (replicate 64 0)) few in
        left ∙ append-nil (take 64 p) ∙ sym (take-append-le 64 p (replicate 64 0) le)

-- the bytes that are kept, with what a payload of this length has after them
kept_bytes : (p : List ℕ) → take 64 p ++ drop (min (length p) 64) (replicate 64 0) ≡ take 64 (p ++ replicate 64 0)
kept_bytes p = ap (λ xs. xs ++ drop (min (length p) 64) (replicate 64 0)) (sym (few_bytes p)) ∙ first_bytes p
  where
    few_bytes : (p : List ℕ) → take (min (length p) 64) p ≡ take 64 p
    few_bytes p = ap (λ n. take n p) (min_comm (length p) 64) ∙ take_min 64 p

-- they tell the first 64 bytes
same_first : (a b : List ℕ) → length a ≡ length b → take 64 (a ++ replicate 64 0) ≡ take 64 (b ++ replicate 64 0) → take 64 a ≡ take 64 b
same_first a b long same =
    let rest : List ℕ = drop (min (length a) 64) (replicate 64 0) in
    let both : take 64 a ++ rest ≡ take 64 b ++ rest =
    kept_bytes a ∙ same ∙ sym (kept_bytes b) ∙ ap (λ n. take 64 b ++ drop (min n 64) (replicate 64 0)) (sym long) in
    let as_long : length (take 64 a) ≡ length (take 64 b) = length-take 64 a ∙ ap (min 64) long ∙ sym (length-take 64 b) in
    sym (take-append_seam (take 64 a) rest) ∙ ap (take (length (take 64 a))) both ∙ ap (λ n. take n (take 64 b ++ rest)) as_long ∙ take-append_seam (take 64 b) rest

pub tells_apart : (a b : List ℕ) → (same_excerpt (excerpt_of a) (excerpt_of b) ≡ true) ↔ ((length a ≡ length b) × (take 64 a ≡ take 64 b))
tells_apart a b =
    let first = slice_eq-Decides Decides-eqb (take 64 (a ++ replicate 64 0)) (take 64 (b ++ replicate 64 0)) _ refl in
    let tests = Decides-and _ _ (Decides-eqb (length a) (length b)) first in (
      λ is. let both = tests.0 is in (both.0, same_first a b both.0 both.1),
      λ both. tests.1 (
        both.0,
        sym (kept_bytes a) ∙ ap (λ xs. xs ++ drop (min (length a) 64) (replicate 64 0)) both.1 ∙ ap (λ n. take 64 b ++ drop (min n 64) (replicate 64 0)) both.0 ∙ kept_bytes b,
      ),
    )
