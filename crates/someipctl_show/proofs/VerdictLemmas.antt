-- Vectors that are judged one after the other, and what `vectors` promises of that.
use Rattle.std.proofs.Common.{◌≡◌, ◌<◌, ◌≤◌, ℕ, zero, suc, ◌+◌, Bool, List, [], ◌∷◌, ◌++◌, length, get_or, drop, map, refl, sym, ap, ◌∙◌, subst, append_assoc, arith, add-one, drop-cons}
use Rattle.std.proofs.lemmas.List.{append-nil, drop_all}
use Rattle.someipctl_show.specs.declared.vector_lines.Question.{Question}
use Rattle.someipctl_show.specs.declared.vector_lines.VectorLine.{VectorLine}
use Rattle.someipctl_show.specs.declared.vector_lines.VectorLine.TheVariants.{Asks}
use Rattle.someipctl_show.specs.VectorLines.{asked_by, said_by}
use Rattle.someipctl_show.specs.Vectors.{Vector, AreJudged, IsJudged, expected_text, vectors_in}

-- the result at a place, and those after it
pub next_result : (results : List Bool) (i : ℕ) (d : Bool) → i < length results → drop i results ≡ get_or results i d ∷ drop (i + 1) results
next_result [] i d lt = absurd (omega (arith, lt))
next_result (x ∷ xs) zero d lt = refl
next_result (x ∷ xs) (suc i) d lt = let k : suc i + 1 ≡ suc (i + 1) = omega arith in rw k (next_result xs i d (omega (arith, lt)))

-- the vectors from a line on, where that begins one
pub vectors_from_asks : (lines : List VectorLine) (i : ℕ) (d : VectorLine) (question : Question) → i < length lines → get_or lines i d ≡ Asks question
    → vectors_in (map said_by (drop i lines)) ≡ record { asked = asked_by question; expected = expected_text (map said_by (drop (i + 1) lines)) } ∷ vectors_in (map said_by (drop (i + 1) lines))
vectors_from_asks lines i d question lt is =
    let next : drop i lines ≡ Asks question ∷ drop (i + 1) lines = rw (add-one) (drop-cons lines i d lt ∙ ap (λ l. l ∷ drop (suc i) lines) is) in
    rw next refl

-- a vector more
pub judged_more : (all before behind : List Vector) (vector : Vector) (results : List Bool) (passed : Bool) → before ≡ vector ∷ behind → IsJudged vector passed
    → ((others : List Bool) → AreJudged before others → AreJudged all (results ++ others)) → (others : List Bool) → AreJudged behind others → AreJudged all ((results ++ passed ∷ []) ++ others)
judged_more all before behind vector results passed is judged so_far others rest =
    let whole : AreJudged before (passed ∷ others) = subst (λ (vs : List Vector). AreJudged vs (passed ∷ others)) (sym is) (judged, rest) in
    subst (AreJudged all) (sym (append_assoc results (passed ∷ []) others)) (so_far (passed ∷ others) whole)

-- all vectors
pub judged_all : (lines : List VectorLine) (i : ℕ) (results : List Bool) → length lines ≤ i
    → ((others : List Bool) → AreJudged (vectors_in (map said_by (drop i lines))) others → AreJudged (vectors_in (map said_by lines)) (results ++ others)) → AreJudged (vectors_in (map said_by lines)) results
judged_all lines i results end so_far =
    let none : AreJudged (vectors_in (map said_by (drop i lines))) [] = rw (drop_all i lines end) tt in
    subst (AreJudged (vectors_in (map said_by lines))) (append-nil results) (so_far [] none)
