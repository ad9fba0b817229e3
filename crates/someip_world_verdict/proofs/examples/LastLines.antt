-- What the last step tells does not change the verdict.
use Rattle.std.proofs.Common.{◌≡◌, ◌+◌, ◌<◌, arith, ℕ, suc, Bool, true, false, if◌then◌else◌, eqb, List, [], ◌∷◌, ◌++◌, length, slice_get, Option, None, Some, Result, Ok, Err, refl, ap, ◌∙◌}
use Rattle.std.specs.List.{AllByRecursion}
use Rattle.std.proofs.lemmas.Bool.{eqb-true}
use Rattle.someip_node_rules.specs.declared.error.NodeError.{NodeError}
use Rattle.someip_node_rules.specs.declared.output.Output.{Output}
use Rattle.someip_world_schedule.specs.StepNodes.{node_of}
use Rattle.someip_world_schedule.specs.declared.step.Step.{Step}
use Rattle.someip_world_setup.specs.declared.setup_node.SetupNode.{SetupNode}
use Rattle.someip_world_rules.specs.Runs.{place_of, told_lines}
use Rattle.someip_world_rules.specs.declared.line.Line.{Line}
use Rattle.someip_world_rules.specs.declared.reuse.Reuse.TheVariants.{Clean}
use Rattle.someip_world_verdict.specs.Books.{Book, LifeKept}
use Rattle.someip_world_verdict.specs.Judging.{first_book, judged, judged_at, judged_from, judged_on, other_lines, own_lines}

-- lines tell of the step of an index
abbrev AreOf : ℕ → List Line → Type 0
AreOf index lines = AllByRecursion (λ line. line.step ≡ index) lines

all_of : (index place : ℕ) (given : Result (List Output) NodeError) → AreOf index (told_lines index place given)
all_of index place (Err refusal) = (refl, tt)
all_of index place (Ok outputs) = outputs_of outputs
  where
    outputs_of : (outputs : List Output) → AreOf index (told_lines index place (Ok outputs))
    outputs_of [] = tt
    outputs_of (o ∷ outputs) = (refl, outputs_of outputs)

-- those of a later step stay after the lines of a step
module _ (k index : ℕ) (before : k < index) (last : List Line) (of : AreOf index last) where
  record Splits (lines : List Line) : Type 0 where
    pub own : own_lines k (lines ++ last) ≡ own_lines k lines
    pub others : other_lines k (lines ++ last) ≡ other_lines k lines ++ last

  none_own : (ls : List Line) → AreOf index ls → (own_lines k ls ≡ []) × (other_lines k ls ≡ ls)
  none_own [] all = (refl, refl)
  none_own (l ∷ ls) all = cases (eqb l.step k) refl
    where
      cases : (b : Bool) → eqb l.step k ≡ b → ((if b then l ∷ own_lines k ls else []) ≡ []) × ((if b then other_lines k ls else l ∷ ls) ≡ l ∷ ls)
      cases true e = let same = eqb-true l.step k e in let is = all.0 in absurd (omega (arith, before, same, is))
      cases false e = (refl, refl)

  splits : (lines : List Line) → Splits lines
  splits [] = let none = none_own last of in record { own = none.0; others = none.1 }
  splits (l ∷ lines) =
      let rest = splits lines in
      record { own = own_here (eqb l.step k) rest.own; others = others_here (eqb l.step k) rest.others }
    where
      own_here : (b : Bool) → own_lines k (lines ++ last) ≡ own_lines k lines
          → (if b then l ∷ own_lines k (lines ++ last) else []) ≡ (if b then l ∷ own_lines k lines else [])
      own_here true is = ap (λ ls. l ∷ ls) is
      own_here false is = refl

      others_here : (b : Bool) → other_lines k (lines ++ last) ≡ other_lines k lines ++ last
          → (if b then other_lines k (lines ++ last) else l ∷ (lines ++ last)) ≡ (if b then other_lines k lines else l ∷ lines) ++ last
      others_here true is = is
      others_here false is = refl

module _ (nodes : List SetupNode) where
  -- where no step follows, the verdict does not ask what the step told
  last_step : (n : ℕ) (s : Step) (own other : List Line) (book : Book) (place : Option ℕ)
      → judged_on (λ next. Clean) nodes n s own book place ≡ judged_on (λ next. Clean) nodes n s other book place
  last_step n s own other book None = refl
  last_step n s own other book (Some place) = cases (slice_get nodes place) (slice_get book.lives place)
    where
      cases : (node : Option SetupNode) (life : Option LifeKept)
          → judged_at (λ next. Clean) n place s own book node life ≡ judged_at (λ next. Clean) n place s other book node life
      cases None None = refl
      cases None (Some life) = refl
      cases (Some node) None = refl
      cases (Some node) (Some life) = refl

  module _ (index : ℕ) (last : List Line) (of : AreOf index last) where
    judged_before : (steps : List Step) (n : ℕ) → index ≡ n + length steps → (book : Book) (lines : List Line)
        → judged_from nodes n book steps (lines ++ last) ≡ judged_from nodes n book steps lines
    judged_before [] n at book lines = refl
    judged_before (s ∷ []) n at book lines = last_step n s (own_lines (n + 1) (lines ++ last)) (own_lines (n + 1) lines) book (place_of nodes (node_of s))
    judged_before (s ∷ t ∷ steps) n at book lines =
        let split = splits (n + 1) index (omega (arith, at)) last of lines in
        let rest = λ (next : Book). ap (judged_from nodes (suc n) next (t ∷ steps)) split.others ∙ judged_before (t ∷ steps) (suc n) (omega (arith, at)) next (other_lines (n + 1) lines) in
        λ i. judged_on (λ next. rest next i) nodes n s (split.own i) book (place_of nodes (node_of s))

  pub judged_then : (steps : List Step) (lines : List Line) (place : ℕ) (given : Result (List Output) NodeError)
      → judged nodes steps (lines ++ told_lines (length steps) place given) ≡ judged nodes steps lines
  judged_then steps lines place given = judged_before (length steps) (told_lines (length steps) place given) (all_of (length steps) place given) steps 0 (omega arith) (first_book nodes) lines
