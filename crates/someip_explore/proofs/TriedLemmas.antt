-- Which schedules are tried: exactly those that go on step by step. And what begins with a bad step is bad.
use Rattle.std.proofs.Common.{◌≡◌, ℕ, zero, suc, ◌+◌, ◌<◌, ◌≤◌, ◌⊎◌, inl, inr, List, [], ◌∷◌, ◌++◌, length, flat_map, slice_index_or, Result, Ok, Err, refl, sym, ap, subst, ◌∙◌, arith, append_assoc, append-nil}
use Rattle.std.specs.List.{Contains}
use Rattle.std.proofs.lemmas.Bool.{cases_lt}
use Rattle.std.proofs.lemmas.List.Elements.{Contains-append_left, Contains-append_right, Contains-append_cases}
use Rattle.someip_world_schedule.specs.declared.step.Step.{Step}
use Rattle.someip_world_setup.specs.declared.setup_node.SetupNode.{SetupNode}
use Rattle.someip_world_rules.specs.Runs.{World, happens, run_from, run_lines, then_on, world_of}
use Rattle.someip_world_rules.specs.declared.error.RunError.{RunError}
use Rattle.someip_world_rules.specs.declared.step_fault.StepFault.{StepFault}
use Rattle.someip_explore.specs.Search.{MayGoOn, longer_by, up_to}
use Rattle.someip_explore.specs.Traces.{own_configs, trace_of}

-- ---- elements of what is made of each

among_flat : {X Y : Type 0} (f : X → List Y) (xs : List X) (s : X) (x : Y) (k : ℕ) → k < length xs → slice_index_or xs k s ≡ s → Contains (f s) x → Contains (flat_map f xs) x
among_flat f [] s x k lt is inside = absurd (omega (arith, lt))
among_flat f (y ∷ ys) s x zero lt is inside = Contains-append_left (f y) (flat_map f ys) x (subst (λ z. Contains (f z) x) (sym is) inside)
among_flat f (y ∷ ys) s x (suc k) lt is inside = Contains-append_right (f y) (flat_map f ys) x (among_flat f ys s x k (omega (arith, lt)) is inside)

one_more : {X : Type 0} (y : X) (ys : List X) (s : X) → Contains ys s → Contains (y ∷ ys) s
one_more y ys s inside = (suc inside.0, let lt = inside.1 in omega (arith, lt), inside.2)

pub from_flat : {X Y : Type 0} (f : X → List Y) (xs : List X) (x : Y) → Contains (flat_map f xs) x → (s : X) × Contains xs s × Contains (f s) x
from_flat f [] x inside = let lt = inside.1 in absurd (omega (arith, lt))
from_flat f (y ∷ ys) x inside = cases (from_flat f ys x) (Contains-append_cases (f y) (flat_map f ys) x inside)
  where
    cases : (Contains (flat_map f ys) x → (s : _) × Contains ys s × Contains (f s) x) → Contains (f y) x ⊎ Contains (flat_map f ys) x → (s : _) × Contains (y ∷ ys) s × Contains (f s) x
    cases others (inl here) = (y, (0, omega arith, refl), here)
    cases others (inr there) = let found = others there in (found.0, one_more y ys found.0 found.1, found.2)

module _ {S : Type 0} (next : List S → List S) where
  -- ---- what goes on is tried

  longer_tried : (n : ℕ) (before more : List S) → length more ≡ n → MayGoOn next before more → Contains (longer_by next n before) (before ++ more)
  longer_tried zero before [] len goes = (0, omega arith, sym (append-nil before))
  longer_tried zero before (s ∷ more) len goes = absurd (omega (arith, len))
  longer_tried (suc n) before [] len goes = absurd (omega (arith, len))
  longer_tried (suc n) before (s ∷ more) len goes =
      among_flat (λ s. longer_by next n (before ++ s ∷ [])) (next before) s (before ++ s ∷ more) goes.0.0 goes.0.1 goes.0.2
      (subst (Contains (longer_by next n (before ++ s ∷ []))) (append_assoc before (s ∷ []) more) (longer_tried n (before ++ s ∷ []) more (omega (arith, len)) goes.1))

  pub tried : (n : ℕ) (before more : List S) → length more ≤ n → MayGoOn next before more → Contains (up_to next n before) (before ++ more)
  tried zero before more le goes = longer_tried 0 before more (omega (arith, le)) goes
  tried (suc n) before more le goes = elim (cases_lt (length more) (suc n)) [
    | inl lt ↦ Contains-append_left (up_to next n before) (longer_by next (suc n) before) (before ++ more) (tried n before more (omega (arith, lt)) goes)
    | inr ge ↦ Contains-append_right (up_to next n before) (longer_by next (suc n) before) (before ++ more) (longer_tried (suc n) before more (omega (arith, le, ge)) goes)
  ]

  -- ---- what is tried goes on

  abbrev GoesOn : ℕ → List S → List S → Type 0
  GoesOn n before x = (more : List S) × (x ≡ before ++ more) × (length more ≡ n) × MayGoOn next before more

  first_only : (before x : List S) (k : ℕ) → k < 1 → slice_index_or (before ∷ []) k x ≡ x → GoesOn 0 before x
  first_only before x zero lt is = ([], sym is ∙ sym (append-nil before), refl, tt)
  first_only before x (suc k) lt is = absurd (omega (arith, lt))

  from_longer : (n : ℕ) (before x : List S) → Contains (longer_by next n before) x → GoesOn n before x
  from_longer zero before x inside = first_only before x inside.0 inside.1 inside.2
  from_longer (suc n) before x inside =
      let found = from_flat (λ s. longer_by next n (before ++ s ∷ [])) (next before) x inside in
      let rest = from_longer n (before ++ found.0 ∷ []) x found.2 in
      (found.0 ∷ rest.0, rest.1 ∙ append_assoc before (found.0 ∷ []) rest.0, (λ i. suc (rest.2 i)), (found.1, rest.3))

  pub from_tried : (n : ℕ) (before x : List S) → Contains (up_to next n before) x → (more : List S) × (x ≡ before ++ more) × (length more ≤ n) × MayGoOn next before more
  from_tried zero before x inside =
      let found = from_longer 0 before x inside in let len = found.2 in (found.0, found.1, omega (arith, len), found.3)
  from_tried (suc n) before x inside =
      cases (from_tried n before x) (Contains-append_cases (up_to next n before) (longer_by next (suc n) before) x inside)
    where
      cases : (Contains (up_to next n before) x → (more : List S) × (x ≡ before ++ more) × (length more ≤ n) × MayGoOn next before more)
          → Contains (up_to next n before) x ⊎ Contains (longer_by next (suc n) before) x → (more : List S) × (x ≡ before ++ more) × (length more ≤ suc n) × MayGoOn next before more
      cases shorter (inl here) = let found = shorter here in let le = found.2 in (found.0, found.1, omega (arith, le), found.3)
      cases shorter (inr there) = let found = from_longer (suc n) before x there in let len = found.2 in (found.0, found.1, omega (arith, len), found.3)

-- ---- bad steps

bad_from : (nodes : List SetupNode) (index : ℕ) (w : World) (xs ys : List Step) (error : RunError) → run_from nodes index w xs ≡ Err error → run_from nodes index w (xs ++ ys) ≡ Err error
bad_from nodes index w [] ys error is = absurd cc
bad_from nodes index w (s ∷ xs) ys error is = cases (λ v. bad_from nodes (index + 1) v xs ys error) (happens nodes index w s) is
  where
    cases : ((v : World) → run_from nodes (index + 1) v xs ≡ Err error → run_from nodes (index + 1) v (xs ++ ys) ≡ Err error) → (found : Result World StepFault)
        → then_on index found (λ v. run_from nodes (index + 1) v xs) ≡ Err error → then_on index found (λ v. run_from nodes (index + 1) v (xs ++ ys)) ≡ Err error
    cases on (Ok v) is = on v is
    cases on (Err fault) is = is

pub bad_on : (nodes : List SetupNode) (before more : List Step) (error : RunError) → trace_of nodes before ≡ Err error → trace_of nodes (before ++ more) ≡ Err error
bad_on nodes before more error is =
    ap run_lines (bad_from nodes 1 (world_of nodes (own_configs nodes)) before more error (cases (run_from nodes 1 (world_of nodes (own_configs nodes)) before) is))
  where
    cases : (due : Result World RunError) → run_lines due ≡ Err error → due ≡ Err error
    cases (Ok w) is = absurd cc
    cases (Err other) is = let same : other ≡ error = cc in ap Err same
