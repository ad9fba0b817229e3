-- Each line of a trace tells of the step of its index.
use Rattle.std.proofs.Common.{◌≡◌, ℕ, zero, suc, ◌+◌, ◌≤◌, ◌<◌, Bool, true, false, eqb, cond, List, [], ◌∷◌, ◌++◌, length, slice_get, Some, Ok, arith, refl, sym, ap, subst, ◌∙◌}
use Rattle.std.specs.List.{AllByRecursion, Contains, filter}
use Rattle.std.proofs.lemmas.Bool.{eq-eqb}
use Rattle.std.proofs.lemmas.List.Elements.{Contains-append_right, filter_map-append}
use Rattle.someip_node_rules.specs.declared.config.Config.{Config}
use Rattle.someip_node_rules.proofs.lists.MemberLemmas.{all_weaker, at_member}
use Rattle.someip_world_schedule.specs.declared.step.Step.{Step}
use Rattle.someip_world_setup.specs.declared.setup_node.SetupNode.{SetupNode}
use Rattle.someip_world_rules.specs.declared.line.Line.{Line}
use Rattle.someip_world_rules.specs.Deliveries.{Dispatch, dispatch_at, dispatch_in, dispatches_in}
use Rattle.someip_world_rules.specs.Runs.{run_of, world_of}
use Rattle.someip_world_rules.specs.Turns.{IsOfStep, Turn}
use Rattle.someip_world_rules.proofs.Fronts.{got}
use Rattle.someip_world_rules.proofs.TurnLemmas.{AreWithin, ends_in, told_in_front, told_more, told_turn}

-- what passes a test and is among some is among those that pass it
pub kept : {X : Type 0} (p : X → Bool) (xs : List X) (x : X) → Contains xs x → p x ≡ true → Contains (filter p xs) x
kept {X} p xs x among = at_member (λ y. p y ≡ true → Contains (filter p xs) y) xs x (each xs) among
  where
    behind : (y z : X) (ys : List X) (b : Bool) → Contains ys z → Contains (cond b (y ∷ ys) ys) z
    behind y z ys true there = Contains-append_right (y ∷ []) ys z there
    behind y z ys false there = there

    each : (ys : List X) → AllByRecursion (λ y. p y ≡ true → Contains (filter p ys) y) ys
    each [] = tt
    each (y ∷ ys) = (
      λ passes. subst (λ b. Contains (cond b (y ∷ filter p ys) (filter p ys)) y) (sym passes) (0, omega arith, refl),
      all_weaker (λ z. p z ≡ true → Contains (filter p ys) z) (λ z. p z ≡ true → Contains (filter p (y ∷ ys)) z)
          (λ z goes passes. behind y z (filter p ys) (p y) (goes passes)) ys (each ys),
    )

module _ (nodes : List SetupNode) (configs : List Config) (steps : List Step) (lines : List Line) (line : Line) where
  -- at a step of the schedule
  at_step : (i : ℕ) (s : Step) → run_of nodes configs steps ≡ Ok lines → slice_get steps i ≡ Some s → Contains lines line → line.step ≡ i + 1
      → IsOfStep nodes configs steps line
  at_step i s is here among index =
      let m = told_turn nodes configs steps lines i s is here in
      record {
        i = i;
        index = index;
        s = s;
        turn = m.turn;
        told = subst (λ ls. Contains ls line) m.told (kept (λ l. eqb l.step (i + 1)) lines line among (eq-eqb line.step (i + 1) index));
      }

  pub line_of_step : run_of nodes configs steps ≡ Ok lines → Contains lines line → IsOfStep nodes configs steps line
  line_of_step is among = cases line.step refl inside.0 inside.1
    where
      inside : (1 ≤ line.step) × (line.step < 1 + length steps)
      inside =
          let end = ends_in nodes configs steps lines is in
          let more = told_more nodes 1 (world_of nodes configs) end.0 steps end.1 in
          at_member (λ l. (1 ≤ l.step) × (l.step < 1 + length steps)) lines line (subst (AreWithin 1 (1 + length steps)) (sym more.is ∙ end.2) more.within) among

      cases : (k : ℕ) → line.step ≡ k → 1 ≤ line.step → line.step < 1 + length steps → IsOfStep nodes configs steps line
      cases zero e low high = absurd (omega (arith, e, low))
      cases (suc i) e low high = let one = got steps i (omega (arith, e, high)) in at_step i one.0 is one.1 among (omega (arith, e))

-- ---- what was told before a step

-- what stands in a list stands there in a longer one
get_front : {X : Type 0} (xs ys : List X) (n : ℕ) (x : X) → slice_get xs n ≡ Some x → slice_get (xs ++ ys) n ≡ Some x
get_front [] ys n x is = absurd cc
get_front (y ∷ xs) ys zero x is = is
get_front (y ∷ xs) ys (suc n) x is = get_front xs ys n x is

-- so a datagram has its number in more lines
still_numbered : (before more : List Line) (number : ℕ) (d : Dispatch) → dispatch_at before number ≡ Some d → dispatch_at (before ++ more) number ≡ Some d
still_numbered before more zero d is = absurd cc
still_numbered before more (suc n) d is =
    ap (λ ds. slice_get ds n) (filter_map-append dispatch_in before more) ∙ get_front (dispatches_in before) (dispatches_in more) n d is

pub numbered_in_trace : (nodes : List SetupNode) (configs : List Config) (steps : List Step) (lines : List Line) (i : ℕ) (s : Step) (t : Turn nodes configs steps i s)
    → run_of nodes configs steps ≡ Ok lines → (number : ℕ) (d : Dispatch) → dispatch_at t.before.lines number ≡ Some d → dispatch_at lines number ≡ Some d
numbered_in_trace nodes configs steps lines i s t is number d at =
    let front = told_in_front nodes configs steps lines i s is t in
    ap (λ ls. dispatch_at ls number) front.1 ∙ still_numbered t.before.lines front.0 number d at
