-- What each step keeps holds on the way of a run; and a step of a front of a schedule is a step of the schedule.
use Rattle.std.proofs.Common.{◌≡◌, ◌≢◌, ℕ, zero, suc, ◌+◌, ◌<◌, ◌≤◌, List, [], ◌∷◌, length, arith, take, slice_get, slice_set, Some, Ok, refl, sym, ap, subst, ◌∙◌}
use Rattle.std.specs.List.{AllByRecursion}
use Rattle.std.proofs.lemmas.List.{take_all}
use Rattle.someip_node_rules.specs.declared.config.Config.{Config}
use Rattle.someip_world_schedule.specs.declared.step.Step.{Step}
use Rattle.someip_world_setup.specs.declared.setup_node.SetupNode.{SetupNode}
use Rattle.someip_world_rules.specs.Deeds.{done_with}
use Rattle.someip_world_rules.specs.Runs.{World, world_after, world_of}
use Rattle.someip_world_rules.specs.Turns.{LeadTo, Turn}
use Rattle.someip_world_rules.proofs.TurnLemmas.{turn_in}

-- ---- fronts of lists

pub got : {X : Type 0} (xs : List X) (i : ℕ) → i < length xs → (x : X) × (slice_get xs i ≡ Some x)
got [] i lt = absurd (omega (arith, lt))
got (x ∷ xs) zero lt = (x, refl)
got (x ∷ xs) (suc i) lt = got xs i (omega (arith, lt))

pub within : {X : Type 0} (xs : List X) (i : ℕ) (x : X) → slice_get xs i ≡ Some x → i < length xs
within [] i x is = absurd cc
within (y ∷ xs) zero x is = omega arith
within (y ∷ xs) (suc i) x is = let rest = within xs i x is in omega (arith, rest)

pub take_within : {X : Type 0} (xs : List X) (k i : ℕ) (x : X) → slice_get (take k xs) i ≡ Some x → (i < k) × (slice_get xs i ≡ Some x)
take_within xs zero i x is = absurd cc
take_within [] (suc k) i x is = absurd cc
take_within (y ∷ xs) (suc k) zero x is = (omega arith, is)
take_within (y ∷ xs) (suc k) (suc i) x is = let rest = take_within xs k i x is in let less = rest.0 in (omega (arith, less), rest.1)

pub take_get : {X : Type 0} (xs : List X) (k i : ℕ) (x : X) → i < k → slice_get xs i ≡ Some x → slice_get (take k xs) i ≡ Some x
take_get xs zero i x lt is = absurd (omega (arith, lt))
take_get [] (suc k) i x lt is = absurd cc
take_get (y ∷ xs) (suc k) zero x lt is = is
take_get (y ∷ xs) (suc k) (suc i) x lt is = take_get xs k i x (omega (arith, lt)) is

pub take_less : {X : Type 0} (xs : List X) (i k : ℕ) → i ≤ k → take i (take k xs) ≡ take i xs
take_less xs zero k le = refl
take_less xs (suc i) zero le = absurd (omega (arith, le))
take_less [] (suc i) (suc k) le = refl
take_less (x ∷ xs) (suc i) (suc k) le = ap (λ ys. x ∷ ys) (take_less xs i k (omega (arith, le)))

pub all_got : {X : Type 0} (P : X → Type 0) (xs : List X) (n : ℕ) (x : X) → AllByRecursion P xs → slice_get xs n ≡ Some x → P x
all_got P [] n x all is = absurd cc
all_got P (y ∷ xs) zero x all is = let same : y ≡ x = cc in subst P same all.0
all_got P (y ∷ xs) (suc n) x all is = all_got P xs n x all.1 is

-- a place of a list that is set, and each other
pub get_set_same : {X : Type 0} (xs : List X) (k : ℕ) (x y : X) → slice_get (slice_set xs k x) k ≡ Some y → y ≡ x
get_set_same [] k x y is = absurd cc
get_set_same (z ∷ xs) zero x y is = cc
get_set_same (z ∷ xs) (suc k) x y is = get_set_same xs k x y is

pub get_set_there : {X : Type 0} (xs : List X) (k : ℕ) (x y : X) → slice_get xs k ≡ Some y → slice_get (slice_set xs k x) k ≡ Some x
get_set_there [] k x y is = absurd cc
get_set_there (z ∷ xs) zero x y is = refl
get_set_there (z ∷ xs) (suc k) x y is = get_set_there xs k x y is

pub get_set_other : {X : Type 0} (xs : List X) (k j : ℕ) (x : X) → j ≢ k → slice_get (slice_set xs k x) j ≡ slice_get xs j
get_set_other [] k j x ne = refl
get_set_other (z ∷ xs) zero zero x ne = absurd (ne refl)
get_set_other (z ∷ xs) zero (suc j) x ne = refl
get_set_other (z ∷ xs) (suc k) zero x ne = refl
get_set_other (z ∷ xs) (suc k) (suc j) x ne = get_set_other xs k j x (λ e. ne (ap suc e))

-- ---- steps

module _ (nodes : List SetupNode) (configs : List Config) (steps : List Step) where
  -- a step of a front is a step of the whole
  pub widened : (k i : ℕ) (s : Step) → Turn nodes configs (take k steps) i s → Turn nodes configs steps i s
  widened k i s t =
      let here = take_within steps k i s t.here in
      let less = here.0 in
      record {
        here = here.1;
        before = t.before;
        led = subst (λ ss. LeadTo nodes configs ss t.before) (take_less steps i k (omega (arith, less))) t.led;
        place = t.place;
        named = t.named;
        history = t.history;
        stands = t.stands;
        deed = t.deed;
        due = t.due;
        leads = subst (λ ss. LeadTo nodes configs ss (world_after (i + 1) t.place t.before t.history (done_with t.history t.deed)))
            (take_less steps (i + 1) k (omega (arith, less))) t.leads;
      }

  -- a world at the end is one on the way, after all steps
  pub whole_leads : (w : World) → LeadTo nodes configs steps w → LeadTo nodes configs (take (length steps) steps) w
  whole_leads w led = subst (λ ss. LeadTo nodes configs ss w) (sym (take_all (length steps) steps (omega arith))) led

  pub one_world : (ss : List Step) (v w : World) → LeadTo nodes configs ss v → LeadTo nodes configs ss w → v ≡ w
  one_world ss v w a b = let same : Ok v ≡ Ok w = sym a ∙ b in cc

  -- before each step there is one world, in which the node that it names has one history
  module _ (P : ℕ → World → Type 0) (first : P 0 (world_of nodes configs))
      (next : (i : ℕ) (s : Step) (t : Turn nodes configs steps i s) → P i t.before → P (suc i) (world_after (i + 1) t.place t.before t.history (done_with t.history t.deed))) where
    pub on_the_way : (n : ℕ) (w : World) → n ≤ length steps → LeadTo nodes configs (take n steps) w → P n w
    on_the_way zero w le led = subst (P 0) (one_world [] (world_of nodes configs) w refl led) first
    on_the_way (suc n) w le led =
        let here = got steps n (omega (arith, le)) in
        let t = widened (suc n) n here.0 (turn_in nodes configs (take (suc n) steps) [] n here.0 w led (take_get steps (suc n) n here.0 (omega arith) here.1)) in
        let counted : n + 1 ≡ suc n = omega arith in
        let after : World = world_after (n + 1) t.place t.before t.history (done_with t.history t.deed) in
        let leads : LeadTo nodes configs (take (suc n) steps) after = subst (λ k. LeadTo nodes configs (take k steps) after) counted t.leads in
        subst (P (suc n)) (one_world (take (suc n) steps) after w leads led) (next n here.0 t (on_the_way n t.before (omega (arith, le)) t.led))
