-- What each rule of a plan keeps, the plan keeps; and what a plan does is what its rules do, one after the other.
use Rattle.std.proofs.Common.{◌≡◌, List, [], ◌∷◌, ◌++◌, refl, ap, sym, ◌∙◌, subst, subst₂}
use Rattle.std.specs.List.{AllByRecursion, flat_map}
use Rattle.std.proofs.lemmas.Grind.{flat_map-append, fold-append}
use Rattle.std.proofs.lemmas.List.{append-nil, append_assoc}
use Rattle.someip_node_rules.specs.declared.output.Output.{Output}
use Rattle.someip_node_rules.specs.histories.History.{History, answers_of, historic, met}
use Rattle.someip_node_rules.specs.forms.Outputs.{written}
use Rattle.someip_node_rules.specs.rules.Plans.{Plan, rest, act, both, asks, replying, Rule, Kept, Work, does, rule, run}
use Rattle.someip_node_rules.specs.trails.Trails.{Done, after, given_by, met_by, outcome_of, trail}
use Rattle.someip_node_rules.proofs.lists.MemberLemmas.{all_append}

-- ---- the principle

module _ {S : Type 0} (k : Kept S) (P : Work S → Type 0) (May : Rule → Work S → Type 0) where
  -- each rule of a plan may be done where it is done, as long as P holds
  abbrev pub Allows : Plan → Work S → Type 0
  Allows rest w = Unit {0}
  Allows (act r) w = May r w
  Allows (both p q) w = Allows p w × (P (run k p w) → Allows q (run k p w))
  Allows (asks f) w = Allows (f (k.ask w.state)) w
  Allows (replying f) w = P (record w { replies = [] }) → Allows (f w.replies) (record w { replies = [] })

  module _ (keeps : (r : Rule) (w : Work S) → P w → May r w → P (does k (rule r) w)) (forgets : (w : Work S) → P w → P (record w { replies = [] })) where
    -- what held of the work before holds after
    pub run_keeps : (p : Plan) (w : Work S) → P w → Allows p w → P (run k p w)
    run_keeps rest w h a = h
    run_keeps (act r) w h a = keeps r w h a
    run_keeps (both p q) w h a = let then : P (run k p w) = run_keeps p w h a.0 in run_keeps q (run k p w) then (a.1 then)
    run_keeps (asks f) w h a = run_keeps (f (k.ask w.state)) w h a
    run_keeps (replying f) w h a = let none : P (record w { replies = [] }) = forgets w h in run_keeps (f w.replies) (record w { replies = [] }) none (a none)

-- each rule that was done might be done, and P held where it was done
module _ (P : Work History → Type 0) (May : Rule → Work History → Type 0)
    (keeps : (r : Rule) (w : Work History) → P w → May r w → P (does historic (rule r) w)) (forgets : (w : Work History) → P w → P (record w { replies = [] })) where
  abbrev pub Might : Done → Type 0
  Might done = P done.before × May done.by done.before

  pub trail_keeps : (p : Plan) (w : Work History) → P w → Allows historic P May p w → AllByRecursion Might (trail p w)
  trail_keeps rest w h a = tt
  trail_keeps (act r) w h a = ((h, a), tt)
  trail_keeps (both p q) w h a =
      let then : P (run historic p w) = run_keeps historic P May keeps forgets p w h a.0 in
      all_append Might (trail p w) (trail q (run historic p w)) (trail_keeps p w h a.0) (trail_keeps q (run historic p w) then (a.1 then))
  trail_keeps (asks f) w h a = trail_keeps (f (answers_of w.state)) w h a
  trail_keeps (replying f) w h a =
      let none : P (record w { replies = [] }) = forgets w h in trail_keeps (f w.replies) (record w { replies = [] }) none (a none)

-- ---- what a plan does

abbrev told_by : List Done → List Output
told_by dones = flat_map written (given_by dones)

joined : (os : List Output) (xs ys : List Done) → os ++ told_by xs ++ told_by ys ≡ os ++ told_by (xs ++ ys)
joined os xs ys =
    append_assoc os (told_by xs) (told_by ys)
    ∙ ap (λ x. os ++ x) (sym (ap (flat_map written) (flat_map-append (λ (done : Done). (outcome_of done).given) xs ys) ∙ flat_map-append written (given_by xs) (given_by ys)))

pub outputs_of_run : (p : Plan) (w : Work History) → (run historic p w).outputs ≡ w.outputs ++ told_by (trail p w)
outputs_of_run rest w = sym (append-nil w.outputs)
outputs_of_run (act r) w = ap (λ x. w.outputs ++ flat_map written x) (sym (append-nil (rule r (answers_of w.state)).given))
outputs_of_run (both p q) w =
    outputs_of_run q (run historic p w) ∙ ap (λ x. x ++ told_by (trail q (run historic p w))) (outputs_of_run p w)
    ∙ joined w.outputs (trail p w) (trail q (run historic p w))
outputs_of_run (asks f) w = outputs_of_run (f (answers_of w.state)) w
outputs_of_run (replying f) w = outputs_of_run (f w.replies) (record w { replies = [] })

met-append : (h : History) (xs ys : List Done) → after (after h (met_by xs)) (met_by ys) ≡ after h (met_by (xs ++ ys))
met-append h xs ys = sym (ap (after h) (flat_map-append (λ (done : Done). (outcome_of done).items) xs ys) ∙ fold-append met h (met_by xs) (met_by ys))

pub state_of_run : (p : Plan) (w : Work History) → (run historic p w).state ≡ after w.state (met_by (trail p w))
state_of_run rest w = refl
state_of_run (act r) w = ap (after w.state) (sym (append-nil (rule r (answers_of w.state)).items))
state_of_run (both p q) w =
    state_of_run q (run historic p w) ∙ ap (λ s. after s (met_by (trail q (run historic p w)))) (state_of_run p w) ∙ met-append w.state (trail p w) (trail q (run historic p w))
state_of_run (asks f) w = state_of_run (f (answers_of w.state)) w
state_of_run (replying f) w = state_of_run (f w.replies) (record w { replies = [] })

-- ---- where each rule was done

-- the rules are done one after the other, each at the work that those before it left
abbrev IsChain : History → List Output → List Done → Type 0
IsChain s os [] = Unit {0}
IsChain s os (d ∷ ds) =
    (d.before.state ≡ s) × (d.before.outputs ≡ os) × IsChain (after s (outcome_of d).items) (os ++ flat_map written (outcome_of d).given) ds

told-more : (os : List Output) (d : Done) (ds : List Done) → os ++ told_by (d ∷ ds) ≡ os ++ flat_map written (outcome_of d).given ++ told_by ds
told-more os d ds = ap (λ x. os ++ x) (flat_map-append written (outcome_of d).given (given_by ds)) ∙ sym (append_assoc os (flat_map written (outcome_of d).given) (told_by ds))

met-more : (s : History) (d : Done) (ds : List Done) → after s (met_by (d ∷ ds)) ≡ after (after s (outcome_of d).items) (met_by ds)
met-more s d ds = fold-append met s (outcome_of d).items (met_by ds)

chain-append : (s : History) (os : List Output) (xs ys : List Done) → IsChain s os xs → IsChain (after s (met_by xs)) (os ++ told_by xs) ys → IsChain s os (xs ++ ys)
chain-append s os [] ys h g = subst (λ x. IsChain s x ys) (append-nil os) g
chain-append s os (d ∷ ds) ys h g = (
  h.0,
  h.1,
  chain-append (after s (outcome_of d).items) (os ++ flat_map written (outcome_of d).given) ds ys h.2
      (subst₂ (λ t x. IsChain t x ys) (met-more s d ds) (told-more os d ds) g),
)

chain_of_run : (p : Plan) (w : Work History) → IsChain w.state w.outputs (trail p w)
chain_of_run rest w = tt
chain_of_run (act r) w = (refl, refl, tt)
chain_of_run (both p q) w =
    chain-append w.state w.outputs (trail p w) (trail q (run historic p w)) (chain_of_run p w)
    (subst₂ (λ t x. IsChain t x (trail q (run historic p w))) (state_of_run p w) (outputs_of_run p w) (chain_of_run q (run historic p w)))
chain_of_run (asks f) w = chain_of_run (f (answers_of w.state)) w
chain_of_run (replying f) w = chain_of_run (f w.replies) (record w { replies = [] })

chain_at : (s : History) (os : List Output) (earlier later : List Done) (d : Done) → IsChain s os (earlier ++ d ∷ later)
    → (d.before.state ≡ after s (met_by earlier)) × (d.before.outputs ≡ os ++ told_by earlier)
chain_at s os [] later d h = (h.0, h.1 ∙ sym (append-nil os))
chain_at s os (e ∷ es) later d h =
    let rest = chain_at (after s (outcome_of e).items) (os ++ flat_map written (outcome_of e).given) es later d h.2 in
    (rest.0 ∙ sym (met-more s e es), rest.1 ∙ sym (told-more os e es))

-- a rule is done at what those before it left
pub before_each : (p : Plan) (w : Work History) (earlier later : List Done) (d : Done) → trail p w ≡ earlier ++ d ∷ later
    → (d.before.state ≡ after w.state (met_by earlier)) × (d.before.outputs ≡ w.outputs ++ told_by earlier)
before_each p w earlier later d is = chain_at w.state w.outputs earlier later d (subst (IsChain w.state w.outputs) is (chain_of_run p w))
