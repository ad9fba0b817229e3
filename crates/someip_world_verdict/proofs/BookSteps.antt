-- What is kept of a run after a step says of the steps before what it should.
use Rattle.std.proofs.Common.{◌≡◌, ◌+◌, ◌==◌, ℕ, zero, suc, Bool, true, false, if◌then◌else◌, List, [], ◌∷◌, append-nil, slice_get, slice_set, Some, Result, Ok, Err, refl, sym, ap, subst, ◌∙◌}
use Rattle.std.specs.List.{AllZip}
use Rattle.std.specs.declared.net.socket_addr.SocketAddrV4.{SocketAddrV4}
use Rattle.std.proofs.lemmas.Bool.{eqb-true, eqb-false}
use Rattle.std.proofs.lemmas.List.Elements.{filter_map-append}
use Rattle.someip_node_rules.specs.trails.Copies.{IsCopy}
use Rattle.someip_node_rules.specs.forms.GoodConfigs.{is_good}
use Rattle.someip_node_rules.specs.histories.History.{History, start_of}
use Rattle.someip_node_rules.specs.rules.Inputs.{Input}
use Rattle.someip_node_rules.specs.rules.Plans.{Work}
use Rattle.someip_node_rules.specs.steps.Steps.{given_in, step, work_on}
use Rattle.someip_node_rules.specs.declared.config.Config.{Config}
use Rattle.someip_node_rules.specs.declared.error.NodeError.{NodeError}
use Rattle.someip_node_rules.specs.declared.output.Output.{Output}
use Rattle.someip_node_rules.specs.declared.output.Output.TheVariants.{Sent}
use Rattle.someip_world_schedule.specs.declared.step.Step.{Step}
use Rattle.someip_world_setup.specs.declared.setup_node.SetupNode.{SetupNode}
use Rattle.someip_world_rules.specs.Announced.{AllFits}
use Rattle.someip_world_rules.specs.Deeds.{Deed, Takes, Restarts, Injects, done_with}
use Rattle.someip_world_rules.specs.Runs.{told_lines, world_after}
use Rattle.someip_world_rules.specs.Turns.{Turn}
use Rattle.someip_world_rules.proofs.Fronts.{get_set_other, get_set_same}
use Rattle.someip_world_rules.specs.Deliveries.{dispatch_in, dispatches_in}
use Rattle.someip_world_verdict.specs.Books.{Book, LifeKept, PayloadNumbers}
use Rattle.someip_world_verdict.specs.Booking.{Openings, booked, booked_of_liar, booked_of_node, is_injection, is_refused, life_after, long_payload_of, numbered, openings_after}
use Rattle.someip_world_verdict.proofs.keeping.KeySteps.{counters_kept, taken_kept}
use Rattle.someip_world_verdict.proofs.InjectedSteps.{injection_does_nothing, injects_so, restart_no_injection, taken_no_injection}
use Rattle.someip_world_verdict.proofs.Kept.{IsNoted, KeepsLife, KeepsTaken, Kept, PayloadsGrow}
use Rattle.someip_world_verdict.proofs.lives.LifeSpans.{other_life}
use Rattle.someip_world_verdict.proofs.lives.LifeSteps.{injection_life, refused_life}
use Rattle.someip_world_verdict.proofs.noting.NoteSteps.{notes_kept, notes_of_liar}
use Rattle.someip_world_verdict.proofs.noting.NumberSteps.{numbers_kept, numbers_stay}
use Rattle.someip_world_verdict.proofs.lives.RestartSteps.{restarted_life}
use Rattle.someip_world_verdict.proofs.lives.TakenLives.{taken_life}
use Rattle.someip_world_verdict.proofs.keeping.TakenSteps.{counters_restarted, still_taken, taken_refused, taken_restarted}

-- what is set at a place that is there, is there
set_there : {X : Type 0} (xs : List X) (k : ℕ) (x y : X) → slice_get xs k ≡ Some y → slice_get (slice_set xs k x) k ≡ Some x
set_there [] k x y is = absurd cc
set_there (z ∷ xs) zero x y is = refl
set_there (z ∷ xs) (suc k) x y is = set_there xs k x y is

-- what is there already changes nothing
set_same : {X : Type 0} (xs : List X) (k : ℕ) (x : X) → slice_get xs k ≡ Some x → slice_set xs k x ≡ xs
set_same [] k x is = refl
set_same (z ∷ xs) zero x is = let same : x ≡ z = cc in ap (λ y. y ∷ xs) same
set_same (z ∷ xs) (suc k) x is = ap (λ ys. z ∷ ys) (set_same xs k x is)

-- lines that tell of outputs tell of no refusal
none_refused : (index place : ℕ) (os : List Output) → is_refused (told_lines index place (Ok os)) ≡ false
none_refused index place [] = refl
none_refused index place (o ∷ os) = none_refused index place os

module _ (nodes : List SetupNode) (configs : List Config) (ss : List Step) (fits : AllFits nodes configs ss)
    (well : (place : ℕ) (c : Config) → slice_get configs place ≡ Some c → is_good c ≡ true)
    (n : ℕ) (s : Step) (t : Turn nodes configs ss n s) (here : slice_get configs t.place ≡ Some t.history.config) (book : Book) (kept : Kept nodes configs ss n t.before book)
    (life : LifeKept) (at : slice_get book.lives t.place ≡ Some life) (config : Config) (copy : IsCopy config t.history.config) where
  -- what is kept of the node that acts
  own_life : KeepsLife nodes configs ss book.payloads n t.place t.history life
  own_life =
      let there = kept.lives t.place t.history t.stands in
      let lives = there.1 in
      let same : there.0 ≡ life = cc in
      subst (KeepsLife nodes configs ss book.payloads n t.place t.history) same there.2

  -- what is kept of all nodes, where one has a new life
  abbrev HasLives : PayloadNumbers → List History → List LifeKept → Type 0
  HasLives payloads hs lives =
      (place : ℕ) (h : History) → slice_get hs place ≡ Some h → (l : LifeKept) × (slice_get lives place ≡ Some l) × KeepsLife nodes configs ss payloads (suc n) place h l

  lives_kept : (more : PayloadNumbers) → PayloadsGrow book.payloads more → (next : History) (new : LifeKept) → KeepsLife nodes configs ss more (suc n) t.place next new
      → HasLives more (slice_set t.before.histories t.place next) (slice_set book.lives t.place new)
  lives_kept more grow next new keeps place h is = cases (place == t.place) refl
    where
      cases : (b : Bool) → (place == t.place) ≡ b → (l : LifeKept) × (slice_get (slice_set book.lives t.place new) place ≡ Some l) × KeepsLife nodes configs ss more (suc n) place h l
      cases true e =
          let same : place ≡ t.place = eqb-true place t.place e in
          let now = get_set_same t.before.histories t.place next h (subst (λ p. slice_get (slice_set t.before.histories t.place next) p ≡ Some h) same is) in (
            new,
            ap (slice_get (slice_set book.lives t.place new)) same ∙ set_there book.lives t.place new life at,
            subst (λ p. KeepsLife nodes configs ss more (suc n) p h new) (sym same) (subst (λ x. KeepsLife nodes configs ss more (suc n) t.place x new) (sym now) keeps),
          )
      cases false e =
          let other = eqb-false place t.place e in
          let there = kept.lives place h (sym (get_set_other t.before.histories t.place place next other) ∙ is) in (
            there.0,
            get_set_other book.lives t.place place new other ∙ there.1,
            other_life nodes configs ss n s t book.payloads more grow place other h there.0 there.2,
          )

  abbrev booked_with : Result (Work History) NodeError → Book
  booked_with due = booked config n t.place s (told_lines (n + 1) t.place (given_in due)) life book

  abbrev KeptWith : Result (Work History) NodeError → Type 0
  KeptWith due = Kept nodes configs ss (suc n) (world_after (n + 1) t.place t.before t.history due) (booked_with due)

  -- ---- an input that is refused

  refused_kept : (input : Input) → t.deed ≡ Takes input → (refusal : NodeError) → step t.history input ≡ Err refusal → KeptWith (Err refusal)
  refused_kept input is refusal refused = record {
    taken = taken_refused nodes configs ss n s t input is refusal refused book.taken kept.taken;
    notes = subst (λ ds. AllZip (IsNoted nodes configs ss book.payloads) ds book.notes)
        (sym (filter_map-append dispatch_in t.before.lines (told_lines (n + 1) t.place (Err refusal)) ∙ append-nil (dispatches_in t.before.lines))) kept.notes;
    lives = subst (HasLives book.payloads (slice_set t.before.histories t.place t.history)) (set_same book.lives t.place life at)
        (lives_kept book.payloads (λ payload number is. is) t.history life (refused_life nodes configs ss n s t input is refusal refused book.payloads book.payloads (λ payload number is. is) life own_life));
    payloads = kept.payloads;
  }

  -- ---- where nothing is refused

  -- what is kept of what a node or a liar changes is kept of what is booked
  booked_as : (due : Result (Work History) NodeError) (os : List Output) (next : Book) → given_in due ≡ Ok os
      → (if is_injection s then booked_of_liar n book else booked_of_node config n t.place s (told_lines (n + 1) t.place (Ok os)) life book) ≡ next
      → Kept nodes configs ss (suc n) (world_after (n + 1) t.place t.before t.history due) next → KeptWith due
  booked_as due os next gives is kept =
      subst (Kept nodes configs ss (suc n) (world_after (n + 1) t.place t.before t.history due))
      (sym ((λ i. booked config n t.place s (told_lines (n + 1) t.place (gives i)) life book)
      ∙ (λ i. if none_refused (n + 1) t.place os i then book else if is_injection s then booked_of_liar n book else booked_of_node config n t.place s (told_lines (n + 1) t.place (Ok os)) life book)
      ∙ is)) kept

  -- ---- one that is taken, and a start

  -- what is kept of a step of a node with outputs, part by part
  of_outputs : is_injection s ≡ false → (done : Work History) (o : Openings)
      → openings_after config book.notes book.taken life n s (told_lines (n + 1) t.place (Ok done.outputs)) ≡ o
      → KeepsTaken nodes configs ss (suc n) o.taken
      → KeepsLife nodes configs ss (numbered n (long_payload_of s) book.payloads) (suc n) t.place done.state (life_after config book.notes life s (told_lines (n + 1) t.place (Ok done.outputs)) o.counters)
      → KeptWith (Ok done)
  of_outputs own done o is taken lives =
      let lines = told_lines (n + 1) t.place (Ok done.outputs) in
      let grow = numbers_stay book.payloads n (long_payload_of s) in
      let more = numbered n (long_payload_of s) book.payloads in
      booked_as (Ok done) done.outputs (booked_of_node config n t.place s lines life book) refl
      (λ i. if own i then booked_of_liar n book else booked_of_node config n t.place s lines life book)
      (record {
        taken = subst (λ x. KeepsTaken nodes configs ss (suc n) x.taken) (sym is) taken;
        notes = notes_kept nodes configs ss n book life s t own kept.notes own_life done.outputs grow;
        lives = subst (λ x. HasLives more (slice_set t.before.histories t.place done.state) (slice_set book.lives t.place (life_after config book.notes life s lines x.counters))) (sym is)
            (lives_kept more grow done.state (life_after config book.notes life s lines o.counters) lives);
        payloads = numbers_kept nodes configs ss book.payloads kept.payloads n s t.here;
      })

  taken_input : (input : Input) → t.deed ≡ Takes input → (done : Work History) → step t.history input ≡ Ok done → KeptWith (Ok done)
  taken_input input is done did =
      let lines = told_lines (n + 1) t.place (Ok done.outputs) in
      let more = numbered n (long_payload_of s) book.payloads in
      let o = openings_after config book.notes book.taken life n s lines in
      of_outputs (taken_no_injection nodes configs ss n s t input is) done o refl
      (taken_kept nodes configs ss n s t fits (well t.place t.history.config here) input is done did config copy book.payloads book.notes book.taken life own_life kept.taken)
      (taken_life nodes configs ss n s t fits well input is done did config copy book kept life own_life o.counters
      (counters_kept nodes configs ss n s t fits (well t.place t.history.config here) input is done did config copy book.payloads book.notes book.taken life own_life)
      more (numbers_stay book.payloads n (long_payload_of s)))

  started : (delay : ℕ) → t.deed ≡ Restarts delay → KeptWith (done_with t.history (Restarts delay))
  started delay is =
      let more = numbered n (long_payload_of s) book.payloads in
      let o = openings_after config book.notes book.taken life n s [] in
      of_outputs (restart_no_injection nodes configs ss n s t delay is) (work_on (start_of t.history.config delay)) o refl
      (taken_restarted nodes configs ss n s t delay is config book.notes book.taken life kept.taken)
      (subst (λ counters. KeepsLife nodes configs ss more (suc n) t.place (start_of t.history.config delay) (life_after config book.notes life s [] counters))
      (sym (counters_restarted nodes configs ss n s t delay is config book.notes book.taken life))
      (restarted_life nodes configs ss n s t delay is more (start_of t.history.config delay) refl config book.notes life []))

  -- ---- one in which a liar sends

  injected : (from to : SocketAddrV4) (bytes : List ℕ) → t.deed ≡ Injects from to bytes → KeptWith (done_with t.history (Injects from to bytes))
  injected from to bytes is =
      booked_as (done_with t.history (Injects from to bytes)) (Sent from to bytes ∷ []) (booked_of_liar n book) refl
      (λ i. if injects_so nodes configs ss n s t from to bytes is i then booked_of_liar n book
      else booked_of_node config n t.place s (told_lines (n + 1) t.place (Ok (Sent from to bytes ∷ []))) life book)
      (record {
        taken = still_taken nodes configs ss n s t (injection_does_nothing nodes configs ss n s t from to bytes is) book.taken kept.taken;
        notes = notes_of_liar nodes configs ss n s t from to bytes is book.payloads book.notes kept.notes;
        lives = subst (HasLives book.payloads (slice_set t.before.histories t.place t.history)) (set_same book.lives t.place life at)
            (lives_kept book.payloads (λ payload number is. is) t.history life (injection_life nodes configs ss n s t from to bytes is book.payloads life own_life));
        payloads = kept.payloads;
      })

  -- ---- a step

  by_due : (input : Input) → t.deed ≡ Takes input → (due : Result (Work History) NodeError) → step t.history input ≡ due → KeptWith due
  by_due input is (Ok done) did = taken_input input is done did
  by_due input is (Err refusal) refused = refused_kept input is refusal refused

  by_deed : (deed : Deed) → t.deed ≡ deed → KeptWith (done_with t.history deed)
  by_deed (Takes input) is = by_due input is (step t.history input) refl
  by_deed (Restarts delay) is = started delay is
  by_deed (Injects from to bytes) is = injected from to bytes is

  -- what is kept after the step
  pub booked_kept : Kept nodes configs ss (suc n) (world_after (n + 1) t.place t.before t.history (done_with t.history t.deed))
      (booked config n t.place s (told_lines (n + 1) t.place (given_in (done_with t.history t.deed))) life book)
  booked_kept = by_deed t.deed refl
