-- Why a flow is watched, and why it is told silent.
use Rattle.std.proofs.Common.{◌≡◌, ℕ, ◌≤◌, Bool, true, false, cond, if◌then◌else◌, not, List, [], ◌∷◌, ◌++◌, Option, None, Some, refl, sym, ap, subst, ◌∙◌, arith}
use Rattle.std.specs.FinMap as finite
use Rattle.std.specs.List.{All}
use Rattle.std.proofs.lemmas.Bool.Decides.{nat_tests}
use Rattle.std.proofs.lemmas.List.Elements.{All-cons, All-nil}
use Rattle.std.specs.Ordering.{eq_by_cmp}
use Rattle.someip_tables.specs.Retained.{kept_if}
use Rattle.someip_tables.specs.declared.hashed.origin.Numbers.{Numbers}
use Rattle.someip_tables.proofs.Entries.{own_test, same_by_test}
use Rattle.audit_traffic.specs.declared.cycles.finding.SilentEvent.{SilentEvent}
use Rattle.audit_traffic.specs.declared.cycles.watch.Watch.{Watch}
use Rattle.audit_traffic.specs.declared.events.flow.EventFlow.{EventFlow}
use Rattle.audit_traffic.specs.events.EventRules.{is_at}
use Rattle.audit_traffic.specs.events.FlowKeys.{flow_cmp}
use Rattle.audit_traffic.specs.events.FlowOrder.{exact_flows, flows_total}
use Rattle.audit_traffic.specs.cycles.CycleRules.{goes_by, is_of_service, is_silent_by, unless_silent, watch_from}
use Rattle.audit_traffic.specs.cycles.CycleTables.{Cycles, FallsSilent, Tells, Watches, after_silent}
use Rattle.audit_traffic.specs.cycles.CycleHistories.{Asked, BeganAgain, Came, Shown, Step, Unsubscribed, Withdrawn, after_step, book_of, watched_in, without_silent}
use Rattle.audit_traffic.specs.cycles.CycleReasons.{IsToldSilent, IsWatched, NoneSince, leaves}
use Rattle.audit_traffic.proofs.about_cycles.HistoryLemmas.{left, watched}

kept : (p : Watch → Bool) (v : Option Watch) (watch : Watch) → kept_if p v ≡ Some watch → (v ≡ Some watch) × (p watch ≡ true)
kept p None watch is = absurd (cc)
kept p (Some held) watch is = cases (p held) refl is
  where
    cases : (b : Bool) → p held ≡ b → cond b (Some held) None ≡ Some watch → (Some held ≡ Some watch) × (p watch ≡ true)
    cases true passes e = let same : held ≡ watch = cc in (e, ap p (sym same) ∙ passes)
    cases false passes e = absurd (cc)

not_true : (b : Bool) → not b ≡ true → b ≡ false
not_true true is = absurd (cc)
not_true false is = refl

inside : (a b : Watch) → Some a ≡ Some b → a ≡ b
inside a b e = cc

none_is_some : (w : Watch) → None ≡ Some w → ⊥
none_is_some w is = cc

module _ (flow : EventFlow) (watch : Watch) where
  -- a step that leaves the watch as it is
  further : (step : Step) (earlier : List Step) → leaves step.at step.shown flow watch ≡ true → IsWatched flow watch earlier → IsWatched flow watch (step ∷ earlier)
  further step earlier stays one = (step ∷ one.0, one.1, one.2, one.3, one.4, ap (λ es. step ∷ es) one.5, one.6, (stays, one.7))

  pub watched_is : (steps : List Step) → watched_in steps flow ≡ Some watch → IsWatched flow watch steps
  watched_is [] is = absurd (none_is_some watch is)
  watched_is (step ∷ earlier) is = by (watched_is earlier) step.shown refl is
    where
      Rest : Type 0
      Rest = watched_in earlier flow ≡ Some watch → IsWatched flow watch earlier

      its : (shown : Shown) → step.shown ≡ shown → leaves step.at shown flow watch ≡ true → leaves step.at step.shown flow watch ≡ true
      its shown same stays = ap (λ (s : Shown). leaves step.at s flow watch) same ∙ stays

      unless_ended : Rest → (shown : Shown) → step.shown ≡ shown → (ends : Bool) → leaves step.at shown flow watch ≡ not ends → (if ends then None else watched_in earlier flow) ≡ Some watch → IsWatched flow watch (step ∷ earlier)
      unless_ended rest shown same true left e = absurd (none_is_some watch e)
      unless_ended rest shown same false left e = further step earlier (its shown same left) (rest e)

      came : Rest → (other : EventFlow) (cycle_ms : ℕ) (numbers : Numbers) → step.shown ≡ Came other cycle_ms numbers → (t : Bool) → eq_by_cmp flow_cmp flow other ≡ t
          → (if t then Some (watch_from step.at cycle_ms numbers) else watched_in earlier flow) ≡ Some watch → IsWatched flow watch (step ∷ earlier)
      came rest other cycle_ms numbers same true tie e =
          let one : other ≡ flow = sym (same_by_test exact_flows flow other tie) in
          ([], step.at, cycle_ms, numbers, earlier, ap (λ (s : Shown). record { at = step.at; shown = s } ∷ earlier) (same ∙ ap (λ f. Came f cycle_ms numbers) one), inside (watch_from step.at cycle_ms numbers) watch e, tt)
      came rest other cycle_ms numbers same false tie e = further step earlier (its (Came other cycle_ms numbers) same (ap not tie)) (rest e)

      by : Rest → (shown : Shown) → step.shown ≡ shown → after_step step.at shown flow (watched_in earlier flow) ≡ Some watch → IsWatched flow watch (step ∷ earlier)
      by rest (Came other cycle_ms numbers) same e = came rest other cycle_ms numbers same (eq_by_cmp flow_cmp flow other) refl e
      by rest (Unsubscribed server service client) same e = unless_ended rest (Unsubscribed server service client) same (goes_by server service client flow) refl e
      by rest (Withdrawn server service) same e = unless_ended rest (Withdrawn server service) same (is_of_service server service flow) refl e
      by rest (BeganAgain address) same e = unless_ended rest (BeganAgain address) same (is_at address flow) refl e
      by rest Asked same e =
          let stays = kept (λ w. not (is_silent_by step.at w)) (watched_in earlier flow) watch e in
          further step earlier (its Asked same stays.1) (rest stays.0)

  -- ---- and the other way round

  unchanged : (at : ℕ) (shown : Shown) → leaves at shown flow watch ≡ true → after_step at shown flow (Some watch) ≡ Some watch
  unchanged at (Came other cycle_ms numbers) is = rw (not_true (eq_by_cmp flow_cmp flow other) is) refl
  unchanged at (Unsubscribed server service client) is = rw (not_true (goes_by server service client flow) is) refl
  unchanged at (Withdrawn server service) is = rw (not_true (is_of_service server service flow) is) refl
  unchanged at (BeganAgain address) is = rw (not_true (is_at address flow) is) refl
  unchanged at Asked is = ap (λ b. cond b (Some watch) None) is

  waits_on : (newer rest : List Step) → watched_in rest flow ≡ Some watch → NoneSince flow watch newer → watched_in (newer ++ rest) flow ≡ Some watch
  waits_on [] rest is since = is
  waits_on (step ∷ newer) rest is since = ap (after_step step.at step.shown flow) (waits_on newer rest is since.1) ∙ unchanged step.at step.shown since.0

  pub is_watched : (steps : List Step) → IsWatched flow watch steps → watched_in steps flow ≡ Some watch
  is_watched steps one =
      ap (λ es. watched_in es flow) one.5
      ∙ waits_on one.0 (record { at = one.1; shown = Came flow one.2 one.3 } ∷ one.4) (begins (watched_in one.4 flow) ∙ ap (λ w. Some w) one.6) one.7
    where
      begins : (v : Option Watch) → after_step one.1 (Came flow one.2 one.3) flow v ≡ Some (watch_from one.1 one.2 one.3)
      begins v = rw (own_test flows_total flow) refl

-- ---- what is told

-- what a book watches until a moment, if it is told then
abbrev pub its_watch : SilentEvent → Watch
its_watch told = record { silent_ms = told.silent_ms; until = told.at; numbers = told.numbers }

pub silence : (limit : ℕ) (steps : List Step) (told : SilentEvent) → (book_of limit steps).told_full ≡ false → finite.get (book_of limit steps).watched told.flow ≡ Some (its_watch told) → IsToldSilent told steps
silence limit steps told fits is =
    let one = watched_is told.flow (its_watch told) steps (sym (watched limit steps told.flow fits) ∙ is) in
    let numbers : one.3 ≡ told.numbers = ap (λ (w : Watch). w.numbers) one.6 in (
      one.0,
      one.1,
      one.2,
      one.4,
      one.5 ∙ ap (λ n. one.0 ++ record { at = one.1; shown = Came told.flow one.2 n } ∷ one.4) numbers,
      sym (ap (λ (w : Watch). w.silent_ms) one.6),
      sym (ap (λ (w : Watch). w.until) one.6),
      subst (λ n. NoneSince told.flow (watch_from one.1 one.2 n) one.0) numbers (subst (λ w. NoneSince told.flow w one.0) (sym one.6) one.7),
    )

-- ---- all that is told until nothing is left

pub none_was : (v : Option Watch) (watch : Watch) (b : Bool) → cond b None v ≡ Some watch → v ≡ Some watch
none_was v watch true is = absurd (none_is_some watch is)
none_was v watch false is = is

-- what is told is watched, and its moment has come
abbrev IsSilent : ℕ → Cycles → SilentEvent → Type 0
IsSilent now book one = (finite.get book.watched one.flow ≡ Some (its_watch one)) × (one.at ≤ now)

weaker : (P Q : SilentEvent → Type 0) (told : List SilentEvent) → ((one : SilentEvent) → P one → Q one) → All P told → All Q told
weaker P Q told so all k one lt = so _ (all k one lt)

all_were : (now : ℕ) (book after : Cycles) (told : List SilentEvent) → Tells now book told after → All (IsSilent now book) told
all_were now book after [] tells = All-nil (IsSilent now book)
all_were now book after (one ∷ told) tells =
    All-cons (IsSilent now book) one told (tells.0.1, tells.0.2)
    (weaker (IsSilent now (after_silent (Some one) book)) (IsSilent now book) told before (all_were now (after_silent (Some one) book) after told tells.1))
  where
    before : (other : SilentEvent) → IsSilent now (after_silent (Some one) book) other → IsSilent now book other
    before other was =
        (none_was (finite.get book.watched other.flow) (its_watch other) (eq_by_cmp flow_cmp other.flow one.flow) (sym (finite.get-remove flows_total book.watched one.flow other.flow) ∙ was.0), was.1)

pub all_silent : (now : ℕ) (book after : Cycles) (told : List SilentEvent) → Tells now book told after → All (λ (one : SilentEvent). one.at ≤ now) told
all_silent now book after told tells = weaker (IsSilent now book) (λ (one : SilentEvent). one.at ≤ now) told (λ one was. was.1) (all_were now book after told tells)

pub silences : (limit : ℕ) (steps : List Step) (now : ℕ) (told : List SilentEvent) (after : Cycles) → (book_of limit steps).told_full ≡ false → Tells now (book_of limit steps) told after
    → All (λ one. IsToldSilent one steps) told
silences limit steps now told after fits tells =
    weaker (IsSilent now (book_of limit steps)) (λ one. IsToldSilent one steps) told (λ one was. silence limit steps one fits was.0) (all_were now (book_of limit steps) after told tells)

-- ---- what is left

module _ (now : ℕ) where
  kept_all : (v : Option Watch) → ((watch : Watch) → v ≡ Some watch → is_silent_by now watch ≡ false) → v ≡ unless_silent now v
  kept_all None none = refl
  kept_all (Some watch) none = sym (ap (λ b. cond (not b) (Some watch) None) (none watch refl))

  pub nothing_silent : (book : Cycles) → FallsSilent now book.watched None → book ≡ without_silent now book
  nothing_silent book none =
      ap (λ (m : Watches). record book { watched = m })
      (finite.same_map flows_total exact_flows book.watched (without_silent now book).watched
      (λ flow. kept_all (finite.get book.watched flow) (none flow) ∙ sym (left now book flow)))

  pub once_told : (book : Cycles) (one : SilentEvent) → finite.get book.watched one.flow ≡ Some (its_watch one) → one.at ≤ now → without_silent now (after_silent (Some one) book) ≡ without_silent now book
  once_told book one is le =
      ap (λ (m : Watches). record book { watched = m })
      (finite.same_map flows_total exact_flows (without_silent now (after_silent (Some one) book)).watched (without_silent now book).watched
      (λ flow. left now (after_silent (Some one) book) flow ∙ ap (unless_silent now) (finite.get-remove flows_total book.watched one.flow flow) ∙ cases flow (eq_by_cmp flow_cmp flow one.flow) refl ∙ sym (left now book flow)))
    where
      silent : is_silent_by now (its_watch one) ≡ true
      silent = grind (arith, nat_tests)

      cases : (flow : EventFlow) (t : Bool) → eq_by_cmp flow_cmp flow one.flow ≡ t → unless_silent now (cond t None (finite.get book.watched flow)) ≡ unless_silent now (finite.get book.watched flow)
      cases flow false tie = refl
      cases flow true tie =
          sym
          (ap (unless_silent now) (ap (finite.get book.watched) (same_by_test exact_flows flow one.flow tie) ∙ is)
          ∙ ap (λ b. cond (not b) (Some (its_watch one)) None) silent)

  pub asking_leaves : (book after : Cycles) (told : List SilentEvent) → Tells now book told after → after ≡ without_silent now book
  asking_leaves book after [] tells = tells.1 ∙ nothing_silent book tells.0
  asking_leaves book after (one ∷ told) tells = asking_leaves (after_silent (Some one) book) after told tells.1 ∙ once_told book one tells.0.1 tells.0.2
