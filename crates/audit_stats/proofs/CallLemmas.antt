-- What figures hold of the methods of a history.
use Rattle.std.proofs.Common.{◌≡◌, ℕ, ◌+◌, Bool, true, false, cond, ◌&&◌, List, [], ◌∷◌, Option, None, Some, refl, ap, sym, ◌∙◌}
use Rattle.std.specs.Ordering.{eq_by_cmp}
use Rattle.std.specs.FinMap.{get}
use Rattle.audit_stats.specs.Changes.{after_call, no_calls, time_since}
use Rattle.audit_stats.specs.declared.full.FigureLimits.{FigureLimits}
use Rattle.audit_stats.specs.declared.keys.Flow.{Flow}
use Rattle.audit_stats.specs.declared.methods.CallChange.{CallChange}
use Rattle.audit_stats.specs.declared.methods.CallChange.TheVariants as of_call
use Rattle.audit_stats.specs.declared.methods.MethodFigures.{MethodFigures}
use Rattle.audit_stats.specs.declared.sight.Sight.{Sight}
use Rattle.audit_stats.specs.declared.sight.Sight.TheVariants as sights
use Rattle.audit_stats.specs.Histories.{AreCounted, capped, how_often, is_answer, is_call, is_failure, is_message}
use Rattle.audit_stats.specs.Keys.{flow_cmp}
use Rattle.audit_stats.specs.KeyOrder.{flows}
use Rattle.audit_stats.specs.Sights.{sight_of}
use Rattle.audit_stats.specs.Spreads.{raised}
use Rattle.audit_stats.specs.Stats.{BeganAgain, Came, Discovered, Fact, Lost, Methods, Stats, Waiting, after_fact, after_sight, stats_of}
use Rattle.audit_stats.specs.Tables.{has_room}
use Rattle.audit_stats.proofs.EventLemmas.{raised_is, no_more}
use Rattle.audit_stats.proofs.TallyLemmas.{by_change, figures_by, figures_of, held_is, table_of}

abbrev by_call : Option (Flow × CallChange) → Methods → Methods
by_call = by_change flows.total flows.exact no_calls after_call

abbrev call_by : Flow → Option (Flow × CallChange) → MethodFigures → MethodFigures
call_by = figures_by flows.total flows.exact no_calls after_call

-- ---- what is counted in any case

call_change_of : ℕ → Sight → Waiting → Option (Flow × CallChange)
call_change_of now (sights.Called call asks) w = Some (call.flow, of_call.Called (asks && has_room call w))
call_change_of now (sights.Answered call fails) w = Some (call.flow, of_call.Answered fails (time_since now (get w.values call)))
call_change_of now other w = None

call_change : FigureLimits → List Fact → Fact → Option (Flow × CallChange)
call_change limits earlier (Came now from to message) = call_change_of now (sight_of from to message) (stats_of limits earlier).waiting
call_change limits earlier other = None

sight_step : (now : ℕ) (sight : Sight) (s : Stats) → (after_sight now sight s).methods ≡ by_call (call_change_of now sight s.waiting) s.methods
unfolding call_change_of
sight_step now sights.Nothing s = refl
sight_step now (sights.Called call asks) s = refl
sight_step now (sights.Answered call fails) s = refl
sight_step now (sights.Event flow load) s = refl

call_step : (limits : FigureLimits) (fact : Fact) (earlier : List Fact) → (after_fact fact (stats_of limits earlier)).methods ≡ by_call (call_change limits earlier fact) (stats_of limits earlier).methods
unfolding call_change
call_step limits (Came now from to message) earlier = sight_step now (sight_of from to message) (stats_of limits earlier)
call_step limits (Discovered way) earlier = refl
call_step limits (Lost flow number) earlier = refl
call_step limits (BeganAgain way) earlier = refl

abbrev call_table : FigureLimits → List Fact → Methods
call_table limits facts = table_of flows.total flows.exact no_calls after_call (call_change limits) limits.keys facts

calls_table : (limits : FigureLimits) (facts : List Fact) → (stats_of limits facts).methods ≡ call_table limits facts
calls_table limits [] = refl
calls_table limits (fact ∷ earlier) = call_step limits fact earlier ∙ ap (by_call (call_change limits earlier fact)) (calls_table limits earlier)

abbrev Counted : ℕ → ℕ → ℕ → MethodFigures → Type 0
Counted n m k f = (f.calls ≡ capped n) × (f.answers ≡ capped m) × (f.errors ≡ capped k)

one_more : {a : ℕ} (n by : ℕ) → a ≡ capped n → raised a by ≡ capped (n + by)
one_more n by is = ap (λ a. raised a by) is ∙ raised_is n by

sight_counted : (flow : Flow) (now : ℕ) (sight : Sight) (w : Waiting) (n m k : ℕ) (f : MethodFigures) → Counted n m k f
    → Counted (cond (is_call flow sight) (n + 1) n) (cond (is_answer flow sight) (m + 1) m) (cond (is_failure flow sight) (k + 1) k) (call_by flow (call_change_of now sight w) f)
unfolding call_change_of
sight_counted flow now sights.Nothing w n m k f is = is
sight_counted flow now (sights.Called call asks) w n m k f is = cases (eq_by_cmp flow_cmp flow call.flow)
  where
    cases : (s : Bool) → Counted (cond s (n + 1) n) m k (cond s (after_call (of_call.Called (asks && has_room call w)) f) f)
    cases true = (one_more n 1 is.0, is.1, is.2)
    cases false = is
sight_counted flow now (sights.Answered call fails) w n m k f is = cases (eq_by_cmp flow_cmp flow call.flow) fails
  where
    cases : (s e : Bool) → Counted n (cond s (m + 1) m) (cond (s && e) (k + 1) k) (cond s (after_call (of_call.Answered e (time_since now (get w.values call))) f) f)
    cases true true = (is.0, one_more m 1 is.1, one_more k 1 is.2)
    cases true false = (is.0, one_more m 1 is.1, one_more k 0 is.2 ∙ sym (no_more k))
    cases false true = is
    cases false false = is
sight_counted flow now (sights.Event other load) w n m k f is = is

abbrev call_fold : FigureLimits → Flow → List Fact → MethodFigures
call_fold limits flow facts = figures_of flows.total flows.exact no_calls after_call (call_change limits) flow facts

fold_counted : (limits : FigureLimits) (flow : Flow) (facts : List Fact) → AreCounted flow facts (call_fold limits flow facts)
unfolding call_change
fold_counted limits flow [] = (refl, refl, refl)
fold_counted limits flow (Came now from to message ∷ earlier) =
    sight_counted flow now (sight_of from to message) (stats_of limits earlier).waiting (how_often (is_message (is_call flow)) earlier) (how_often (is_message (is_answer flow)) earlier) (how_often (is_message (is_failure flow)) earlier) (call_fold limits flow earlier) (fold_counted limits flow earlier)
fold_counted limits flow (Discovered way ∷ earlier) = fold_counted limits flow earlier
fold_counted limits flow (Lost other number ∷ earlier) = fold_counted limits flow earlier
fold_counted limits flow (BeganAgain way ∷ earlier) = fold_counted limits flow earlier

pub methods_held : (limits : FigureLimits) (facts : List Fact) (flow : Flow) (figures : MethodFigures) → get (stats_of limits facts).methods.values flow ≡ Some figures → AreCounted flow facts figures
methods_held limits facts flow figures is =
    let at : get (call_table limits facts).values flow ≡ Some figures = ap (λ (t : Methods). get t.values flow) (sym (calls_table limits facts)) ∙ is in
    let same : figures ≡ call_fold limits flow facts = held_is flows.total flows.exact no_calls after_call (call_change limits) limits.keys flow facts figures at in
    rw same (fold_counted limits flow facts)
