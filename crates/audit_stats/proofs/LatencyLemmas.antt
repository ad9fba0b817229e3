-- Which calls wait, and how long answers took, where there was always room among the calls that wait.
use Rattle.std.proofs.Common.{◌≡◌, ◌⊎◌, inl, inr, ℕ, ◌+◌, ◌<◌, ◌≤◌, Bool, true, false, cond, ◌&&◌, List, [], ◌∷◌, Option, None, Some, refl, ap, sym, ◌∙◌, arith}
use Rattle.std.specs.List.{cons_option}
use Rattle.std.specs.Option.{unwrap_or}
use Rattle.std.specs.Ordering.{eq_by_cmp}
use Rattle.std.specs.FinMap.{get, insert, len, get-empty, get-insert, get-remove}
use Rattle.std.proofs.lemmas.Bool.{and_parts}
use Rattle.someip_tables.proofs.Entries.{own_test, same_by_test}
use Rattle.audit_stats.specs.Changes.{after_call, no_calls, time_since}
use Rattle.audit_stats.specs.declared.full.FigureLimits.{FigureLimits}
use Rattle.audit_stats.specs.declared.keys.Call.{Call}
use Rattle.audit_stats.specs.declared.keys.Flow.{Flow}
use Rattle.audit_stats.specs.declared.methods.CallChange.{CallChange}
use Rattle.audit_stats.specs.declared.methods.CallChange.TheVariants as of_call
use Rattle.audit_stats.specs.declared.methods.MethodFigures.{MethodFigures}
use Rattle.audit_stats.specs.declared.sight.Sight.{Sight}
use Rattle.audit_stats.specs.declared.sight.Sight.TheVariants as sights
use Rattle.audit_stats.specs.Histories.{capped, how_often, is_answer, is_call, is_failure, is_message, is_request, latencies_of, latency_of, method_figures, waiting_since, waits_since}
use Rattle.audit_stats.specs.Keys.{call_cmp, flow_cmp}
use Rattle.audit_stats.specs.KeyOrder.{calls, flows}
use Rattle.audit_stats.specs.Sights.{sight_of}
use Rattle.audit_stats.specs.Spreads.{Values, spread_of}
use Rattle.audit_stats.specs.Stats.{BeganAgain, Came, Discovered, Fact, Lost, Methods, Stats, Waiting, after_fact, after_sight, methods_answered, methods_called, stats_of, waiting_answered, waiting_called, waiting_more}
use Rattle.audit_stats.specs.Tables.{after_change, counted, full_told, has_room, with_held, without_held}
use Rattle.audit_stats.proofs.EventLemmas.{raised_is, some_more, no_more}
use Rattle.audit_stats.proofs.TallyLemmas.{by_change, figures_by, figures_of, held_is, len_grows, no_room, none_is, room_left, table_of}

-- ---- which calls wait

-- of a call that waits since a moment: that is held, if its method is; else nothing is, and it does not wait, or the table of methods is full
abbrev Waits : Waiting → Methods → Call → Option ℕ → Option MethodFigures → Type 0
Waits w m call since None = (get w.values call ≡ None) × ((since ≡ None) ⊎ (m.limit ≤ len m.values))
Waits w m call since (Some figures) = get w.values call ≡ since

-- where its method has room, that is held
now_known : (w : Waiting) (m : Methods) (call : Call) (since : Option ℕ) → has_room call.flow m ≡ true → Waits w m call since (get m.values call.flow) → get w.values call ≡ since
now_known w m call since room = cases (get m.values call.flow) refl
  where
    cases : (held : Option MethodFigures) → get m.values call.flow ≡ held → Waits w m call since held → get w.values call ≡ since
    cases None is waits = left waits.0 waits.1
      where
        left : get w.values call ≡ None → (since ≡ None) ⊎ (m.limit ≤ len m.values) → get w.values call ≡ since
        left none (inl never) = none ∙ sym never
        left none (inr full) = let left : len m.values < m.limit = room_left call.flow m room is in absurd (omega (arith, left, full))
    cases (Some figures) is waits = waits

-- a message on a flow with room: what is held of one call changes, or nothing is
waits_counted : (m : Methods) (flow : Flow) (figures : MethodFigures) (w after : Waiting) (call : Call) (since : Option ℕ) (b : Bool) (then : Option ℕ)
    → get after.values call ≡ cond b then (get w.values call) → (b ≡ true → call.flow ≡ flow) → has_room flow m ≡ true → Waits w m call since (get m.values call.flow)
    → Waits after (with_held flow figures m) call (cond b then since) (get (insert m.values flow figures) call.flow)
waits_counted m flow figures w after call since b then is own room waits =
    rw (get-insert flows.total m.values flow figures call.flow) (cases (eq_by_cmp flow_cmp call.flow flow) refl)
  where
    kept : (b : Bool) (held : Option MethodFigures) → get after.values call ≡ cond b then (get w.values call) → (b ≡ true → ⊥) → Waits w m call since held → Waits after (with_held flow figures m) call (cond b then since) held
    kept true held is never waits = absurd (never refl)
    kept false None is never waits = (is ∙ waits.0, grown waits.1)
      where
        grown : (since ≡ None) ⊎ (m.limit ≤ len m.values) → (since ≡ None) ⊎ (m.limit ≤ len (insert m.values flow figures))
        grown (inl none) = inl none
        grown (inr full) = inr (let grows : len m.values ≤ len (insert m.values flow figures) = len_grows flows.total m.values flow figures in omega (arith, full, grows))
    kept false (Some held) is never waits = is ∙ waits

    cases : (s : Bool) → eq_by_cmp flow_cmp call.flow flow ≡ s → Waits after (with_held flow figures m) call (cond b then since) (cond s (Some figures) (get m.values call.flow))
    cases true tie =
        let same : call.flow ≡ flow = same_by_test flows.exact call.flow flow tie in
        is ∙ ap (cond b then) (now_known w m call since (ap (λ r. has_room r m) same ∙ room) waits)
    cases false tie = kept b (get m.values call.flow) is (λ yes. let one : eq_by_cmp flow_cmp call.flow flow ≡ true = ap (λ r. eq_by_cmp flow_cmp r flow) (own yes) ∙ own_test flows.total flow in absurd (cc)) waits

-- a message on a flow without room
waits_left_out : (m : Methods) (flow : Flow) (w : Waiting) (call : Call) (since : Option ℕ) (b : Bool) (then : Option ℕ)
    → (b ≡ true → call.flow ≡ flow) → has_room flow m ≡ false → Waits w m call since (get m.values call.flow)
    → Waits w (full_told m) call (cond b then since) (get m.values call.flow)
waits_left_out m flow w call since b then own full waits = cases (get m.values call.flow) b refl refl waits
  where
    out : (get m.values flow ≡ None) × (m.limit ≤ len m.values)
    out = no_room flow m full

    cases : (held : Option MethodFigures) (c : Bool) → get m.values call.flow ≡ held → b ≡ c → Waits w m call since held → Waits w (full_told m) call (cond c then since) held
    cases None c is same waits = (waits.0, inr out.1)
    cases (Some held) true is same waits = let none : get m.values call.flow ≡ None = ap (get m.values) (own same) ∙ out.0 in absurd (cc)
    cases (Some held) false is same waits = waits

-- ---- once a message came

flow_of_same : (a b : Call) → eq_by_cmp call_cmp a b ≡ true → a.flow ≡ b.flow
flow_of_same a b tie = ap (λ (c : Call). c.flow) (same_by_test calls.exact a b tie)

waits_called : (now : ℕ) (other : Call) (asks : Bool) (m : Methods) (w : Waiting) (call : Call) (since : Option ℕ) → (waiting_called now other asks m w).told_full ≡ false → Waits w m call since (get m.values call.flow)
    → Waits (waiting_called now other asks m w) (methods_called other asks m w) call (cond (asks && eq_by_cmp call_cmp call other) (Some now) since) (get (methods_called other asks m w).values call.flow)
waits_called now other asks m w call since fits waits = cases (has_room other.flow m) refl fits
  where
    own : asks && eq_by_cmp call_cmp call other ≡ true → call.flow ≡ other.flow
    own is = flow_of_same call other (and_parts asks (eq_by_cmp call_cmp call other) is).1

    more : (a r : Bool) → asks ≡ a → has_room other w ≡ r → (cond a (cond r (with_held other now w) (full_told w)) w).told_full ≡ false
        → get (cond a (cond r (with_held other now w) (full_told w)) w).values call ≡ cond (a && eq_by_cmp call_cmp call other) (Some now) (get w.values call)
    more true true is room fits = get-insert calls.total w.values other now call
    more true false is room fits = absurd (cc)
    more false r is room fits = refl

    cases : (r : Bool) → has_room other.flow m ≡ r → (cond r (waiting_more now other asks w) w).told_full ≡ false
        → Waits (cond r (waiting_more now other asks w) w) (cond r (counted no_calls after_call other.flow (of_call.Called (asks && has_room other w)) m) (full_told m)) call
        (cond (asks && eq_by_cmp call_cmp call other) (Some now) since) (get (cond r (counted no_calls after_call other.flow (of_call.Called (asks && has_room other w)) m) (full_told m)).values call.flow)
    cases true room fits = waits_counted m other.flow (after_call (of_call.Called (asks && has_room other w)) (unwrap_or (get m.values other.flow) no_calls)) w (waiting_more now other asks w) call since (asks && eq_by_cmp call_cmp call other) (Some now) (more asks (has_room other w) refl refl fits) own room waits
    cases false full fits = waits_left_out m other.flow w call since (asks && eq_by_cmp call_cmp call other) (Some now) own full waits

waits_answered : (now : ℕ) (other : Call) (fails : Bool) (m : Methods) (w : Waiting) (call : Call) (since : Option ℕ) → Waits w m call since (get m.values call.flow)
    → Waits (waiting_answered other m w) (methods_answered now other fails m w) call (cond (eq_by_cmp call_cmp call other) None since) (get (methods_answered now other fails m w).values call.flow)
waits_answered now other fails m w call since waits = cases (has_room other.flow m) refl
  where
    own : eq_by_cmp call_cmp call other ≡ true → call.flow ≡ other.flow
    own is = flow_of_same call other is

    cases : (r : Bool) → has_room other.flow m ≡ r
        → Waits (cond r (without_held other w) w) (cond r (counted no_calls after_call other.flow (of_call.Answered fails (time_since now (get w.values other))) m) (full_told m)) call
        (cond (eq_by_cmp call_cmp call other) None since) (get (cond r (counted no_calls after_call other.flow (of_call.Answered fails (time_since now (get w.values other))) m) (full_told m)).values call.flow)
    cases true room = waits_counted m other.flow (after_call (of_call.Answered fails (time_since now (get w.values other))) (unwrap_or (get m.values other.flow) no_calls)) w (without_held other w) call since (eq_by_cmp call_cmp call other) None (get-remove calls.total w.values other call) own room waits
    cases false full = waits_left_out m other.flow w call since (eq_by_cmp call_cmp call other) None own full waits

waits_sight : (now : ℕ) (sight : Sight) (s : Stats) (call : Call) (since : Option ℕ) → (after_sight now sight s).waiting.told_full ≡ false → Waits s.waiting s.methods call since (get s.methods.values call.flow)
    → Waits (after_sight now sight s).waiting (after_sight now sight s).methods call (waits_since call now sight since) (get (after_sight now sight s).methods.values call.flow)
waits_sight now sights.Nothing s call since fits waits = waits
waits_sight now (sights.Called other asks) s call since fits waits = waits_called now other asks s.methods s.waiting call since fits waits
waits_sight now (sights.Answered other fails) s call since fits waits = waits_answered now other fails s.methods s.waiting call since waits
waits_sight now (sights.Event flow load) s call since fits waits = waits

-- what never told that it is full had not told so before
before_called : (now : ℕ) (other : Call) (asks : Bool) (m : Methods) (w : Waiting) → (waiting_called now other asks m w).told_full ≡ false → w.told_full ≡ false
before_called now other asks m w = cases (has_room other.flow m) asks (has_room other w)
  where
    cases : (r a h : Bool) → (cond r (cond a (cond h (with_held other now w) (full_told w)) w) w).told_full ≡ false → w.told_full ≡ false
    cases true true true fits = fits
    cases true true false fits = absurd (cc)
    cases true false h fits = fits
    cases false a h fits = fits

before_sight : (now : ℕ) (sight : Sight) (s : Stats) → (after_sight now sight s).waiting.told_full ≡ false → s.waiting.told_full ≡ false
before_sight now sights.Nothing s fits = fits
before_sight now (sights.Called other asks) s fits = before_called now other asks s.methods s.waiting fits
before_sight now (sights.Answered other fails) s fits = cases (has_room other.flow s.methods) fits
  where
    cases : (r : Bool) → (cond r (without_held other s.waiting) s.waiting).told_full ≡ false → s.waiting.told_full ≡ false
    cases true fits = fits
    cases false fits = fits
before_sight now (sights.Event flow load) s fits = fits

before : (fact : Fact) (s : Stats) → (after_fact fact s).waiting.told_full ≡ false → s.waiting.told_full ≡ false
before (Came now from to message) s fits = before_sight now (sight_of from to message) s fits
before (Discovered way) s fits = fits
before (Lost flow number) s fits = fits
before (BeganAgain way) s fits = fits

waits : (limits : FigureLimits) (facts : List Fact) (call : Call) → (stats_of limits facts).waiting.told_full ≡ false
    → Waits (stats_of limits facts).waiting (stats_of limits facts).methods call (waiting_since call facts) (get (stats_of limits facts).methods.values call.flow)
waits limits [] call fits = rw (get-empty flow_cmp call.flow) (get-empty call_cmp call, inl refl)
waits limits (Came now from to message ∷ earlier) call fits =
    waits_sight now (sight_of from to message) (stats_of limits earlier) call (waiting_since call earlier) fits (waits limits earlier call (before_sight now (sight_of from to message) (stats_of limits earlier) fits))
waits limits (Discovered way ∷ earlier) call fits = waits limits earlier call fits
waits limits (Lost flow number ∷ earlier) call fits = waits limits earlier call fits
waits limits (BeganAgain way ∷ earlier) call fits = waits limits earlier call fits

-- ---- how long answers took

abbrev by_call : Option (Flow × CallChange) → Methods → Methods
by_call = by_change flows.total flows.exact no_calls after_call

-- what a message is to its method, by the history
call_seen_of : ℕ → Sight → List Fact → Option (Flow × CallChange)
call_seen_of now (sights.Called call asks) earlier = Some (call.flow, of_call.Called asks)
call_seen_of now (sights.Answered call fails) earlier = Some (call.flow, of_call.Answered fails (time_since now (waiting_since call earlier)))
call_seen_of now other earlier = None

call_seen : List Fact → Fact → Option (Flow × CallChange)
call_seen earlier (Came now from to message) = call_seen_of now (sight_of from to message) earlier
call_seen earlier other = None

same_called : (now : ℕ) (call : Call) (asks : Bool) (m : Methods) (w : Waiting) → (waiting_called now call asks m w).told_full ≡ false
    → methods_called call asks m w ≡ after_change no_calls after_call call.flow (of_call.Called asks) m
same_called now call asks m w fits = cases (has_room call.flow m) fits
  where
    asked : (a r : Bool) → (cond a (cond r (with_held call now w) (full_told w)) w).told_full ≡ false → a && r ≡ a
    asked true true fits = refl
    asked true false fits = absurd (cc)
    asked false r fits = refl

    cases : (r : Bool) → (cond r (waiting_more now call asks w) w).told_full ≡ false
        → cond r (counted no_calls after_call call.flow (of_call.Called (asks && has_room call w)) m) (full_told m) ≡ cond r (counted no_calls after_call call.flow (of_call.Called asks) m) (full_told m)
    cases true fits = ap (λ a. counted no_calls after_call call.flow (of_call.Called a) m) (asked asks (has_room call w) fits)
    cases false fits = refl

same_answered : (now : ℕ) (call : Call) (fails : Bool) (m : Methods) (w : Waiting) (since : Option ℕ) → Waits w m call since (get m.values call.flow)
    → methods_answered now call fails m w ≡ after_change no_calls after_call call.flow (of_call.Answered fails (time_since now since)) m
same_answered now call fails m w since waits = cases (has_room call.flow m) refl
  where
    cases : (r : Bool) → has_room call.flow m ≡ r
        → cond r (counted no_calls after_call call.flow (of_call.Answered fails (time_since now (get w.values call))) m) (full_told m) ≡ cond r (counted no_calls after_call call.flow (of_call.Answered fails (time_since now since)) m) (full_told m)
    cases true room = ap (λ o. counted no_calls after_call call.flow (of_call.Answered fails (time_since now o)) m) (now_known w m call since room waits)
    cases false full = refl

same_sight : (now : ℕ) (sight : Sight) (earlier : List Fact) (s : Stats) → (after_sight now sight s).waiting.told_full ≡ false → ((call : Call) → Waits s.waiting s.methods call (waiting_since call earlier) (get s.methods.values call.flow))
    → (after_sight now sight s).methods ≡ by_call (call_seen_of now sight earlier) s.methods
unfolding call_seen_of
same_sight now sights.Nothing earlier s fits waits = refl
same_sight now (sights.Called call asks) earlier s fits waits = same_called now call asks s.methods s.waiting fits
same_sight now (sights.Answered call fails) earlier s fits waits = same_answered now call fails s.methods s.waiting (waiting_since call earlier) (waits call)
same_sight now (sights.Event flow load) earlier s fits waits = refl

same_fact : (limits : FigureLimits) (fact : Fact) (earlier : List Fact) → (stats_of limits (fact ∷ earlier)).waiting.told_full ≡ false → (stats_of limits (fact ∷ earlier)).methods ≡ by_call (call_seen earlier fact) (stats_of limits earlier).methods
unfolding call_seen
same_fact limits (Came now from to message) earlier fits =
    same_sight now (sight_of from to message) earlier (stats_of limits earlier) fits (λ call. waits limits earlier call (before_sight now (sight_of from to message) (stats_of limits earlier) fits))
same_fact limits (Discovered way) earlier fits = refl
same_fact limits (Lost flow number) earlier fits = refl
same_fact limits (BeganAgain way) earlier fits = refl

abbrev seen_table : FigureLimits → List Fact → Methods
seen_table limits facts = table_of flows.total flows.exact no_calls after_call call_seen limits.keys facts

methods_seen : (limits : FigureLimits) (facts : List Fact) → (stats_of limits facts).waiting.told_full ≡ false → (stats_of limits facts).methods ≡ seen_table limits facts
methods_seen limits [] fits = refl
methods_seen limits (fact ∷ earlier) fits = same_fact limits fact earlier fits ∙ ap (by_call (call_seen earlier fact)) (methods_seen limits earlier (before fact (stats_of limits earlier) fits))

-- ---- the figures

abbrev call_by : Flow → Option (Flow × CallChange) → MethodFigures → MethodFigures
call_by = figures_by flows.total flows.exact no_calls after_call

same_figures : {a b c d e f g h : ℕ} {v w : Values} → a ≡ b → c ≡ d → e ≡ f → g ≡ h → v ≡ w
    → ◌≡◌ {A = MethodFigures} (record { calls = a; answers = c; errors = e; waited = g; latency = v }) (record { calls = b; answers = d; errors = f; waited = h; latency = w })
same_figures n m k q latency = λ i. record { calls = n i; answers = m i; errors = k i; waited = q i; latency = latency i }

-- figures with these numbers
abbrev method_with : ℕ → ℕ → ℕ → ℕ → List ℕ → MethodFigures
method_with n m k q latencies = record { calls = capped n; answers = capped m; errors = capped k; waited = capped q; latency = spread_of latencies }

sight_figures : (flow : Flow) (now : ℕ) (sight : Sight) (earlier : List Fact) (n m k q : ℕ) (latencies : List ℕ)
    → call_by flow (call_seen_of now sight earlier) (method_with n m k q latencies)
    ≡ method_with (cond (is_call flow sight) (n + 1) n) (cond (is_answer flow sight) (m + 1) m) (cond (is_failure flow sight) (k + 1) k) (cond (is_request flow sight) (q + 1) q) (cons_option (latency_of flow now sight earlier) latencies)
unfolding call_seen_of
sight_figures flow now sights.Nothing earlier n m k q latencies = refl
sight_figures flow now (sights.Called call asks) earlier n m k q latencies = cases (eq_by_cmp flow_cmp flow call.flow) asks
  where
    cases : (s a : Bool) → cond s (after_call (of_call.Called a) (method_with n m k q latencies)) (method_with n m k q latencies) ≡ method_with (cond s (n + 1) n) m k (cond (s && a) (q + 1) q) latencies
    cases true true = same_figures (raised_is n 1) refl refl (raised_is q 1) refl
    cases true false = same_figures (raised_is n 1) refl refl (raised_is q 0 ∙ sym (no_more q)) refl
    cases false true = refl
    cases false false = refl
sight_figures flow now (sights.Answered call fails) earlier n m k q latencies = cases (eq_by_cmp flow_cmp flow call.flow) fails
  where
    cases : (s e : Bool) → cond s (after_call (of_call.Answered e (time_since now (waiting_since call earlier))) (method_with n m k q latencies)) (method_with n m k q latencies)
        ≡ method_with n (cond s (m + 1) m) (cond (s && e) (k + 1) k) q (cons_option (cond s (time_since now (waiting_since call earlier)) None) latencies)
    cases true true = same_figures refl (raised_is m 1) (raised_is k 1) refl (some_more (time_since now (waiting_since call earlier)) latencies)
    cases true false = same_figures refl (raised_is m 1) (raised_is k 0 ∙ sym (no_more k)) refl (some_more (time_since now (waiting_since call earlier)) latencies)
    cases false true = refl
    cases false false = refl
sight_figures flow now (sights.Event other load) earlier n m k q latencies = refl

figures_step : (flow : Flow) (fact : Fact) (earlier : List Fact) → call_by flow (call_seen earlier fact) (method_figures flow earlier) ≡ method_figures flow (fact ∷ earlier)
unfolding call_seen
figures_step flow (Came now from to message) earlier =
    sight_figures flow now (sight_of from to message) earlier (how_often (is_message (is_call flow)) earlier) (how_often (is_message (is_answer flow)) earlier) (how_often (is_message (is_failure flow)) earlier) (how_often (is_message (is_request flow)) earlier) (latencies_of flow earlier)
figures_step flow (Discovered way) earlier = refl
figures_step flow (Lost other number) earlier = refl
figures_step flow (BeganAgain way) earlier = refl

abbrev seen_fold : Flow → List Fact → MethodFigures
seen_fold = figures_of flows.total flows.exact no_calls after_call call_seen

figures_are : (flow : Flow) (facts : List Fact) → seen_fold flow facts ≡ method_figures flow facts
figures_are flow [] = refl
figures_are flow (fact ∷ earlier) = ap (call_by flow (call_seen earlier fact)) (figures_are flow earlier) ∙ figures_step flow fact earlier

pub latencies_held : (limits : FigureLimits) (facts : List Fact) (flow : Flow) (figures : MethodFigures) → (stats_of limits facts).waiting.told_full ≡ false → get (stats_of limits facts).methods.values flow ≡ Some figures → figures ≡ method_figures flow facts
latencies_held limits facts flow figures fits is =
    let at : get (seen_table limits facts).values flow ≡ Some figures = ap (λ (t : Methods). get t.values flow) (sym (methods_seen limits facts fits)) ∙ is in
    held_is flows.total flows.exact no_calls after_call call_seen limits.keys flow facts figures at ∙ figures_are flow facts

pub no_calls_held : (limits : FigureLimits) (facts : List Fact) (flow : Flow) → (stats_of limits facts).methods.told_full ≡ false → (stats_of limits facts).waiting.told_full ≡ false → get (stats_of limits facts).methods.values flow ≡ None
    → method_figures flow facts ≡ no_calls
no_calls_held limits facts flow room fits is =
    let left : (seen_table limits facts).told_full ≡ false = ap (λ (t : Methods). t.told_full) (sym (methods_seen limits facts fits)) ∙ room in
    let at : get (seen_table limits facts).values flow ≡ None = ap (λ (t : Methods). get t.values flow) (sym (methods_seen limits facts fits)) ∙ is in
    sym (figures_are flow facts) ∙ none_is flows.total flows.exact no_calls after_call call_seen limits.keys flow facts left at
