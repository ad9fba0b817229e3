-- No more calls have an answer than want one.
use Rattle.std.proofs.Common.{◌≡◌, ℕ, ◌+◌, ◌≤◌, Bool, true, false, cond, ◌&&◌, List, [], ◌∷◌, length, Option, None, Some, refl, ap, sym, ◌∙◌, arith}
use Rattle.std.specs.List.{cons_option}
use Rattle.std.specs.Option.{is_some}
use Rattle.std.specs.Ordering.{eq_by_cmp}
use Rattle.someip_tables.proofs.Entries.{own_test, same_by_test}
use Rattle.audit_stats.specs.Changes.{number_if, time_since}
use Rattle.audit_stats.specs.declared.keys.Call.{Call}
use Rattle.audit_stats.specs.declared.keys.Flow.{Flow}
use Rattle.audit_stats.specs.declared.sight.Sight.{Sight}
use Rattle.audit_stats.specs.declared.sight.Sight.TheVariants as sights
use Rattle.audit_stats.specs.Histories.{how_often, is_message, is_request, latencies_of, latency_of, waiting_since, waits_since}
use Rattle.audit_stats.specs.Keys.{call_cmp, flow_cmp}
use Rattle.audit_stats.specs.KeyOrder.{exact_calls, flows}
use Rattle.audit_stats.specs.Sights.{sight_of}
use Rattle.audit_stats.specs.Stats.{BeganAgain, Came, Discovered, Fact, Lost}

-- how many of these calls wait
abbrev waiting_in : (Call → Option ℕ) → List Call → ℕ
waiting_in since [] = 0
waiting_in since (call ∷ calls) = number_if (is_some (since call)) + waiting_in since calls

-- a call is one of these, no call stands twice, and all are of a flow
abbrev is_among : Call → List Call → Bool
is_among other [] = false
is_among other (call ∷ calls) = cond (eq_by_cmp call_cmp call other) true (is_among other calls)

abbrev AreApart : List Call → Type 0
AreApart [] = Unit {0}
AreApart (call ∷ calls) = (is_among call calls ≡ false) × AreApart calls

abbrev AreOn : Flow → List Call → Type 0
AreOn flow [] = Unit {0}
AreOn flow (call ∷ calls) = (call.flow ≡ flow) × AreOn flow calls

-- ---- one call changes

abbrev changed : Call → Option ℕ → (Call → Option ℕ) → Call → Option ℕ
changed other now since call = cond (eq_by_cmp call_cmp call other) now (since call)

untouched : (other : Call) (now : Option ℕ) (since : Call → Option ℕ) (calls : List Call) → is_among other calls ≡ false → waiting_in (changed other now since) calls ≡ waiting_in since calls
untouched other now since [] none = refl
untouched other now since (call ∷ calls) none = cases (eq_by_cmp call_cmp call other) none (untouched other now since calls)
  where
    cases : (t : Bool) → cond t true (is_among other calls) ≡ false → (is_among other calls ≡ false → waiting_in (changed other now since) calls ≡ waiting_in since calls)
        → number_if (is_some (cond t now (since call))) + waiting_in (changed other now since) calls ≡ number_if (is_some (since call)) + waiting_in since calls
    cases true none rest = absurd (cc)
    cases false none rest = ap (λ n. number_if (is_some (since call)) + n) (rest none)

few : (b : Bool) → number_if b ≤ 1
few true = omega arith
few false = omega arith

-- at most one call more waits
put_few : (other : Call) (now : Option ℕ) (since : Call → Option ℕ) (calls : List Call) → AreApart calls → waiting_in (changed other now since) calls ≤ waiting_in since calls + 1
put_few other now since [] apart = omega arith
put_few other now since (call ∷ calls) apart = cases (eq_by_cmp call_cmp call other) refl (put_few other now since calls apart.1)
  where
    cases : (t : Bool) → eq_by_cmp call_cmp call other ≡ t → waiting_in (changed other now since) calls ≤ waiting_in since calls + 1
        → number_if (is_some (cond t now (since call))) + waiting_in (changed other now since) calls ≤ number_if (is_some (since call)) + waiting_in since calls + 1
    cases true tie rest =
        let none : is_among other calls ≡ false = ap (λ c. is_among c calls) (sym (same_by_test exact_calls call other tie)) ∙ apart.0 in
        let same : waiting_in (changed other now since) calls ≡ waiting_in since calls = untouched other now since calls none in
        let one : number_if (is_some now) ≤ 1 = few (is_some now) in
        omega (arith, same, one)
    cases false tie rest = omega (arith, rest)

-- no call more waits where one is taken out
fewer : (other : Call) (since : Call → Option ℕ) (calls : List Call) → waiting_in (changed other None since) calls ≤ waiting_in since calls
fewer other since [] = omega arith
fewer other since (call ∷ calls) = cases (eq_by_cmp call_cmp call other) (fewer other since calls)
  where
    cases : (t : Bool) → waiting_in (changed other None since) calls ≤ waiting_in since calls
        → number_if (is_some (cond t None (since call))) + waiting_in (changed other None since) calls ≤ number_if (is_some (since call)) + waiting_in since calls
    cases true rest = omega (arith, rest)
    cases false rest = omega (arith, rest)

-- and one less where it waited
one_less : (other : Call) (at : ℕ) (since : Call → Option ℕ) (calls : List Call) → since other ≡ Some at → is_among other calls ≡ true → waiting_in (changed other None since) calls + 1 ≤ waiting_in since calls
one_less other at since [] waits among = absurd (cc)
one_less other at since (call ∷ calls) waits among = cases (eq_by_cmp call_cmp call other) refl among (one_less other at since calls waits)
  where
    cases : (t : Bool) → eq_by_cmp call_cmp call other ≡ t → cond t true (is_among other calls) ≡ true → (is_among other calls ≡ true → waiting_in (changed other None since) calls + 1 ≤ waiting_in since calls)
        → number_if (is_some (cond t None (since call))) + waiting_in (changed other None since) calls + 1 ≤ number_if (is_some (since call)) + waiting_in since calls
    cases true tie among rest =
        let some : number_if (is_some (since call)) ≡ 1 = ap (λ c. number_if (is_some (since c))) (same_by_test exact_calls call other tie) ∙ ap (λ o. number_if (is_some o)) waits in
        let less : waiting_in (changed other None since) calls ≤ waiting_in since calls = fewer other since calls in
        omega (arith, some, less)
    cases false tie among rest = let less : waiting_in (changed other None since) calls + 1 ≤ waiting_in since calls = rest among in omega (arith, less)

-- a call on another flow is none of these
not_among : (flow : Flow) (other : Call) (calls : List Call) → eq_by_cmp flow_cmp flow other.flow ≡ false → AreOn flow calls → is_among other calls ≡ false
not_among flow other [] apart on = refl
not_among flow other (call ∷ calls) apart on = cases (eq_by_cmp call_cmp call other) refl (not_among flow other calls apart on.1)
  where
    cases : (t : Bool) → eq_by_cmp call_cmp call other ≡ t → is_among other calls ≡ false → cond t true (is_among other calls) ≡ false
    cases true tie rest =
        let same : call.flow ≡ other.flow = ap (λ (c : Call). c.flow) (same_by_test exact_calls call other tie) in
        let one : eq_by_cmp flow_cmp flow other.flow ≡ true = ap (λ r. eq_by_cmp flow_cmp flow r) (sym same ∙ on.0) ∙ own_test flows.total flow in
        absurd (cc)
    cases false tie rest = rest

-- ---- a message comes

sight_kept : (flow : Flow) (now : ℕ) (sight : Sight) (earlier : List Fact) (asked : ℕ) → ((calls : List Call) → AreApart calls → AreOn flow calls → waiting_in (λ call. waiting_since call earlier) calls + length (latencies_of flow earlier) ≤ asked)
    → (calls : List Call) → AreApart calls → AreOn flow calls
    → waiting_in (λ call. waits_since call now sight (waiting_since call earlier)) calls + length (cons_option (latency_of flow now sight earlier) (latencies_of flow earlier)) ≤ cond (is_request flow sight) (asked + 1) asked
sight_kept flow now sights.Nothing earlier asked kept calls apart on = kept calls apart on
sight_kept flow now (sights.Called other asks) earlier asked kept calls apart on = cases asks (eq_by_cmp flow_cmp flow other.flow) refl
  where
    cases : (a e : Bool) → eq_by_cmp flow_cmp flow other.flow ≡ e
        → waiting_in (λ call. cond (a && eq_by_cmp call_cmp call other) (Some now) (waiting_since call earlier)) calls + length (latencies_of flow earlier) ≤ cond (e && a) (asked + 1) asked
    cases true true is =
        let most : waiting_in (changed other (Some now) (λ call. waiting_since call earlier)) calls ≤ waiting_in (λ call. waiting_since call earlier) calls + 1 = put_few other (Some now) (λ call. waiting_since call earlier) calls apart in
        let before = kept calls apart on in
        omega (arith, most, before)
    cases true false is =
        let same : waiting_in (changed other (Some now) (λ call. waiting_since call earlier)) calls ≡ waiting_in (λ call. waiting_since call earlier) calls = untouched other (Some now) (λ call. waiting_since call earlier) calls (not_among flow other calls is on) in
        let before = kept calls apart on in
        omega (arith, same, before)
    cases false true is = kept calls apart on
    cases false false is = kept calls apart on
sight_kept flow now (sights.Answered other fails) earlier asked kept calls apart on = cases (eq_by_cmp flow_cmp flow other.flow) (waiting_since other earlier) (is_among other calls) refl refl refl
  where
    less : waiting_in (changed other None (λ call. waiting_since call earlier)) calls ≤ waiting_in (λ call. waiting_since call earlier) calls
    less = fewer other (λ call. waiting_since call earlier) calls

    cases : (e : Bool) (since : Option ℕ) (among : Bool) → eq_by_cmp flow_cmp flow other.flow ≡ e → waiting_since other earlier ≡ since → is_among other calls ≡ among
        → waiting_in (changed other None (λ call. waiting_since call earlier)) calls + length (cons_option (cond e (time_since now since) None) (latencies_of flow earlier)) ≤ asked
    cases false since among is waits stands = let before = kept calls apart on in omega (arith, less, before)
    cases true None among is waits stands = let before = kept calls apart on in omega (arith, less, before)
    cases true (Some at) true is waits stands =
        let one : waiting_in (changed other None (λ call. waiting_since call earlier)) calls + 1 ≤ waiting_in (λ call. waiting_since call earlier) calls = one_less other at (λ call. waiting_since call earlier) calls waits stands in
        let before = kept calls apart on in
        omega (arith, one, before)
    cases true (Some at) false is waits stands =
        let before = kept (other ∷ calls) (stands, apart) (sym (same_by_test flows.exact flow other.flow is), on) in
        let some : number_if (is_some (waiting_since other earlier)) ≡ 1 = ap (λ o. number_if (is_some o)) waits in
        omega (arith, less, before, some)
sight_kept flow now (sights.Event other load) earlier asked kept calls apart on = kept calls apart on

answered : (flow : Flow) (facts : List Fact) (calls : List Call) → AreApart calls → AreOn flow calls → waiting_in (λ call. waiting_since call facts) calls + length (latencies_of flow facts) ≤ how_often (is_message (is_request flow)) facts
answered flow [] calls apart on = none calls
  where
    none : (calls : List Call) → waiting_in (λ call. waiting_since call []) calls + 0 ≤ 0
    none [] = omega arith
    none (call ∷ calls) = let rest = none calls in omega (arith, rest)
answered flow (Came now from to message ∷ earlier) calls apart on =
    sight_kept flow now (sight_of from to message) earlier (how_often (is_message (is_request flow)) earlier) (answered flow earlier) calls apart on
answered flow (Discovered way ∷ earlier) calls apart on = answered flow earlier calls apart on
answered flow (Lost other number ∷ earlier) calls apart on = answered flow earlier calls apart on
answered flow (BeganAgain way ∷ earlier) calls apart on = answered flow earlier calls apart on

pub answered_asked : (flow : Flow) (facts : List Fact) → length (latencies_of flow facts) ≤ how_often (is_message (is_request flow)) facts
answered_asked flow facts = let most = answered flow facts [] tt tt in omega (arith, most)
