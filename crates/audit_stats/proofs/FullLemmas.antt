-- That there is no room is told once, and what has none changes nothing else.
use Rattle.std.proofs.Common.{◌≡◌, ℕ, Bool, true, false, cond, ◌&&◌, None, Some, refl, subst}
use Rattle.std.specs.declared.cmp.Ordering.{Ordering}
use Rattle.std.specs.FinMap.{get}
use Rattle.someip_tables.specs.hashed.Rooms.{told_when_full}
use Rattle.audit_stats.specs.Changes.{after_call, after_discovery, after_event, no_calls, no_discovery, no_events, time_since}
use Rattle.audit_stats.specs.declared.discovery.DiscoveryChange.TheVariants as of_discovery
use Rattle.audit_stats.specs.declared.discovery.DiscoveryFigures.{DiscoveryFigures}
use Rattle.audit_stats.specs.declared.events.EventChange.TheVariants as of_event
use Rattle.audit_stats.specs.declared.events.EventFigures.{EventFigures}
use Rattle.audit_stats.specs.declared.full.Full.{Full}
use Rattle.audit_stats.specs.declared.full.Full.TheVariants as full
use Rattle.audit_stats.specs.declared.keys.Call.{Call}
use Rattle.audit_stats.specs.declared.methods.CallChange.TheVariants as of_call
use Rattle.audit_stats.specs.declared.sight.Sight.{Sight}
use Rattle.audit_stats.specs.declared.sight.Sight.TheVariants as sights
use Rattle.audit_stats.specs.Keys.{flow_cmp, way_cmp}
use Rattle.audit_stats.specs.Sights.{sight_of}
use Rattle.audit_stats.specs.Stats.{BeganAgain, Came, Discovered, Fact, Lost, Stats, after_fact, after_sight, has_told, told_of_called, told_of_fact, told_of_sight}
use Rattle.audit_stats.specs.Tables.{Held, after_change, counted, full_told, has_room, told_of, with_held, without_held}

-- ---- of one table

-- that it is full is told where it was not told before, and is noted
module _ {K V C : Type 0} {R : K → K → Ordering} (none : V) (after : C → V → V) (kind : Full) (key : K) (change : C) (t : Held R V) where
  told_new : (told : Full) → told_of kind key t ≡ Some told → (kind ≡ told) × (t.told_full ≡ false) × ((after_change none after key change t).told_full ≡ true)
  told_new told = cases (has_room key t) t.told_full refl
    where
      cases : (r b : Bool) → t.told_full ≡ b → cond r None (told_when_full kind b) ≡ Some told → (kind ≡ told) × (t.told_full ≡ false) × ((cond r (counted none after key change t) (full_told t)).told_full ≡ true)
      cases true b now is = absurd (cc)
      cases false true now is = absurd (cc)
      cases false false now is = (cc, now, refl)

  told_stays : t.told_full ≡ true → (after_change none after key change t).told_full ≡ true
  told_stays now = cases (has_room key t)
    where
      cases : (r : Bool) → (cond r (counted none after key change t) (full_told t)).told_full ≡ true
      cases true = now
      cases false = refl

-- ---- of calls

abbrev Noted : Full → Stats → Stats → Type 0
Noted told before after = (has_told told before ≡ false) × (has_told told after ≡ true)

called_new : (now : ℕ) (call : Call) (asks : Bool) (s : Stats) (told : Full) → told_of_called call asks s.methods s.waiting ≡ Some told → Noted told s (after_sight now (sights.Called call asks) s)
called_new now call asks s told = cases (has_room call.flow s.methods) asks (has_room call s.waiting) s.methods.told_full s.waiting.told_full refl refl
  where
    cases : (r a h b d : Bool) → s.methods.told_full ≡ b → s.waiting.told_full ≡ d → cond r (cond a (cond h None (told_when_full full.Calls d)) None) (told_when_full full.Methods b) ≡ Some told
        → Noted told s (record s {
          methods = cond r (counted no_calls after_call call.flow (of_call.Called (asks && has_room call s.waiting)) s.methods) (full_told s.methods);
          waiting = cond r (cond a (cond h (with_held call now s.waiting) (full_told s.waiting)) s.waiting) s.waiting;
        })
    cases true true true b d was_b was_d is = absurd (cc)
    cases true true false b true was_b was_d is = absurd (cc)
    cases true true false b false was_b was_d is =
        let same : full.Calls ≡ told = cc in
        subst (λ f. Noted f s (record s { methods = counted no_calls after_call call.flow (of_call.Called (asks && has_room call s.waiting)) s.methods; waiting = full_told s.waiting })) same (was_d, refl)
    cases true false h b d was_b was_d is = absurd (cc)
    cases false a h true d was_b was_d is = absurd (cc)
    cases false a h false d was_b was_d is =
        let same : full.Methods ≡ told = cc in
        subst (λ f. Noted f s (record s { methods = full_told s.methods; waiting = s.waiting })) same (was_b, refl)

called_stays : (now : ℕ) (call : Call) (asks : Bool) (s : Stats) (told : Full) → has_told told s ≡ true → has_told told (after_sight now (sights.Called call asks) s) ≡ true
called_stays now call asks s told is = cases told (has_room call.flow s.methods) asks (has_room call s.waiting) is
  where
    cases : (told : Full) (r a h : Bool) → has_told told s ≡ true
        → has_told told (record s {
          methods = cond r (counted no_calls after_call call.flow (of_call.Called (asks && has_room call s.waiting)) s.methods) (full_told s.methods);
          waiting = cond r (cond a (cond h (with_held call now s.waiting) (full_told s.waiting)) s.waiting) s.waiting;
        }) ≡ true
    cases full.Methods true a h is = is
    cases full.Methods false a h is = refl
    cases full.Events r a h is = is
    cases full.Discovery r a h is = is
    cases full.Calls true true true is = is
    cases full.Calls true true false is = refl
    cases full.Calls true false h is = is
    cases full.Calls false a h is = is

answered_stays : (now : ℕ) (call : Call) (fails : Bool) (s : Stats) (told : Full) → has_told told s ≡ true → has_told told (after_sight now (sights.Answered call fails) s) ≡ true
answered_stays now call fails s told is = cases told (has_room call.flow s.methods) is
  where
    cases : (told : Full) (r : Bool) → has_told told s ≡ true
        → has_told told (record s {
          methods = cond r (counted no_calls after_call call.flow (of_call.Answered fails (time_since now (get s.waiting.values call))) s.methods) (full_told s.methods);
          waiting = cond r (without_held call s.waiting) s.waiting;
        }) ≡ true
    cases full.Methods true is = is
    cases full.Methods false is = refl
    cases full.Events r is = is
    cases full.Discovery r is = is
    cases full.Calls true is = is
    cases full.Calls false is = is

-- ---- of all that is seen

sight_new : (now : ℕ) (sight : Sight) (s : Stats) (told : Full) → told_of_sight sight s ≡ Some told → Noted told s (after_sight now sight s)
sight_new now sights.Nothing s told is = absurd (cc)
sight_new now (sights.Called call asks) s told is = called_new now call asks s told is
sight_new now (sights.Answered call fails) s told is =
    let new = told_new no_calls after_call full.Methods call.flow (of_call.Answered fails (time_since now (get s.waiting.values call))) s.methods told is in
    subst (λ f. Noted f s (after_sight now (sights.Answered call fails) s)) new.0 (new.1, new.2)
sight_new now (sights.Event flow load) s told is =
    let new = told_new no_events after_event full.Events flow (of_event.Came now load) s.events told is in
    subst (λ f. Noted f s (after_sight now (sights.Event flow load) s)) new.0 (new.1, new.2)

pub told_once : (fact : Fact) (s : Stats) (told : Full) → told_of_fact fact s ≡ Some told → (has_told told s ≡ false) × (has_told told (after_fact fact s) ≡ true)
told_once (Came now from to message) s told is = sight_new now (sight_of from to message) s told is
told_once (Discovered way) s told is =
    let new = told_new no_discovery after_discovery full.Discovery way of_discovery.Came s.discovery told is in
    subst (λ f. Noted f s (after_fact (Discovered way) s)) new.0 (new.1, new.2)
told_once (Lost flow number) s told is =
    let new = told_new no_events after_event full.Events flow (of_event.Lost number) s.events told is in
    subst (λ f. Noted f s (after_fact (Lost flow number) s)) new.0 (new.1, new.2)
told_once (BeganAgain way) s told is =
    let new = told_new no_discovery after_discovery full.Discovery way of_discovery.BeganAgain s.discovery told is in
    subst (λ f. Noted f s (after_fact (BeganAgain way) s)) new.0 (new.1, new.2)

-- where one table alone changes, what was told of it stays told
events_stay : (told : Full) (s : Stats) (events : Held flow_cmp EventFigures) → (s.events.told_full ≡ true → events.told_full ≡ true) → has_told told s ≡ true → has_told told (record s { events = events }) ≡ true
events_stay full.Methods s events stays is = is
events_stay full.Events s events stays is = stays is
events_stay full.Discovery s events stays is = is
events_stay full.Calls s events stays is = is

discovery_stays : (told : Full) (s : Stats) (discovery : Held way_cmp DiscoveryFigures) → (s.discovery.told_full ≡ true → discovery.told_full ≡ true) → has_told told s ≡ true → has_told told (record s { discovery = discovery }) ≡ true
discovery_stays full.Methods s discovery stays is = is
discovery_stays full.Events s discovery stays is = is
discovery_stays full.Discovery s discovery stays is = stays is
discovery_stays full.Calls s discovery stays is = is

sight_stays : (now : ℕ) (sight : Sight) (s : Stats) (told : Full) → has_told told s ≡ true → has_told told (after_sight now sight s) ≡ true
sight_stays now sights.Nothing s told is = is
sight_stays now (sights.Called call asks) s told is = called_stays now call asks s told is
sight_stays now (sights.Answered call fails) s told is = answered_stays now call fails s told is
sight_stays now (sights.Event flow load) s told is = events_stay told s _ (told_stays no_events after_event full.Events flow (of_event.Came now load) s.events) is

pub told_for_good : (fact : Fact) (s : Stats) (told : Full) → has_told told s ≡ true → has_told told (after_fact fact s) ≡ true
told_for_good (Came now from to message) s told is = sight_stays now (sight_of from to message) s told is
told_for_good (Discovered way) s told is = discovery_stays told s _ (told_stays no_discovery after_discovery full.Discovery way of_discovery.Came s.discovery) is
told_for_good (Lost flow number) s told is = events_stay told s _ (told_stays no_events after_event full.Events flow (of_event.Lost number) s.events) is
told_for_good (BeganAgain way) s told is = discovery_stays told s _ (told_stays no_discovery after_discovery full.Discovery way of_discovery.BeganAgain s.discovery) is
