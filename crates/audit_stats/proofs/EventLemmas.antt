-- What figures hold of the events and of the Service Discovery of a history.
use Rattle.std.proofs.Common.{◌≡◌, ℕ, ◌+◌, Bool, true, false, cond, ◌&&◌, List, [], ◌∷◌, Option, None, Some, refl, ap, sym, ◌∙◌, arith}
use Rattle.std.specs.List.{cons_option}
use Rattle.std.specs.Ordering.{eq_by_cmp}
use Rattle.std.specs.FinMap.{get}
use Rattle.audit_stats.specs.Changes.{after_discovery, after_event, no_discovery, no_events, time_since, with_some}
use Rattle.audit_stats.specs.declared.discovery.DiscoveryChange.{DiscoveryChange}
use Rattle.audit_stats.specs.declared.discovery.DiscoveryChange.TheVariants as of_discovery
use Rattle.audit_stats.specs.declared.discovery.DiscoveryFigures.{DiscoveryFigures}
use Rattle.audit_stats.specs.declared.events.EventChange.{EventChange}
use Rattle.audit_stats.specs.declared.events.EventChange.TheVariants as of_event
use Rattle.audit_stats.specs.declared.events.EventFigures.{EventFigures}
use Rattle.audit_stats.specs.declared.full.FigureLimits.{FigureLimits}
use Rattle.audit_stats.specs.declared.keys.Flow.{Flow}
use Rattle.audit_stats.specs.declared.keys.Way.{Way}
use Rattle.audit_stats.specs.declared.sight.Sight.{Sight}
use Rattle.audit_stats.specs.declared.sight.Sight.TheVariants as sights
use Rattle.audit_stats.specs.Histories.{bytes_in, bytes_of, capped, cycles_of, discovery_figures, event_figures, how_often, is_discovered, is_event, is_message, is_reboot, last_of, lost_in, total}
use Rattle.audit_stats.specs.Keys.{flow_cmp, way_cmp}
use Rattle.audit_stats.specs.KeyOrder.{flows, ways}
use Rattle.audit_stats.specs.Sights.{sight_of}
use Rattle.audit_stats.specs.Spreads.{Values, raised, spread_of}
use Rattle.audit_stats.specs.Stats.{BeganAgain, Came, Discovered, Fact, Lost, Stats, after_fact, after_sight, stats_of}
use Rattle.audit_stats.specs.Tables.{Held}
use Rattle.audit_stats.proofs.TallyLemmas.{by_change, figures_by, figures_of, held_is, none_is, table_of}

-- ---- counters and spreads

pub raised_is : (n by : ℕ) → raised (capped n) by ≡ capped (n + by)
raised_is n by = omega arith

pub some_more : (o : Option ℕ) (values : List ℕ) → with_some o (spread_of values) ≡ spread_of (cons_option o values)
some_more None values = refl
some_more (Some value) values = refl

pub no_more : (n : ℕ) → capped n ≡ capped (n + 0)
no_more n = omega arith

-- ---- events

event_change_of : ℕ → Sight → Option (Flow × EventChange)
event_change_of now (sights.Event flow load) = Some (flow, of_event.Came now load)
event_change_of now other = None

event_change : List Fact → Fact → Option (Flow × EventChange)
event_change earlier (Came now from to message) = event_change_of now (sight_of from to message)
event_change earlier (Lost flow number) = Some (flow, of_event.Lost number)
event_change earlier other = None

abbrev event_table : ℕ → List Fact → Held flow_cmp EventFigures
event_table = table_of flows.total flows.exact no_events after_event event_change

sight_step : (now : ℕ) (sight : Sight) (s : Stats) → (after_sight now sight s).events ≡ by_change flows.total flows.exact no_events after_event (event_change_of now sight) s.events
unfolding event_change_of
sight_step now sights.Nothing s = refl
sight_step now (sights.Called call asks) s = refl
sight_step now (sights.Answered call fails) s = refl
sight_step now (sights.Event flow load) s = refl

event_step : (fact : Fact) (earlier : List Fact) (s : Stats) → (after_fact fact s).events ≡ by_change flows.total flows.exact no_events after_event (event_change earlier fact) s.events
unfolding event_change
event_step (Came now from to message) earlier s = sight_step now (sight_of from to message) s
event_step (Discovered way) earlier s = refl
event_step (Lost flow number) earlier s = refl
event_step (BeganAgain way) earlier s = refl

events_table : (limits : FigureLimits) (facts : List Fact) → (stats_of limits facts).events ≡ event_table limits.keys facts
events_table limits [] = refl
events_table limits (fact ∷ earlier) = event_step fact earlier (stats_of limits earlier) ∙ ap (by_change flows.total flows.exact no_events after_event (event_change earlier fact)) (events_table limits earlier)

same_event : {a b c d e f : ℕ} {l m : Option ℕ} {v w : Values} → a ≡ b → c ≡ d → e ≡ f → l ≡ m → v ≡ w
    → ◌≡◌ {A = EventFigures} (record { count = a; bytes = c; gaps = e; last = l; cycle = v }) (record { count = b; bytes = d; gaps = f; last = m; cycle = w })
same_event count bytes gaps last cycle = λ i. record { count = count i; bytes = bytes i; gaps = gaps i; last = last i; cycle = cycle i }

abbrev event_by : Flow → Option (Flow × EventChange) → EventFigures → EventFigures
event_by = figures_by flows.total flows.exact no_events after_event

-- figures with these numbers
abbrev event_with : ℕ → ℕ → ℕ → Option ℕ → List ℕ → EventFigures
event_with n b g last cycles = record { count = capped n; bytes = capped b; gaps = capped g; last = last; cycle = spread_of cycles }

-- once one more message came
sight_counted : (flow : Flow) (now : ℕ) (sight : Sight) (n b g : ℕ) (last : Option ℕ) (cycles : List ℕ)
    → event_by flow (event_change_of now sight) (event_with n b g last cycles)
    ≡ event_with (cond (is_event flow sight) (n + 1) n) (b + bytes_of flow sight) (g + 0) (cond (is_event flow sight) (Some now) last) (cond (is_event flow sight) (cons_option (time_since now last) cycles) cycles)
unfolding event_change_of
sight_counted flow now sights.Nothing n b g last cycles = same_event refl (no_more b) (no_more g) refl refl
sight_counted flow now (sights.Called call asks) n b g last cycles = same_event refl (no_more b) (no_more g) refl refl
sight_counted flow now (sights.Answered call fails) n b g last cycles = same_event refl (no_more b) (no_more g) refl refl
sight_counted flow now (sights.Event other load) n b g last cycles = cases (eq_by_cmp flow_cmp flow other) load.ends refl
  where
    cases : (s e : Bool) → load.ends ≡ e → cond s (after_event (of_event.Came now load) (event_with n b g last cycles)) (event_with n b g last cycles)
        ≡ event_with (cond (s && e) (n + 1) n) (b + cond s load.bytes 0) (g + 0) (cond (s && e) (Some now) last) (cond (s && e) (cons_option (time_since now last) cycles) cycles)
    cases true true ends = rw ends (same_event (raised_is n 1) (raised_is b load.bytes) (no_more g) refl (some_more (time_since now last) cycles))
    cases true false ends = rw ends (same_event refl (raised_is b load.bytes) (no_more g) refl refl)
    cases false true ends = same_event refl (no_more b) (no_more g) refl refl
    cases false false ends = same_event refl (no_more b) (no_more g) refl refl

-- once more were lost
lost_counted : (flow other : Flow) (number n b g : ℕ) (last : Option ℕ) (cycles : List ℕ)
    → event_by flow (Some (other, of_event.Lost number)) (event_with n b g last cycles) ≡ event_with n (b + 0) (g + cond (eq_by_cmp flow_cmp flow other) number 0) last cycles
lost_counted flow other number n b g last cycles = cases (eq_by_cmp flow_cmp flow other)
  where
    cases : (s : Bool) → cond s (after_event (of_event.Lost number) (event_with n b g last cycles)) (event_with n b g last cycles) ≡ event_with n (b + 0) (g + cond s number 0) last cycles
    cases true = same_event refl (no_more b) (raised_is g number) refl refl
    cases false = same_event refl (no_more b) (no_more g) refl refl

event_counted : (flow : Flow) (fact : Fact) (earlier : List Fact) → event_by flow (event_change earlier fact) (event_figures flow earlier) ≡ event_figures flow (fact ∷ earlier)
unfolding event_change
event_counted flow (Came now from to message) earlier =
    sight_counted flow now (sight_of from to message) (how_often (is_message (is_event flow)) earlier) (total (bytes_in flow) earlier) (total (lost_in flow) earlier) (last_of flow earlier) (cycles_of flow earlier)
event_counted flow (Discovered way) earlier = same_event refl (no_more (total (bytes_in flow) earlier)) (no_more (total (lost_in flow) earlier)) refl refl
event_counted flow (Lost other number) earlier =
    lost_counted flow other number (how_often (is_message (is_event flow)) earlier) (total (bytes_in flow) earlier) (total (lost_in flow) earlier) (last_of flow earlier) (cycles_of flow earlier)
event_counted flow (BeganAgain way) earlier = same_event refl (no_more (total (bytes_in flow) earlier)) (no_more (total (lost_in flow) earlier)) refl refl

abbrev event_fold : Flow → List Fact → EventFigures
event_fold = figures_of flows.total flows.exact no_events after_event event_change

event_figures_are : (flow : Flow) (facts : List Fact) → event_fold flow facts ≡ event_figures flow facts
event_figures_are flow [] = refl
event_figures_are flow (fact ∷ earlier) = ap (event_by flow (event_change earlier fact)) (event_figures_are flow earlier) ∙ event_counted flow fact earlier

pub events_held : (limits : FigureLimits) (facts : List Fact) (flow : Flow) (figures : EventFigures) → get (stats_of limits facts).events.values flow ≡ Some figures → figures ≡ event_figures flow facts
events_held limits facts flow figures is =
    let at : get (event_table limits.keys facts).values flow ≡ Some figures = ap (λ (t : Held flow_cmp EventFigures). get t.values flow) (sym (events_table limits facts)) ∙ is in
    held_is flows.total flows.exact no_events after_event event_change limits.keys flow facts figures at ∙ event_figures_are flow facts

pub no_events_held : (limits : FigureLimits) (facts : List Fact) (flow : Flow) → (stats_of limits facts).events.told_full ≡ false → get (stats_of limits facts).events.values flow ≡ None → event_figures flow facts ≡ no_events
no_events_held limits facts flow fits is =
    let room : (event_table limits.keys facts).told_full ≡ false = ap (λ (t : Held flow_cmp EventFigures). t.told_full) (sym (events_table limits facts)) ∙ fits in
    let at : get (event_table limits.keys facts).values flow ≡ None = ap (λ (t : Held flow_cmp EventFigures). get t.values flow) (sym (events_table limits facts)) ∙ is in
    sym (event_figures_are flow facts) ∙ none_is flows.total flows.exact no_events after_event event_change limits.keys flow facts room at

-- ---- Service Discovery

discovery_change : List Fact → Fact → Option (Way × DiscoveryChange)
discovery_change earlier (Discovered way) = Some (way, of_discovery.Came)
discovery_change earlier (BeganAgain way) = Some (way, of_discovery.BeganAgain)
discovery_change earlier other = None

abbrev discovery_table : ℕ → List Fact → Held way_cmp DiscoveryFigures
discovery_table = table_of ways.total ways.exact no_discovery after_discovery discovery_change

sight_leaves : (now : ℕ) (sight : Sight) (s : Stats) → (after_sight now sight s).discovery ≡ s.discovery
sight_leaves now sights.Nothing s = refl
sight_leaves now (sights.Called call asks) s = refl
sight_leaves now (sights.Answered call fails) s = refl
sight_leaves now (sights.Event flow load) s = refl

discovery_step : (fact : Fact) (earlier : List Fact) (s : Stats) → (after_fact fact s).discovery ≡ by_change ways.total ways.exact no_discovery after_discovery (discovery_change earlier fact) s.discovery
unfolding discovery_change
discovery_step (Came now from to message) earlier s = sight_leaves now (sight_of from to message) s
discovery_step (Discovered way) earlier s = refl
discovery_step (Lost flow number) earlier s = refl
discovery_step (BeganAgain way) earlier s = refl

discovery_is : (limits : FigureLimits) (facts : List Fact) → (stats_of limits facts).discovery ≡ discovery_table limits.keys facts
discovery_is limits [] = refl
discovery_is limits (fact ∷ earlier) = discovery_step fact earlier (stats_of limits earlier) ∙ ap (by_change ways.total ways.exact no_discovery after_discovery (discovery_change earlier fact)) (discovery_is limits earlier)

abbrev discovery_by : Way → Option (Way × DiscoveryChange) → DiscoveryFigures → DiscoveryFigures
discovery_by = figures_by ways.total ways.exact no_discovery after_discovery

discovery_counted : (way : Way) (fact : Fact) (earlier : List Fact) → discovery_by way (discovery_change earlier fact) (discovery_figures way earlier) ≡ discovery_figures way (fact ∷ earlier)
unfolding discovery_change
discovery_counted way (Came now from to message) earlier = refl
discovery_counted way (Discovered other) earlier = cases (eq_by_cmp way_cmp way other)
  where
    cases : (s : Bool) → cond s (after_discovery of_discovery.Came (discovery_figures way earlier)) (discovery_figures way earlier)
        ≡ record { messages = capped (cond s (how_often (is_discovered way) earlier + 1) (how_often (is_discovered way) earlier)); reboots = capped (how_often (is_reboot way) earlier) }
    cases true = ap (λ n. record { messages = n; reboots = capped (how_often (is_reboot way) earlier) }) (raised_is (how_often (is_discovered way) earlier) 1)
    cases false = refl
discovery_counted way (Lost flow number) earlier = refl
discovery_counted way (BeganAgain other) earlier = cases (eq_by_cmp way_cmp way other)
  where
    cases : (s : Bool) → cond s (after_discovery of_discovery.BeganAgain (discovery_figures way earlier)) (discovery_figures way earlier)
        ≡ record { messages = capped (how_often (is_discovered way) earlier); reboots = capped (cond s (how_often (is_reboot way) earlier + 1) (how_often (is_reboot way) earlier)) }
    cases true = ap (λ n. record { messages = capped (how_often (is_discovered way) earlier); reboots = n }) (raised_is (how_often (is_reboot way) earlier) 1)
    cases false = refl

abbrev discovery_fold : Way → List Fact → DiscoveryFigures
discovery_fold = figures_of ways.total ways.exact no_discovery after_discovery discovery_change

discovery_figures_are : (way : Way) (facts : List Fact) → discovery_fold way facts ≡ discovery_figures way facts
discovery_figures_are way [] = refl
discovery_figures_are way (fact ∷ earlier) = ap (discovery_by way (discovery_change earlier fact)) (discovery_figures_are way earlier) ∙ discovery_counted way fact earlier

pub discovery_held : (limits : FigureLimits) (facts : List Fact) (way : Way) (figures : DiscoveryFigures) → get (stats_of limits facts).discovery.values way ≡ Some figures → figures ≡ discovery_figures way facts
discovery_held limits facts way figures is =
    let at : get (discovery_table limits.keys facts).values way ≡ Some figures = ap (λ (t : Held way_cmp DiscoveryFigures). get t.values way) (sym (discovery_is limits facts)) ∙ is in
    held_is ways.total ways.exact no_discovery after_discovery discovery_change limits.keys way facts figures at ∙ discovery_figures_are way facts

pub no_discovery_held : (limits : FigureLimits) (facts : List Fact) (way : Way) → (stats_of limits facts).discovery.told_full ≡ false → get (stats_of limits facts).discovery.values way ≡ None → discovery_figures way facts ≡ no_discovery
no_discovery_held limits facts way fits is =
    let room : (discovery_table limits.keys facts).told_full ≡ false = ap (λ (t : Held way_cmp DiscoveryFigures). t.told_full) (sym (discovery_is limits facts)) ∙ fits in
    let at : get (discovery_table limits.keys facts).values way ≡ None = ap (λ (t : Held way_cmp DiscoveryFigures). get t.values way) (sym (discovery_is limits facts)) ∙ is in
    sym (discovery_figures_are way facts) ∙ none_is ways.total ways.exact no_discovery after_discovery discovery_change limits.keys way facts room at
