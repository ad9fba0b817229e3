-- The figures of a recording, and what each thing that is seen makes of them.
use Rattle.std.specs.Prelude.{ℕ, Bool, false, ◌&&◌, ◌||◌, List, [], ◌∷◌, Option, None, if◌then◌else◌, refl}
use Rattle.std.specs.Option.{is_none}
use Rattle.std.specs.Coded.{Coded, code_by, coded×, coded_ℕ}
use Rattle.std.specs.FinMap as finite
use Rattle.std.specs.declared.net.socket_addr.SocketAddrV4.{SocketAddrV4}
use Rattle.someip_tables.specs.hashed.Rooms.{told_when_full}
use Rattle.someip_wire.specs.Spelling.{MessageValue}
use Rattle.audit_stats.specs.Changes.{after_call, after_discovery, after_event, call_takes, coded_discovery_figures, coded_event_figures, coded_method_figures, discovery_takes, event_takes, no_calls, no_discovery, no_events, time_since}
use Rattle.audit_stats.specs.declared.discovery.DiscoveryChange.TheVariants as of_discovery
use Rattle.audit_stats.specs.declared.discovery.DiscoveryFigures.{DiscoveryFigures}
use Rattle.audit_stats.specs.declared.events.EventChange.TheVariants as of_event
use Rattle.audit_stats.specs.declared.events.EventFigures.{EventFigures}
use Rattle.audit_stats.specs.declared.full.Full.{Full}
use Rattle.audit_stats.specs.declared.full.Full.TheVariants as full
use Rattle.audit_stats.specs.declared.full.FigureLimits.{FigureLimits}
use Rattle.audit_stats.specs.declared.keys.Call.{Call}
use Rattle.audit_stats.specs.declared.keys.Flow.{Flow}
use Rattle.audit_stats.specs.declared.keys.Way.{Way}
use Rattle.audit_stats.specs.declared.methods.CallChange.TheVariants as of_call
use Rattle.audit_stats.specs.declared.methods.MethodFigures.{MethodFigures}
use Rattle.audit_stats.specs.declared.sight.Sight.{Sight}
use Rattle.audit_stats.specs.declared.sight.Sight.TheVariants as sights
use Rattle.audit_stats.specs.Keys.{call_cmp, coded_call, coded_flow, coded_way, flow_cmp, way_cmp}
use Rattle.audit_stats.specs.Sights.{sight_of}
use Rattle.audit_stats.specs.Tables.{Held, after_change, after_takes, coded_held, counted, empty_held, full_told, has_room, told_of, with_held, without_held}

-- the figures of methods, and since when calls wait for their answers
abbrev pub Methods : Type 0
Methods = Held flow_cmp MethodFigures

abbrev pub Waiting : Type 0
Waiting = Held call_cmp ℕ

-- all figures of a recording
pub record Stats : Type 0 where
  pub methods : Methods
  pub events : Held flow_cmp EventFigures
  pub discovery : Held way_cmp DiscoveryFigures
  pub waiting : Waiting

-- before anything was seen
abbrev pub no_stats : FigureLimits → Stats
no_stats limits = record { methods = empty_held limits.keys; events = empty_held limits.keys; discovery = empty_held limits.keys; waiting = empty_held limits.calls }

-- ---- calls

-- a call waits for its answer, if it wants one and there is room among those that wait. It takes the place of one with its key
abbrev pub waiting_more : ℕ → Call → Bool → Waiting → Waiting
waiting_more now call asks w = if asks then (if has_room call w then with_held call now w else full_told w) else w

-- a call came: it is counted, if its method has room, and else nothing else changes
abbrev pub methods_called : Call → Bool → Methods → Waiting → Methods
methods_called call asks m w =
    if has_room call.flow m then counted no_calls after_call call.flow (of_call.Called (asks && has_room call w)) m else full_told m

abbrev pub waiting_called : ℕ → Call → Bool → Methods → Waiting → Waiting
waiting_called now call asks m w = if has_room call.flow m then waiting_more now call asks w else w

-- what is told of it: that there is no room for its method, or none among the calls that wait
abbrev pub told_of_called : Call → Bool → Methods → Waiting → Option Full
told_of_called call asks m w =
    if has_room call.flow m then (if asks then told_of full.Calls call w else None) else told_when_full full.Methods m.told_full

-- whether it takes memory: for its method, or for a call more that waits
abbrev pub called_takes : Call → Bool → Methods → Waiting → Bool
called_takes call asks m w = has_room call.flow m && (is_none (finite.get m.values call.flow) || (asks && has_room call w && is_none (finite.get w.values call)))

-- ---- answers

-- an answer came: it is counted, with the time since its call, if that waits
abbrev pub methods_answered : ℕ → Call → Bool → Methods → Waiting → Methods
methods_answered now call fails m w = after_change no_calls after_call call.flow (of_call.Answered fails (time_since now (finite.get w.values call))) m

-- whether it takes memory
abbrev pub answered_takes : ℕ → Call → Bool → Methods → Waiting → Bool
answered_takes now call fails m w = after_takes call_takes call.flow (of_call.Answered fails (time_since now (finite.get w.values call))) m

-- its call waits no more
abbrev pub waiting_answered : Call → Methods → Waiting → Waiting
waiting_answered call m w = if has_room call.flow m then without_held call w else w

-- ---- all that is seen

-- a message that is none of Service Discovery came at a moment, from one endpoint to another; one of Service Discovery went a way;
-- so many sessions of an event were lost; or the sender of a way began again
pub data Fact : Type 0 where
  Came : ℕ → SocketAddrV4 → SocketAddrV4 → MessageValue → Fact
  Discovered : Way → Fact
  Lost : Flow → ℕ → Fact
  BeganAgain : Way → Fact

-- what a message makes of the figures, by what it is
abbrev pub after_sight : ℕ → Sight → Stats → Stats
after_sight now sights.Nothing s = s
after_sight now (sights.Called call asks) s = record s { methods = methods_called call asks s.methods s.waiting; waiting = waiting_called now call asks s.methods s.waiting }
after_sight now (sights.Answered call fails) s = record s { methods = methods_answered now call fails s.methods s.waiting; waiting = waiting_answered call s.methods s.waiting }
after_sight now (sights.Event flow load) s = record s { events = after_change no_events after_event flow (of_event.Came now load) s.events }

-- the figures once something was seen
abbrev pub after_fact : Fact → Stats → Stats
after_fact (Came now from to message) s = after_sight now (sight_of from to message) s
after_fact (Discovered way) s = record s { discovery = after_change no_discovery after_discovery way of_discovery.Came s.discovery }
after_fact (Lost flow number) s = record s { events = after_change no_events after_event flow (of_event.Lost number) s.events }
after_fact (BeganAgain way) s = record s { discovery = after_change no_discovery after_discovery way of_discovery.BeganAgain s.discovery }

-- what is told of it: that there is no room for it, once for each of the four
abbrev pub told_of_sight : Sight → Stats → Option Full
told_of_sight sights.Nothing s = None
told_of_sight (sights.Called call asks) s = told_of_called call asks s.methods s.waiting
told_of_sight (sights.Answered call fails) s = told_of full.Methods call.flow s.methods
told_of_sight (sights.Event flow load) s = told_of full.Events flow s.events

abbrev pub told_of_fact : Fact → Stats → Option Full
told_of_fact (Came now from to message) s = told_of_sight (sight_of from to message) s
told_of_fact (Discovered way) s = told_of full.Discovery way s.discovery
told_of_fact (Lost flow number) s = told_of full.Events flow s.events
told_of_fact (BeganAgain way) s = told_of full.Discovery way s.discovery

-- whether it takes memory: for a new key, for a call more that waits, or for a new bucket
abbrev pub sight_takes : ℕ → Sight → Stats → Bool
sight_takes now sights.Nothing s = false
sight_takes now (sights.Called call asks) s = called_takes call asks s.methods s.waiting
sight_takes now (sights.Answered call fails) s = answered_takes now call fails s.methods s.waiting
sight_takes now (sights.Event flow load) s = after_takes event_takes flow (of_event.Came now load) s.events

abbrev pub fact_takes : Fact → Stats → Bool
fact_takes (Came now from to message) s = sight_takes now (sight_of from to message) s
fact_takes (Discovered way) s = after_takes discovery_takes way of_discovery.Came s.discovery
fact_takes (Lost flow number) s = after_takes event_takes flow (of_event.Lost number) s.events
fact_takes (BeganAgain way) s = after_takes discovery_takes way of_discovery.BeganAgain s.discovery

-- the figures of a history, which has the newest first
abbrev pub stats_of : FigureLimits → List Fact → Stats
stats_of limits [] = no_stats limits
stats_of limits (fact ∷ earlier) = after_fact fact (stats_of limits earlier)

-- ---- a code, by which a proof tells values apart

abbrev pub coded_stats : Coded Stats
coded_stats =
    code_by ((Methods × Held flow_cmp EventFigures) × (Held way_cmp DiscoveryFigures × Waiting))
    (coded× (coded× (coded_held coded_flow coded_method_figures) (coded_held coded_flow coded_event_figures)) (coded× (coded_held coded_way coded_discovery_figures) (coded_held coded_call coded_ℕ)))
    (λ s. ((s.methods, s.events), (s.discovery, s.waiting))) (λ c. record { methods = c.0.0; events = c.0.1; discovery = c.1.0; waiting = c.1.1 }) (λ _. refl)

-- ---- what was told

-- that there is no room was told
abbrev pub has_told : Full → Stats → Bool
has_told full.Methods s = s.methods.told_full
has_told full.Events s = s.events.told_full
has_told full.Discovery s = s.discovery.told_full
has_told full.Calls s = s.waiting.told_full
