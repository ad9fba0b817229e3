-- What is counted of a method, of an event and of a way.
use Rattle.std.specs.Prelude.{ℕ, ◌-◌, ◌&&◌, Bool, true, false, Option, None, Some, if◌then◌else◌, refl}
use Rattle.std.specs.Coded.{Coded, code_by, coded×, coded_ℕ, coded_option}
use Rattle.audit_stats.specs.declared.discovery.DiscoveryChange.{DiscoveryChange}
use Rattle.audit_stats.specs.declared.discovery.DiscoveryChange.TheVariants as of_discovery
use Rattle.audit_stats.specs.declared.discovery.DiscoveryFigures.{DiscoveryFigures}
use Rattle.audit_stats.specs.declared.events.EventChange.{EventChange}
use Rattle.audit_stats.specs.declared.events.EventChange.TheVariants as of_event
use Rattle.audit_stats.specs.declared.events.EventFigures.{EventFigures}
use Rattle.audit_stats.specs.declared.methods.CallChange.{CallChange}
use Rattle.audit_stats.specs.declared.methods.CallChange.TheVariants as of_call
use Rattle.audit_stats.specs.declared.methods.MethodFigures.{MethodFigures}
use Rattle.audit_stats.specs.Spreads.{Values, coded_values, is_first_in_bucket, no_values, raised, with_value}

-- one where something holds
abbrev pub number_if : Bool → ℕ
number_if true = 1
number_if false = 0

-- how long ago a moment was, if there was one
abbrev pub time_since : ℕ → Option ℕ → Option ℕ
time_since now None = None
time_since now (Some at) = Some (now - at)

-- the spread once a value came, if one did
abbrev pub with_some : Option ℕ → Values → Values
with_some None s = s
with_some (Some value) s = with_value value s

-- it takes memory, if one comes that is the first in its bucket
abbrev pub some_takes : Option ℕ → Values → Bool
some_takes None s = false
some_takes (Some value) s = is_first_in_bucket value s

-- ---- methods

abbrev pub no_calls : MethodFigures
no_calls = record { calls = 0; answers = 0; errors = 0; waited = 0; latency = no_values }

abbrev pub after_call : CallChange → MethodFigures → MethodFigures
after_call (of_call.Called waits) f = record f { calls = raised f.calls 1; waited = raised f.waited (number_if waits) }
after_call (of_call.Answered fails latency) f =
    record f { answers = raised f.answers 1; errors = raised f.errors (number_if fails); latency = with_some latency f.latency }

abbrev pub call_takes : CallChange → MethodFigures → Bool
call_takes (of_call.Called waits) f = false
call_takes (of_call.Answered fails latency) f = some_takes latency f.latency

-- the calls that were waited for, and have no answer
abbrev pub unanswered_of : MethodFigures → ℕ
unanswered_of f = f.waited - f.latency.count

-- ---- events

abbrev pub no_events : EventFigures
no_events = record { count = 0; bytes = 0; gaps = 0; last = None; cycle = no_values }

abbrev pub after_event : EventChange → EventFigures → EventFigures
after_event (of_event.Came at load) f =
    if load.ends then record f { count = raised f.count 1; bytes = raised f.bytes load.bytes; last = Some at; cycle = with_some (time_since at f.last) f.cycle }
    else record f { bytes = raised f.bytes load.bytes }
after_event (of_event.Lost number) f = record f { gaps = raised f.gaps number }

abbrev pub event_takes : EventChange → EventFigures → Bool
event_takes (of_event.Came at load) f = load.ends && some_takes (time_since at f.last) f.cycle
event_takes (of_event.Lost number) f = false

-- ---- Service Discovery

abbrev pub no_discovery : DiscoveryFigures
no_discovery = record { messages = 0; reboots = 0 }

abbrev pub after_discovery : DiscoveryChange → DiscoveryFigures → DiscoveryFigures
after_discovery of_discovery.Came f = record f { messages = raised f.messages 1 }
after_discovery of_discovery.BeganAgain f = record f { reboots = raised f.reboots 1 }

abbrev pub discovery_takes : DiscoveryChange → DiscoveryFigures → Bool
discovery_takes change f = false

-- ---- codes, by which a proof tells values apart

abbrev pub coded_method_figures : Coded MethodFigures
coded_method_figures =
    code_by (((ℕ × ℕ) × (ℕ × ℕ)) × Values) (coded× (coded× (coded× coded_ℕ coded_ℕ) (coded× coded_ℕ coded_ℕ)) coded_values)
    (λ f. (((f.calls, f.answers), (f.errors, f.waited)), f.latency))
    (λ c. record { calls = c.0.0.0; answers = c.0.0.1; errors = c.0.1.0; waited = c.0.1.1; latency = c.1 }) (λ _. refl)

abbrev pub coded_event_figures : Coded EventFigures
coded_event_figures =
    code_by (((ℕ × ℕ) × (ℕ × Option ℕ)) × Values) (coded× (coded× (coded× coded_ℕ coded_ℕ) (coded× coded_ℕ (coded_option coded_ℕ))) coded_values)
    (λ f. (((f.count, f.bytes), (f.gaps, f.last)), f.cycle))
    (λ c. record { count = c.0.0.0; bytes = c.0.0.1; gaps = c.0.1.0; last = c.0.1.1; cycle = c.1 }) (λ _. refl)

abbrev pub coded_discovery_figures : Coded DiscoveryFigures
coded_discovery_figures = code_by (ℕ × ℕ) (coded× coded_ℕ coded_ℕ) (λ f. (f.messages, f.reboots)) (λ c. record { messages = c.0; reboots = c.1 }) (λ _. refl)
