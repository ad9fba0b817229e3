-- What was seen of a method, of an event and of a way of Service Discovery, without a table. A list has the newest first.
use Rattle.std.specs.Prelude.{◌≡◌, ℕ, ◌+◌, ◌-◌, ◌^◌, min, Bool, false, ◌&&◌, List, [], ◌∷◌, Option, None, Some, if◌then◌else◌}
use Rattle.std.specs.List.{cons_option}
use Rattle.std.specs.Ordering.{eq_by_cmp}
use Rattle.audit_stats.specs.Changes.{time_since}
use Rattle.audit_stats.specs.declared.discovery.DiscoveryFigures.{DiscoveryFigures}
use Rattle.audit_stats.specs.declared.events.EventFigures.{EventFigures}
use Rattle.audit_stats.specs.declared.keys.Call.{Call}
use Rattle.audit_stats.specs.declared.keys.Flow.{Flow}
use Rattle.audit_stats.specs.declared.keys.Way.{Way}
use Rattle.audit_stats.specs.declared.methods.MethodFigures.{MethodFigures}
use Rattle.audit_stats.specs.declared.sight.Sight.{Sight}
use Rattle.audit_stats.specs.declared.sight.Sight.TheVariants.{Answered, Called, Event}
use Rattle.audit_stats.specs.Keys.{call_cmp, flow_cmp, way_cmp}
use Rattle.audit_stats.specs.Sights.{sight_of}
use Rattle.audit_stats.specs.Spreads.{spread_of}
use Rattle.audit_stats.specs.Stats.{BeganAgain, Came, Discovered, Fact, Lost}

-- how many facts pass a test
abbrev pub how_often : (Fact → Bool) → List Fact → ℕ
how_often test [] = 0
how_often test (fact ∷ earlier) = if test fact then how_often test earlier + 1 else how_often test earlier

-- the sum of what facts bring
abbrev pub total : (Fact → ℕ) → List Fact → ℕ
total brings [] = 0
total brings (fact ∷ earlier) = total brings earlier + brings fact

-- a counter that is never above 2^64 - 1
abbrev pub capped : ℕ → ℕ
capped number = min number (2 ^ 64 - 1)

-- a fact is a message that is so
abbrev pub is_message : (Sight → Bool) → Fact → Bool
is_message test (Came now from to message) = test (sight_of from to message)
is_message test other = false

-- ---- methods

-- it is a call of a flow; one that wants an answer; an answer; an answer that is an error
abbrev pub is_call : Flow → Sight → Bool
is_call flow (Called call asks) = eq_by_cmp flow_cmp flow call.flow
is_call flow other = false

abbrev pub is_request : Flow → Sight → Bool
is_request flow (Called call asks) = eq_by_cmp flow_cmp flow call.flow && asks
is_request flow other = false

abbrev pub is_answer : Flow → Sight → Bool
is_answer flow (Answered call fails) = eq_by_cmp flow_cmp flow call.flow
is_answer flow other = false

abbrev pub is_failure : Flow → Sight → Bool
is_failure flow (Answered call fails) = eq_by_cmp flow_cmp flow call.flow && fails
is_failure flow other = false

-- since when a call waits, once a message came: a call that wants an answer waits from then on, also where one with its key did,
-- and with an answer it waits no more
abbrev pub waits_since : Call → ℕ → Sight → Option ℕ → Option ℕ
waits_since call now (Called other asks) before = if asks && eq_by_cmp call_cmp call other then Some now else before
waits_since call now (Answered other fails) before = if eq_by_cmp call_cmp call other then None else before
waits_since call now other before = before

-- since when a call waits: the moment of the newest call with its key that wants an answer, if none came since
abbrev pub waiting_since : Call → List Fact → Option ℕ
waiting_since call [] = None
waiting_since call (Came now from to message ∷ earlier) = waits_since call now (sight_of from to message) (waiting_since call earlier)
waiting_since call (other ∷ earlier) = waiting_since call earlier

-- how long an answer took, if it is one of a flow, and its call waits
abbrev pub latency_of : Flow → ℕ → Sight → List Fact → Option ℕ
latency_of flow now (Answered call fails) earlier = if eq_by_cmp flow_cmp flow call.flow then time_since now (waiting_since call earlier) else None
latency_of flow now other earlier = None

-- how long the answers of a flow took
abbrev pub latencies_of : Flow → List Fact → List ℕ
latencies_of flow [] = []
latencies_of flow (Came now from to message ∷ earlier) = cons_option (latency_of flow now (sight_of from to message) earlier) (latencies_of flow earlier)
latencies_of flow (other ∷ earlier) = latencies_of flow earlier

-- the figures of a method
abbrev pub method_figures : Flow → List Fact → MethodFigures
method_figures flow facts = record {
  calls = capped (how_often (is_message (is_call flow)) facts);
  answers = capped (how_often (is_message (is_answer flow)) facts);
  errors = capped (how_often (is_message (is_failure flow)) facts);
  waited = capped (how_often (is_message (is_request flow)) facts);
  latency = spread_of (latencies_of flow facts);
}

-- ---- events

-- it is an event of a flow, or the last segment of one
abbrev pub is_event : Flow → Sight → Bool
is_event flow (Event other load) = eq_by_cmp flow_cmp flow other && load.ends
is_event flow other = false

-- how many bytes of the events of a flow it brings
abbrev pub bytes_of : Flow → Sight → ℕ
bytes_of flow (Event other load) = if eq_by_cmp flow_cmp flow other then load.bytes else 0
bytes_of flow other = 0

abbrev pub bytes_in : Flow → Fact → ℕ
bytes_in flow (Came now from to message) = bytes_of flow (sight_of from to message)
bytes_in flow other = 0

-- how many sessions of the events of a flow were lost
abbrev pub lost_in : Flow → Fact → ℕ
lost_in flow (Lost other number) = if eq_by_cmp flow_cmp flow other then number else 0
lost_in flow other = 0

-- when the event of a flow came last
abbrev pub last_of : Flow → List Fact → Option ℕ
last_of flow [] = None
last_of flow (Came now from to message ∷ earlier) = if is_event flow (sight_of from to message) then Some now else last_of flow earlier
last_of flow (other ∷ earlier) = last_of flow earlier

-- how long it took from each to the next
abbrev pub cycles_of : Flow → List Fact → List ℕ
cycles_of flow [] = []
cycles_of flow (Came now from to message ∷ earlier) =
    if is_event flow (sight_of from to message) then cons_option (time_since now (last_of flow earlier)) (cycles_of flow earlier) else cycles_of flow earlier
cycles_of flow (other ∷ earlier) = cycles_of flow earlier

-- the figures of an event
abbrev pub event_figures : Flow → List Fact → EventFigures
event_figures flow facts = record {
  count = capped (how_often (is_message (is_event flow)) facts);
  bytes = capped (total (bytes_in flow) facts);
  gaps = capped (total (lost_in flow) facts);
  last = last_of flow facts;
  cycle = spread_of (cycles_of flow facts);
}

-- ---- Service Discovery

-- it is a message of a way; its sender began again
abbrev pub is_discovered : Way → Fact → Bool
is_discovered way (Discovered other) = eq_by_cmp way_cmp way other
is_discovered way other = false

abbrev pub is_reboot : Way → Fact → Bool
is_reboot way (BeganAgain other) = eq_by_cmp way_cmp way other
is_reboot way other = false

-- the figures of a way
abbrev pub discovery_figures : Way → List Fact → DiscoveryFigures
discovery_figures way facts = record { messages = capped (how_often (is_discovered way) facts); reboots = capped (how_often (is_reboot way) facts) }

-- ---- what is counted whether or not calls are waited for

-- the calls, the answers and the errors of a method
abbrev pub AreCounted : Flow → List Fact → MethodFigures → Type 0
AreCounted flow facts figures =
    (figures.calls ≡ capped (how_often (is_message (is_call flow)) facts))
    × (figures.answers ≡ capped (how_often (is_message (is_answer flow)) facts))
    × (figures.errors ≡ capped (how_often (is_message (is_failure flow)) facts))
