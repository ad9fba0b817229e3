-- Figures whose lines are worked out by hand. Client and server are those of the examples of `audit_stats`.
use Rattle.std.specs.Prelude.{[], ◌∷◌, Some}
use Rattle.audit_stats.specs.declared.discovery.DiscoveryFigures.{DiscoveryFigures}
use Rattle.audit_stats.specs.declared.events.EventFigures.{EventFigures}
use Rattle.audit_stats.specs.declared.full.FigureLimits.{FigureLimits}
use Rattle.audit_stats.specs.declared.keys.Way.{Way}
use Rattle.audit_stats.specs.declared.methods.MethodFigures.{MethodFigures}
use Rattle.audit_stats.specs.Examples.{event, method, node}
use Rattle.audit_stats.specs.Spreads.{Values, no_values, spread_of}
use Rattle.audit_stats.specs.Stats.{Stats}
use Rattle.audit_stats.specs.Tables.{empty_held, full_told, with_held}

-- two times, of 1.234 ms and of 20 ms
abbrev pub times : Values
times = spread_of (1234 ∷ 20000 ∷ [])

-- three calls, each of which wanted an answer: none has one, or two have, one of them an error
abbrev pub unanswered : MethodFigures
unanswered = record { calls = 3; answers = 0; errors = 0; waited = 3; latency = no_values }

abbrev pub answered : MethodFigures
answered = record { calls = 3; answers = 2; errors = 1; waited = 3; latency = times }

-- an event that came once with 20 bytes, and one that came three times, after two that were lost
abbrev pub once : EventFigures
once = record { count = 1; bytes = 20; gaps = 0; last = Some 100; cycle = no_values }

abbrev pub thrice : EventFigures
thrice = record { count = 3; bytes = 60; gaps = 2; last = Some 21334; cycle = times }

-- Service Discovery from the server to the client, of which the server began again once
abbrev pub way : Way
way = record { from = node 2; to = node 1 }

abbrev pub began_again : DiscoveryFigures
began_again = record { messages = 12; reboots = 1 }

-- figures with one of each kind, where there was no room for one more call that waits
abbrev pub one_of_each : FigureLimits → Stats
one_of_each limits = record {
  methods = with_held method unanswered (empty_held limits.keys);
  events = with_held event once (empty_held limits.keys);
  discovery = with_held way began_again (empty_held limits.keys);
  waiting = full_told (empty_held limits.calls);
}
