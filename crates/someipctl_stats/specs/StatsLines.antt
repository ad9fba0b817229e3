-- The lines of what is counted, field by field.
use Rattle.std.specs.Prelude.{ℕ, ◌+◌, ◌/◌, ◌%◌, List, [], ◌∷◌, ◌++◌, codes, decimal, drop, Option, Some, None}
use Rattle.arrayvec.specs.ArrayString.{ArrayString}
use Rattle.audit_stats.specs.Changes.{unanswered_of}
use Rattle.audit_stats.specs.declared.discovery.DiscoveryFigures.{DiscoveryFigures}
use Rattle.audit_stats.specs.declared.events.EventFigures.{EventFigures}
use Rattle.audit_stats.specs.declared.full.Full.{Full}
use Rattle.audit_stats.specs.declared.full.Full.TheVariants as full
use Rattle.audit_stats.specs.declared.keys.Flow.{Flow}
use Rattle.audit_stats.specs.declared.keys.Way.{Way}
use Rattle.audit_stats.specs.declared.methods.MethodFigures.{MethodFigures}
use Rattle.audit_stats.specs.declared.spread.Summary.{Summary}
use Rattle.audit_stats.specs.Spreads.{summary_of}
use Rattle.someipctl_io.specs.ToldLines.{Content, ToldField, ToldLine, endpoint, field, id, nothing, number, text}
use Rattle.someipctl_show.specs.VerdictForms.{wordless}
use Rattle.someipctl_stats.specs.declared.times.Times.{Times}

-- ---- times

-- three digits, with the zeros in front: those of 1000 + n without the first
abbrev pub three_digits : ℕ → List ℕ
three_digits n = drop 1 (decimal (1000 + n))

-- microseconds in milliseconds, with three digits after the dot
abbrev pub millis_text : ℕ → List ℕ
millis_text micros = (decimal (micros / 1000) ++ codes ".") ++ three_digits (micros % 1000)

-- what is told of how values spread
pub record ToldTimes : Type 0 where
  pub least : Content
  pub p50 : Content
  pub p99 : Content
  pub greatest : Content

-- their times, if there are any
abbrev pub times_told : Option Summary → ToldTimes
times_told None = record { least = nothing; p50 = nothing; p99 = nothing; greatest = nothing }
times_told (Some s) = record { least = text (millis_text s.least); p50 = text (millis_text s.p50); p99 = text (millis_text s.p99); greatest = text (millis_text s.greatest) }

abbrev pub view_time : Option ArrayString → Content
view_time None = nothing
view_time (Some t) = text t.bytes

abbrev pub view_times : Times → ToldTimes
view_times t = record { least = view_time t.least; p50 = view_time t.p50; p99 = view_time t.p99; greatest = view_time t.greatest }

-- ---- lines

-- plain `method SERVICE.METHOD CLIENT SERVER calls N answers N errors N unanswered N latency LEAST P50 P99 GREATEST`
abbrev pub method_fields : Flow → MethodFigures → ToldTimes → List ToldField
method_fields flow f times =
    field (codes "method ") (codes "service") (id flow.service)
    ∷ (field (codes ".") (codes "method") (id flow.method)
    ∷ (field (codes " ") (codes "client") (endpoint flow.from)
    ∷ (field (codes " ") (codes "server") (endpoint flow.to)
    ∷ (field (codes " calls ") (codes "calls") (number f.calls)
    ∷ (field (codes " answers ") (codes "answers") (number f.answers)
    ∷ (field (codes " errors ") (codes "errors") (number f.errors)
    ∷ (field (codes " unanswered ") (codes "unanswered") (number (unanswered_of f))
    ∷ (field (codes " latency ") (codes "least") times.least
    ∷ (field (codes " ") (codes "p50") times.p50
    ∷ (field (codes " ") (codes "p99") times.p99
    ∷ (field (codes " ") (codes "greatest") times.greatest ∷ [])))))))))))

-- plain `event SERVICE.EVENT SENDER RECEIVER count N bytes N cycle LEAST P50 P99 GREATEST gaps N`
abbrev pub event_fields : Flow → EventFigures → ToldTimes → List ToldField
event_fields flow f times =
    field (codes "event ") (codes "service") (id flow.service)
    ∷ (field (codes ".") (codes "event") (id flow.method)
    ∷ (field (codes " ") (codes "from") (endpoint flow.from)
    ∷ (field (codes " ") (codes "to") (endpoint flow.to)
    ∷ (field (codes " count ") (codes "count") (number f.count)
    ∷ (field (codes " bytes ") (codes "bytes") (number f.bytes)
    ∷ (field (codes " cycle ") (codes "least") times.least
    ∷ (field (codes " ") (codes "p50") times.p50
    ∷ (field (codes " ") (codes "p99") times.p99
    ∷ (field (codes " ") (codes "greatest") times.greatest
    ∷ (field (codes " gaps ") (codes "gaps") (number f.gaps) ∷ []))))))))))

-- plain `discovery FROM TO messages N reboots N`
abbrev pub discovery_fields : Way → DiscoveryFigures → List ToldField
discovery_fields way f =
    field (codes "discovery ") (codes "from") (endpoint way.from)
    ∷ (field (codes " ") (codes "to") (endpoint way.to)
    ∷ (field (codes " messages ") (codes "messages") (number f.messages)
    ∷ (field (codes " reboots ") (codes "reboots") (number f.reboots) ∷ [])))

-- what is full, in a word
abbrev pub full_name : Full → List ℕ
full_name full.Methods = codes "methods"
full_name full.Events = codes "events"
full_name full.Discovery = codes "discovery"
full_name full.Calls = codes "calls"

-- plain `full NAME`
abbrev pub full_fields : Full → List ToldField
full_fields f = field (codes "full ") (codes "name") (text (full_name f)) ∷ []

-- the line of a method has the latencies of its answers, and that of an event its cycle times
abbrev pub method_line : Flow → MethodFigures → ToldLine
method_line flow f = wordless (codes "method") (method_fields flow f (times_told (summary_of f.latency)))

abbrev pub event_line : Flow → EventFigures → ToldLine
event_line flow f = wordless (codes "event") (event_fields flow f (times_told (summary_of f.cycle)))

abbrev pub discovery_line : Way → DiscoveryFigures → ToldLine
discovery_line way f = wordless (codes "discovery") (discovery_fields way f)

abbrev pub full_line : Full → ToldLine
full_line f = wordless (codes "full") (full_fields f)
