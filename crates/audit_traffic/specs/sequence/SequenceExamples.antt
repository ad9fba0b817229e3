-- Events of one server to two clients, a millisecond apart or more.
use Rattle.std.specs.Prelude.{ℕ, List, Option}
use Rattle.someip_tables.specs.declared.hashed.origin.Numbers.{Numbers}
use Rattle.audit_traffic.specs.declared.gaps.key.MissingEvent.{MissingEvent}
use Rattle.audit_traffic.specs.declared.sequence.counting.Counting.TheVariants.{ByEvent, BySender}
use Rattle.audit_traffic.specs.declared.sequence.finding.Finding.{Finding}
use Rattle.audit_traffic.specs.events.EventExamples.{event_to, flow_to, node}
use Rattle.audit_traffic.specs.gaps.MissingKeys.{missing_of, run_of}
use Rattle.audit_traffic.specs.sequence.CountedFlows.{counted}
use Rattle.audit_traffic.specs.sequence.SequenceHistories.{Came, Step, told_in}

-- the numbers of a datagram
abbrev pub numbers : Numbers
numbers = record { datagram = 7; frame = 9 }

-- event 8001 comes to a node with a session, at a moment; and event 8002
abbrev pub at : ℕ → ℕ → ℕ → Step
at moment to session = record { at = moment; shown = Came numbers (event_to (node to) session) }

abbrev pub another_at : ℕ → ℕ → ℕ → Step
another_at moment to session = record { at = moment; shown = Came numbers (record { flow = flow_to 0x8002 (node to); session = session }) }

-- a session of event 8001
abbrev pub session_of : ℕ → MissingEvent
session_of session = missing_of (flow_to 0x8001 (node 1)) session

-- a run of its sessions; and a session of its sender, where sessions count by that
abbrev pub run : ℕ → ℕ → MissingEvent
run first last = run_of (flow_to 0x8001 (node 1)) first last

abbrev pub of_sender : ℕ → MissingEvent
of_sender session = missing_of (counted BySender (flow_to 0x8001 (node 1))) session

-- what an event 8001 to node 1 shows after these, where sessions count by event or by sender, and may come 100 milliseconds later
abbrev pub shows : List Step → ℕ → ℕ → Option Finding
shows earlier moment session = told_in ByEvent 100 earlier moment numbers (event_to (node 1) session)

abbrev pub shows_by_sender : List Step → ℕ → ℕ → Option Finding
shows_by_sender earlier moment session = told_in BySender 100 earlier moment numbers (event_to (node 1) session)
