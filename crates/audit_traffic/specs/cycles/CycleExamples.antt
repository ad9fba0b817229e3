-- Events of one server to two clients, each 100 milliseconds after the last.
use Rattle.std.specs.Prelude.{ℕ, List, Option, option_map}
use Rattle.someip_tables.specs.declared.hashed.origin.Numbers.{Numbers}
use Rattle.audit_traffic.specs.declared.cycles.watch.Watch.{Watch}
use Rattle.audit_traffic.specs.events.EventExamples.{flow_to, node}
use Rattle.audit_traffic.specs.cycles.CycleHistories.{Asked, BeganAgain, Came, Step, Unsubscribed, Withdrawn, watched_in}

-- the numbers of a datagram
abbrev pub numbers : Numbers
numbers = record { datagram = 7; frame = 9 }

-- event 8001 comes to a node, and event 8002
abbrev pub comes : ℕ → ℕ → Step
comes moment to = record { at = moment; shown = Came (flow_to 0x8001 (node to)) 100 numbers }

abbrev pub another_comes : ℕ → ℕ → Step
another_comes moment to = record { at = moment; shown = Came (flow_to 0x8002 (node to)) 100 numbers }

-- the book is asked until nothing is left that has fallen silent
abbrev pub asked : ℕ → Step
asked moment = record { at = moment; shown = Asked }

-- a subscription of a node ends, an offer of a service is withdrawn, a node begins again
abbrev pub unsubscribed : ℕ → ℕ → ℕ → Step
unsubscribed moment service to = record { at = moment; shown = Unsubscribed (node 9) service (node to) }

abbrev pub withdrawn : ℕ → ℕ → Step
withdrawn moment service = record { at = moment; shown = Withdrawn (node 9) service }

abbrev pub begins_again : ℕ → ℕ → Step
begins_again moment n = record { at = moment; shown = BeganAgain (node n) }

-- until when event 8001 to node 1 is awaited after these, if it is
abbrev pub awaited : List Step → Option ℕ
awaited steps = option_map (λ (watch : Watch). watch.until) (watched_in steps (flow_to 0x8001 (node 1)))
