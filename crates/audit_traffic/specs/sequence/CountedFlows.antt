-- Which events a sender counts together.
use Rattle.std.specs.Prelude.{ℕ}
use Rattle.audit_traffic.specs.declared.events.flow.EventFlow.{EventFlow}
use Rattle.audit_traffic.specs.declared.events.notification.Notification.{Notification}
use Rattle.audit_traffic.specs.declared.sequence.counting.Counting.{Counting}
use Rattle.audit_traffic.specs.declared.sequence.counting.Counting.TheVariants.{ByEvent, BySender}

-- the flow that counts the sessions of a flow: itself, or that of all events of its sender to its receiver
abbrev pub counted : Counting → EventFlow → EventFlow
counted ByEvent flow = flow
counted BySender flow = record flow { service = 0; event = 0 }

-- the service of the flow that counts the sessions of a service's events
abbrev pub counted_service : Counting → ℕ → ℕ
counted_service ByEvent service = service
counted_service BySender service = 0

-- an event as it is counted
abbrev pub counted_event : Counting → Notification → Notification
counted_event counting event = record event { flow = counted counting event.flow }
