use Rattle.someip_node_laws.proofs.histories.NamedLemmas.{get-session, next-event_session, stamp-next}
use Rattle.someip_node_laws.proofs.laws.sessions_go_on.Goals as goal

pub returns-clause-stamps : goal.returns-clause-stamps
returns-clause-stamps c = λ h. stamp-next h.items

pub returns-clause-events : goal.returns-clause-events
returns-clause-events c = λ h. next-event_session h.items

pub returns-clause-calls : goal.returns-clause-calls
returns-clause-calls c = λ h. get-session h.items
