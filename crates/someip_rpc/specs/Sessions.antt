-- The sessions of the messages that have one Message ID (SOME/IP Protocol, "Session ID").
use Rattle.std.specs.Prelude.{ℕ, zero, suc}
use Rattle.std.specs.declared.cmp.Ordering.{Ordering}
use Rattle.std.specs.FinMap as finite
use Rattle.std.specs.FinMap.{FinMap}
use Rattle.someip_tables.specs.Sessions.{next_session, session_after_last}
use Rattle.someip_rpc.specs.Ids.{message_cmp}

-- the n-th session after one, in cyclic order
abbrev pub session_after : ℕ → ℕ → ℕ
session_after zero session = session
session_after (suc n) session = next_session (session_after n session)

-- the session that each Message ID was given last
abbrev pub LastSessions : Type 0
LastSessions = FinMap message_cmp ℕ

-- the next session of a Message ID, or of an event
abbrev pub next_of : {K : Type 0} {R : K → K → Ordering} → FinMap R ℕ → K → ℕ
next_of sessions key = session_after_last (finite.get sessions key)
