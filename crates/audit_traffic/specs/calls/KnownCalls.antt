-- What is known of a call, and what its messages make of it (SOME/IP Protocol, "Request/Response Communication").
use Rattle.std.specs.Prelude.{ℕ, ◌-◌, ◌==◌, nat_le, nat_lt, Bool, true, ◌||◌, if◌then◌else◌, Option, None, Some}
use Rattle.audit_traffic.specs.declared.calls.finding.CallFinding.{CallFinding}
use Rattle.audit_traffic.specs.declared.calls.finding.CallFinding.TheVariants.{KeyReused, Late, Repeated, Unasked}
use Rattle.audit_traffic.specs.declared.calls.known.Known.{Known}
use Rattle.audit_traffic.specs.declared.calls.known.Known.TheVariants.{Open, Overdue, Answered}
use Rattle.audit_traffic.specs.declared.calls.known.OpenCall.{OpenCall}
use Rattle.audit_traffic.specs.calls.Excerpts.{same_excerpt}

-- the moment that a call waits for: its deadline while it is open
abbrev pub waits_of : Known → Option ℕ
waits_of (Open call) = Some call.until
waits_of (Overdue since) = None
waits_of (Answered until) = None

-- what is known of a call at a moment: one whose deadline has come is overdue, and one that was answered is known until its
-- moment alone
abbrev pub known_at : ℕ → Option Known → Option Known
known_at now None = None
known_at now (Some (Open call)) = if nat_le call.until now then Some (Overdue call.since) else Some (Open call)
known_at now (Some (Overdue since)) = Some (Overdue since)
known_at now (Some (Answered until)) = if nat_le until now then None else Some (Answered until)

-- something is known of a call at a moment
abbrev pub is_known_at : ℕ → Known → Bool
is_known_at now (Answered until) = nat_lt now until
is_known_at now _ = true

-- two REQUESTs of a call say the same
abbrev pub says_the_same : OpenCall → OpenCall → Bool
says_the_same a b = same_excerpt a.excerpt b.excerpt

-- what is told of a REQUEST with this session, which would open its call so: a session that is given uses the key of a call
-- that is open, and says something else
abbrev pub told_of_request : ℕ → OpenCall → Option Known → Option CallFinding
told_of_request session new (Some (Open call)) = if says_the_same call new || (session == 0) then None else Some KeyReused
told_of_request session new _ = None

-- what is known of its call then: it is open, by the REQUEST that was there if this one says the same
abbrev pub known_by_request : OpenCall → Option Known → Known
known_by_request new (Some (Open call)) = if says_the_same call new then Open call else Open new
known_by_request new _ = Open new

-- what is told of an answer at a moment; that a call was asked may not be known
abbrev pub told_of_answer : Bool → ℕ → Option Known → Option CallFinding
told_of_answer may_be_asked now None = if may_be_asked then None else Some Unasked
told_of_answer may_be_asked now (Some (Open call)) = None
told_of_answer may_be_asked now (Some (Overdue since)) = Some (Late (now - since))
told_of_answer may_be_asked now (Some (Answered until)) = Some Repeated

-- what is known of its call then: it was answered, and is known until this moment. The first answer counts
abbrev pub known_by_answer : ℕ → Option Known → Option Known
known_by_answer until None = None
known_by_answer until (Some (Open call)) = Some (Answered until)
known_by_answer until (Some (Overdue since)) = Some (Answered until)
known_by_answer until (Some (Answered earlier)) = Some (Answered earlier)
