-- The calls that are known, in two tables: those without an answer, and those that were answered.
use Rattle.std.specs.Prelude.{◌≡◌, ℕ, nat_lt, Bool, true, false, ◌++◌, map, Option, None, Some, is_some}
use Rattle.std.specs.Option.{option_map}
use Rattle.std.specs.FinMap.{FinMap, entries, get}
use Rattle.someip_tables.specs.Tables.{map_of}
use Rattle.audit_traffic.specs.declared.calls.call.AuditedCall.{AuditedCall}
use Rattle.audit_traffic.specs.declared.calls.call_table.Asked.{Asked}
use Rattle.audit_traffic.specs.declared.calls.call_table.Asked.TheVariants.{Waiting, Told}
use Rattle.audit_traffic.specs.declared.calls.call_table.Answered.{Answered}
use Rattle.audit_traffic.specs.declared.calls.known.Known.{Known}
use Rattle.audit_traffic.specs.declared.calls.known.Known.TheVariants as known
use Rattle.audit_traffic.specs.declared.calls.known.OpenCall.{OpenCall}
use Rattle.audit_traffic.specs.calls.AuditedCalls.{call_cmp}
use Rattle.audit_traffic.specs.calls.CallBooks.{Calls}

-- what is known of a call without an answer, and of one that was answered
abbrev pub known_asked : Asked → Known
known_asked (Waiting call) = known.Open call
known_asked (Told since) = known.Overdue since

abbrev pub known_answered : Answered → Known
known_answered answered = known.Answered answered.0

-- the call, if it waits for its answer
abbrev pub waiting_of : Asked → Option OpenCall
waiting_of (Waiting call) = Some call
waiting_of (Told since) = None

-- the moments that they wait for: one that was answered, for that from which nothing is known of it any more
abbrev pub asked_waits : Asked → Option ℕ
asked_waits (Waiting call) = Some call.until
asked_waits (Told since) = None

abbrev pub answered_waits : Answered → Option ℕ
answered_waits answered = Some answered.0

-- what is known of a call by both tables
abbrev pub known_by_both : Option Asked → Option Answered → Option Known
known_by_both (Some asked) answered = Some (known_asked asked)
known_by_both None answered = option_map known_answered answered

-- the calls of both
abbrev pub all_calls : FinMap call_cmp Asked → FinMap call_cmp Answered → Calls
all_calls asked answered = map_of call_cmp (map (λ e. (e.0, known_asked e.1)) (entries asked) ++ map (λ e. (e.0, known_answered e.1)) (entries answered))

-- no call stands in both
abbrev pub AreApart : FinMap call_cmp Asked → FinMap call_cmp Answered → Type 0
AreApart asked answered = (call : AuditedCall) → is_some (get asked call) ≡ true → get answered call ≡ None

-- a call that is open
abbrev pub open_of : Option Known → Option OpenCall
open_of (Some (known.Open call)) = Some call
open_of _ = None

-- a call waits for its answer
abbrev pub is_open : Option Known → Bool
is_open (Some (known.Open call)) = true
is_open _ = false

-- what is known of a call, if it has no answer
abbrev pub unless_answered : Option Known → Option Known
unless_answered (Some (known.Answered until)) = None
unless_answered what = what

-- something is still known of a call that was answered
abbrev pub is_still_known : ℕ → Answered → Bool
is_still_known now answered = nat_lt now answered.0
