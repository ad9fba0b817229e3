-- What is not as it should be with calls, by the messages of a recording, the newest first.
use Rattle.std.specs.Prelude.{◌≡◌, ◌≢◌, ◌<◌, ◌≤◌, ⊤, ℕ, ◌+◌, ◌-◌, Bool, true, false, List, [], ◌∷◌, ◌++◌, None, Some}
use Rattle.someip_wire.specs.declared.header.MessageType.{MessageType}
use Rattle.someip_wire.specs.declared.header.MessageType.TheVariants.{Request, Response, Error}
use Rattle.audit_traffic.specs.declared.calls.call.AuditedCall.{AuditedCall}
use Rattle.audit_traffic.specs.declared.calls.finding.CallRules.{CallRules}
use Rattle.audit_traffic.specs.declared.calls.known.Known.TheVariants.{Open, Answered}
use Rattle.audit_traffic.specs.declared.calls.known.OpenCall.{OpenCall}
use Rattle.audit_traffic.specs.calls.CallHistory.{is_about, known_of}
use Rattle.audit_traffic.specs.calls.KnownCalls.{known_at, known_by_request, says_the_same}
use Rattle.audit_traffic.specs.calls.Tapped.{Tapped, call_asked, call_answered, opened}

-- the types of answers
abbrev pub is_answer_type : MessageType → Bool
is_answer_type Response = true
is_answer_type Error = true
is_answer_type _ = false

-- a message is a REQUEST, or an answer
abbrev pub is_request_type : MessageType → Bool
is_request_type Request = true
is_request_type _ = false

abbrev pub IsRequest : Tapped → Type 0
IsRequest message = is_request_type message.header.kind ≡ true

abbrev pub IsAnswer : Tapped → Type 0
IsAnswer message = is_answer_type message.header.kind ≡ true

-- a message leaves a call open: it is a REQUEST before its deadline, and says the same
abbrev pub LeavesOpen : OpenCall → Tapped → Type 0
LeavesOpen open_call message = IsRequest message × (message.now < open_call.until) × (says_the_same open_call (opened message) ≡ true)

-- a message leaves a call answered until a moment: it is an answer before it
abbrev pub LeavesAnswered : ℕ → Tapped → Type 0
LeavesAnswered until message = IsAnswer message × (message.now < until)

-- of these messages, each one about a call passes
abbrev pub AllAbout : AuditedCall → (Tapped → Type 0) → List Tapped → Type 0
AllAbout call Passes [] = ⊤
AllAbout call Passes (message ∷ messages) = (is_about call message ≡ true → Passes message) × AllAbout call Passes messages

-- a call is open by its REQUEST: it is one of the messages, it did not say again what an open one said, and since then nothing
-- came about the call but REQUESTs that say the same, before its deadline
pub record IsOpenBy (call : AuditedCall) (open_call : OpenCall) (past : List Tapped) : Type 0 where
  pub later : List Tapped
  pub request : Tapped
  pub earlier : List Tapped
  pub among : past ≡ later ++ (request ∷ earlier)
  pub about : is_about call request ≡ true
  pub asks : IsRequest request
  pub opens : open_call ≡ opened request
  pub anew : known_by_request open_call (known_at request.now (known_of call earlier)) ≡ Open open_call
  pub since : AllAbout call (LeavesOpen open_call) later

-- a call was answered, and is known until a moment: its first answer is one of the messages, it was open before, whether its
-- deadline had come or not, and since then nothing came about the call but answers, before that moment
pub record IsAnsweredBy (call : AuditedCall) (until : ℕ) (past : List Tapped) : Type 0 where
  pub later : List Tapped
  pub answer : Tapped
  pub earlier : List Tapped
  pub among : past ≡ later ++ (answer ∷ earlier)
  pub about : is_about call answer ≡ true
  pub answers : IsAnswer answer
  pub until_is : until ≡ answer.now + answer.answer_ms
  pub was_open : (open_call : OpenCall) × (known_of call earlier ≡ Some (Open open_call))
  pub since : AllAbout call (LeavesAnswered until) later

-- a REQUEST with a session uses the key of a call that is open, and says something else
abbrev pub IsReuse : Tapped → List Tapped → Type 0
IsReuse message past =
    IsRequest message × (message.header.session ≢ 0)
    × ((open_call : OpenCall) × (known_of (call_asked message) past ≡ Some (Open open_call)) × (message.now < open_call.until)
    × (says_the_same open_call (opened message) ≡ false))

-- an answer comes so many milliseconds after the REQUEST that opened its call, and not before its deadline
abbrev pub IsLate : ℕ → Tapped → List Tapped → Type 0
IsLate after message past =
    IsAnswer message
    × ((open_call : OpenCall) × (known_of (call_answered message) past ≡ Some (Open open_call)) × (open_call.until ≤ message.now)
    × (after ≡ message.now - open_call.since))

-- an answer comes to a call that was answered less long ago than an answer may take
abbrev pub IsRepeat : Tapped → List Tapped → Type 0
IsRepeat message past = IsAnswer message × ((until : ℕ) × (known_of (call_answered message) past ≡ Some (Answered until)) × (message.now < until))

-- an answer comes to no call that is known, and not while its REQUEST may have been before the recording
abbrev pub IsUnasked : CallRules → Tapped → List Tapped → Type 0
IsUnasked rules message past =
    IsAnswer message × (rules.begins + message.answer_ms ≤ message.now) × (known_at message.now (known_of (call_answered message) past) ≡ None)
