-- What the messages of a recording say of a call, and what is told of them.
use Rattle.std.proofs.Common.{◌≡◌, ◌↔◌, ℕ, ◌+◌, ◌-◌, ◌<◌, ◌≤◌, nat_le, Bool, true, false, cond, ◌==◌, ◌||◌, ◌⊎◌, inl, inr, List, [], ◌∷◌, ◌++◌, Option, None, Some, refl, sym, ap, ◌∙◌, arith}
use Rattle.std.proofs.lemmas.Bool.Decides.{nat_tests}
use Rattle.someip_wire.specs.declared.header.MessageType.{MessageType}
use Rattle.someip_wire.specs.declared.header.MessageType.TheVariants as kinds
use Rattle.audit_traffic.specs.declared.calls.call.AuditedCall.{AuditedCall}
use Rattle.audit_traffic.specs.declared.calls.finding.CallFinding.TheVariants.{KeyReused, Late}
use Rattle.audit_traffic.specs.declared.calls.finding.CallRules.{CallRules}
use Rattle.audit_traffic.specs.declared.calls.known.Known.{Known}
use Rattle.audit_traffic.specs.declared.calls.known.Known.TheVariants.{Open, Overdue, Answered}
use Rattle.audit_traffic.specs.declared.calls.known.OpenCall.{OpenCall}
use Rattle.audit_traffic.specs.calls.CallBooks.{may_be_asked}
use Rattle.audit_traffic.specs.calls.CallFindings.{is_request_type, is_answer_type, LeavesOpen, LeavesAnswered, AllAbout, IsOpenBy, IsAnsweredBy, IsLate}
use Rattle.audit_traffic.specs.calls.CallHistory.{is_about, is_this, known_by, known_of, told_after, told_after_by}
use Rattle.audit_traffic.specs.calls.KnownCalls.{known_at, known_by_request, known_by_answer, says_the_same, told_of_request, told_of_answer}
use Rattle.audit_traffic.specs.calls.Tapped.{Tapped, call_by, call_asked, call_answered, opened}

-- ---- types of messages

-- a message about a call is a REQUEST or an answer
about_by : {Q : Type 0} (kind : MessageType) (call : AuditedCall) (message : Tapped) → is_this call (call_by kind message) ≡ true → (kind ≡ kinds.Request → Q)
    → (is_answer_type kind ≡ true → Q) → Q
about_by kinds.Request call message about asks answers = asks refl
about_by kinds.Response call message about asks answers = answers refl
about_by kinds.Error call message about asks answers = answers refl
about_by kinds.RequestNoReturn call message about asks answers = absurd (cc)
about_by kinds.Notification call message about asks answers = absurd (cc)
about_by kinds.TpRequest call message about asks answers = absurd (cc)
about_by kinds.TpRequestNoReturn call message about asks answers = absurd (cc)
about_by kinds.TpNotification call message about asks answers = absurd (cc)
about_by kinds.TpResponse call message about asks answers = absurd (cc)
about_by kinds.TpError call message about asks answers = absurd (cc)

request_is : (kind : MessageType) → is_request_type kind ≡ true → kind ≡ kinds.Request
request_is kinds.Request is = refl
request_is kinds.Response is = cc
request_is kinds.Error is = cc
request_is kinds.RequestNoReturn is = cc
request_is kinds.Notification is = cc
request_is kinds.TpRequest is = cc
request_is kinds.TpRequestNoReturn is = cc
request_is kinds.TpNotification is = cc
request_is kinds.TpResponse is = cc
request_is kinds.TpError is = cc

known_by_answer_type : (kind : MessageType) (message : Tapped) (v : Option Known) → is_answer_type kind ≡ true
    → known_by kind message v ≡ known_by_answer (message.now + message.answer_ms) v
known_by_answer_type kinds.Response message v is = refl
known_by_answer_type kinds.Error message v is = refl
known_by_answer_type kinds.Request message v is = cc
known_by_answer_type kinds.RequestNoReturn message v is = cc
known_by_answer_type kinds.Notification message v is = cc
known_by_answer_type kinds.TpRequest message v is = cc
known_by_answer_type kinds.TpRequestNoReturn message v is = cc
known_by_answer_type kinds.TpNotification message v is = cc
known_by_answer_type kinds.TpResponse message v is = cc
known_by_answer_type kinds.TpError message v is = cc

-- ---- what is known of one call

-- what is known at a moment, by what was known
at_open : (now : ℕ) (v : Option Known) (open_call : OpenCall) → known_at now v ≡ Some (Open open_call) → (v ≡ Some (Open open_call)) × (now < open_call.until)
at_open now None open_call is = absurd (cc)
at_open now (Some (Overdue since)) open_call is = absurd (cc)
at_open now (Some (Open other)) open_call is = cases (nat_le other.until now) refl is
  where
    cases : (b : Bool) → nat_le other.until now ≡ b → cond b (Some (Overdue other.since)) (Some (Open other)) ≡ Some (Open open_call)
        → (Some (Open other) ≡ Some (Open open_call)) × (now < open_call.until)
    cases true late e = absurd (cc)
    cases false early e =
        let same : other ≡ open_call = cc in
        let until : other.until ≡ open_call.until = ap (λ (o : OpenCall). o.until) same in
        let lt : now < other.until = grind (arith, nat_tests) in
        (e, omega (arith, until, lt))
at_open now (Some (Answered until)) open_call is = absurd (cases (nat_le until now) is)
  where
    cases : (b : Bool) → cond b None (Some (Answered until)) ≡ Some (Open open_call) → ⊥
    cases true e = cc
    cases false e = cc

at_answered : (now : ℕ) (v : Option Known) (until : ℕ) → known_at now v ≡ Some (Answered until) → (v ≡ Some (Answered until)) × (now < until)
at_answered now None until is = absurd (cc)
at_answered now (Some (Overdue since)) until is = absurd (cc)
at_answered now (Some (Open other)) until is = absurd (cases (nat_le other.until now) is)
  where
    cases : (b : Bool) → cond b (Some (Overdue other.since)) (Some (Open other)) ≡ Some (Answered until) → ⊥
    cases true e = cc
    cases false e = cc
at_answered now (Some (Answered other)) until is = cases (nat_le other now) refl is
  where
    cases : (b : Bool) → nat_le other now ≡ b → cond b None (Some (Answered other)) ≡ Some (Answered until) → (Some (Answered other) ≡ Some (Answered until)) × (now < until)
    cases true late e = absurd (cc)
    cases false early e =
        let same : other ≡ until = cc in
        let lt : now < other = grind (arith, nat_tests) in
        (e, omega (arith, same, lt))

at_overdue : (now : ℕ) (v : Option Known) (since : ℕ) → ((at : ℕ) → v ≡ Some (Overdue at) → ⊥) → known_at now v ≡ Some (Overdue since)
    → (open_call : OpenCall) × (v ≡ Some (Open open_call)) × (open_call.until ≤ now) × (open_call.since ≡ since)
at_overdue now None since never is = absurd (cc)
at_overdue now (Some (Overdue at)) since never is = absurd (never at refl)
at_overdue now (Some (Open other)) since never is = cases (nat_le other.until now) refl is
  where
    cases : (b : Bool) → nat_le other.until now ≡ b → cond b (Some (Overdue other.since)) (Some (Open other)) ≡ Some (Overdue since)
        → (open_call : OpenCall) × (Some (Open other) ≡ Some (Open open_call)) × (open_call.until ≤ now) × (open_call.since ≡ since)
    cases true late e =
        let same : other.since ≡ since = cc in
        (other, refl, grind (arith, nat_tests), same)
    cases false early e = absurd (cc)
at_overdue now (Some (Answered until)) since never is = absurd (cases (nat_le until now) is)
  where
    cases : (b : Bool) → cond b None (Some (Answered until)) ≡ Some (Overdue since) → ⊥
    cases true e = cc
    cases false e = cc

open_at : (now : ℕ) (open_call : OpenCall) → now < open_call.until → known_at now (Some (Open open_call)) ≡ Some (Open open_call)
open_at now open_call lt = let early : nat_le open_call.until now ≡ false = grind (arith, nat_tests) in rw early refl

overdue_at : (now : ℕ) (open_call : OpenCall) → open_call.until ≤ now → known_at now (Some (Open open_call)) ≡ Some (Overdue open_call.since)
overdue_at now open_call le = let late : nat_le open_call.until now ≡ true = grind (arith, nat_tests) in rw late refl

answered_at : (now until : ℕ) → now < until → known_at now (Some (Answered until)) ≡ Some (Answered until)
answered_at now until lt = let early : nat_le until now ≡ false = grind (arith, nat_tests) in rw early refl

-- a REQUEST opens its call, or says again what an open one said
by_request : (new open_call : OpenCall) (v : Option Known) → known_by_request new v ≡ Open open_call
    → ((v ≡ Some (Open open_call)) × (says_the_same open_call new ≡ true)) ⊎ (open_call ≡ new)
by_request new open_call None is = inr (cc)
by_request new open_call (Some (Overdue since)) is = inr (cc)
by_request new open_call (Some (Answered until)) is = inr (cc)
by_request new open_call (Some (Open other)) is = cases (says_the_same other new) refl is
  where
    cases : (b : Bool) → says_the_same other new ≡ b → cond b (Open other) (Open new) ≡ Open open_call
        → ((Some (Open other) ≡ Some (Open open_call)) × (says_the_same open_call new ≡ true)) ⊎ (open_call ≡ new)
    cases true same e = let is_it : other ≡ open_call = cc in inl (ap Some e, ap (λ o. says_the_same o new) (sym is_it) ∙ same)
    cases false other_one e = inr (cc)

-- and leaves none overdue or answered
request_opens : (new : OpenCall) (v : Option Known) → (open_call : OpenCall) × (known_by_request new v ≡ Open open_call)
request_opens new None = (new, refl)
request_opens new (Some (Overdue since)) = (new, refl)
request_opens new (Some (Answered until)) = (new, refl)
request_opens new (Some (Open other)) = cases (says_the_same other new)
  where
    cases : (b : Bool) → (open_call : OpenCall) × (cond b (Open other) (Open new) ≡ Open open_call)
    cases true = (other, refl)
    cases false = (new, refl)

not_open_by_answer : (until : ℕ) (v : Option Known) (open_call : OpenCall) → known_by_answer until v ≡ Some (Open open_call) → ⊥
not_open_by_answer until None open_call is = cc
not_open_by_answer until (Some (Open other)) open_call is = cc
not_open_by_answer until (Some (Overdue since)) open_call is = cc
not_open_by_answer until (Some (Answered earlier)) open_call is = cc

not_overdue_by_answer : (until : ℕ) (v : Option Known) (since : ℕ) → known_by_answer until v ≡ Some (Overdue since) → ⊥
not_overdue_by_answer until None since is = cc
not_overdue_by_answer until (Some (Open other)) since is = cc
not_overdue_by_answer until (Some (Overdue at)) since is = cc
not_overdue_by_answer until (Some (Answered earlier)) since is = cc

-- an answer answers a call that was open, whether its deadline had come or not, or one that was answered
by_answer : (until answered : ℕ) (v : Option Known) → known_by_answer until v ≡ Some (Answered answered)
    → (v ≡ Some (Answered answered)) ⊎ ((answered ≡ until) × (((open_call : OpenCall) × (v ≡ Some (Open open_call))) ⊎ ((since : ℕ) × (v ≡ Some (Overdue since)))))
by_answer until answered None is = absurd (cc)
by_answer until answered (Some (Open open_call)) is = let e : answered ≡ until = cc in inr (e, inl (open_call, refl))
by_answer until answered (Some (Overdue since)) is = let e : answered ≡ until = cc in inr (e, inr (since, refl))
by_answer until answered (Some (Answered earlier)) is = inl is

-- ---- what is known after messages

module _ (call : AuditedCall) where
  -- what a message about the call makes of it
  after_request : (message : Tapped) (past : List Tapped) → is_about call message ≡ true → message.header.kind ≡ kinds.Request
      → known_of call (message ∷ past) ≡ Some (known_by_request (opened message) (known_at message.now (known_of call past)))
  after_request message past about is =
      ap (λ b. cond b (known_by message.header.kind message (known_at message.now (known_of call past))) (known_of call past)) about
      ∙ ap (λ kind. known_by kind message (known_at message.now (known_of call past))) is

  after_answer : (message : Tapped) (past : List Tapped) → is_about call message ≡ true → is_answer_type message.header.kind ≡ true
      → known_of call (message ∷ past) ≡ known_by_answer (message.now + message.answer_ms) (known_at message.now (known_of call past))
  after_answer message past about is =
      ap (λ b. cond b (known_by message.header.kind message (known_at message.now (known_of call past))) (known_of call past)) about
      ∙ known_by_answer_type message.header.kind message (known_at message.now (known_of call past)) is

  after_other : (message : Tapped) (past : List Tapped) → is_about call message ≡ false → known_of call (message ∷ past) ≡ known_of call past
  after_other message past other =
      ap (λ b. cond b (known_by message.header.kind message (known_at message.now (known_of call past))) (known_of call past)) other

  -- the messages never say that a call was told
  never_overdue_step : (message : Tapped) (past : List Tapped) (since : ℕ) → (known_of call past ≡ Some (Overdue since) → ⊥)
      → known_of call (message ∷ past) ≡ Some (Overdue since) → ⊥
  never_overdue_step message past since rest is = cases (is_about call message) refl
    where
      cases : (b : Bool) → is_about call message ≡ b → ⊥
      cases true about =
          about_by message.header.kind call message about
          (λ asks. let opens = request_opens (opened message) (known_at message.now (known_of call past)) in
          let e : Some (Open opens.0) ≡ Some (Overdue since) = sym (after_request message past about asks ∙ ap Some opens.1) ∙ is in
          cc)
          (λ answers. not_overdue_by_answer _ _ since (sym (after_answer message past about answers) ∙ is))
      cases false other = rest (sym (after_other message past other) ∙ is)

  pub never_overdue : (past : List Tapped) (since : ℕ) → known_of call past ≡ Some (Overdue since) → ⊥
  never_overdue [] since is = cc
  never_overdue (message ∷ past) since is = never_overdue_step message past since (never_overdue past since) is

  -- ---- a call stands open by its REQUEST

  one_more_open : (open_call : OpenCall) (message : Tapped) (past : List Tapped) → (is_about call message ≡ true → LeavesOpen open_call message) → IsOpenBy call open_call past
      → IsOpenBy call open_call (message ∷ past)
  one_more_open open_call message past leaves r = record {
    later = message ∷ r.later;
    request = r.request;
    earlier = r.earlier;
    among = ap (λ ms. message ∷ ms) r.among;
    about = r.about;
    asks = r.asks;
    opens = r.opens;
    anew = r.anew;
    since = (leaves, r.since);
  }

  open_step : (message : Tapped) (past : List Tapped) (open_call : OpenCall) → (known_of call past ≡ Some (Open open_call) → IsOpenBy call open_call past)
      → known_of call (message ∷ past) ≡ Some (Open open_call) → IsOpenBy call open_call (message ∷ past)
  open_step message past open_call rest is = cases (is_about call message) refl
    where
      opens_it : is_about call message ≡ true → message.header.kind ≡ kinds.Request
          → known_by_request (opened message) (known_at message.now (known_of call past)) ≡ Open open_call → open_call ≡ opened message
          → IsOpenBy call open_call (message ∷ past)
      opens_it about asks anew new = record {
        later = [];
        request = message;
        earlier = past;
        among = refl;
        about = about;
        asks = ap is_request_type asks;
        opens = new;
        anew = ap (λ o. known_by_request o (known_at message.now (known_of call past))) new ∙ anew;
        since = tt;
      }

      by_kind : is_about call message ≡ true → message.header.kind ≡ kinds.Request → IsOpenBy call open_call (message ∷ past)
      by_kind about asks =
          let anew : known_by_request (opened message) (known_at message.now (known_of call past)) ≡ Open open_call =
          some_same (sym (after_request message past about asks) ∙ is) in
          elim (by_request (opened message) open_call (known_at message.now (known_of call past)) anew) [
            | inl again ↦
                let was = at_open message.now (known_of call past) open_call again.0 in
                one_more_open open_call message past (λ _. (ap is_request_type asks, was.1, again.1)) (rest was.0)
            | inr new ↦ opens_it about asks anew new
          ]
        where
          some_same : {a b : Known} → Some a ≡ Some b → a ≡ b
          some_same e = cc

      cases : (b : Bool) → is_about call message ≡ b → IsOpenBy call open_call (message ∷ past)
      cases true about =
          about_by message.header.kind call message about (by_kind about)
          (λ answers. absurd (not_open_by_answer _ _ open_call (sym (after_answer message past about answers) ∙ is)))
      cases false other = one_more_open open_call message past (λ about. absurd (cc)) (rest (sym (after_other message past other) ∙ is))

  pub open_is_by : (past : List Tapped) (open_call : OpenCall) → known_of call past ≡ Some (Open open_call) → IsOpenBy call open_call past
  open_is_by [] open_call is = absurd (cc)
  open_is_by (message ∷ past) open_call is = open_step message past open_call (open_is_by past open_call) is

  stay_open_step : (open_call : OpenCall) (message : Tapped) (past : List Tapped) → (is_about call message ≡ true → LeavesOpen open_call message)
      → known_of call past ≡ Some (Open open_call) → known_of call (message ∷ past) ≡ Some (Open open_call)
  stay_open_step open_call message past since rest = cases (is_about call message) refl
    where
      cases : (b : Bool) → is_about call message ≡ b → known_of call (message ∷ past) ≡ Some (Open open_call)
      cases true about =
          let leaves = since about in
          after_request message past about (request_is message.header.kind leaves.0)
          ∙ ap (λ v. Some (known_by_request (opened message) (known_at message.now v))) rest
          ∙ ap (λ v. Some (known_by_request (opened message) v)) (open_at message.now open_call leaves.1)
          ∙ ap (λ b. Some (cond b (Open open_call) (Open (opened message)))) leaves.2
      cases false other = after_other message past other ∙ rest

  stays_open : (open_call : OpenCall) (later past : List Tapped) → AllAbout call (LeavesOpen open_call) later → known_of call past ≡ Some (Open open_call)
      → known_of call (later ++ past) ≡ Some (Open open_call)
  stays_open open_call [] past since is = is
  stays_open open_call (message ∷ later) past since is = stay_open_step open_call message (later ++ past) since.0 (stays_open open_call later past since.1 is)

  pub by_is_open : (past : List Tapped) (open_call : OpenCall) → IsOpenBy call open_call past → known_of call past ≡ Some (Open open_call)
  by_is_open past open_call r =
      ap (known_of call) r.among
      ∙ stays_open open_call r.later (r.request ∷ r.earlier) r.since
      (after_request r.request r.earlier r.about (request_is r.request.header.kind r.asks)
      ∙ ap (λ o. Some (known_by_request o (known_at r.request.now (known_of call r.earlier)))) (sym r.opens) ∙ ap Some r.anew)

  -- ---- a call stands answered by its first answer

  one_more_answered : (until : ℕ) (message : Tapped) (past : List Tapped) → (is_about call message ≡ true → LeavesAnswered until message) → IsAnsweredBy call until past
      → IsAnsweredBy call until (message ∷ past)
  one_more_answered until message past leaves r = record {
    later = message ∷ r.later;
    answer = r.answer;
    earlier = r.earlier;
    among = ap (λ ms. message ∷ ms) r.among;
    about = r.about;
    answers = r.answers;
    until_is = r.until_is;
    was_open = r.was_open;
    since = (leaves, r.since);
  }

  -- a call that is open or overdue at a moment was open
  was_open_at : (now : ℕ) (past : List Tapped) (v : Option Known) → known_at now (known_of call past) ≡ v
      → ((open_call : OpenCall) × (v ≡ Some (Open open_call))) ⊎ ((since : ℕ) × (v ≡ Some (Overdue since))) → (open_call : OpenCall) × (known_of call past ≡ Some (Open open_call))
  was_open_at now past v is (inl open_one) = (open_one.0, (at_open now (known_of call past) open_one.0 (is ∙ open_one.1)).0)
  was_open_at now past v is (inr overdue) =
      let was = at_overdue now (known_of call past) overdue.0 (λ at e. never_overdue past at e) (is ∙ overdue.1) in
      (was.0, was.1)

  answered_step : (message : Tapped) (past : List Tapped) (until : ℕ) → (known_of call past ≡ Some (Answered until) → IsAnsweredBy call until past)
      → known_of call (message ∷ past) ≡ Some (Answered until) → IsAnsweredBy call until (message ∷ past)
  answered_step message past until rest is = cases (is_about call message) refl
    where
      never_asked : is_about call message ≡ true → message.header.kind ≡ kinds.Request → ⊥
      never_asked about asks =
          let opens = request_opens (opened message) (known_at message.now (known_of call past)) in
          let e : Some (Open opens.0) ≡ Some (Answered until) = sym (after_request message past about asks ∙ ap Some opens.1) ∙ is in
          cc

      by_kind : is_about call message ≡ true → is_answer_type message.header.kind ≡ true → IsAnsweredBy call until (message ∷ past)
      by_kind about answers =
          elim (by_answer (message.now + message.answer_ms) until (known_at message.now (known_of call past)) (sym (after_answer message past about answers) ∙ is)) [
            | inl again ↦
                let was = at_answered message.now (known_of call past) until again in
                one_more_answered until message past (λ _. (answers, was.1)) (rest was.0)
            | inr first ↦
                record {
                  later = [];
                  answer = message;
                  earlier = past;
                  among = refl;
                  about = about;
                  answers = answers;
                  until_is = first.0;
                  was_open = was_open_at message.now past (known_at message.now (known_of call past)) refl first.1;
                  since = tt;
                }
          ]

      cases : (b : Bool) → is_about call message ≡ b → IsAnsweredBy call until (message ∷ past)
      cases true about = about_by message.header.kind call message about (λ asks. absurd (never_asked about asks)) (by_kind about)
      cases false other = one_more_answered until message past (λ about. absurd (cc)) (rest (sym (after_other message past other) ∙ is))

  pub answered_is_by : (past : List Tapped) (until : ℕ) → known_of call past ≡ Some (Answered until) → IsAnsweredBy call until past
  answered_is_by [] until is = absurd (cc)
  answered_is_by (message ∷ past) until is = answered_step message past until (answered_is_by past until) is

  stay_answered_step : (until : ℕ) (message : Tapped) (past : List Tapped) → (is_about call message ≡ true → LeavesAnswered until message)
      → known_of call past ≡ Some (Answered until) → known_of call (message ∷ past) ≡ Some (Answered until)
  stay_answered_step until message past since rest = cases (is_about call message) refl
    where
      cases : (b : Bool) → is_about call message ≡ b → known_of call (message ∷ past) ≡ Some (Answered until)
      cases true about =
          let leaves = since about in
          after_answer message past about leaves.0 ∙ ap (λ v. known_by_answer (message.now + message.answer_ms) (known_at message.now v)) rest
          ∙ ap (known_by_answer (message.now + message.answer_ms)) (answered_at message.now until leaves.1)
      cases false other = after_other message past other ∙ rest

  stays_answered : (until : ℕ) (later past : List Tapped) → AllAbout call (LeavesAnswered until) later → known_of call past ≡ Some (Answered until)
      → known_of call (later ++ past) ≡ Some (Answered until)
  stays_answered until [] past since is = is
  stays_answered until (message ∷ later) past since is = stay_answered_step until message (later ++ past) since.0 (stays_answered until later past since.1 is)

  -- an answer to a call that was open answers it, whether its deadline had come or not
  answers_open : (now until : ℕ) (open_call : OpenCall) → known_by_answer until (known_at now (Some (Open open_call))) ≡ Some (Answered until)
  answers_open now until open_call = cases (nat_le open_call.until now)
    where
      cases : (b : Bool) → known_by_answer until (cond b (Some (Overdue open_call.since)) (Some (Open open_call))) ≡ Some (Answered until)
      cases true = refl
      cases false = refl

  pub by_is_answered : (past : List Tapped) (until : ℕ) → IsAnsweredBy call until past → known_of call past ≡ Some (Answered until)
  by_is_answered past until r =
      ap (known_of call) r.among
      ∙ stays_answered until r.later (r.answer ∷ r.earlier) r.since
      (after_answer r.answer r.earlier r.about r.answers
      ∙ ap (λ v. known_by_answer (r.answer.now + r.answer.answer_ms) (known_at r.answer.now v)) r.was_open.1
      ∙ answers_open r.answer.now (r.answer.now + r.answer.answer_ms) r.was_open.0
      ∙ ap (λ n. Some (Answered n)) (sym r.until_is))

-- ---- late answers

late_by : (may_be : Bool) (now after : ℕ) (v : Option Known) → told_of_answer may_be now v ≡ Some (Late after) → (since : ℕ) × (v ≡ Some (Overdue since)) × (after ≡ now - since)
late_by true now after None is = absurd (cc)
late_by false now after None is = absurd (cc)
late_by may_be now after (Some (Open open_call)) is = absurd (cc)
late_by may_be now after (Some (Overdue since)) is = let e : after ≡ now - since = cc in (since, refl, e)
late_by may_be now after (Some (Answered until)) is = absurd (cc)

request_never_late : (session : ℕ) (new : OpenCall) (v : Option Known) (after : ℕ) → told_of_request session new v ≡ Some (Late after) → ⊥
request_never_late session new None after is = cc
request_never_late session new (Some (Overdue since)) after is = cc
request_never_late session new (Some (Answered until)) after is = cc
request_never_late session new (Some (Open other)) after is = cases (says_the_same other new || (session == 0)) is
  where
    cases : (b : Bool) → cond b None (Some KeyReused) ≡ Some (Late after) → ⊥
    cases true e = cc
    cases false e = cc

module _ (rules : CallRules) (message : Tapped) (past : List Tapped) (after : ℕ) where
  abbrev what : Option Known
  what = known_of (call_answered message) past

  answer_late : is_answer_type message.header.kind ≡ true
      → told_of_answer (may_be_asked rules message.answer_ms false message.now) message.now (known_at message.now what) ≡ Some (Late after) → IsLate after message past
  answer_late answers is =
      let overdue = late_by (may_be_asked rules message.answer_ms false message.now) message.now after (known_at message.now what) is in
      let was = at_overdue message.now what overdue.0 (λ at e. never_overdue (call_answered message) past at e) overdue.1 in
      (answers, (was.0, was.1, was.2, overdue.2 ∙ ap (λ n. message.now - n) (sym was.3)))

  late_told : IsLate after message past → told_of_answer (may_be_asked rules message.answer_ms false message.now) message.now (known_at message.now what) ≡ Some (Late after)
  late_told late =
      let open_one = late.1 in
      ap (λ v. told_of_answer (may_be_asked rules message.answer_ms false message.now) message.now (known_at message.now v)) open_one.1
      ∙ ap (told_of_answer (may_be_asked rules message.answer_ms false message.now) message.now) (overdue_at message.now open_one.0 open_one.2) ∙ ap (λ n. Some (Late n)) (sym open_one.3)

  late_from : (kind : MessageType) → message.header.kind ≡ kind → told_after_by kind rules message past ≡ Some (Late after) → IsLate after message past
  late_from kinds.Request is e = absurd (request_never_late message.header.session (opened message) (known_at message.now (known_of (call_asked message) past)) after e)
  late_from kinds.Response is e = answer_late (ap is_answer_type is) e
  late_from kinds.Error is e = answer_late (ap is_answer_type is) e
  late_from kinds.RequestNoReturn is e = absurd (cc)
  late_from kinds.Notification is e = absurd (cc)
  late_from kinds.TpRequest is e = absurd (cc)
  late_from kinds.TpRequestNoReturn is e = absurd (cc)
  late_from kinds.TpNotification is e = absurd (cc)
  late_from kinds.TpResponse is e = absurd (cc)
  late_from kinds.TpError is e = absurd (cc)

  answer_is_told : (kind : MessageType) → is_answer_type kind ≡ true
      → told_after_by kind rules message past ≡ told_of_answer (may_be_asked rules message.answer_ms false message.now) message.now (known_at message.now what)
  answer_is_told kinds.Response is = refl
  answer_is_told kinds.Error is = refl
  answer_is_told kinds.Request is = absurd (cc)
  answer_is_told kinds.RequestNoReturn is = absurd (cc)
  answer_is_told kinds.Notification is = absurd (cc)
  answer_is_told kinds.TpRequest is = absurd (cc)
  answer_is_told kinds.TpRequestNoReturn is = absurd (cc)
  answer_is_told kinds.TpNotification is = absurd (cc)
  answer_is_told kinds.TpResponse is = absurd (cc)
  answer_is_told kinds.TpError is = absurd (cc)

  pub late_is : (told_after rules message past ≡ Some (Late after)) ↔ IsLate after message past
  late_is = (λ e. late_from message.header.kind refl e, λ late. answer_is_told message.header.kind late.0 ∙ late_told late)
