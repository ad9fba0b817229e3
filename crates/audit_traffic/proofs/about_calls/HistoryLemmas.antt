-- A book by the messages that it saw.
use Rattle.std.proofs.Common.{◌≡◌, ℕ, ◌+◌, ◌<◌, ◌≤◌, nat_le, nat_lt, Bool, true, false, cond, ◌⊎◌, inl, inr, List, [], ◌∷◌, Option, None, Some, refl, sym, ap, subst, ◌∙◌, arith}
use Rattle.std.specs.Ordering.{eq_by_cmp}
use Rattle.std.specs.FinMap.{get, insert, len, get-empty, get-insert}
use Rattle.std.proofs.lemmas.Bool.Decides.{nat_tests}
use Rattle.someip_wire.specs.declared.header.MessageType.{MessageType}
use Rattle.someip_wire.specs.declared.header.MessageType.TheVariants as kinds
use Rattle.someip_tables.specs.Retained.{kept_if}
use Rattle.someip_tables.proofs.Entries.{get-retain, same_by_test}
use Rattle.audit_traffic.specs.declared.calls.call.AuditedCall.{AuditedCall}
use Rattle.audit_traffic.specs.declared.calls.finding.CallRules.{CallRules}
use Rattle.audit_traffic.specs.declared.calls.finding.Unanswered.{Unanswered}
use Rattle.audit_traffic.specs.declared.calls.known.Known.{Known}
use Rattle.audit_traffic.specs.declared.calls.known.Known.TheVariants.{Open, Overdue, Answered}
use Rattle.audit_traffic.specs.declared.calls.known.OpenCall.{OpenCall}
use Rattle.audit_traffic.specs.calls.AuditedCalls.{call_cmp}
use Rattle.audit_traffic.specs.calls.CallOrder.{calls_total, exact_calls}
use Rattle.audit_traffic.specs.calls.BookHistory.{StandsFor, finds_room, finds_room_by}
use Rattle.audit_traffic.specs.calls.CallBooks.{Book, known, new_book, book_after, book_by, told, told_by, with_known, may_be_asked}
use Rattle.audit_traffic.specs.calls.CallHistory.{known_of, told_after, told_after_by}
use Rattle.audit_traffic.specs.calls.KnownCalls.{is_known_at, known_at, known_by_request, known_by_answer, told_of_request, told_of_answer}
use Rattle.audit_traffic.specs.calls.Overdue.{IsOpenCall, calls_after_due, most_messages, still_known, with_room}
use Rattle.audit_traffic.specs.calls.Tapped.{Tapped, call_asked, call_answered, opened}

-- ---- moments

come : (now at : ℕ) → at ≤ now → nat_le at now ≡ true
come now at le = grind (arith, nat_tests)

not_come : (now at : ℕ) → now < at → nat_le at now ≡ false
not_come now at lt = grind (arith, nat_tests)

-- what is overdue, or no longer known, stays so
later_known : (now later : ℕ) (v : Option Known) → now ≤ later → known_at later (known_at now v) ≡ known_at later v
later_known now later None le = refl
later_known now later (Some (Open open_call)) le = cases (nat_le open_call.until now) refl
  where
    cases : (b : Bool) → nat_le open_call.until now ≡ b → known_at later (cond b (Some (Overdue open_call.since)) (Some (Open open_call))) ≡ known_at later (Some (Open open_call))
    cases true is = let past : nat_le open_call.until later ≡ true = grind (arith, nat_tests) in rw past refl
    cases false is = refl
later_known now later (Some (Overdue since)) le = refl
later_known now later (Some (Answered until)) le = cases (nat_le until now) refl
  where
    cases : (b : Bool) → nat_le until now ≡ b → known_at later (cond b None (Some (Answered until))) ≡ known_at later (Some (Answered until))
    cases true is = let past : nat_le until later ≡ true = grind (arith, nat_tests) in rw past refl
    cases false is = refl

-- a call of which nothing is known any more was not open
known_none : (now later : ℕ) (v : Option Known) → known_at now v ≡ None → now ≤ later → known_at later v ≡ None
known_none now later v none le = sym (later_known now later v le) ∙ ap (known_at later) none

open_known : (now : ℕ) (v : Option Known) (open_call : OpenCall) → known_at now v ≡ None → v ≡ Some (Open open_call) → ⊥
open_known now v open_call none is = cases (nat_le open_call.until now) (sym (ap (known_at now) is) ∙ none)
  where
    cases : (b : Bool) → cond b (Some (Overdue open_call.since)) (Some (Open open_call)) ≡ None → ⊥
    cases true e = cc
    cases false e = cc

nothing_by_answer : (until : ℕ) (v : Option Known) → known_by_answer until v ≡ None → v ≡ None
nothing_by_answer until None is = refl
nothing_by_answer until (Some (Open open_call)) is = cc
nothing_by_answer until (Some (Overdue since)) is = cc
nothing_by_answer until (Some (Answered earlier)) is = cc

-- ---- what a book holds of one call, by what the messages say of it

pub record Holds (latest : ℕ) (held what : Option Known) : Type 0 where
  pub knows : (now : ℕ) → latest ≤ now → known_at now held ≡ known_at now what
  pub is_open : (open_call : OpenCall) → held ≡ Some (Open open_call) → what ≡ Some (Open open_call)
  pub is_told : (open_call : OpenCall) → what ≡ Some (Open open_call) → (held ≡ Some (Open open_call)) ⊎ (held ≡ Some (Overdue open_call.since))

abbrev pub HoldsAll : ℕ → Book → List Tapped → Type 0
HoldsAll latest book past = (call : AuditedCall) → Holds latest (get book.calls call) (known_of call past)

pub stands_from : (latest : ℕ) (book : Book) (past : List Tapped) → HoldsAll latest book past → StandsFor latest book past
stands_from latest book past all = record { knows = λ call. (all call).knows; is_open = λ call. (all call).is_open; is_told = λ call. (all call).is_told }

holds_from : (latest : ℕ) (book : Book) (past : List Tapped) → StandsFor latest book past → HoldsAll latest book past
holds_from latest book past stands call = record { knows = stands.knows call; is_open = stands.is_open call; is_told = stands.is_told call }

-- what is equal holds
holds_same : (latest : ℕ) (held what : Option Known) → held ≡ what → Holds latest held what
holds_same latest held what is = record {
  knows = λ now le. ap (known_at now) is;
  is_open = λ open_call e. sym is ∙ e;
  is_told = λ open_call e. inl (is ∙ e);
}

holds_later : (latest now : ℕ) (held what : Option Known) → latest ≤ now → Holds latest held what → Holds now held what
holds_later latest now held what le holds = record {
  knows = λ later at_least. holds.knows later (omega arith);
  is_open = holds.is_open;
  is_told = holds.is_told;
}

-- what is no longer known need not be held, nor let go
holds_none : (now : ℕ) (held : Option Known) → known_at now held ≡ None → Holds now held None
holds_none now held none = record {
  knows = λ later le. known_none now later held none le;
  is_open = λ open_call is. absurd (open_known now held open_call none is);
  is_told = λ open_call is. cc;
}

pub new_stands : (rules : CallRules) (latest : ℕ) → StandsFor latest (new_book rules) []
new_stands rules latest = stands_from latest (new_book rules) [] (λ call. holds_same latest _ None (get-empty call_cmp call))

-- ---- a message

module _ (latest : ℕ) (book : Book) (message : Tapped) (past : List Tapped) (le : latest ≤ message.now) (stands : HoldsAll latest book past) where
  -- what is known of a call at the message's moment
  at_its_moment : (call : AuditedCall) → known_at message.now (get book.calls call) ≡ known_at message.now (known_of call past)
  at_its_moment call = (stands call).knows message.now le

  -- a REQUEST
  request_holds : (other : AuditedCall)
      → Holds message.now (get (insert book.calls (call_asked message) (known_by_request (opened message) (known_at message.now (get book.calls (call_asked message))))) other)
      (cond (eq_by_cmp call_cmp other (call_asked message)) (Some (known_by_request (opened message) (known_at message.now (known_of other past)))) (known_of other past))
  request_holds other = rw (get-insert calls_total book.calls (call_asked message) what other) (at (eq_by_cmp call_cmp other (call_asked message)) refl)
    where
      what : Known
      what = known_by_request (opened message) (known_at message.now (get book.calls (call_asked message)))

      at : (t : Bool) → eq_by_cmp call_cmp other (call_asked message) ≡ t
          → Holds message.now (cond t (Some (known_by_request (opened message) (known_at message.now (get book.calls (call_asked message))))) (get book.calls other))
          (cond t (Some (known_by_request (opened message) (known_at message.now (known_of other past)))) (known_of other past))
      at true tie =
          let same : other ≡ call_asked message = same_by_test exact_calls other (call_asked message) tie in
          let known : known_at message.now (get book.calls (call_asked message)) ≡ known_at message.now (known_of other past) =
          ap (λ c. known_at message.now (get book.calls c)) (sym same) ∙ at_its_moment other in
          holds_same message.now _ _ (ap (λ v. Some (known_by_request (opened message) v)) known)
      at false apart = holds_later latest message.now _ _ le (stands other)

  -- an answer
  answer_holds : (other : AuditedCall) (until : ℕ)
      → Holds message.now (get (with_known (call_answered message) (known_by_answer until (known_at message.now (get book.calls (call_answered message)))) book.calls) other)
      (cond (eq_by_cmp call_cmp other (call_answered message)) (known_by_answer until (known_at message.now (known_of other past))) (known_of other past))
  answer_holds other until = by (known_by_answer until (known_at message.now (get book.calls (call_answered message)))) refl (eq_by_cmp call_cmp other (call_answered message)) refl
    where
      says : eq_by_cmp call_cmp other (call_answered message) ≡ true
          → known_by_answer until (known_at message.now (get book.calls (call_answered message))) ≡ known_by_answer until (known_at message.now (known_of other past))
      says tie =
          let same : other ≡ call_answered message = same_by_test exact_calls other (call_answered message) tie in
          ap (known_by_answer until) (ap (λ c. known_at message.now (get book.calls c)) (sym same) ∙ at_its_moment other)

      by : (v : Option Known) → known_by_answer until (known_at message.now (get book.calls (call_answered message))) ≡ v → (t : Bool)
          → eq_by_cmp call_cmp other (call_answered message) ≡ t
          → Holds message.now (get (with_known (call_answered message) v book.calls) other)
          (cond t (known_by_answer until (known_at message.now (known_of other past))) (known_of other past))
      by None is true tie =
          let same : other ≡ call_answered message = same_by_test exact_calls other (call_answered message) tie in
          let gone : known_at message.now (get book.calls other) ≡ None =
          ap (λ c. known_at message.now (get book.calls c)) same ∙ nothing_by_answer until _ is in
          rw (← says tie, is) (holds_none message.now (get book.calls other) gone)
      by None is false apart = holds_later latest message.now _ _ le (stands other)
      by (Some what) is true tie =
          holds_same message.now _ _ (get-insert calls_total book.calls (call_answered message) what other ∙ ap (λ b. cond b (Some what) (get book.calls other)) tie ∙ sym is ∙ says tie)
      by (Some what) is false apart =
          let as_it_was : get (insert book.calls (call_answered message) what) other ≡ get book.calls other =
          get-insert calls_total book.calls (call_answered message) what other ∙ ap (λ b. cond b (Some what) (get book.calls other)) apart in
          rw as_it_was (holds_later latest message.now _ _ le (stands other))

  -- the book with the call of a REQUEST
  abbrev asked_book : Book
  asked_book = record book { calls = insert book.calls (call_asked message) (known_by_request (opened message) (known message.now book.calls (call_asked message))) }

  request_holds_all : message.header.kind ≡ kinds.Request → HoldsAll message.now asked_book (message ∷ past)
  request_holds_all is = λ other. rw is (request_holds other)

  book_with_room : finds_room_by kinds.Request message book ≡ true → book_by kinds.Request message book ≡ asked_book
  book_with_room room = ap (λ b. cond b asked_book (record book { full = true })) room

  -- a message of each type
  saw_holds : (kind : MessageType) → message.header.kind ≡ kind → finds_room_by kind message book ≡ true → HoldsAll message.now (book_by kind message book) (message ∷ past)
  saw_holds kinds.Request is room = let P : Book → Type 0 = λ b. HoldsAll message.now b (message ∷ past) in subst P (sym (book_with_room room)) (request_holds_all is)
  saw_holds kinds.Response is room = λ other. rw is (answer_holds other (message.now + message.answer_ms))
  saw_holds kinds.Error is room = λ other. rw is (answer_holds other (message.now + message.answer_ms))
  saw_holds kinds.RequestNoReturn is room = λ other. rw is (holds_later latest message.now _ _ le (stands other))
  saw_holds kinds.Notification is room = λ other. rw is (holds_later latest message.now _ _ le (stands other))
  saw_holds kinds.TpRequest is room = λ other. rw is (holds_later latest message.now _ _ le (stands other))
  saw_holds kinds.TpRequestNoReturn is room = λ other. rw is (holds_later latest message.now _ _ le (stands other))
  saw_holds kinds.TpNotification is room = λ other. rw is (holds_later latest message.now _ _ le (stands other))
  saw_holds kinds.TpResponse is room = λ other. rw is (holds_later latest message.now _ _ le (stands other))
  saw_holds kinds.TpError is room = λ other. rw is (holds_later latest message.now _ _ le (stands other))

  -- what is told of it
  answer_told : book.full ≡ false
      → told_of_answer (may_be_asked book.rules message.answer_ms book.full message.now) message.now (known_at message.now (get book.calls (call_answered message)))
      ≡ told_of_answer (may_be_asked book.rules message.answer_ms false message.now) message.now (known_at message.now (known_of (call_answered message) past))
  answer_told not_full =
      ap (λ full. told_of_answer (may_be_asked book.rules message.answer_ms full message.now) message.now (known_at message.now (get book.calls (call_answered message)))) not_full
      ∙ ap (told_of_answer (may_be_asked book.rules message.answer_ms false message.now) message.now) (at_its_moment (call_answered message))

  told_is : (kind : MessageType) → finds_room_by kind message book ≡ true → book.full ≡ false → told_by kind message book ≡ told_after_by kind book.rules message past
  told_is kinds.Request room not_full = rw room (ap (told_of_request message.header.session (opened message)) (at_its_moment (call_asked message)))
  told_is kinds.Response room not_full = answer_told not_full
  told_is kinds.Error room not_full = answer_told not_full
  told_is kinds.RequestNoReturn room not_full = refl
  told_is kinds.Notification room not_full = refl
  told_is kinds.TpRequest room not_full = refl
  told_is kinds.TpRequestNoReturn room not_full = refl
  told_is kinds.TpNotification room not_full = refl
  told_is kinds.TpResponse room not_full = refl
  told_is kinds.TpError room not_full = refl

pub saw_stands : (book : Book) (latest : ℕ) (message : Tapped) (past : List Tapped) → latest ≤ message.now → finds_room message book ≡ true → StandsFor latest book past
    → StandsFor message.now (book_after message book) (message ∷ past)
saw_stands book latest message past le room stands =
    stands_from message.now (book_after message book) (message ∷ past)
    (saw_holds latest book message past le (holds_from latest book past stands) message.header.kind refl room)

pub told_stands : (book : Book) (latest : ℕ) (message : Tapped) (past : List Tapped) → latest ≤ message.now → finds_room message book ≡ true → book.full ≡ false
    → StandsFor latest book past → told message book ≡ told_after book.rules message past
told_stands book latest message past le room not_full stands =
    told_is latest book message past le (holds_from latest book past stands) message.header.kind room not_full

-- ---- what falls due

-- a call that is told is overdue from then on
told_holds : (latest now : ℕ) (held what : Option Known) (open_call : OpenCall) → latest ≤ now → open_call.until ≤ now → held ≡ Some (Open open_call) → Holds latest held what
    → Holds now (Some (Overdue open_call.since)) what
told_holds latest now held what open_call le past is holds = record {
  knows = λ later at_least.
      let over : known_at later (Some (Open open_call)) ≡ Some (Overdue open_call.since) = rw (come later open_call.until (omega arith)) refl in
      sym over ∙ ap (known_at later) (sym is) ∙ holds.knows later (omega arith);
  is_open = λ other e. cc;
  is_told = λ other e.
      let same : Some (Open open_call) ≡ Some (Open other) = sym (holds.is_open open_call is) ∙ e in
      let since : open_call.since ≡ other.since = ap (λ (o : OpenCall). o.since) (same_open same) in
      inr (ap (λ n. Some (Overdue n)) since);
}
  where
    same_open : {a b : OpenCall} → Some (Open a) ≡ Some (Open b) → a ≡ b
    same_open e = cc

-- what was answered is let go from its moment on, and nothing else
gone_holds : (latest now until : ℕ) (what : Option Known) → latest ≤ now → until ≤ now → Holds latest (Some (Answered until)) what → Holds now None what
gone_holds latest now until what le past holds = record {
  knows = λ later at_least.
      let over : known_at later (Some (Answered until)) ≡ None = rw (come later until (omega arith)) refl in
      sym over ∙ holds.knows later (omega arith);
  is_open = λ other e. cc;
  is_told = λ other e. absurd (neither other (holds.is_told other e));
}
  where
    neither : (other : OpenCall) → (Some (Answered until) ≡ Some (Open other)) ⊎ (Some (Answered until) ≡ Some (Overdue other.since)) → ⊥
    neither other (inl e) = cc
    neither other (inr e) = cc

known_holds : (latest now moment : ℕ) (held what : Option Known) → latest ≤ now → moment ≤ now → Holds latest held what → Holds now (kept_if (is_known_at moment) held) what
known_holds latest now moment None what le past holds = holds_later latest now None what le holds
known_holds latest now moment (Some (Open open_call)) what le past holds = holds_later latest now _ what le holds
known_holds latest now moment (Some (Overdue since)) what le past holds = holds_later latest now _ what le holds
known_holds latest now moment (Some (Answered until)) what le past holds = cases (nat_lt moment until) refl
  where
    cases : (b : Bool) → nat_lt moment until ≡ b → Holds now (cond b (Some (Answered until)) None) what
    cases true lt = holds_later latest now _ what le holds
    cases false ge =
        let over : until ≤ moment = grind (arith, nat_tests) in
        gone_holds latest now until what le (omega (arith, over, past)) holds

-- so it is where there is room, or room is made by a moment that has come
room_holds : (latest now moment limit : ℕ) (book : Book) (past : List Tapped) → latest ≤ now → moment ≤ now → HoldsAll latest book past → (call : AuditedCall)
    → Holds now (get (with_room limit moment book.calls) call) (known_of call past)
room_holds latest now moment limit book past le come all call = cases (nat_le (len book.calls + most_messages) limit)
  where
    cases : (b : Bool) → Holds now (get (cond b book.calls (still_known moment book.calls)) call) (known_of call past)
    cases true = holds_later latest now _ _ le (all call)
    cases false =
        rw (get-retain calls_total exact_calls book.calls (λ _ what. is_known_at moment what) call)
        (known_holds latest now moment (get book.calls call) (known_of call past) le come (all call))

pub due_stands : (book : Book) (latest now : ℕ) (one : Unanswered) (past : List Tapped) → latest ≤ now → IsOpenCall book.calls one → one.until ≤ now → StandsFor latest book past
    → StandsFor now (record book { calls = calls_after_due book.rules.limit now (Some one) book.calls }) past
due_stands book latest now one past le is_open over stands =
    stands_from now (record book { calls = calls_after_due book.rules.limit now (Some one) book.calls }) past (λ call.
    rw (get-insert calls_total (with_room book.rules.limit one.until book.calls) one.call (Overdue one.since) call) (at call (eq_by_cmp call_cmp call one.call) refl))
  where
    at : (call : AuditedCall) (t : Bool) → eq_by_cmp call_cmp call one.call ≡ t
        → Holds now (cond t (Some (Overdue one.since)) (get (with_room book.rules.limit one.until book.calls) call)) (known_of call past)
    at call true tie =
        let same : call ≡ one.call = same_by_test exact_calls call one.call tie in
        let held : get book.calls call ≡ Some (Open is_open.0) = ap (get book.calls) same ∙ is_open.1 in
        let until : one.until ≡ is_open.0.until = ap (λ (u : Unanswered). u.until) is_open.2 in
        let since : one.since ≡ is_open.0.since = ap (λ (u : Unanswered). u.since) is_open.2 in
        rw since (told_holds latest now (get book.calls call) _ is_open.0 le (omega (arith, until, over)) held (holds_from latest book past stands call))
    at call false apart = room_holds latest now one.until book.rules.limit book past le over (holds_from latest book past stands) call

pub none_due_stands : (book : Book) (latest now : ℕ) (past : List Tapped) → latest ≤ now → ((other : Unanswered) → IsOpenCall book.calls other → now < other.until) → StandsFor latest book past
    → StandsFor now (record book { calls = calls_after_due book.rules.limit now None book.calls }) past
none_due_stands book latest now past le none stands =
    stands_from now (record book { calls = calls_after_due book.rules.limit now None book.calls }) past (room_holds latest now now book.rules.limit book past le (omega arith) (holds_from latest book past stands))
