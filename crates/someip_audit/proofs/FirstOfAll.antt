-- What falls due first over all books.
use Rattle.std.proofs.Common.{◌≡◌, ℕ, ◌<◌, ◌≤◌, nat_le, max, Bool, true, false, Option, None, Some, refl, ap, sym, ◌∙◌, arith}
use Rattle.std.specs.Prelude.{◌≢◌}
use Rattle.std.specs.Ordering.{is_le}
use Rattle.std.specs.FinMap as finite
use Rattle.std.proofs.lemmas.Bool.Decides.{nat_tests}
use Rattle.someip_tables.specs.declared.deadline.Deadline.{Deadline}
use Rattle.someip_tables.specs.declared.deadline.Deadline.TheVariants.{At, Never}
use Rattle.someip_tables.specs.Agendas.{is_awaited}
use Rattle.someip_tables.specs.Deadlines.{has_passed, millis_of}
use Rattle.someip_tables.specs.Waits.{HoldsFrom, due_by, earlier, is_due_by}
use Rattle.someip_tables.proofs.about_hashed.FirstDues.{not_before}
use Rattle.std.specs.Option.{option_and_then}
use Rattle.audit_traffic.specs.declared.calls.finding.Unanswered.{Unanswered}
use Rattle.audit_traffic.specs.calls.CallBooks as calls
use Rattle.audit_traffic.specs.calls.Overdue.{IsOpenCall, told_cmp, calls_after_due}
use Rattle.audit_traffic.specs.declared.segments.told.Missing.{Missing}
use Rattle.audit_traffic.specs.segments.MessageKeys.{message_cmp, message_key, messages_total, exact_messages}
use Rattle.audit_traffic.specs.segments.SegmentBooks as segments
use Rattle.audit_traffic.specs.segments.SegmentWaits as waits
use Rattle.audit_traffic.specs.declared.gaps.finding.LostEvent.{LostEvent}
use Rattle.audit_traffic.specs.declared.cycles.finding.SilentEvent.{SilentEvent}
use Rattle.audit_traffic.specs.cycles.CycleRules as cycle
use Rattle.audit_traffic.specs.cycles.CycleTables as cycles
use Rattle.audit_traffic.specs.events.FlowOrder.{exact_flows, flows_total}
use Rattle.someip_tables.specs.Lastings.{expired}
use Rattle.audit_sd.specs.receivers.ReceiverTables.{Subscriptions}
use Rattle.someip_audit.proofs.SilenceLemmas.{ended_not, goes_on, none_passed, was_so}
use Rattle.audit_traffic.specs.gaps.GapRules as gap
use Rattle.audit_traffic.specs.gaps.GapTables as gaps
use Rattle.audit_traffic.specs.gaps.MissingOrder.{exact_missing, missing_total}
use Rattle.audit_traffic.specs.sequence.Sequences as events
use Rattle.audit_traffic.specs.sequence.Sequences.{Sequence}
use Rattle.audit_sd.specs.declared.offers.finding.Expired.{Expired}
use Rattle.audit_sd.specs.offers.OfferOrder.{offers_total, exact_offers}
use Rattle.audit_sd.specs.offers.OfferRules.{passes_at}
use Rattle.audit_sd.specs.offers.OfferTables as offers
use Rattle.audit_sd.specs.declared.subscriptions.finding.Unanswered as no_answer
use Rattle.audit_sd.specs.subscriptions.SubscriptionOrder.{subscriptions_total, exact_subscriptions}
use Rattle.audit_sd.specs.subscriptions.SubscribeRules.{waits_until}
use Rattle.audit_sd.specs.subscriptions.SubscribeTables as subscriptions
use Rattle.someip_audit.specs.declared.fell_due.FellDue.{FellDue}
use Rattle.someip_audit.specs.declared.fell_due.FellDue.TheVariants as due
use Rattle.someip_audit.specs.BooksHeld.{Held}
use Rattle.someip_audit.specs.FellDues.{IsDue, NonePassed, after_due, fell_cmp, soonest, unless_ended}
use Rattle.someip_audit.proofs.MomentLemmas.{after_it, awaited_is, come_left, come_right, le_by_book, le_by_time, least, not_before_first, second, something_waits, soonest_le, soonest_le_now, soonest_none, soonest_some}

has_passed_is : (now : ℕ) (until : Deadline) → has_passed now until ≡ is_due_by now (millis_of until)
has_passed_is now (At moment) = refl
has_passed_is now Never = refl

-- the first moments of the books whose moments are all told
module _ (held : Held) (now : ℕ) (seg off sub lost cyc end : Option ℕ)
    (from_seg : HoldsFrom seg (λ at. due_by waits.waits_of at held.segments.waiting ≢ finite.empty))
    (from_off : HoldsFrom off (λ at. due_by passes_at at held.offers.standing ≢ finite.empty))
    (from_sub : HoldsFrom sub (λ at. due_by waits_until at held.subscriptions.waiting ≢ finite.empty))
    (from_lost : HoldsFrom lost (λ at. due_by gap.waits_until at held.events.gaps.waiting ≢ finite.empty))
    (from_cyc : HoldsFrom cyc (λ at. due_by cycle.falls_silent_at at held.cycles.watched ≢ finite.empty))
    (from_end : HoldsFrom end (λ at. expired at held.receivers.standing ≢ finite.empty))
    (silent later others rest next : Option ℕ) (at : ℕ) (silent_eq : silent ≡ unless_ended cyc end) (later_eq : later ≡ earlier lost silent) (others_eq : others ≡ earlier sub later) (rest_eq : rest ≡ earlier off others) (next_eq : next ≡ earlier seg rest) (at_eq : at ≡ soonest now next) where
  all_eq : next ≡ earlier seg (earlier off (earlier sub (earlier lost silent)))
  all_eq = next_eq ∙ ap (earlier seg) (rest_eq ∙ ap (earlier off) (others_eq ∙ ap (earlier sub) later_eq))

  at_le : (d : ℕ) → is_due_by d next ≡ true → d ≤ now → at ≤ d
  at_le d come le = let h = soonest_le now d next come le in omega (arith, at_eq, h)

  at_le_now : at ≤ now
  at_le_now = let h = soonest_le_now now next in omega (arith, at_eq, h)

  moved : is_awaited at next ≡ false → is_awaited (soonest now next) next ≡ false
  moved not_there = ap (λ x. is_awaited x next) (sym at_eq) ∙ not_there

  missing_come : (m : Missing) → segments.IsWaiting held.segments.waiting m → is_due_by m.until seg ≡ true
  missing_come m waiting = not_before_first messages_total exact_messages waits.waits_of held.segments.waiting seg from_seg (message_key m.key) (record { numbers = m.numbers; until = m.until }) m.until waiting refl

  expired_come : (e : Expired) → finite.get held.offers.standing e.key ≡ Some e.offer → passes_at e.offer ≡ Some e.at → is_due_by e.at off ≡ true
  expired_come e has passes = not_before_first offers_total exact_offers passes_at held.offers.standing off from_off e.key e.offer e.at has passes

  asked_come : (u : no_answer.Unanswered) → finite.get held.subscriptions.waiting u.key ≡ Some (record { origin = u.origin; until = u.at }) → is_due_by u.at sub ≡ true
  asked_come u has = not_before_first subscriptions_total exact_subscriptions waits_until held.subscriptions.waiting sub from_sub u.key (record { origin = u.origin; until = u.at }) u.at has refl

  by_missing : (m : Missing) → segments.IsWaiting held.segments.waiting m → is_due_by m.until next ≡ true
  by_missing m waiting = ap (is_due_by m.until) all_eq ∙ come_left m.until seg (earlier off (earlier sub (earlier lost silent))) (missing_come m waiting)

  by_expired : (e : Expired) → finite.get held.offers.standing e.key ≡ Some e.offer → passes_at e.offer ≡ Some e.at → is_due_by e.at next ≡ true
  by_expired e has passes = ap (is_due_by e.at) all_eq ∙ come_right e.at seg (earlier off (earlier sub (earlier lost silent))) (come_left e.at off (earlier sub (earlier lost silent)) (expired_come e has passes))

  by_asked : (u : no_answer.Unanswered) → finite.get held.subscriptions.waiting u.key ≡ Some (record { origin = u.origin; until = u.at }) → is_due_by u.at next ≡ true
  by_asked u has = ap (is_due_by u.at) all_eq ∙ come_right u.at seg (earlier off (earlier sub (earlier lost silent))) (come_right u.at off (earlier sub (earlier lost silent)) (come_left u.at sub (earlier lost silent) (asked_come u has)))

  lost_come : (l : LostEvent) → finite.get held.events.gaps.waiting l.key ≡ Some (record { shown_by = l.shown_by; numbers = l.numbers; until = l.at }) → is_due_by l.at lost ≡ true
  lost_come l has = not_before_first missing_total exact_missing gap.waits_until held.events.gaps.waiting lost from_lost l.key (record { shown_by = l.shown_by; numbers = l.numbers; until = l.at }) l.at has refl

  by_lost : (l : LostEvent) → finite.get held.events.gaps.waiting l.key ≡ Some (record { shown_by = l.shown_by; numbers = l.numbers; until = l.at }) → is_due_by l.at next ≡ true
  by_lost l has = ap (is_due_by l.at) all_eq ∙ come_right l.at seg (earlier off (earlier sub (earlier lost silent))) (come_right l.at off (earlier sub (earlier lost silent)) (come_right l.at sub (earlier lost silent) (come_left l.at lost silent (lost_come l has))))

  silent_come : (s : SilentEvent) → finite.get held.cycles.watched s.flow ≡ Some (record { silent_ms = s.silent_ms; until = s.at; numbers = s.numbers }) → NonePassed s.at held.receivers.standing → is_due_by s.at silent ≡ true
  silent_come s has none =
      let due = not_before_first flows_total exact_flows cycle.falls_silent_at held.cycles.watched cyc from_cyc s.flow (record { silent_ms = s.silent_ms; until = s.at; numbers = s.numbers }) s.at has refl in
      ap (is_due_by s.at) silent_eq ∙ goes_on s.at cyc end due (ended_not s.at end held.receivers.standing from_end none)

  by_silent : (s : SilentEvent) → finite.get held.cycles.watched s.flow ≡ Some (record { silent_ms = s.silent_ms; until = s.at; numbers = s.numbers }) → NonePassed s.at held.receivers.standing → is_due_by s.at next ≡ true
  by_silent s has none =
      ap (is_due_by s.at) all_eq
      ∙ come_right s.at seg (earlier off (earlier sub (earlier lost silent))) (come_right s.at off (earlier sub (earlier lost silent)) (come_right s.at sub (earlier lost silent) (come_right s.at lost silent (silent_come s has none))))

  -- ---- a call

  pub call_is_due : (told : Unanswered) → IsOpenCall held.calls.calls told → told.until ≤ at → IsDue now held (due.Unanswered told)
  call_is_due told is_open before = let le : at ≤ now = at_le_now in (is_open, omega (arith, before, le))

  pub call_first : (told : Unanswered) → told.until ≤ at → ((other : Unanswered) → IsOpenCall held.calls.calls other → is_le (told_cmp told other) ≡ true)
      → (other : FellDue) → IsDue now held other → is_le (fell_cmp (due.Unanswered told) other) ≡ true
  call_first told before first (due.Unanswered other) (is, come) = first other is
  call_first told before first (due.Missing other) (is, come) =
      let le : at ≤ other.until = at_le other.until (by_missing other is) come in le_by_book told.until other.until (omega (arith, before, le))
  call_first told before first (due.Expired other) (is, come) =
      let le : at ≤ other.at = at_le other.at (by_expired other is.0 is.1) come in le_by_book told.until other.at (omega (arith, before, le))
  call_first told before first (due.SubscribeUnanswered other) (is, come) =
      let le : at ≤ other.at = at_le other.at (by_asked other is) come in le_by_book told.until other.at (omega (arith, before, le))
  call_first told before first (due.EventLost other) (is, come) =
      let le : at ≤ other.at = at_le other.at (by_lost other is) come in le_by_book told.until other.at (omega (arith, before, le))
  call_first told before first (due.Silent other) (is, come) =
      let le : at ≤ other.at = at_le other.at (by_silent other is.0 is.1) come in le_by_book told.until other.at (omega (arith, before, le))

  module _ (no_call : (other : Unanswered) → IsOpenCall held.calls.calls other → at < other.until) where
    -- ---- nothing

    pub none_first : is_awaited at next ≡ false → (other : FellDue) → IsDue now held other → ⊥
    none_first not_there (due.Unanswered other) (is, come) = let lt = no_call other is in let e : at ≡ now = at_eq ∙ soonest_none now next (moved not_there) in omega (arith, lt, e, come)
    none_first not_there (due.Missing other) (is, come) = soonest_some now other.until next (moved not_there) (by_missing other is) come
    none_first not_there (due.Expired other) (is, come) = soonest_some now other.at next (moved not_there) (by_expired other is.0 is.1) come
    none_first not_there (due.SubscribeUnanswered other) (is, come) = soonest_some now other.at next (moved not_there) (by_asked other is) come
    none_first not_there (due.EventLost other) (is, come) = soonest_some now other.at next (moved not_there) (by_lost other is) come
    none_first not_there (due.Silent other) (is, come) = soonest_some now other.at next (moved not_there) (by_silent other is.0 is.1) come

    pub none_after : is_awaited at next ≡ false → (book : calls.Book) → book ≡ record held.calls { calls = calls_after_due held.calls.rules.limit at None held.calls.calls }
        → record held { calls = book } ≡ after_due now None held
    none_after not_there book is = rw (is, at_eq ∙ soonest_none now next (moved not_there)) refl

    -- ---- something else

    module _ (there : is_awaited at next ≡ true) where
      next_is : next ≡ Some at
      next_is = awaited_is at next there

      -- a message of which segments are missing
      module _ (first_is : is_awaited at seg ≡ true) where
        pub no_missing : ((other : Missing) → segments.IsWaiting held.segments.waiting other → max held.segments.latest at < other.until) → ⊥
        no_missing none =
            something_waits messages_total exact_messages waits.waits_of held.segments.waiting seg from_seg at (awaited_is at seg first_is)
            (λ k v has. let lt = none (record { key = k.0; numbers = v.numbers; until = v.until }) has in grind (arith, nat_tests, lt))

        missing_at : (told : Missing) → segments.IsWaiting held.segments.waiting told
            → ((other : Missing) → segments.IsWaiting held.segments.waiting other → is_le (segments.missing_cmp told other) ≡ true) → told.until ≡ at
        missing_at told waiting first = cases (nat_le told.until at) refl
          where
            not_sooner : at ≤ told.until
            not_sooner = least told.until at next next_is (by_missing told waiting)

            cases : (t : Bool) → nat_le told.until at ≡ t → told.until ≡ at
            cases true le = grind (arith, nat_tests, not_sooner)
            cases false later =
                absurd (something_waits messages_total exact_messages waits.waits_of held.segments.waiting seg from_seg at (awaited_is at seg first_is)
                (λ k v has.
                let le : told.until ≤ v.until = not_before message_cmp (record { at = told.until; key = message_key told.key }) (record { at = v.until; key = k }) (first (record { key = k.0; numbers = v.numbers; until = v.until }) has) in
                grind (arith, nat_tests, le)))

        pub missing_is_due : (told : Missing) → segments.IsWaiting held.segments.waiting told
            → ((other : Missing) → segments.IsWaiting held.segments.waiting other → is_le (segments.missing_cmp told other) ≡ true) → IsDue now held (due.Missing told)
        missing_is_due told waiting first = let e = missing_at told waiting first in let le : at ≤ now = at_le_now in (waiting, omega (arith, e, le))

        pub missing_first : (told : Missing) → segments.IsWaiting held.segments.waiting told
            → ((other : Missing) → segments.IsWaiting held.segments.waiting other → is_le (segments.missing_cmp told other) ≡ true)
            → (other : FellDue) → IsDue now held other → is_le (fell_cmp (due.Missing told) other) ≡ true
        missing_first told waiting first (due.Unanswered other) (is, come) =
            let lt = no_call other is in let e = missing_at told waiting first in le_by_time told.until other.until _ (omega (arith, lt, e))
        missing_first told waiting first (due.Missing other) (is, come) = first other is
        missing_first told waiting first (due.Expired other) (is, come) =
            let le = least other.at at next next_is (by_expired other is.0 is.1) in let e = missing_at told waiting first in le_by_book told.until other.at (omega (arith, le, e))
        missing_first told waiting first (due.SubscribeUnanswered other) (is, come) =
            let le = least other.at at next next_is (by_asked other is) in let e = missing_at told waiting first in le_by_book told.until other.at (omega (arith, le, e))
        missing_first told waiting first (due.EventLost other) (is, come) =
            let le = least other.at at next next_is (by_lost other is) in let e = missing_at told waiting first in le_by_book told.until other.at (omega (arith, le, e))
        missing_first told waiting first (due.Silent other) (is, come) =
            let le = least other.at at next next_is (by_silent other is.0 is.1) in let e = missing_at told waiting first in le_by_book told.until other.at (omega (arith, le, e))

        pub missing_after : (told : Missing) → segments.IsWaiting held.segments.waiting told
            → ((other : Missing) → segments.IsWaiting held.segments.waiting other → is_le (segments.missing_cmp told other) ≡ true)
            → (book : calls.Book) (new : segments.Book) → book ≡ record held.calls { calls = calls_after_due held.calls.rules.limit at None held.calls.calls }
            → new ≡ segments.book_after_due (max held.segments.latest at) (Some told) held.segments
            → record held { calls = book; segments = new } ≡ after_due now (Some (due.Missing told)) held
        missing_after told waiting first book new is_book is_new = rw (is_book, is_new, sym (missing_at told waiting first)) refl

      module _ (not_seg : is_awaited at seg ≡ false) where
        rest_is : earlier off (earlier sub (earlier lost silent)) ≡ Some at
        rest_is = second at seg (earlier off (earlier sub (earlier lost silent))) (sym all_eq ∙ next_is) not_seg

        -- an offer that expired
        module _ (first_is : is_awaited at off ≡ true) where
          pub no_expired : offers.FallsDue at held.offers.standing None → ⊥
          no_expired none =
              something_waits offers_total exact_offers passes_at held.offers.standing off from_off at (awaited_is at off first_is)
              (λ k v has. sym (has_passed_is at v.until) ∙ none k v has)

          waits_at : (told : Expired) → offers.FallsDue at held.offers.standing (Some told) → passes_at told.offer ≡ Some told.at
          waits_at told falls = sym (ap (option_and_then passes_at) falls.1) ∙ falls.0.0

          expired_at : (told : Expired) → offers.FallsDue at held.offers.standing (Some told) → told.at ≡ at
          expired_at told falls =
              let le = falls.2 in let ge : at ≤ told.at = least told.at at next next_is (by_expired told falls.1 (waits_at told falls)) in omega (arith, le, ge)

          pub expired_is_due : (told : Expired) → offers.FallsDue at held.offers.standing (Some told) → IsDue now held (due.Expired told)
          expired_is_due told falls = let e = expired_at told falls in let le : at ≤ now = at_le_now in ((falls.1, waits_at told falls), omega (arith, e, le))

          pub expired_first : (told : Expired) → offers.FallsDue at held.offers.standing (Some told) → (other : FellDue) → IsDue now held other
              → is_le (fell_cmp (due.Expired told) other) ≡ true
          expired_first told falls (due.Unanswered other) (is, come) =
              let lt = no_call other is in let e = expired_at told falls in le_by_time told.at other.until _ (omega (arith, lt, e))
          expired_first told falls (due.Missing other) (is, come) =
              let lt : at < other.until = after_it other.until at seg (earlier off (earlier sub (earlier lost silent))) (sym all_eq ∙ next_is) not_seg (missing_come other is) in
              let e = expired_at told falls in le_by_time told.at other.until _ (omega (arith, lt, e))
          expired_first told falls (due.Expired other) (is, come) = falls.0.1 (record { at = other.at; key = other.key }) (ap (option_and_then passes_at) is.0 ∙ is.1)
          expired_first told falls (due.SubscribeUnanswered other) (is, come) =
              let le = least other.at at next next_is (by_asked other is) in let e = expired_at told falls in le_by_book told.at other.at (omega (arith, le, e))
          expired_first told falls (due.EventLost other) (is, come) =
              let le = least other.at at next next_is (by_lost other is) in let e = expired_at told falls in le_by_book told.at other.at (omega (arith, le, e))
          expired_first told falls (due.Silent other) (is, come) =
              let le = least other.at at next next_is (by_silent other is.0 is.1) in let e = expired_at told falls in le_by_book told.at other.at (omega (arith, le, e))

          pub expired_after : (told : Expired) → offers.FallsDue at held.offers.standing (Some told)
              → (book : calls.Book) (new : offers.OfferTable) → book ≡ record held.calls { calls = calls_after_due held.calls.rules.limit at None held.calls.calls }
              → new ≡ offers.after_due (Some told) held.offers
              → record held { calls = book; offers = new } ≡ after_due now (Some (due.Expired told)) held
          expired_after told falls book new is_book is_new = rw (is_book, is_new, sym (expired_at told falls)) refl

        module _ (not_off : is_awaited at off ≡ false) where
          others_is : earlier sub (earlier lost silent) ≡ Some at
          others_is = second at off (earlier sub (earlier lost silent)) rest_is not_off

          -- a Subscribe without an answer
          module _ (first_is : is_awaited at sub ≡ true) where
            pub no_asked : subscriptions.FallsDue at held.subscriptions.waiting None → ⊥
            no_asked none =
                something_waits subscriptions_total exact_subscriptions waits_until held.subscriptions.waiting sub from_sub at (awaited_is at sub first_is) (λ k v has. none k v has)

            asked_at : (told : no_answer.Unanswered) → subscriptions.FallsDue at held.subscriptions.waiting (Some told) → told.at ≡ at
            asked_at told falls = let le = falls.2 in let ge : at ≤ told.at = least told.at at next next_is (by_asked told falls.1) in omega (arith, le, ge)

            pub asked_is_due : (told : no_answer.Unanswered) → subscriptions.FallsDue at held.subscriptions.waiting (Some told) → IsDue now held (due.SubscribeUnanswered told)
            asked_is_due told falls = let e = asked_at told falls in let le : at ≤ now = at_le_now in (falls.1, omega (arith, e, le))

            pub asked_first : (told : no_answer.Unanswered) → subscriptions.FallsDue at held.subscriptions.waiting (Some told) → (other : FellDue) → IsDue now held other
                → is_le (fell_cmp (due.SubscribeUnanswered told) other) ≡ true
            asked_first told falls (due.Unanswered other) (is, come) =
                let lt = no_call other is in let e = asked_at told falls in le_by_time told.at other.until _ (omega (arith, lt, e))
            asked_first told falls (due.Missing other) (is, come) =
                let lt : at < other.until = after_it other.until at seg (earlier off (earlier sub (earlier lost silent))) (sym all_eq ∙ next_is) not_seg (missing_come other is) in
                let e = asked_at told falls in le_by_time told.at other.until _ (omega (arith, lt, e))
            asked_first told falls (due.Expired other) (is, come) =
                let lt : at < other.at = after_it other.at at off (earlier sub (earlier lost silent)) rest_is not_off (expired_come other is.0 is.1) in
                let e = asked_at told falls in le_by_time told.at other.at _ (omega (arith, lt, e))
            asked_first told falls (due.SubscribeUnanswered other) (is, come) = falls.0.1 (record { at = other.at; key = other.key }) (ap (option_and_then waits_until) is)
            asked_first told falls (due.EventLost other) (is, come) =
                let le = least other.at at next next_is (by_lost other is) in let e = asked_at told falls in le_by_book told.at other.at (omega (arith, le, e))
            asked_first told falls (due.Silent other) (is, come) =
                let le = least other.at at next next_is (by_silent other is.0 is.1) in let e = asked_at told falls in le_by_book told.at other.at (omega (arith, le, e))

            pub asked_after : (told : no_answer.Unanswered) → subscriptions.FallsDue at held.subscriptions.waiting (Some told)
                → (book : calls.Book) (new : subscriptions.SubscribeTable) → book ≡ record held.calls { calls = calls_after_due held.calls.rules.limit at None held.calls.calls }
                → new ≡ subscriptions.after_due (Some told) held.subscriptions
                → record held { calls = book; subscriptions = new } ≡ after_due now (Some (due.SubscribeUnanswered told)) held
            asked_after told falls book new is_book is_new = rw (is_book, is_new, sym (asked_at told falls)) refl

          -- a session of an event that did not come
          module _ (not_sub : is_awaited at sub ≡ false) where
            later_is : earlier lost silent ≡ Some at
            later_is = second at sub (earlier lost silent) others_is not_sub

            module _ (first_is : is_awaited at lost ≡ true) where
              lost_is : lost ≡ Some at
              lost_is = awaited_is at lost first_is

              pub no_lost : gaps.FallsDue at held.events.gaps.waiting None → ⊥
              no_lost none = something_waits missing_total exact_missing gap.waits_until held.events.gaps.waiting lost from_lost at lost_is (λ k v has. none k v has)

              lost_at : (told : LostEvent) → gaps.FallsDue at held.events.gaps.waiting (Some told) → told.at ≡ at
              lost_at told falls = let le = falls.2 in let ge : at ≤ told.at = least told.at at next next_is (by_lost told falls.1) in omega (arith, le, ge)

              pub lost_is_due : (told : LostEvent) → gaps.FallsDue at held.events.gaps.waiting (Some told) → IsDue now held (due.EventLost told)
              lost_is_due told falls = let e = lost_at told falls in let le : at ≤ now = at_le_now in (falls.1, omega (arith, e, le))

              pub lost_first : (told : LostEvent) → gaps.FallsDue at held.events.gaps.waiting (Some told) → (other : FellDue) → IsDue now held other → is_le (fell_cmp (due.EventLost told) other) ≡ true
              lost_first told falls (due.Unanswered other) (is, come) =
                  let lt = no_call other is in let e = lost_at told falls in le_by_time told.at other.until _ (omega (arith, lt, e))
              lost_first told falls (due.Missing other) (is, come) =
                  let lt : at < other.until = after_it other.until at seg (earlier off (earlier sub (earlier lost silent))) (sym all_eq ∙ next_is) not_seg (missing_come other is) in
                  let e = lost_at told falls in le_by_time told.at other.until _ (omega (arith, lt, e))
              lost_first told falls (due.Expired other) (is, come) =
                  let lt : at < other.at = after_it other.at at off (earlier sub (earlier lost silent)) rest_is not_off (expired_come other is.0 is.1) in
                  let e = lost_at told falls in le_by_time told.at other.at _ (omega (arith, lt, e))
              lost_first told falls (due.SubscribeUnanswered other) (is, come) =
                  let lt : at < other.at = after_it other.at at sub (earlier lost silent) others_is not_sub (asked_come other is) in
                  let e = lost_at told falls in le_by_time told.at other.at _ (omega (arith, lt, e))
              lost_first told falls (due.EventLost other) (is, come) = falls.0.1 (record { at = other.at; key = other.key }) (ap (option_and_then gap.waits_until) is)
              lost_first told falls (due.Silent other) (is, come) =
                  let le = least other.at at next next_is (by_silent other is.0 is.1) in let e = lost_at told falls in le_by_book told.at other.at (omega (arith, le, e))

              pub lost_after : (told : LostEvent) → gaps.FallsDue at held.events.gaps.waiting (Some told)
                  → (book : calls.Book) (new : Sequence) → book ≡ record held.calls { calls = calls_after_due held.calls.rules.limit at None held.calls.calls } → new ≡ events.after_due (Some told) held.events
                  → record held { calls = book; events = new } ≡ after_due now (Some (due.EventLost told)) held
              lost_after told falls book new is_book is_new = rw (is_book, is_new, sym (lost_at told falls)) refl

            -- an event that fell silent
            module _ (not_lost : is_awaited at lost ≡ false) where
              silent_is : silent ≡ Some at
              silent_is = second at lost silent later_is not_lost

              its : (cyc ≡ Some at) × (is_due_by at end ≡ false)
              its = was_so at cyc end (sym silent_eq ∙ silent_is)

              pub no_silent : cycles.FallsSilent at held.cycles.watched None → ⊥
              no_silent none = something_waits flows_total exact_flows cycle.falls_silent_at held.cycles.watched cyc from_cyc at its.0 (λ k v has. none k v has)

              silent_at : (told : SilentEvent) → cycles.FallsSilent at held.cycles.watched (Some told) → told.at ≡ at
              silent_at told falls =
                  let le = falls.2 in
                  let due = not_before_first flows_total exact_flows cycle.falls_silent_at held.cycles.watched cyc from_cyc told.flow (record { silent_ms = told.silent_ms; until = told.at; numbers = told.numbers }) told.at falls.1 refl in
                  let ge : at ≤ told.at = least told.at at cyc its.0 due in
                  omega (arith, le, ge)

              none_ended : (told : SilentEvent) → cycles.FallsSilent at held.cycles.watched (Some told) → NonePassed told.at held.receivers.standing
              none_ended told falls = none_passed told.at end held.receivers.standing from_end (ap (λ t. is_due_by t end) (silent_at told falls) ∙ its.1)

              pub silent_is_due : (told : SilentEvent) → cycles.FallsSilent at held.cycles.watched (Some told) → IsDue now held (due.Silent told)
              silent_is_due told falls = let e = silent_at told falls in let le : at ≤ now = at_le_now in ((falls.1, none_ended told falls), omega (arith, e, le))

              pub silent_first : (told : SilentEvent) → cycles.FallsSilent at held.cycles.watched (Some told) → (other : FellDue) → IsDue now held other → is_le (fell_cmp (due.Silent told) other) ≡ true
              silent_first told falls (due.Unanswered other) (is, come) =
                  let lt = no_call other is in let e = silent_at told falls in le_by_time told.at other.until _ (omega (arith, lt, e))
              silent_first told falls (due.Missing other) (is, come) =
                  let lt : at < other.until = after_it other.until at seg (earlier off (earlier sub (earlier lost silent))) (sym all_eq ∙ next_is) not_seg (missing_come other is) in
                  let e = silent_at told falls in le_by_time told.at other.until _ (omega (arith, lt, e))
              silent_first told falls (due.Expired other) (is, come) =
                  let lt : at < other.at = after_it other.at at off (earlier sub (earlier lost silent)) rest_is not_off (expired_come other is.0 is.1) in
                  let e = silent_at told falls in le_by_time told.at other.at _ (omega (arith, lt, e))
              silent_first told falls (due.SubscribeUnanswered other) (is, come) =
                  let lt : at < other.at = after_it other.at at sub (earlier lost silent) others_is not_sub (asked_come other is) in
                  let e = silent_at told falls in le_by_time told.at other.at _ (omega (arith, lt, e))
              silent_first told falls (due.EventLost other) (is, come) =
                  let lt : at < other.at = after_it other.at at lost silent later_is not_lost (lost_come other is) in
                  let e = silent_at told falls in le_by_time told.at other.at _ (omega (arith, lt, e))
              silent_first told falls (due.Silent other) (is, come) = falls.0.1 (record { at = other.at; key = other.flow }) (ap (option_and_then cycle.falls_silent_at) is.0)

              pub silent_after : (told : SilentEvent) → cycles.FallsSilent at held.cycles.watched (Some told)
                  → (book : calls.Book) (new : cycles.Cycles) → book ≡ record held.calls { calls = calls_after_due held.calls.rules.limit at None held.calls.calls } → new ≡ cycles.after_silent (Some told) held.cycles
                  → record held { calls = book; cycles = new } ≡ after_due now (Some (due.Silent told)) held
              silent_after told falls book new is_book is_new = rw (is_book, is_new, sym (silent_at told falls)) refl
