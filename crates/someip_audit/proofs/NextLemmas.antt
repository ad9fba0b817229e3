-- What falls due next is determined, and so is what a recording shows.
use Rattle.std.proofs.Common.{◌≡◌, ℕ, ◌==◌, ◌≤◌, nat_lt, Bool, true, false, cond, List, [], ◌∷◌, ◌++◌, map, Option, Some, refl, ap, subst, sym, ◌∙◌, arith}
use Rattle.std.specs.declared.cmp.Ordering.{Ordering}
use Rattle.std.specs.declared.cmp.Ordering.TheVariants.{Less, Equal, Greater}
use Rattle.std.specs.Ordering.{is_le, nat_cmp, ordering_reverse, ordering_then}
use Rattle.std.specs.Cmp.{IsTotalOrder}
use Rattle.std.specs.FinMap as finite
use Rattle.std.specs.FinMap.{FinMap, IsAntisymmetric}
use Rattle.std.proofs.lemmas.Bool.Decides.{nat_tests}
use Rattle.audit_traffic.specs.declared.calls.finding.Unanswered.{Unanswered}
use Rattle.audit_traffic.specs.calls.CallOrder.{calls_total, exact_calls}
use Rattle.audit_traffic.specs.calls.Overdue.{IsOpenCall, unanswered}
use Rattle.audit_traffic.specs.declared.segments.told.Missing.{Missing}
use Rattle.audit_traffic.specs.segments.MessageKeys.{exact_messages, message_key, messages_total}
use Rattle.audit_traffic.specs.segments.SegmentBooks.{IsWaiting}
use Rattle.audit_traffic.specs.segments.SegmentWaits.{WaitTable}
use Rattle.audit_traffic.specs.gaps.MissingKeys.{missing_cmp}
use Rattle.audit_traffic.specs.declared.segments.key.MessageKey.{MessageKey}
use Rattle.audit_traffic.specs.declared.segments.waiting.Waiting.{Waiting}
use Rattle.someip_reassembly.specs.declared.key.ReassemblyKey.{ReassemblyKey}
use Rattle.audit_traffic.specs.declared.gaps.awaited.Awaited.{Awaited}
use Rattle.audit_traffic.specs.declared.gaps.finding.LostEvent.{LostEvent}
use Rattle.audit_traffic.specs.declared.cycles.finding.SilentEvent.{SilentEvent}
use Rattle.audit_traffic.specs.declared.cycles.watch.Watch.{Watch}
use Rattle.audit_traffic.specs.declared.events.flow.EventFlow.{EventFlow}
use Rattle.audit_traffic.specs.events.FlowOrder.{exact_flows, flows_total}
use Rattle.audit_traffic.specs.declared.gaps.key.MissingEvent.{MissingEvent}
use Rattle.audit_traffic.specs.gaps.MissingOrder.{exact_missing, missing_total}
use Rattle.audit_sd.specs.declared.offers.finding.Expired.{Expired}
use Rattle.audit_sd.specs.offers.OfferRules.{passes_at}
use Rattle.audit_sd.specs.offers.OfferOrder.{exact_offers, offers_total}
use Rattle.audit_sd.specs.declared.subscriptions.finding.Unanswered as no_answer
use Rattle.audit_sd.specs.declared.subscriptions.key.SubscriptionKey.{SubscriptionKey}
use Rattle.audit_sd.specs.declared.subscriptions.entry.Asked.{Asked}
use Rattle.audit_sd.specs.subscriptions.SubscriptionOrder.{exact_subscriptions, subscriptions_total}
use Rattle.someip_audit.specs.declared.fell_due.FellDue.{FellDue}
use Rattle.someip_audit.specs.declared.fell_due.FellDue.TheVariants as due
use Rattle.someip_audit.specs.BooksHeld.{Held}
use Rattle.someip_audit.specs.FellDues.{IsAwaited, after_due, book_of, deadline, fell_cmp, key_cmp}
use Rattle.someip_audit.specs.Audits.{AuditState, Audits, Drains, Hears, IsNext, Report, Seen, after_seen, fell, found, seen_shown}

-- ---- orders

-- of two numbers in order, and then by another order, the first is the lesser
in_order : (a b : ℕ) (o : Ordering) → is_le (ordering_then (nat_cmp a b) o) ≡ true → a ≤ b
in_order a b o = cases (nat_lt a b) (a == b) refl refl
  where
    cases : (l e : Bool) → nat_lt a b ≡ l → (a == b) ≡ e → is_le (ordering_then (cond l Less (cond e Equal Greater)) o) ≡ true → a ≤ b
    cases true e l is h = grind (arith, nat_tests)
    cases false true l is h = grind (arith, nat_tests)
    cases false false l is h = cc

-- and of two equal ones the other order tells
then_order : (a b : ℕ) (o : Ordering) → a ≡ b → is_le (ordering_then (nat_cmp a b) o) ≡ true → is_le o ≡ true
then_order a b o same = cases (nat_lt a b) (a == b) refl refl
  where
    cases : (l e : Bool) → nat_lt a b ≡ l → (a == b) ≡ e → is_le (ordering_then (cond l Less (cond e Equal Greater)) o) ≡ true → is_le o ≡ true
    cases true e l is h = absurd (grind (arith, nat_tests))
    cases false true l is h = h
    cases false false l is h = cc

-- two that are not above each other tie
tied : (p q : Ordering) → p ≡ ordering_reverse q → is_le p ≡ true → is_le q ≡ true → p ≡ Equal
tied Less Less turned p q = cc
tied Less Equal turned p q = cc
tied Less Greater turned p q = cc
tied Equal q turned p le = refl
tied Greater q turned p le = cc

pub one_key : {K : Type 0} {R : K → K → Ordering} → IsTotalOrder R → IsAntisymmetric R → (a b : K) → is_le (R a b) ≡ true → is_le (R b a) ≡ true → a ≡ b
one_key {K} {R} o exact a b ab ba = exact a b (tied (R a b) (R b a) (o.antisymm a b) ab ba)

-- a map has one value for a key
one_value : {V : Type 0} (v w : V) (o : Option V) → o ≡ Some v → o ≡ Some w → v ≡ w
one_value v w o is then_is = let e : Some v ≡ Some w = sym is ∙ then_is in cc

-- ---- what is next

same_deadline : (a b : FellDue) → is_le (fell_cmp a b) ≡ true → is_le (fell_cmp b a) ≡ true → deadline a ≡ deadline b
same_deadline a b ab ba =
    let one = in_order (deadline a) (deadline b) (ordering_then (nat_cmp (book_of a) (book_of b)) (key_cmp a b)) ab in
    let other = in_order (deadline b) (deadline a) (ordering_then (nat_cmp (book_of b) (book_of a)) (key_cmp b a)) ba in
    omega (arith, one, other)

by_book : (a b : FellDue) → is_le (fell_cmp a b) ≡ true → is_le (fell_cmp b a) ≡ true → is_le (ordering_then (nat_cmp (book_of a) (book_of b)) (key_cmp a b)) ≡ true
by_book a b ab ba = then_order (deadline a) (deadline b) (ordering_then (nat_cmp (book_of a) (book_of b)) (key_cmp a b)) (same_deadline a b ab ba) ab

pub same_book : (a b : FellDue) → is_le (fell_cmp a b) ≡ true → is_le (fell_cmp b a) ≡ true → book_of a ≡ book_of b
same_book a b ab ba =
    let one = in_order (book_of a) (book_of b) (key_cmp a b) (by_book a b ab ba) in
    let other = in_order (book_of b) (book_of a) (key_cmp b a) (by_book b a ba ab) in
    omega (arith, one, other)

pub by_key : (a b : FellDue) → is_le (fell_cmp a b) ≡ true → is_le (fell_cmp b a) ≡ true → is_le (key_cmp a b) ≡ true
by_key a b ab ba = then_order (book_of a) (book_of b) (key_cmp a b) (same_book a b ab ba) (by_book a b ab ba)

open_one : (held : Held) (a b : Unanswered) → IsOpenCall held.calls.calls a → IsOpenCall held.calls.calls b → a.call ≡ b.call → a ≡ b
open_one held a b x y key =
    let calls : x.0 ≡ y.0 = (let e = sym x.1 ∙ ap (finite.get held.calls.calls) key ∙ y.1 in cc) in
    x.2 ∙ ap (λ call. unanswered call x.0) key ∙ ap (unanswered b.call) calls ∙ sym y.2

missing_of : ReassemblyKey → Waiting → Missing
missing_of key waiting = record { key = key; numbers = waiting.numbers; until = waiting.until }

waiting_of : Missing → Waiting
waiting_of missing = record { numbers = missing.numbers; until = missing.until }

pub missing_one : (waiting : WaitTable) (a b : Missing) → IsWaiting waiting a → IsWaiting waiting b → message_key a.key ≡ message_key b.key → a ≡ b
unfolding missing_of waiting_of
missing_one waiting a b x y key =
    let waits : waiting_of a ≡ waiting_of b = one_value (waiting_of a) (waiting_of b) (finite.get waiting (message_key b.key)) (sym (ap (finite.get waiting) key) ∙ x) y in
    ap (λ (k : MessageKey). missing_of k.0 (waiting_of a)) key ∙ ap (missing_of b.key) waits

expired_one : (held : Held) (a b : Expired) → IsAwaited held (due.Expired a) → IsAwaited held (due.Expired b) → a.key ≡ b.key → a ≡ b
expired_one held a b x y key =
    let offers : a.offer ≡ b.offer = one_value a.offer b.offer (finite.get held.offers.standing b.key) (sym (ap (finite.get held.offers.standing) key) ∙ x.0) y.0 in
    let moments : a.at ≡ b.at = one_value a.at b.at (passes_at b.offer) (sym (ap passes_at offers) ∙ x.1) y.1 in
    ap (λ k. record { at = a.at; key = k; offer = a.offer }) key ∙ ap (λ o. record { at = a.at; key = b.key; offer = o }) offers ∙ ap (λ m. record { at = m; key = b.key; offer = b.offer }) moments

asked_of : no_answer.Unanswered → Asked
asked_of told = record { origin = told.origin; until = told.at }

told_of : SubscriptionKey → Asked → no_answer.Unanswered
told_of key asked = record { at = asked.until; key = key; origin = asked.origin }

asked_one : (held : Held) (a b : no_answer.Unanswered) → IsAwaited held (due.SubscribeUnanswered a) → IsAwaited held (due.SubscribeUnanswered b) → a.key ≡ b.key → a ≡ b
unfolding asked_of told_of
asked_one held a b x y key =
    let waits : asked_of a ≡ asked_of b = one_value (asked_of a) (asked_of b) (finite.get held.subscriptions.waiting b.key) (sym (ap (finite.get held.subscriptions.waiting) key) ∙ x) y in
    ap (λ k. told_of k (asked_of a)) key ∙ ap (told_of b.key) waits

awaited_of : LostEvent → Awaited
awaited_of told = record { shown_by = told.shown_by; numbers = told.numbers; until = told.at }

lost_of : MissingEvent → Awaited → LostEvent
lost_of key awaited = record { at = awaited.until; key = key; shown_by = awaited.shown_by; numbers = awaited.numbers }

pub lost_one : (waiting : FinMap missing_cmp Awaited) (a b : LostEvent) → finite.get waiting a.key ≡ Some (record { shown_by = a.shown_by; numbers = a.numbers; until = a.at })
    → finite.get waiting b.key ≡ Some (record { shown_by = b.shown_by; numbers = b.numbers; until = b.at }) → a.key ≡ b.key → a ≡ b
unfolding awaited_of lost_of
lost_one waiting a b x y key =
    let waits : awaited_of a ≡ awaited_of b = one_value (awaited_of a) (awaited_of b) (finite.get waiting b.key) (sym (ap (finite.get waiting) key) ∙ x) y in
    ap (λ k. lost_of k (awaited_of a)) key ∙ ap (lost_of b.key) waits

watch_of : SilentEvent → Watch
watch_of told = record { silent_ms = told.silent_ms; until = told.at; numbers = told.numbers }

silent_of : EventFlow → Watch → SilentEvent
silent_of flow watch = record { at = watch.until; flow = flow; silent_ms = watch.silent_ms; numbers = watch.numbers }

silent_one : (held : Held) (a b : SilentEvent) → IsAwaited held (due.Silent a) → IsAwaited held (due.Silent b) → a.flow ≡ b.flow → a ≡ b
unfolding watch_of silent_of
silent_one held a b x y key =
    let watches : watch_of a ≡ watch_of b = one_value (watch_of a) (watch_of b) (finite.get held.cycles.watched b.flow) (sym (ap (finite.get held.cycles.watched) key) ∙ x.0) y.0 in
    ap (λ k. silent_of k (watch_of a)) key ∙ ap (silent_of b.flow) watches

one_next : (held : Held) (a b : FellDue) → IsAwaited held a → IsAwaited held b → is_le (fell_cmp a b) ≡ true → is_le (fell_cmp b a) ≡ true → a ≡ b
one_next held (due.Unanswered a) (due.Unanswered b) x y ab ba =
    ap due.Unanswered
    (open_one held a b x y
    (one_key calls_total exact_calls a.call b.call (by_key (due.Unanswered a) (due.Unanswered b) ab ba) (by_key (due.Unanswered b) (due.Unanswered a) ba ab)))
one_next held (due.Missing a) (due.Missing b) x y ab ba =
    ap due.Missing
    (missing_one held.segments.waiting a b x y
    (one_key messages_total exact_messages (message_key a.key) (message_key b.key) (by_key (due.Missing a) (due.Missing b) ab ba) (by_key (due.Missing b) (due.Missing a) ba ab)))
one_next held (due.Expired a) (due.Expired b) x y ab ba =
    ap due.Expired
    (expired_one held a b x y (one_key offers_total exact_offers a.key b.key (by_key (due.Expired a) (due.Expired b) ab ba) (by_key (due.Expired b) (due.Expired a) ba ab)))
one_next held (due.SubscribeUnanswered a) (due.SubscribeUnanswered b) x y ab ba =
    ap due.SubscribeUnanswered
    (asked_one held a b x y
    (one_key subscriptions_total exact_subscriptions a.key b.key (by_key (due.SubscribeUnanswered a) (due.SubscribeUnanswered b) ab ba)
    (by_key (due.SubscribeUnanswered b) (due.SubscribeUnanswered a) ba ab)))
one_next held (due.EventLost a) (due.EventLost b) x y ab ba =
    ap due.EventLost
    (lost_one held.events.gaps.waiting a b x y
    (one_key missing_total exact_missing a.key b.key (by_key (due.EventLost a) (due.EventLost b) ab ba) (by_key (due.EventLost b) (due.EventLost a) ba ab)))
one_next held (due.Silent a) (due.Silent b) x y ab ba =
    ap due.Silent
    (silent_one held a b x y (one_key flows_total exact_flows a.flow b.flow (by_key (due.Silent a) (due.Silent b) ab ba) (by_key (due.Silent b) (due.Silent a) ba ab)))
one_next held a b x y ab ba = let books = same_book a b ab ba in absurd (omega (arith, books))

next_is_one : (now : ℕ) (state : AuditState) (a b : FellDue) → IsNext now state a → IsNext now state b → a ≡ b
next_is_one now state a b x y = one_next state a b x.due.0 y.due.0 (x.first b y.due) (y.first a x.due)

-- ---- what is told

pub drains_one : (now : ℕ) (told others : List FellDue) (state after other : AuditState) → Drains now state told after → Drains now state others other
    → (told ≡ others) × (after ≡ other)
drains_one now [] [] state after other x y = (refl, x.1 ∙ sym y.1)
drains_one now [] (b ∷ others) state after other x y = absurd (x.0 b y.0.due)
drains_one now (a ∷ told) [] state after other x y = absurd (y.0 a x.0.due)
drains_one now (a ∷ told) (b ∷ others) state after other x y =
    let same : b ≡ a = next_is_one now state b a y.0 x.0 in
    let rest =
    drains_one now told others (after_due now (Some a) state) after other x.1
    (let P : FellDue → Type 0 = λ z. Drains now (after_due now (Some z) state) others other in subst P same y.1) in
    (ap (λ z. z ∷ told) (sym same) ∙ ap (λ zs. b ∷ zs) rest.0, rest.1)

pub hears_one : (state : AuditState) (seen : Seen) (reports others : List Report) (after other : AuditState) → Hears state seen reports after → Hears state seen others other
    → (reports ≡ others) × (after ≡ other)
hears_one state seen reports others after other x y =
    let one = drains_one seen.now x.told y.told state x.between y.between x.drains y.drains in (
      x.reported ∙ ap (λ told. map fell told ++ map (found seen.origin) (seen_shown seen x.between)) one.0
          ∙ ap (λ between. map fell y.told ++ map (found seen.origin) (seen_shown seen between)) one.1 ∙ sym y.reported,
      x.left ∙ ap (after_seen seen) one.1 ∙ sym y.left,
    )

-- what is told of a recording, and what is left, is determined
pub audits_one : (last : ℕ) (datagrams : List Seen) (state : AuditState) (reports others : List Report) (after other : AuditState)
    → Audits last state datagrams reports after → Audits last state datagrams others other → (reports ≡ others) × (after ≡ other)
audits_one last [] state reports others after other x y =
    let one = drains_one last x.0 y.0 state after other x.1 y.1 in
    (x.2 ∙ ap (map fell) one.0 ∙ sym y.2, one.1)
audits_one last (seen ∷ datagrams) state reports others after other x y =
    let one = hears_one state seen x.0 y.0 x.2 y.2 x.3 y.3 in
    let rest =
    audits_one seen.now datagrams x.2 x.1 y.1 after other x.4
    (let P : AuditState → Type 0 = λ between. Audits seen.now between datagrams y.1 other in subst P (sym one.1) y.4) in
    (x.5 ∙ ap (λ first. first ++ x.1) one.0 ∙ ap (λ more. y.0 ++ more) rest.0 ∙ sym y.5, rest.1)
