-- What an audit tells as silent until nothing is left, and what its book of cycles watches then.
use Rattle.std.proofs.Common.{◌≡◌, ℕ, ◌==◌, ◌≤◌, nat_le, suc, zero, Bool, true, false, cond, not, List, [], ◌∷◌, Option, None, Some, refl, ap, sym, ◌∙◌, arith}
use Rattle.std.specs.FinMap as finite
use Rattle.std.specs.List.{All}
use Rattle.std.specs.Ordering.{eq_by_cmp}
use Rattle.std.specs.declared.net.socket_addr.SocketAddrV4.{SocketAddrV4}
use Rattle.std.proofs.lemmas.Bool.{eqb-true, eq-eqb}
use Rattle.std.proofs.lemmas.Bool.Decides.{nat_tests}
use Rattle.std.proofs.lemmas.List.Elements.{All-cons, All-nil}
use Rattle.someip_tables.specs.declared.lasting.Lasting.{Lasting}
use Rattle.someip_tables.specs.Deadlines.{has_passed}
use Rattle.someip_tables.specs.Lastings.{expired}
use Rattle.someip_tables.proofs.Expiry.{passed_later}
use Rattle.audit_sd.specs.receivers.ReceiverTables.{Subscriptions}
use Rattle.audit_sd.specs.subscriptions.SubscriptionKeys.{subscription_cmp}
use Rattle.audit_traffic.specs.declared.cycles.finding.SilentEvent.{SilentEvent}
use Rattle.audit_traffic.specs.declared.cycles.watch.Watch.{Watch}
use Rattle.audit_traffic.specs.declared.events.flow.EventFlow.{EventFlow}
use Rattle.audit_traffic.specs.events.FlowKeys.{flow_cmp}
use Rattle.audit_traffic.specs.events.FlowOrder.{flows_total}
use Rattle.audit_traffic.specs.cycles.CycleHistories.{Step, after_steps, book_of}
use Rattle.audit_traffic.specs.cycles.CycleRules.{is_silent_by}
use Rattle.audit_traffic.specs.cycles.CycleTables.{Cycles, after_silent}
use Rattle.audit_traffic.proofs.about_cycles.ReasonLemmas.{its_watch, none_was, nothing_silent, once_told, silence}
use Rattle.someip_audit.specs.declared.fell_due.FellDue.{FellDue}
use Rattle.someip_audit.specs.declared.fell_due.FellDue.TheVariants as due
use Rattle.someip_audit.specs.Audits.{AuditState, Drains, IsNoneDue}
use Rattle.someip_audit.specs.BooksHeld.{Held}
use Rattle.someip_audit.specs.CycleSteps.{HasReason, asked_at, asked_steps, has_one_passed, last_before_expiry}
use Rattle.someip_audit.specs.FellDues.{IsDue, NonePassed, after_due}
use Rattle.someip_audit.proofs.SilenceLemmas.{none_expired, where_none_expired}

-- ---- the last moment before a subscription expires

not_true : (b : Bool) → not b ≡ true → b ≡ false
not_true true is = absurd (cc)
not_true false is = refl

not_false : (b : Bool) → not b ≡ false → b ≡ true
not_false true is = refl
not_false false is = absurd (cc)

none_passed_by : (at : ℕ) (standing : Subscriptions) → has_one_passed at standing ≡ false → NonePassed at standing
none_passed_by at standing is =
    where_none_expired at standing (finite.empty_of_len (expired at standing) (eqb-true (finite.len (expired at standing)) 0 (not_false (finite.len (expired at standing) == 0) is)))

no_one_passed : (at : ℕ) (standing : Subscriptions) → NonePassed at standing → has_one_passed at standing ≡ false
no_one_passed at standing none =
    let empty : finite.len (expired at standing) ≡ 0 = ap (λ m. finite.len m) (none_expired at standing none) ∙ finite.len-empty subscription_cmp (Lasting SocketAddrV4) in
    ap not (eq-eqb (finite.len (expired at standing)) 0 empty)

-- what has not passed by a moment has not before
pub none_before : (at later : ℕ) (standing : Subscriptions) → at ≤ later → NonePassed later standing → NonePassed at standing
none_before at later standing le none key lasting has =
    not_true (has_passed at lasting.until) (passed_later at later lasting.until le (ap not (none key lasting has)))

contradicts : (b : Bool) → b ≡ true → b ≡ false → ⊥
contradicts b is not_so = cc

pub last_is : (now : ℕ) (standing : Subscriptions) (at : ℕ) → at ≤ now → NonePassed at standing → (last : ℕ) × (last_before_expiry now standing ≡ Some last) × (at ≤ last)
unfolding last_before_expiry
last_is zero standing at le none = cases (has_one_passed 0 standing) refl
  where
    cases : (b : Bool) → has_one_passed 0 standing ≡ b → (last : ℕ) × (cond b None (Some 0) ≡ Some last) × (at ≤ last)
    cases false is = (0, refl, le)
    cases true is = absurd (contradicts (has_one_passed 0 standing) is (no_one_passed 0 standing (none_before 0 at standing (omega arith) none)))
last_is (suc now) standing at le none = cases (λ (h : at ≤ now). last_is now standing at h none) (has_one_passed (suc now) standing) refl
  where
    not_then : has_one_passed (suc now) standing ≡ true → (t : Bool) → nat_le (suc now) at ≡ t → t ≡ false
    not_then is false later = refl
    not_then is true later =
        let same : suc now ≤ at = grind (arith, nat_tests) in
        absurd (contradicts (has_one_passed (suc now) standing) is (no_one_passed (suc now) standing (none_before (suc now) at standing same none)))

    cases : (at ≤ now → (last : ℕ) × (last_before_expiry now standing ≡ Some last) × (at ≤ last)) → (b : Bool) → has_one_passed (suc now) standing ≡ b
        → (last : ℕ) × (cond b (last_before_expiry now standing) (Some (suc now)) ≡ Some last) × (at ≤ last)
    cases rest false is = (suc now, refl, le)
    cases rest true is =
        let later : nat_le (suc now) at ≡ false = not_then is (nat_le (suc now) at) refl in
        let before : at ≤ now = grind (arith, nat_tests) in
        rest before

pub last_so : (now : ℕ) (standing : Subscriptions) (last : ℕ) → last_before_expiry now standing ≡ Some last → (last ≤ now) × NonePassed last standing
unfolding last_before_expiry
last_so zero standing last e = cases (has_one_passed 0 standing) refl e
  where
    cases : (b : Bool) → has_one_passed 0 standing ≡ b → cond b None (Some 0) ≡ Some last → (last ≤ 0) × NonePassed last standing
    cases true is so = absurd (cc)
    cases false is so = let same : 0 ≡ last = cc in (omega arith, none_before last 0 standing (omega arith) (none_passed_by 0 standing is))
last_so (suc now) standing last e = cases (last_so now standing last) (has_one_passed (suc now) standing) refl e
  where
    cases : (last_before_expiry now standing ≡ Some last → (last ≤ now) × NonePassed last standing) → (b : Bool) → has_one_passed (suc now) standing ≡ b
        → cond b (last_before_expiry now standing) (Some (suc now)) ≡ Some last → (last ≤ suc now) × NonePassed last standing
    cases rest true is so = let one = rest so in (omega (arith, one.0), one.1)
    cases rest false is so =
        let same : suc now ≡ last = cc in
        let le : last ≤ suc now = omega arith in
        (le, none_before last (suc now) standing le (none_passed_by (suc now) standing is))

-- ---- what the book watches then

module _ (now : ℕ) where
  nothing_left : (state : AuditState) → IsNoneDue now state → (last : Option ℕ) → last_before_expiry now state.receivers.standing ≡ last → state.cycles ≡ after_steps (asked_at last) state.cycles
  nothing_left state none None is = refl
  nothing_left state none (Some last) is = nothing_silent last state.cycles (λ flow watch has. cases flow watch has (is_silent_by last watch) refl)
    where
      cases : (flow : EventFlow) (watch : Watch) → finite.get state.cycles.watched flow ≡ Some watch → (b : Bool) → is_silent_by last watch ≡ b → b ≡ false
      cases flow watch has false later = refl
      cases flow watch has true come =
          let so = last_so now state.receivers.standing last is in
          let le : watch.until ≤ last = grind (arith, nat_tests) in
          absurd
          (none (due.Silent (record { at = watch.until; flow = flow; silent_ms = watch.silent_ms; numbers = watch.numbers }))
          ((has, none_before watch.until last state.receivers.standing le so.1), omega (arith, le, so.0)))

  one_told : (state : AuditState) (told : SilentEvent) → IsDue now state (due.Silent told) → (last : Option ℕ) → last_before_expiry now state.receivers.standing ≡ last
      → after_steps (asked_at last) (after_silent (Some told) state.cycles) ≡ after_steps (asked_at last) state.cycles
  one_told state told is None at = let one = last_is now state.receivers.standing told.at is.1 is.0.1 in absurd (none_is_some one.0 (sym at ∙ one.1))
    where
      none_is_some : (n : ℕ) → None ≡ Some n → ⊥
      none_is_some n e = cc
  one_told state told is (Some last) at =
      let one = last_is now state.receivers.standing told.at is.1 is.0.1 in
      let same : one.0 ≡ last = inside one.0 last (sym one.1 ∙ at) in
      once_told last state.cycles told is.0.0 (omega (arith, one.2, same))
    where
      inside : (a b : ℕ) → Some a ≡ Some b → a ≡ b
      inside a b e = cc

  pub asked_is : (told : List FellDue) (state after : AuditState) → Drains now state told after → after.cycles ≡ after_steps (asked_steps now state) state.cycles
  asked_is [] state after drains = ap (λ (h : Held). h.cycles) drains.1 ∙ nothing_left state drains.0 (last_before_expiry now state.receivers.standing) refl
  asked_is (due.Unanswered one ∷ told) state after drains = asked_is told (after_due now (Some (due.Unanswered one)) state) after drains.1
  asked_is (due.Missing one ∷ told) state after drains = asked_is told (after_due now (Some (due.Missing one)) state) after drains.1
  asked_is (due.Expired one ∷ told) state after drains = asked_is told (after_due now (Some (due.Expired one)) state) after drains.1
  asked_is (due.SubscribeUnanswered one ∷ told) state after drains = asked_is told (after_due now (Some (due.SubscribeUnanswered one)) state) after drains.1
  asked_is (due.EventLost one ∷ told) state after drains = asked_is told (after_due now (Some (due.EventLost one)) state) after drains.1
  asked_is (due.Silent one ∷ told) state after drains =
      asked_is told (after_due now (Some (due.Silent one)) state) after drains.1 ∙ one_told state one drains.0.due (last_before_expiry now state.receivers.standing) refl

-- ---- why each was silent

-- what is told as silent was watched
WasWatched : Cycles → FellDue → Type 0
WasWatched book (due.Silent told) = finite.get book.watched told.flow ≡ Some (its_watch told)
WasWatched book _ = Unit {0}

weaker : (P Q : FellDue → Type 0) (told : List FellDue) → ((one : FellDue) → P one → Q one) → All P told → All Q told
weaker P Q told so all k one lt = so _ (all k one lt)

before : (told : SilentEvent) (book : Cycles) (one : FellDue) → WasWatched (after_silent (Some told) book) one → WasWatched book one
unfolding WasWatched
before told book (due.Silent one) was =
    none_was (finite.get book.watched one.flow) (its_watch one) (eq_by_cmp flow_cmp one.flow told.flow) (sym (finite.get-remove flows_total book.watched told.flow one.flow) ∙ was)
before told book _ was = tt

all_watched : (now : ℕ) (told : List FellDue) (state after : AuditState) → Drains now state told after → All (WasWatched state.cycles) told
unfolding WasWatched
all_watched now [] state after drains = All-nil (WasWatched state.cycles)
all_watched now (due.Unanswered one ∷ told) state after drains =
    All-cons (WasWatched state.cycles) (due.Unanswered one) told tt (all_watched now told (after_due now (Some (due.Unanswered one)) state) after drains.1)
all_watched now (due.Missing one ∷ told) state after drains =
    All-cons (WasWatched state.cycles) (due.Missing one) told tt (all_watched now told (after_due now (Some (due.Missing one)) state) after drains.1)
all_watched now (due.Expired one ∷ told) state after drains =
    All-cons (WasWatched state.cycles) (due.Expired one) told tt (all_watched now told (after_due now (Some (due.Expired one)) state) after drains.1)
all_watched now (due.SubscribeUnanswered one ∷ told) state after drains =
    All-cons (WasWatched state.cycles) (due.SubscribeUnanswered one) told tt (all_watched now told (after_due now (Some (due.SubscribeUnanswered one)) state) after drains.1)
all_watched now (due.EventLost one ∷ told) state after drains =
    All-cons (WasWatched state.cycles) (due.EventLost one) told tt (all_watched now told (after_due now (Some (due.EventLost one)) state) after drains.1)
all_watched now (due.Silent one ∷ told) state after drains =
    All-cons (WasWatched state.cycles) (due.Silent one) told drains.0.due.0.0
    (weaker (WasWatched (after_silent (Some one) state.cycles)) (WasWatched state.cycles) told (before one state.cycles) (all_watched now told (after_due now (Some (due.Silent one)) state) after drains.1))

pub all_reasoned : (limit : ℕ) (steps : List Step) (now : ℕ) (told : List FellDue) (state after : AuditState) → state.cycles ≡ book_of limit steps → state.cycles.told_full ≡ false
    → Drains now state told after → All (HasReason steps) told
unfolding WasWatched
all_reasoned limit steps now told state after is fits drains = weaker (WasWatched state.cycles) (HasReason steps) told so (all_watched now told state after drains)
  where
    so : (one : FellDue) → WasWatched state.cycles one → HasReason steps one
    so (due.Silent one) was =
        silence limit steps one (sym (ap (λ (b : Cycles). b.told_full) is) ∙ fits) (sym (ap (λ (b : Cycles). finite.get b.watched one.flow) is) ∙ was)
    so _ was = tt
