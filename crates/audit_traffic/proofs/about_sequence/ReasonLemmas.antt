-- Why a session of an event is lost.
use Rattle.std.proofs.Common.{◌≡◌, ℕ, ◌+◌, ◌==◌, Bool, true, false, cond, if◌then◌else◌, not, ◌||◌, List, [], ◌∷◌, ◌++◌, Option, None, Some, refl, sym, ap, ◌∙◌}
use Rattle.std.specs.Ordering.{eq_by_cmp}
use Rattle.someip_tables.specs.Retained.{kept_if}
use Rattle.someip_tables.specs.declared.hashed.origin.Numbers.{Numbers}
use Rattle.audit_traffic.specs.declared.events.finding.Finding.{Finding as EventShown}
use Rattle.audit_traffic.specs.declared.events.finding.Finding.TheVariants as shown
use Rattle.audit_traffic.specs.declared.events.flow.EventFlow.{EventFlow}
use Rattle.audit_traffic.specs.declared.events.notification.Notification.{Notification}
use Rattle.audit_traffic.specs.declared.gaps.awaited.Awaited.{Awaited}
use Rattle.audit_traffic.specs.declared.gaps.gap.Gap.{Gap}
use Rattle.audit_traffic.specs.declared.gaps.key.MissingEvent.{MissingEvent}
use Rattle.audit_traffic.specs.declared.sequence.counting.Counting.{Counting}
use Rattle.audit_traffic.specs.events.EventHistories.{shown_after}
use Rattle.audit_traffic.specs.gaps.GapRules.{awaited_from, is_lost_by, unless_lost}
use Rattle.audit_traffic.specs.gaps.MissingKeys.{is_from, missing_cmp, missing_of}
use Rattle.audit_traffic.specs.sequence.CountedFlows.{counted, counted_event}
use Rattle.audit_traffic.specs.sequence.Sequences.{gap_of}
use Rattle.audit_traffic.specs.sequence.SequenceHistories.{BeganAgain, Came, Changed, Shown, Step, Withdrawn, after_gap_shown, after_shown, after_step, flows_shown, is_of_gap, missing_in, or_awaited, unless_it_came}
use Rattle.audit_traffic.specs.sequence.SequenceReasons.{IsMissing, NoneSince, Skips, leaves}

kept : (p : Awaited → Bool) (v : Option Awaited) (awaited : Awaited) → kept_if p v ≡ Some awaited → (v ≡ Some awaited) × (p awaited ≡ true)
kept p None awaited is = absurd (cc)
kept p (Some held) awaited is = cases (p held) refl is
  where
    cases : (b : Bool) → p held ≡ b → cond b (Some held) None ≡ Some awaited → (Some held ≡ Some awaited) × (p awaited ≡ true)
    cases true passes e = let same : held ≡ awaited = cc in (e, ap p (sym same) ∙ passes)
    cases false passes e = absurd (cc)

not_true : (b : Bool) → not b ≡ true → b ≡ false
not_true true is = absurd (cc)
not_true false is = refl

-- ---- one step

-- it is an event by which a session is missing
abbrev Made : Counting → ℕ → MissingEvent → Awaited → ℕ → Shown → List Step → Option Awaited → Type 0
Made counting ms key awaited at (Came numbers event) earlier before =
    ((event.session == 0) ≡ false) × Skips counting earlier numbers event key × (unless_it_came (counted_event counting event) key before ≡ None)
    × (record { shown_by = event.flow; numbers = numbers; until = at + ms } ≡ awaited)
Made counting ms key awaited at (Changed client server service) earlier before = ⊥
Made counting ms key awaited at (Withdrawn server service) earlier before = ⊥
Made counting ms key awaited at (BeganAgain address) earlier before = ⊥

data Change (counting : Counting) (ms : ℕ) (key : MissingEvent) (awaited : Awaited) (at : ℕ) (shown : Shown) (earlier : List Step) (before : Option Awaited) : Type 0 where
  left : before ≡ Some awaited → leaves counting key shown ≡ true → Change counting ms key awaited at shown earlier before
  made : Made counting ms key awaited at shown earlier before → Change counting ms key awaited at shown earlier before

module _ (counting : Counting) (ms : ℕ) (key : MissingEvent) (awaited : Awaited) (at : ℕ) (numbers : Numbers) (event : Notification) (earlier : List Step) (before : Option Awaited) (some : (event.session == 0) ≡ false) where
  Came_changes : Type 0
  Came_changes = Change counting ms key awaited at (Came numbers event) earlier before

  seen : Notification
  seen = counted_event counting event

  own : (t : Bool) → eq_by_cmp missing_cmp key (missing_of (counted counting event.flow) event.session) ≡ t → (if t then None else before) ≡ Some awaited → Change counting ms key awaited at (Came numbers event) earlier before
  own true tie e = absurd (cc)
  own false tie e = left e (rw (some, tie) refl)

  stays : unless_it_came (counted_event counting event) key before ≡ Some awaited → Change counting ms key awaited at (Came numbers event) earlier before
  stays e = own (eq_by_cmp missing_cmp key (missing_of (counted counting event.flow) event.session)) refl e

  gap_shown : (session expected : ℕ) → shown_after (flows_shown counting earlier) (counted_event counting event) ≡ Some (shown.Gap session expected)
      → (a : Bool) → is_of_gap (gap_of (counted counting event.flow) event.flow numbers expected session) key ≡ a
      → (v : Option Awaited) → unless_it_came (counted_event counting event) key before ≡ v
      → (if a then or_awaited v (awaited_from at ms (gap_of (counted counting event.flow) event.flow numbers expected session)) else v) ≡ Some awaited
      → Change counting ms key awaited at (Came numbers event) earlier before
  gap_shown session expected is false among v v_is e = stays (v_is ∙ e)
  gap_shown session expected is true among (Some held) v_is e = stays (v_is ∙ e)
  gap_shown session expected is true among None v_is e =
      let same : awaited_from at ms (gap_of (counted counting event.flow) event.flow numbers expected session) ≡ awaited = cc in
      made (some, (session, expected, is, among), v_is, same)

  by_shown : (told : Option EventShown) → shown_after (flows_shown counting earlier) (counted_event counting event) ≡ told
      → after_shown at ms numbers (counted counting event.flow) event.flow told key (unless_it_came (counted_event counting event) key before) ≡ Some awaited
      → Change counting ms key awaited at (Came numbers event) earlier before
  by_shown None is e = stays e
  by_shown (Some shown.Repeated) is e = stays e
  by_shown (Some shown.Behind) is e = stays e
  by_shown (Some shown.Full) is e = stays e
  by_shown (Some (shown.Gap session expected)) is e =
      gap_shown session expected is (is_of_gap (gap_of (counted counting event.flow) event.flow numbers expected session) key) refl
      (unless_it_came (counted_event counting event) key before) refl e

changed : (counting : Counting) (ms : ℕ) (key : MissingEvent) (awaited : Awaited) (at : ℕ) (one : Shown) (earlier : List Step) (before : Option Awaited)
    → after_step counting at ms one earlier key before ≡ Some awaited → Change counting ms key awaited at one earlier before
changed counting ms key awaited at (Changed client server service) earlier before is = left is refl
changed counting ms key awaited at (Withdrawn server service) earlier before is = left is refl
changed counting ms key awaited at (BeganAgain address) earlier before is = cases (is_from address key) refl is
  where
    cases : (b : Bool) → is_from address key ≡ b → (if b then None else before) ≡ Some awaited → Change counting ms key awaited at (BeganAgain address) earlier before
    cases true own e = absurd (cc)
    cases false own e = left e (ap not own)
changed counting ms key awaited at (Came numbers event) earlier before is = cases (event.session == 0) refl is
  where
    cases : (z : Bool) → (event.session == 0) ≡ z
        → (if z then before
        else after_shown at ms numbers (counted counting event.flow) event.flow (shown_after (flows_shown counting earlier) (counted_event counting event)) key
        (unless_it_came (counted_event counting event) key before)) ≡ Some awaited
        → Change counting ms key awaited at (Came numbers event) earlier before
    cases true none e = left e (rw none refl)
    cases false some e = by_shown counting ms key awaited at numbers event earlier before some (shown_after (flows_shown counting earlier) (counted_event counting event)) refl e

-- what leaves a session missing changes nothing
still : (at ms : ℕ) (numbers : Numbers) (flow named : EventFlow) (told : Option EventShown) (key : MissingEvent) (awaited : Awaited) → after_shown at ms numbers flow named told key (Some awaited) ≡ Some awaited
still at ms numbers flow named None key awaited = refl
still at ms numbers flow named (Some shown.Repeated) key awaited = refl
still at ms numbers flow named (Some shown.Behind) key awaited = refl
still at ms numbers flow named (Some shown.Full) key awaited = refl
still at ms numbers flow named (Some (shown.Gap session expected)) key awaited = cases (is_of_gap (gap_of flow named numbers expected session) key)
  where
    cases : (a : Bool) → (if a then Some awaited else Some awaited) ≡ Some awaited
    cases true = refl
    cases false = refl

unchanged : (counting : Counting) (ms : ℕ) (key : MissingEvent) (awaited : Awaited) (at : ℕ) (one : Shown) (earlier : List Step) → leaves counting key one ≡ true
    → after_step counting at ms one earlier key (Some awaited) ≡ Some awaited
unchanged counting ms key awaited at (Changed client server service) earlier is = refl
unchanged counting ms key awaited at (Withdrawn server service) earlier is = refl
unchanged counting ms key awaited at (BeganAgain address) earlier is = ap (λ b. if b then None else Some awaited) (not_true (is_from address key) is)
unchanged counting ms key awaited at (Came numbers event) earlier is = cases (event.session == 0) (eq_by_cmp missing_cmp key (missing_of (counted counting event.flow) event.session)) is
  where
    cases : (z t : Bool) → (z || not t) ≡ true
        → (if z then Some awaited
        else after_shown at ms numbers (counted counting event.flow) event.flow (shown_after (flows_shown counting earlier) (counted_event counting event)) key (if t then None else Some awaited)) ≡ Some awaited
    cases true t e = refl
    cases false true e = absurd (cc)
    cases false false e = still at ms numbers (counted counting event.flow) event.flow (shown_after (flows_shown counting earlier) (counted_event counting event)) key awaited

-- ---- all steps

further : (counting : Counting) (ms : ℕ) (key : MissingEvent) (awaited : Awaited) (step : Step) (earlier : List Step) → is_lost_by step.at awaited ≡ false → leaves counting key step.shown ≡ true
    → IsMissing counting ms key awaited earlier → IsMissing counting ms key awaited (step ∷ earlier)
further counting ms key awaited step earlier waits leaves_it one =
    (step ∷ one.0, one.1, one.2, one.3, one.4, ap (λ es. step ∷ es) one.5, one.6, one.7, one.8, one.9, (waits, leaves_it, one.10))

pub missing_is : (counting : Counting) (ms : ℕ) (key : MissingEvent) (awaited : Awaited) (steps : List Step) → missing_in counting ms steps key ≡ Some awaited → IsMissing counting ms key awaited steps
missing_is counting ms key awaited [] is = absurd (cc)
missing_is counting ms key awaited (step ∷ earlier) is =
    by (changed counting ms key awaited step.at step.shown earlier (unless_lost step.at (missing_in counting ms earlier key)) is) (missing_is counting ms key awaited earlier)
  where
    begun : (one : Shown) → step.shown ≡ one → Made counting ms key awaited step.at one earlier (unless_lost step.at (missing_in counting ms earlier key)) → IsMissing counting ms key awaited (step ∷ earlier)
    begun (Changed client server service) same it = absurd it
    begun (Withdrawn server service) same it = absurd it
    begun (BeganAgain address) same it = absurd it
    begun (Came numbers event) same it =
        ([], step.at, numbers, event, earlier, ap (λ (s : Shown). record { at = step.at; shown = s } ∷ earlier) same, it.0, it.1, it.2, it.3, tt)

    by : Change counting ms key awaited step.at step.shown earlier (unless_lost step.at (missing_in counting ms earlier key))
        → (missing_in counting ms earlier key ≡ Some awaited → IsMissing counting ms key awaited earlier) → IsMissing counting ms key awaited (step ∷ earlier)
    by (left before leaves_it) rest =
        let stays = kept (λ a. not (is_lost_by step.at a)) (missing_in counting ms earlier key) awaited before in
        further counting ms key awaited step earlier (not_true (is_lost_by step.at awaited) stays.1) leaves_it (rest stays.0)
    by (made it) rest = begun step.shown refl it

waits_on : (counting : Counting) (ms : ℕ) (key : MissingEvent) (awaited : Awaited) (newer rest : List Step) → missing_in counting ms rest key ≡ Some awaited → NoneSince counting key awaited newer
    → missing_in counting ms (newer ++ rest) key ≡ Some awaited
waits_on counting ms key awaited [] rest is since = is
waits_on counting ms key awaited (step ∷ newer) rest is since =
    ap (λ v. after_step counting step.at ms step.shown (newer ++ rest) key (unless_lost step.at v)) (waits_on counting ms key awaited newer rest is since.2)
    ∙ rw since.0 (unchanged counting ms key awaited step.at step.shown (newer ++ rest) since.1)

pub is_missing : (counting : Counting) (ms : ℕ) (key : MissingEvent) (awaited : Awaited) (steps : List Step) → IsMissing counting ms key awaited steps → missing_in counting ms steps key ≡ Some awaited
is_missing counting ms key awaited steps one =
    ap (λ es. missing_in counting ms es key) one.5
    ∙ waits_on counting ms key awaited one.0 (record { at = one.1; shown = Came one.2 one.3 } ∷ one.4) (begins one.6 one.7.2 one.7.3 one.8 one.9) one.10
  where
    flow : EventFlow
    flow = counted counting one.3.flow

    gap : Gap
    gap = gap_of (counted counting one.3.flow) one.3.flow one.2 one.7.1 one.7.0

    begins : (one.3.session == 0) ≡ false → shown_after (flows_shown counting one.4) (counted_event counting one.3) ≡ Some (shown.Gap one.7.0 one.7.1)
        → is_of_gap gap key ≡ true
        → unless_it_came (counted_event counting one.3) key (unless_lost one.1 (missing_in counting ms one.4 key)) ≡ None
        → record { shown_by = one.3.flow; numbers = one.2; until = one.1 + ms } ≡ awaited
        → missing_in counting ms (record { at = one.1; shown = Came one.2 one.3 } ∷ one.4) key ≡ Some awaited
    begins some told among none made_it =
        ap (λ z. if z then unless_lost one.1 (missing_in counting ms one.4 key)
        else after_shown one.1 ms one.2 (counted counting one.3.flow) one.3.flow (shown_after (flows_shown counting one.4) (counted_event counting one.3)) key
        (unless_it_came (counted_event counting one.3) key (unless_lost one.1 (missing_in counting ms one.4 key)))) some
        ∙ ap (λ t. after_shown one.1 ms one.2 (counted counting one.3.flow) one.3.flow t key (unless_it_came (counted_event counting one.3) key (unless_lost one.1 (missing_in counting ms one.4 key)))) told
        ∙ ap (λ v. after_gap_shown one.1 ms gap key v) none
        ∙ rw among (ap (λ a. Some a) made_it)
