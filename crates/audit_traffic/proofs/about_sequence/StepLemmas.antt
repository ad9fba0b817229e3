-- What one step makes of the sessions that are missing.
use Rattle.std.proofs.Common.{◌≡◌, ℕ, zero, suc, Bool, true, false, cond, if◌then◌else◌, ◌||◌, Option, None, Some, is_some, refl, ap, ◌∙◌}
use Rattle.std.specs.Ordering.{eq_by_cmp}
use Rattle.std.specs.FinMap as finite
use Rattle.someip_tables.proofs.Entries.{same_by_test}
use Rattle.someip_tables.specs.declared.hashed.origin.Numbers.{Numbers}
use Rattle.audit_traffic.specs.declared.events.finding.Finding.{Finding as EventShown}
use Rattle.audit_traffic.specs.declared.events.finding.Finding.TheVariants as shown
use Rattle.audit_traffic.specs.declared.events.flow.EventFlow.{EventFlow}
use Rattle.audit_traffic.specs.declared.events.notification.Notification.{Notification}
use Rattle.audit_traffic.specs.declared.gaps.awaited.Awaited.{Awaited}
use Rattle.audit_traffic.specs.declared.gaps.gap.Gap.{Gap}
use Rattle.audit_traffic.specs.declared.gaps.key.MissingEvent.{MissingEvent}
use Rattle.audit_traffic.specs.gaps.GapRules.{awaited_from, missing_count, session_after}
use Rattle.audit_traffic.specs.gaps.GapTables.{Gaps, Waiting, after_gap, has_room, is_wide, once_skipped, or_waits, run_of_gap, with_missing}
use Rattle.audit_traffic.specs.gaps.MissingKeys.{missing_cmp, missing_of}
use Rattle.audit_traffic.specs.gaps.MissingOrder.{exact_missing, missing_total}
use Rattle.audit_traffic.specs.sequence.Sequences.{gap_of, gaps_after, gaps_without}
use Rattle.audit_traffic.specs.sequence.SequenceHistories.{after_gap_shown, after_shown, is_among, is_of_gap, or_awaited, unless_it_came}

-- ---- a gap

get-or : (k : MissingEvent) (awaited : Awaited) (waiting : Waiting) (key : MissingEvent)
    → finite.get (or_waits k awaited waiting) key ≡ (if eq_by_cmp missing_cmp key k then or_awaited (finite.get waiting key) awaited else finite.get waiting key)
get-or k awaited waiting key = cases (finite.get waiting k) refl
  where
    goes_on : (earlier : Awaited) (t : Bool) → finite.get waiting k ≡ Some earlier → eq_by_cmp missing_cmp key k ≡ t
        → finite.get waiting key ≡ cond t (or_awaited (finite.get waiting key) awaited) (finite.get waiting key)
    goes_on earlier true is tie =
        let here : finite.get waiting key ≡ Some earlier = ap (finite.get waiting) (same_by_test exact_missing key k tie) ∙ is in
        rw here refl
    goes_on earlier false is tie = refl

    new : (t : Bool) → finite.get waiting k ≡ None → eq_by_cmp missing_cmp key k ≡ t
        → cond t (Some awaited) (finite.get waiting key) ≡ cond t (or_awaited (finite.get waiting key) awaited) (finite.get waiting key)
    new true is tie =
        let here : finite.get waiting key ≡ None = ap (finite.get waiting) (same_by_test exact_missing key k tie) ∙ is in
        rw here refl
    new false is tie = refl

    cases : (v : Option Awaited) → finite.get waiting k ≡ v
        → finite.get (cond (is_some v) waiting (finite.insert waiting k awaited)) key
        ≡ cond (eq_by_cmp missing_cmp key k) (or_awaited (finite.get waiting key) awaited) (finite.get waiting key)
    cases (Some earlier) is = goes_on earlier (eq_by_cmp missing_cmp key k) is refl
    cases None is = finite.get-insert missing_total waiting k awaited key ∙ new (eq_by_cmp missing_cmp key k) is refl

get-among : (flow : EventFlow) (first : ℕ) (awaited : Awaited) (n : ℕ) (waiting : Waiting) (key : MissingEvent)
    → finite.get (with_missing flow first awaited n waiting) key ≡ (if is_among flow first n key then or_awaited (finite.get waiting key) awaited else finite.get waiting key)
get-among flow first awaited zero waiting key = refl
get-among flow first awaited (suc n) waiting key =
    get-or (missing_of flow (session_after first n)) awaited (with_missing flow first awaited n waiting) key
    ∙ ap (λ v. cond (eq_by_cmp missing_cmp key (missing_of flow (session_after first n))) (or_awaited v awaited) v) (get-among flow first awaited n waiting key)
    ∙ either (eq_by_cmp missing_cmp key (missing_of flow (session_after first n))) (is_among flow first n key) (finite.get waiting key)
  where
    either : (t m : Bool) (v : Option Awaited) → cond t (or_awaited (cond m (or_awaited v awaited) v) awaited) (cond m (or_awaited v awaited) v) ≡ cond (t || m) (or_awaited v awaited) v
    either true true None = refl
    either true true (Some earlier) = refl
    either true false v = refl
    either false m v = refl

get-skipped : (gap : Gap) (awaited : Awaited) (waiting : Waiting) (key : MissingEvent)
    → finite.get (once_skipped gap awaited waiting) key ≡ (if is_of_gap gap key then or_awaited (finite.get waiting key) awaited else finite.get waiting key)
get-skipped gap awaited waiting key = cases (is_wide gap)
  where
    cases : (w : Bool)
        → finite.get (cond w (or_waits (run_of_gap gap) awaited waiting) (with_missing gap.flow gap.first awaited (missing_count gap) waiting)) key
        ≡ cond (cond w (eq_by_cmp missing_cmp key (run_of_gap gap)) (is_among gap.flow gap.first (missing_count gap) key)) (or_awaited (finite.get waiting key) awaited) (finite.get waiting key)
    cases true = get-or (run_of_gap gap) awaited waiting key
    cases false = get-among gap.flow gap.first awaited (missing_count gap) waiting key

get-gap : (now : ℕ) (gap : Gap) (gaps : Gaps) (key : MissingEvent) → (after_gap now gap gaps).told_full ≡ false
    → finite.get (after_gap now gap gaps).waiting key ≡ after_gap_shown now gaps.overtake_ms gap key (finite.get gaps.waiting key)
get-gap now gap gaps key fits = cases (has_room gap gaps) fits
  where
    cases : (r : Bool) → (if r then record gaps { waiting = once_skipped gap (awaited_from now gaps.overtake_ms gap) gaps.waiting } else record gaps { told_full = true }).told_full ≡ false
        → finite.get (if r then record gaps { waiting = once_skipped gap (awaited_from now gaps.overtake_ms gap) gaps.waiting } else record gaps { told_full = true }).waiting key
        ≡ (if is_of_gap gap key then or_awaited (finite.get gaps.waiting key) (awaited_from now gaps.overtake_ms gap) else finite.get gaps.waiting key)
    cases true still = get-skipped gap (awaited_from now gaps.overtake_ms gap) gaps.waiting key
    cases false still = absurd (cc)

gap_full : (now : ℕ) (gap : Gap) (gaps : Gaps) → gaps.told_full ≡ true → (after_gap now gap gaps).told_full ≡ true
gap_full now gap gaps is = cases (has_room gap gaps)
  where
    cases : (r : Bool) → (if r then record gaps { waiting = once_skipped gap (awaited_from now gaps.overtake_ms gap) gaps.waiting } else record gaps { told_full = true }).told_full ≡ true
    cases true = is
    cases false = refl

gap_time : (now : ℕ) (gap : Gap) (gaps : Gaps) → (after_gap now gap gaps).overtake_ms ≡ gaps.overtake_ms
gap_time now gap gaps = cases (has_room gap gaps)
  where
    cases : (r : Bool) → (if r then record gaps { waiting = once_skipped gap (awaited_from now gaps.overtake_ms gap) gaps.waiting } else record gaps { told_full = true }).overtake_ms ≡ gaps.overtake_ms
    cases true = refl
    cases false = refl

-- ---- an event as it is counted

module _ (now : ℕ) (numbers : Numbers) (named : EventFlow) (event : Notification) where
  get-without : (gaps : Gaps) (key : MissingEvent) → finite.get (gaps_without event gaps).waiting key ≡ unless_it_came event key (finite.get gaps.waiting key)
  get-without gaps key = finite.get-remove missing_total gaps.waiting (missing_of event.flow event.session) key

  pub get-after : (told : Option EventShown) (gaps : Gaps) (key : MissingEvent) → (gaps_after now numbers named event told gaps).told_full ≡ false
      → finite.get (gaps_after now numbers named event told gaps).waiting key
      ≡ after_shown now gaps.overtake_ms numbers event.flow named told key (unless_it_came event key (finite.get gaps.waiting key))
  get-after None gaps key fits = get-without gaps key
  get-after (Some shown.Repeated) gaps key fits = get-without gaps key
  get-after (Some shown.Behind) gaps key fits = get-without gaps key
  get-after (Some shown.Full) gaps key fits = get-without gaps key
  get-after (Some (shown.Gap session expected)) gaps key fits =
      get-gap now (gap_of event.flow named numbers expected session) (gaps_without event gaps) key fits
      ∙ ap (after_gap_shown now gaps.overtake_ms (gap_of event.flow named numbers expected session) key) (get-without gaps key)

  pub after_full : (told : Option EventShown) (gaps : Gaps) → gaps.told_full ≡ true → (gaps_after now numbers named event told gaps).told_full ≡ true
  after_full None gaps is = is
  after_full (Some shown.Repeated) gaps is = is
  after_full (Some shown.Behind) gaps is = is
  after_full (Some shown.Full) gaps is = is
  after_full (Some (shown.Gap session expected)) gaps is = gap_full now (gap_of event.flow named numbers expected session) (gaps_without event gaps) is

  pub after_time : (told : Option EventShown) (gaps : Gaps) → (gaps_after now numbers named event told gaps).overtake_ms ≡ gaps.overtake_ms
  after_time None gaps = refl
  after_time (Some shown.Repeated) gaps = refl
  after_time (Some shown.Behind) gaps = refl
  after_time (Some shown.Full) gaps = refl
  after_time (Some (shown.Gap session expected)) gaps = gap_time now (gap_of event.flow named numbers expected session) (gaps_without event gaps)
