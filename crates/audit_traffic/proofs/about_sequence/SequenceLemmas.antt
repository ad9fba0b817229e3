-- What a book holds and tells of the steps so far.
use Rattle.std.proofs.Common.{◌≡◌, ℕ, ◌==◌, Bool, true, false, if◌then◌else◌, not, cond, List, [], ◌∷◌, Option, None, Some, is_some, refl, sym, ap, ◌∙◌}
use Rattle.std.specs.FinMap as finite
use Rattle.someip_tables.proofs.Entries.{get-retain}
use Rattle.someip_tables.specs.Retained.{kept_if}
use Rattle.someip_tables.specs.hashed.Rooms.{told_when_full}
use Rattle.someip_tables.specs.declared.hashed.origin.Numbers.{Numbers}
use Rattle.audit_traffic.specs.declared.events.finding.Finding.{Finding as EventShown}
use Rattle.audit_traffic.specs.declared.events.finding.Finding.TheVariants as shown
use Rattle.audit_traffic.specs.declared.events.notification.Notification.{Notification}
use Rattle.audit_traffic.specs.declared.gaps.awaited.Awaited.{Awaited}
use Rattle.audit_traffic.specs.declared.gaps.gap.Gap.{Gap}
use Rattle.audit_traffic.specs.declared.gaps.finding.Finding.TheVariants as gap
use Rattle.audit_traffic.specs.declared.gaps.key.MissingEvent.{MissingEvent}
use Rattle.audit_traffic.specs.declared.sequence.sequence_book.SequenceRules.{SequenceRules}
use Rattle.audit_traffic.specs.events.EventHistories as flows
use Rattle.audit_traffic.specs.events.EventHistories.{shown_after}
use Rattle.audit_traffic.specs.events.EventTables as events
use Rattle.audit_traffic.specs.events.EventTables.{Events}
use Rattle.audit_traffic.specs.gaps.GapRules.{awaited_from, is_lost_by, unless_lost}
use Rattle.audit_traffic.specs.gaps.GapTables.{Gaps, after_gap, has_room, once_skipped, told_of_gap}
use Rattle.audit_traffic.specs.gaps.MissingKeys.{is_from, missing_cmp, missing_of}
use Rattle.audit_traffic.specs.gaps.MissingOrder.{exact_missing, missing_total}
use Rattle.audit_traffic.specs.sequence.CountedFlows.{counted, counted_event, counted_service}
use Rattle.audit_traffic.specs.sequence.Sequences.{Sequence, gap_of, gaps_after, gaps_without, of_gap, told_by, told_of}
use Rattle.audit_traffic.specs.sequence.SequenceHistories.{BeganAgain, Came, Changed, Shown, Step, Withdrawn, after_shown, after_step, book_after, book_of, flows_shown, missing_in, of_flows, told_in, told_with, unless_it_came, without_lost}
use Rattle.audit_traffic.proofs.about_events.HistoryLemmas.{full_noted, not_before, told as told_of_flow}
use Rattle.audit_traffic.proofs.about_sequence.StepLemmas.{after_full, after_time, get-after}

-- ---- settings stay

counting_after : (now : ℕ) (shown : Shown) (book : Sequence) → (book_after now shown book).counting ≡ book.counting
counting_after now (Came numbers event) book = cases (event.session == 0)
  where
    cases : (z : Bool)
        → (if z then book else record book {
          events = events.after_event (counted_event book.counting event) book.events;
          gaps = gaps_after now numbers event.flow (counted_event book.counting event) (events.told_by (counted_event book.counting event) book.events) book.gaps;
        }).counting ≡ book.counting
    cases true = refl
    cases false = refl
counting_after now (Changed client server service) book = refl
counting_after now (Withdrawn server service) book = refl
counting_after now (BeganAgain address) book = refl

counting_is : (rules : SequenceRules) (steps : List Step) → (book_of rules steps).counting ≡ rules.counting
counting_is rules [] = refl
counting_is rules (step ∷ earlier) = counting_after step.at step.shown (without_lost step.at (book_of rules earlier)) ∙ counting_is rules earlier

time_after : (now : ℕ) (shown : Shown) (book : Sequence) → (book_after now shown book).gaps.overtake_ms ≡ book.gaps.overtake_ms
time_after now (Came numbers event) book = cases (event.session == 0)
  where
    cases : (z : Bool)
        → (if z then book else record book {
          events = events.after_event (counted_event book.counting event) book.events;
          gaps = gaps_after now numbers event.flow (counted_event book.counting event) (events.told_by (counted_event book.counting event) book.events) book.gaps;
        }).gaps.overtake_ms ≡ book.gaps.overtake_ms
    cases true = refl
    cases false = after_time now numbers event.flow (counted_event book.counting event) (events.told_by (counted_event book.counting event) book.events) book.gaps
time_after now (Changed client server service) book = refl
time_after now (Withdrawn server service) book = refl
time_after now (BeganAgain address) book = refl

time_is : (rules : SequenceRules) (steps : List Step) → (book_of rules steps).gaps.overtake_ms ≡ rules.overtake_ms
time_is rules [] = refl
time_is rules (step ∷ earlier) = time_after step.at step.shown (without_lost step.at (book_of rules earlier)) ∙ time_is rules earlier

-- ---- the flows are those of the events as they are counted

events_is : (rules : SequenceRules) (steps : List Step) → (book_of rules steps).events ≡ flows.book_of rules.limit (flows_shown rules.counting steps)
events_is rules [] = refl
events_is rules (step ∷ earlier) = by (events_is rules earlier) step.shown
  where
    book : Sequence
    book = without_lost step.at (book_of rules earlier)

    came : (numbers : Numbers) (event : Notification) (z : Bool) → (event.session == 0) ≡ z
        → (if z then book else record book {
          events = events.after_event (counted_event book.counting event) book.events;
          gaps = gaps_after step.at numbers event.flow (counted_event book.counting event) (events.told_by (counted_event book.counting event) book.events) book.gaps;
        }).events ≡ events.after_event (counted_event book.counting event) book.events
    came numbers event true is = rw is refl
    came numbers event false is = refl

    by : (book_of rules earlier).events ≡ flows.book_of rules.limit (flows_shown rules.counting earlier) → (one : Shown) → (book_after step.at one book).events ≡ flows.book_after (of_flows rules.counting one) (flows.book_of rules.limit (flows_shown rules.counting earlier))
    by before (Came numbers event) =
        came numbers event (event.session == 0) refl
        ∙ ap (λ c. events.after_event (counted_event c event) (book_of rules earlier).events) (counting_is rules earlier)
        ∙ ap (events.after_event (counted_event rules.counting event)) before
    by before (Changed client server service) =
        ap (λ c. events.after_change client server (counted_service c service) (book_of rules earlier).events) (counting_is rules earlier)
        ∙ ap (events.after_change client server (counted_service rules.counting service)) before
    by before (Withdrawn server service) =
        ap (λ c. events.after_withdrawal server (counted_service c service) (book_of rules earlier).events) (counting_is rules earlier)
        ∙ ap (events.after_withdrawal server (counted_service rules.counting service)) before
    by before (BeganAgain address) = ap (events.without address) before

-- ---- whether a book is full

gaps_full : (now : ℕ) (shown : Shown) (book : Sequence) → book.gaps.told_full ≡ true → (book_after now shown book).gaps.told_full ≡ true
gaps_full now (Came numbers event) book is = cases (event.session == 0)
  where
    cases : (z : Bool)
        → (if z then book else record book {
          events = events.after_event (counted_event book.counting event) book.events;
          gaps = gaps_after now numbers event.flow (counted_event book.counting event) (events.told_by (counted_event book.counting event) book.events) book.gaps;
        }).gaps.told_full ≡ true
    cases true = is
    cases false = after_full now numbers event.flow (counted_event book.counting event) (events.told_by (counted_event book.counting event) book.events) book.gaps is
gaps_full now (Changed client server service) book is = is
gaps_full now (Withdrawn server service) book is = is
gaps_full now (BeganAgain address) book is = is

gaps_not_before : (now : ℕ) (shown : Shown) (book : Sequence) → (book_after now shown book).gaps.told_full ≡ false → book.gaps.told_full ≡ false
gaps_not_before now shown book fits = cases book.gaps.told_full refl
  where
    cases : (b : Bool) → book.gaps.told_full ≡ b → b ≡ false
    cases false is = refl
    cases true is = let so : (book_after now shown book).gaps.told_full ≡ true = gaps_full now shown book is in absurd (cc)

-- the flows fit after one step more
flows_fit : (rules : SequenceRules) (step : Step) (earlier : List Step) → (book_of rules (step ∷ earlier)).events.told_full ≡ false
    → (flows.book_of rules.limit (of_flows rules.counting step.shown ∷ flows_shown rules.counting earlier)).told_full ≡ false
flows_fit rules step earlier fits = sym (ap (λ (b : Events). b.told_full) (events_is rules (step ∷ earlier))) ∙ fits

flows_fit_before : (rules : SequenceRules) (step : Step) (earlier : List Step) → (book_of rules (step ∷ earlier)).events.told_full ≡ false → (book_of rules earlier).events.told_full ≡ false
flows_fit_before rules step earlier fits =
    ap (λ (b : Events). b.told_full) (events_is rules earlier)
    ∙ not_before (of_flows rules.counting step.shown) (flows.book_of rules.limit (flows_shown rules.counting earlier)) (flows_fit rules step earlier fits)

-- what an event shows of its flow
shows_is : (rules : SequenceRules) (earlier : List Step) (event : Notification)
    → (flows.book_of rules.limit (flows.Came (counted_event rules.counting event) ∷ flows_shown rules.counting earlier)).told_full ≡ false
    → events.told_by (counted_event (book_of rules earlier).counting event) (book_of rules earlier).events ≡ shown_after (flows_shown rules.counting earlier) (counted_event rules.counting event)
shows_is rules earlier event fits =
    ap (λ c. events.told_by (counted_event c event) (book_of rules earlier).events) (counting_is rules earlier)
    ∙ ap (events.told_by (counted_event rules.counting event)) (events_is rules earlier)
    ∙ told_of_flow rules.limit (flows_shown rules.counting earlier) (counted_event rules.counting event) fits

-- ---- the sessions that are missing

-- before the next step those that are lost were told
left : (now : ℕ) (book : Sequence) (key : MissingEvent) → finite.get (without_lost now book).gaps.waiting key ≡ unless_lost now (finite.get book.gaps.waiting key)
left now book key = get-retain missing_total exact_missing book.gaps.waiting (λ _ awaited. not (is_lost_by now awaited)) key

pub missing : (rules : SequenceRules) (steps : List Step) (key : MissingEvent) → (book_of rules steps).events.told_full ≡ false → (book_of rules steps).gaps.told_full ≡ false
    → finite.get (book_of rules steps).gaps.waiting key ≡ missing_in rules.counting rules.overtake_ms steps key
missing rules [] key e g = finite.get-empty missing_cmp key
missing rules (step ∷ earlier) key e g =
    by
    (left step.at (book_of rules earlier) key
    ∙ ap (unless_lost step.at) (missing rules earlier key (flows_fit_before rules step earlier e) (gaps_not_before step.at step.shown (without_lost step.at (book_of rules earlier)) g)))
    step.shown (flows_fit rules step earlier e) g
  where
    book : Sequence
    book = without_lost step.at (book_of rules earlier)

    came : finite.get book.gaps.waiting key ≡ unless_lost step.at (missing_in rules.counting rules.overtake_ms earlier key) → (numbers : Numbers) (event : Notification) (z : Bool)
        → (flows.book_of rules.limit (flows.Came (counted_event rules.counting event) ∷ flows_shown rules.counting earlier)).told_full ≡ false
        → (if z then book else record book {
          events = events.after_event (counted_event book.counting event) book.events;
          gaps = gaps_after step.at numbers event.flow (counted_event book.counting event) (events.told_by (counted_event book.counting event) book.events) book.gaps;
        }).gaps.told_full ≡ false
        → finite.get (if z then book else record book {
          events = events.after_event (counted_event book.counting event) book.events;
          gaps = gaps_after step.at numbers event.flow (counted_event book.counting event) (events.told_by (counted_event book.counting event) book.events) book.gaps;
        }).gaps.waiting key
        ≡ (if z then unless_lost step.at (missing_in rules.counting rules.overtake_ms earlier key)
        else after_shown step.at rules.overtake_ms numbers (counted rules.counting event.flow) event.flow (shown_after (flows_shown rules.counting earlier) (counted_event rules.counting event)) key
        (unless_it_came (counted_event rules.counting event) key (unless_lost step.at (missing_in rules.counting rules.overtake_ms earlier key))))
    came before numbers event true fits full = before
    came before numbers event false fits full =
        get-after step.at numbers event.flow (counted_event book.counting event) (events.told_by (counted_event book.counting event) book.events) book.gaps key full
        ∙ ap (λ ms. after_shown step.at ms numbers (counted book.counting event.flow) event.flow (events.told_by (counted_event book.counting event) book.events) key (unless_it_came (counted_event book.counting event) key (finite.get book.gaps.waiting key)))
        (time_is rules earlier)
        ∙ ap (λ v. after_shown step.at rules.overtake_ms numbers (counted book.counting event.flow) event.flow (events.told_by (counted_event book.counting event) book.events) key (unless_it_came (counted_event book.counting event) key v)) before
        ∙ ap (λ t. after_shown step.at rules.overtake_ms numbers (counted book.counting event.flow) event.flow t key
        (unless_it_came (counted_event book.counting event) key (unless_lost step.at (missing_in rules.counting rules.overtake_ms earlier key)))) (shows_is rules earlier event fits)
        ∙ ap (λ c. after_shown step.at rules.overtake_ms numbers (counted c event.flow) event.flow (shown_after (flows_shown rules.counting earlier) (counted_event rules.counting event)) key
        (unless_it_came (counted_event c event) key (unless_lost step.at (missing_in rules.counting rules.overtake_ms earlier key)))) (counting_is rules earlier)

    gone : (b : Bool) (v : Option Awaited) → kept_if (λ _. not b) v ≡ (if b then None else v)
    gone true None = refl
    gone true (Some awaited) = refl
    gone false None = refl
    gone false (Some awaited) = refl

    by : finite.get book.gaps.waiting key ≡ unless_lost step.at (missing_in rules.counting rules.overtake_ms earlier key) → (one : Shown)
        → (flows.book_of rules.limit (of_flows rules.counting one ∷ flows_shown rules.counting earlier)).told_full ≡ false → (book_after step.at one book).gaps.told_full ≡ false
        → finite.get (book_after step.at one book).gaps.waiting key
        ≡ after_step rules.counting step.at rules.overtake_ms one earlier key (unless_lost step.at (missing_in rules.counting rules.overtake_ms earlier key))
    by before (Came numbers event) fits full = came before numbers event (event.session == 0) fits full
    by before (Changed client server service) fits full = before
    by before (Withdrawn server service) fits full = before
    by before (BeganAgain address) fits full =
        get-retain missing_total exact_missing book.gaps.waiting (λ k _. not (is_from address k)) key
        ∙ ap (kept_if (λ _. not (is_from address key))) before
        ∙ gone (is_from address key) (unless_lost step.at (missing_in rules.counting rules.overtake_ms earlier key))

missing_by : (rules : SequenceRules) (now : ℕ) (earlier : List Step) (key : MissingEvent) → (book_of rules earlier).events.told_full ≡ false → (book_of rules earlier).gaps.told_full ≡ false
    → finite.get (without_lost now (book_of rules earlier)).gaps.waiting key ≡ unless_lost now (missing_in rules.counting rules.overtake_ms earlier key)
missing_by rules now earlier key e g = left now (book_of rules earlier) key ∙ ap (unless_lost now) (missing rules earlier key e g)

-- ---- what an event shows

-- what a gap shows where it fits
gap_shows : (now : ℕ) (skipped : Gap) (gaps : Gaps) → (after_gap now skipped gaps).told_full ≡ false → of_gap (told_of_gap skipped gaps) ≡ None
gap_shows now skipped gaps fits = cases (has_room skipped gaps) gaps.told_full fits
  where
    cases : (r f : Bool) → (if r then record gaps { waiting = once_skipped skipped (awaited_from now gaps.overtake_ms skipped) gaps.waiting } else record gaps { told_full = true }).told_full ≡ false
        → of_gap (if r then None else told_when_full gap.Full f) ≡ None
    cases true f still = refl
    cases false f still = absurd (cc)

pub told : (rules : SequenceRules) (steps : List Step) (now : ℕ) (numbers : Numbers) (event : Notification)
    → (book_of rules (record { at = now; shown = Came numbers event } ∷ steps)).events.told_full ≡ false → (book_of rules (record { at = now; shown = Came numbers event } ∷ steps)).gaps.told_full ≡ false
    → told_by numbers event (without_lost now (book_of rules steps)) ≡ told_in rules.counting rules.overtake_ms steps now numbers event
told rules steps now numbers event e g = cases (event.session == 0) refl e g
  where
    step : Step
    step = record { at = now; shown = Came numbers event }

    book : Sequence
    book = without_lost now (book_of rules steps)

    seen : Notification
    seen = counted_event book.counting event

    was_missing : is_some (finite.get book.gaps.waiting (missing_of (counted book.counting event.flow) event.session))
        ≡ is_some (unless_lost now (missing_in rules.counting rules.overtake_ms steps (missing_of (counted rules.counting event.flow) event.session)))
    was_missing =
        ap is_some
        (missing_by rules now steps (missing_of (counted book.counting event.flow) event.session) (flows_fit_before rules step steps e) (gaps_not_before now (Came numbers event) book g)
        ∙ ap (λ c. unless_lost now (missing_in rules.counting rules.overtake_ms steps (missing_of (counted c event.flow) event.session))) (counting_is rules steps))

    by : (t : Option EventShown) → (t ≡ Some shown.Full → ⊥) → (gaps_after now numbers event.flow seen t book.gaps).told_full ≡ false
        → told_of numbers event.flow seen t book.gaps
        ≡ told_with numbers (counted book.counting event.flow) event.flow t (is_some (finite.get book.gaps.waiting (missing_of (counted book.counting event.flow) event.session)))
    by None not_full fits = refl
    by (Some shown.Repeated) not_full fits = refl
    by (Some shown.Behind) not_full fits = refl
    by (Some shown.Full) not_full fits = absurd (not_full refl)
    by (Some (shown.Gap session expected)) not_full fits = gap_shows now (gap_of seen.flow event.flow numbers expected session) (gaps_without seen book.gaps) fits

    cases : (z : Bool) → (event.session == 0) ≡ z
        → (if z then book else record book {
          events = events.after_event seen book.events;
          gaps = gaps_after now numbers event.flow seen (events.told_by seen book.events) book.gaps;
        }).events.told_full ≡ false
        → (if z then book else record book {
          events = events.after_event seen book.events;
          gaps = gaps_after now numbers event.flow seen (events.told_by seen book.events) book.gaps;
        }).gaps.told_full ≡ false
        → (if z then None else told_of numbers event.flow seen (events.told_by seen book.events) book.gaps)
        ≡ (if z then None
        else told_with numbers (counted rules.counting event.flow) event.flow (shown_after (flows_shown rules.counting steps) (counted_event rules.counting event))
        (is_some (unless_lost now (missing_in rules.counting rules.overtake_ms steps (missing_of (counted rules.counting event.flow) event.session)))))
    cases true is fits full = refl
    cases false is fits full =
        by (events.told_by seen book.events) (λ tells. let noted = (full_noted seen book.events tells).1 in absurd (cc)) full
        ∙ ap (λ b. told_with numbers (counted book.counting event.flow) event.flow (events.told_by seen book.events) b) was_missing
        ∙ ap (λ t. told_with numbers (counted book.counting event.flow) event.flow t (is_some (unless_lost now (missing_in rules.counting rules.overtake_ms steps (missing_of (counted rules.counting event.flow) event.session)))))
        (shows_is rules steps event (flows_fit rules step steps e))
        ∙ ap (λ c. told_with numbers (counted c event.flow) event.flow (shown_after (flows_shown rules.counting steps) (counted_event rules.counting event))
        (is_some (unless_lost now (missing_in rules.counting rules.overtake_ms steps (missing_of (counted rules.counting event.flow) event.session))))) (counting_is rules steps)
