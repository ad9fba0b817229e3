-- What a book holds of what was shown so far.
use Rattle.std.proofs.Common.{◌≡◌, ℕ, ◌==◌, Bool, true, false, cond, if◌then◌else◌, not, ◌&&◌, ◌||◌, List, [], ◌∷◌, Option, None, Some, refl, sym, ap, ◌∙◌}
use Rattle.std.specs.Option.{option_map}
use Rattle.std.specs.Ordering.{eq_by_cmp}
use Rattle.std.specs.FinMap as finite
use Rattle.std.specs.declared.net.ipv4_addr.Ipv4Addr.{Ipv4Addr}
use Rattle.someip_tables.proofs.ChangedLemmas.{get-changed}
use Rattle.someip_tables.proofs.Entries.{same_by_test}
use Rattle.someip_tables.specs.Sessions.{next_session}
use Rattle.someip_tables.specs.hashed.Rooms.{told_when_full}
use Rattle.audit_traffic.specs.declared.events.flow.EventFlow.{EventFlow}
use Rattle.audit_traffic.specs.declared.events.last_event.LastEvent.{LastEvent}
use Rattle.audit_traffic.specs.declared.events.notification.Notification.{Notification}
use Rattle.audit_traffic.specs.declared.events.finding.Finding.TheVariants.{Behind, Full, Gap, Repeated}
use Rattle.audit_traffic.specs.events.FlowKeys.{flow_cmp}
use Rattle.audit_traffic.specs.events.FlowOrder.{flows_total, exact_flows}
use Rattle.audit_traffic.specs.events.EventRules.{disturbed, is_at, is_behind, is_between, is_loss, is_of_service, is_other, judged, past, renewed}
use Rattle.audit_traffic.specs.events.EventTables.{Events, Flows, after_event, flows_after, may_take, told_by}
use Rattle.audit_traffic.specs.events.EventHistories.{BeganAgain, Came, Changed, Shown, Since, Withdrawn, book_after, book_of, kept_of, shown_after, shown_since, since_after, since_disturbed, since_event, since_got, since_in}
use Rattle.audit_traffic.proofs.about_events.FlowLemmas.{not_its_own}
use Rattle.audit_traffic.proofs.about_events.NearestLemmas.{nearest_tells}

-- ---- an event

renewed_is : (session : ℕ) (before : Option Since) → renewed session (option_map kept_of before) ≡ kept_of (since_event session before)
renewed_is session None = refl
renewed_is session (Some since) = cases (session == since.session) (is_behind since.session session)
  where
    cases : (a b : Bool) → (if a then kept_of since else if b then kept_of since else record { session = session; is_disturbed = false; nearest = None })
        ≡ kept_of (if a then since else if b then since else record { session = session; is_disturbed = false; got = [] })
    cases true b = refl
    cases false true = refl
    cases false false = refl

-- the last event of a flow once one came
get-event : (event : Notification) (flows : Flows) (flow : EventFlow) (before own : Option Since) → finite.get flows flow ≡ option_map kept_of before → finite.get flows event.flow ≡ option_map kept_of own
    → (eq_by_cmp flow_cmp flow event.flow ≡ true → own ≡ before)
    → finite.get (flows_after event flows) flow
    ≡ option_map kept_of (if eq_by_cmp flow_cmp flow event.flow then Some (since_event event.session before) else if is_other event.flow flow then option_map (since_got event.session) before else before)
get-event event flows flow before own is own_is same =
    get-changed flows_total exact_flows (λ f last. if is_other event.flow f then past event.session last else last) (finite.insert flows event.flow (renewed event.session (finite.get flows event.flow))) flow
    ∙ ap (option_map (λ last. if is_other event.flow flow then past event.session last else last)) (finite.get-insert flows_total flows event.flow (renewed event.session (finite.get flows event.flow)) flow)
    ∙ cases (eq_by_cmp flow_cmp flow event.flow) refl
  where
    others : (o : Bool) (v : Option Since) → option_map (λ last. if o then past event.session last else last) (option_map kept_of v) ≡ option_map kept_of (if o then option_map (since_got event.session) v else v)
    others true None = refl
    others true (Some since) = refl
    others false None = refl
    others false (Some since) = refl

    cases : (t : Bool) → eq_by_cmp flow_cmp flow event.flow ≡ t
        → option_map (λ last. if is_other event.flow flow then past event.session last else last) (cond t (Some (renewed event.session (finite.get flows event.flow))) (finite.get flows flow))
        ≡ option_map kept_of (if t then Some (since_event event.session before) else if is_other event.flow flow then option_map (since_got event.session) before else before)
    cases true tie =
        let none : is_other event.flow flow ≡ false = ap (is_other event.flow) (same_by_test exact_flows flow event.flow tie) ∙ not_its_own event.flow in
        rw none (ap (λ v. Some (renewed event.session v)) own_is ∙ ap Some (renewed_is event.session own) ∙ ap (λ v. Some (kept_of (since_event event.session v))) (same tie))
    cases false tie = rw is (others (is_other event.flow flow) before)

-- ---- what changes many

get-disturbed : (test : EventFlow → Bool) (flows : Flows) (flow : EventFlow) (before : Option Since) → finite.get flows flow ≡ option_map kept_of before
    → option_map (λ last. if test flow then disturbed last else last) (finite.get flows flow) ≡ option_map kept_of (if test flow then option_map since_disturbed before else before)
get-disturbed test flows flow before is = rw is (cases (test flow) before)
  where
    cases : (b : Bool) (v : Option Since) → option_map (λ last. if b then disturbed last else last) (option_map kept_of v) ≡ option_map kept_of (if b then option_map since_disturbed v else v)
    cases true None = refl
    cases true (Some since) = refl
    cases false None = refl
    cases false (Some since) = refl

get-without : (address : Ipv4Addr) (flows : Flows) (flow : EventFlow) (before : Option Since) → finite.get flows flow ≡ option_map kept_of before
    → finite.get (finite.retain_keys flows (λ f. not (is_at address f))) flow ≡ option_map kept_of (if is_at address flow then None else before)
get-without address flows flow before is =
    finite.get-retain_keys flows (λ f. not (is_at address f)) flow (λ x tie. ap (λ f. not (is_at address f)) (sym (exact_flows flow x tie)))
    ∙ ap (λ v. cond (not (is_at address flow)) v None) is ∙ cases (is_at address flow)
  where
    cases : (b : Bool) → cond (not b) (option_map kept_of before) None ≡ option_map kept_of (if b then None else before)
    cases true = refl
    cases false = refl

-- ---- whether a book is full

full_stays_after : (event : Notification) (book : Events) → book.told_full ≡ true → (after_event event book).told_full ≡ true
full_stays_after event book is = cases (event.session == 0) (may_take book.limit event.flow book.flows)
  where
    cases : (a b : Bool) → (if a then book else if b then record book { flows = flows_after event book.flows } else record book { told_full = true }).told_full ≡ true
    cases true b = is
    cases false true = is
    cases false false = refl

full_stays : (shown : Shown) (book : Events) → book.told_full ≡ true → (book_after shown book).told_full ≡ true
full_stays (Came event) book is = full_stays_after event book is
full_stays (Changed client server service) book is = is
full_stays (Withdrawn server service) book is = is
full_stays (BeganAgain address) book is = is

-- a book that is not full after something was shown was not full before
pub not_before : (shown : Shown) (book : Events) → (book_after shown book).told_full ≡ false → book.told_full ≡ false
not_before shown book fits = cases book.told_full refl
  where
    cases : (b : Bool) → book.told_full ≡ b → b ≡ false
    cases false is = refl
    cases true is = let so : (book_after shown book).told_full ≡ true = full_stays shown book is in absurd (cc)

-- ---- the whole

pub kept : (limit : ℕ) (shown : List Shown) → (book_of limit shown).told_full ≡ false → (flow : EventFlow) → finite.get (book_of limit shown).flows flow ≡ option_map kept_of (since_in shown flow)
kept limit [] fits flow = finite.get-empty flow_cmp flow
kept limit (shown ∷ earlier) fits flow = by shown fits (kept limit earlier (not_before shown (book_of limit earlier) fits))
  where
    by_event : (event : Notification) (a b : Bool)
        → (if a then book_of limit earlier else if b then record (book_of limit earlier) { flows = flows_after event (book_of limit earlier).flows } else record (book_of limit earlier) { told_full = true }).told_full ≡ false
        → ((f : EventFlow) → finite.get (book_of limit earlier).flows f ≡ option_map kept_of (since_in earlier f))
        → finite.get (if a then book_of limit earlier else if b then record (book_of limit earlier) { flows = flows_after event (book_of limit earlier).flows } else record (book_of limit earlier) { told_full = true }).flows flow
        ≡ option_map kept_of (if a then since_in earlier flow else if eq_by_cmp flow_cmp flow event.flow then Some (since_event event.session (since_in earlier flow))
        else if is_other event.flow flow then option_map (since_got event.session) (since_in earlier flow) else since_in earlier flow)
    by_event event true b still before = before flow
    by_event event false true still before =
        get-event event (book_of limit earlier).flows flow (since_in earlier flow) (since_in earlier event.flow) (before flow) (before event.flow)
        (λ tie. ap (since_in earlier) (sym (same_by_test exact_flows flow event.flow tie)))
    by_event event false false still before = absurd (cc)

    by : (one : Shown) → (book_after one (book_of limit earlier)).told_full ≡ false → ((f : EventFlow) → finite.get (book_of limit earlier).flows f ≡ option_map kept_of (since_in earlier f))
        → finite.get (book_after one (book_of limit earlier)).flows flow ≡ option_map kept_of (since_after one flow (since_in earlier flow))
    by (Came event) still before = by_event event (event.session == 0) (may_take (book_of limit earlier).limit event.flow (book_of limit earlier).flows) still before
    by (Changed client server service) still before =
        get-changed flows_total exact_flows (λ f last. if is_between client server service f then disturbed last else last) (book_of limit earlier).flows flow
        ∙ get-disturbed (is_between client server service) (book_of limit earlier).flows flow (since_in earlier flow) (before flow)
    by (Withdrawn server service) still before =
        get-changed flows_total exact_flows (λ f last. if is_of_service server service f then disturbed last else last) (book_of limit earlier).flows flow
        ∙ get-disturbed (is_of_service server service) (book_of limit earlier).flows flow (since_in earlier flow) (before flow)
    by (BeganAgain address) still before = get-without address (book_of limit earlier).flows flow (since_in earlier flow) (before flow)

-- what is kept tells what all that was shown does
judged_is : (before : Option Since) (session : ℕ) → judged true (option_map kept_of before) session ≡ shown_since before session
judged_is None session = refl
judged_is (Some since) session =
    ap (λ b. if session == since.session then Some Repeated else if is_behind since.session session then Some Behind else if not (since.is_disturbed || (session == next_session since.session) || b) then Some (Gap session (next_session since.session)) else None)
    (nearest_tells since.session session since.got)

-- a book that was never full tells of an event what was shown so far
pub told : (limit : ℕ) (shown : List Shown) (event : Notification) → (book_of limit (Came event ∷ shown)).told_full ≡ false → told_by event (book_of limit shown) ≡ shown_after shown event
told limit shown event fits =
    let before : (book_of limit shown).told_full ≡ false = not_before (Came event) (book_of limit shown) fits in
    cases (event.session == 0) (may_take (book_of limit shown).limit event.flow (book_of limit shown).flows) before fits
  where
    cases : (a b : Bool) → (book_of limit shown).told_full ≡ false
        → (if a then book_of limit shown else if b then record (book_of limit shown) { flows = flows_after event (book_of limit shown).flows } else record (book_of limit shown) { told_full = true }).told_full ≡ false
        → (if a then None else if b then judged (not (book_of limit shown).told_full) (finite.get (book_of limit shown).flows event.flow) event.session else told_when_full Full (book_of limit shown).told_full)
        ≡ (if a then None else shown_since (since_in shown event.flow) event.session)
    cases true b before still = refl
    cases false true before still = rw before (ap (λ v. judged true v event.session) (kept limit shown before event.flow) ∙ judged_is (since_in shown event.flow) event.session)
    cases false false before still = absurd (cc)

-- ---- what is told of a full book

not_full : (losses : Bool) (last : Option LastEvent) (session : ℕ) → judged losses last session ≡ Some Full → ⊥
not_full losses None session is = cc
not_full losses (Some last) session is = cases (session == last.session) (is_behind last.session session) (losses && is_loss last session) is
  where
    cases : (a b l : Bool) → (if a then Some Repeated else if b then Some Behind else if l then Some (Gap session (next_session last.session)) else None) ≡ Some Full → ⊥
    cases true b l e = cc
    cases false true l e = cc
    cases false false true e = cc
    cases false false false e = cc

pub full_noted : (event : Notification) (book : Events) → told_by event book ≡ Some Full → (book.told_full ≡ false) × ((after_event event book).told_full ≡ true)
full_noted event book is = cases (event.session == 0) (may_take book.limit event.flow book.flows) book.told_full refl is
  where
    cases : (a b t : Bool) → book.told_full ≡ t → (if a then None else if b then judged (not t) (finite.get book.flows event.flow) event.session else told_when_full Full t) ≡ Some Full
        → (t ≡ false) × ((if a then book else if b then record book { flows = flows_after event book.flows } else record book { told_full = true }).told_full ≡ true)
    cases true b t now e = absurd (cc)
    cases false true t now e = absurd (not_full (not t) (finite.get book.flows event.flow) event.session e)
    cases false false true now e = absurd (cc)
    cases false false false now e = (refl, refl)

pub full_kept : (event : Notification) (book : Events) → book.told_full ≡ true → (after_event event book).told_full ≡ true
full_kept event book is = full_stays_after event book is

pub no_gap : (session expected : ℕ) (event : Notification) (book : Events) → book.told_full ≡ true → told_by event book ≡ Some (Gap session expected) → ⊥
no_gap session expected event book full is = cases (event.session == 0) (may_take book.limit event.flow book.flows) (finite.get book.flows event.flow) (rw full at is)
  where
    cases : (a b : Bool) (v : Option LastEvent) → (if a then None else if b then judged false v event.session else None) ≡ Some (Gap session expected) → ⊥
    cases true b v e = cc
    cases false false v e = cc
    cases false true None e = cc
    cases false true (Some last) e = at (event.session == last.session) (is_behind last.session event.session) e
      where
        at : (c d : Bool) → (if c then Some Repeated else if d then Some Behind else None) ≡ Some (Gap session expected) → ⊥
        at true d i = cc
        at false true i = cc
        at false false i = cc
