-- Which flows a book watches after the steps so far.
use Rattle.std.proofs.Common.{◌≡◌, ℕ, Bool, true, false, cond, if◌then◌else◌, not, List, [], ◌∷◌, Option, None, refl, sym, ap, ◌∙◌}
use Rattle.std.specs.FinMap as finite
use Rattle.someip_tables.specs.hashed.Rooms.{may_hold}
use Rattle.someip_tables.proofs.Entries.{get-retain}
use Rattle.audit_traffic.specs.declared.cycles.watch.Watch.{Watch}
use Rattle.audit_traffic.specs.declared.events.flow.EventFlow.{EventFlow}
use Rattle.audit_traffic.specs.events.EventRules.{is_at}
use Rattle.audit_traffic.specs.events.FlowKeys.{flow_cmp}
use Rattle.audit_traffic.specs.events.FlowOrder.{exact_flows, flows_total}
use Rattle.audit_traffic.specs.cycles.CycleRules.{goes_by, is_of_service, is_silent_by, unless_silent, watch_from}
use Rattle.audit_traffic.specs.cycles.CycleTables.{Cycles, Watches}
use Rattle.audit_traffic.specs.cycles.CycleHistories.{Asked, BeganAgain, Came, Shown, Step, Unsubscribed, Withdrawn, after_step, book_after, book_of, watched_in, without_silent}

-- ---- whether it is full

abbrev roomed : Cycles → EventFlow → Watch → Bool → Cycles
roomed book flow watch b = if b then record book { watched = finite.insert book.watched flow watch } else record book { told_full = true }

full_after : (now : ℕ) (shown : Shown) (book : Cycles) → book.told_full ≡ true → (book_after now shown book).told_full ≡ true
full_after now (Came flow cycle_ms numbers) book is = cases (may_hold book.limit book.watched flow)
  where
    cases : (b : Bool) → (roomed book flow (watch_from now cycle_ms numbers) b).told_full ≡ true
    cases true = is
    cases false = refl
full_after now (Unsubscribed server service client) book is = is
full_after now (Withdrawn server service) book is = is
full_after now (BeganAgain address) book is = is
full_after now Asked book is = is

not_before : (now : ℕ) (shown : Shown) (book : Cycles) → (book_after now shown book).told_full ≡ false → book.told_full ≡ false
not_before now shown book fits = cases book.told_full refl
  where
    cases : (b : Bool) → book.told_full ≡ b → b ≡ false
    cases false is = refl
    cases true is = let so : (book_after now shown book).told_full ≡ true = full_after now shown book is in absurd (cc)

-- ---- one step

turned : (b : Bool) (v : Option Watch) → cond (not b) v None ≡ cond b None v
turned true v = refl
turned false v = refl

pub ended : (ends : EventFlow → Bool) (m : Watches) (flow : EventFlow) → finite.get (finite.retain_keys m (λ f. not (ends f))) flow ≡ cond (ends flow) None (finite.get m flow)
ended ends m flow = finite.get-retain_keys m (λ f. not (ends f)) flow (λ x tie. ap (λ f. not (ends f)) (sym (exact_flows flow x tie))) ∙ turned (ends flow) (finite.get m flow)

pub left : (now : ℕ) (book : Cycles) (flow : EventFlow) → finite.get (without_silent now book).watched flow ≡ unless_silent now (finite.get book.watched flow)
left now book flow = get-retain flows_total exact_flows book.watched (λ _ watch. not (is_silent_by now watch)) flow

get-after : (now : ℕ) (shown : Shown) (book : Cycles) (flow : EventFlow) → (book_after now shown book).told_full ≡ false
    → finite.get (book_after now shown book).watched flow ≡ after_step now shown flow (finite.get book.watched flow)
get-after now (Came other cycle_ms numbers) book flow fits = cases (may_hold book.limit book.watched other) fits
  where
    cases : (b : Bool) → (roomed book other (watch_from now cycle_ms numbers) b).told_full ≡ false
        → finite.get (roomed book other (watch_from now cycle_ms numbers) b).watched flow ≡ after_step now (Came other cycle_ms numbers) flow (finite.get book.watched flow)
    cases true is = finite.get-insert flows_total book.watched other (watch_from now cycle_ms numbers) flow
    cases false is = absurd (cc)
get-after now (Unsubscribed server service client) book flow fits = ended (goes_by server service client) book.watched flow
get-after now (Withdrawn server service) book flow fits = ended (is_of_service server service) book.watched flow
get-after now (BeganAgain address) book flow fits = ended (is_at address) book.watched flow
get-after now Asked book flow fits = left now book flow

-- ---- all steps

pub watched : (limit : ℕ) (steps : List Step) (flow : EventFlow) → (book_of limit steps).told_full ≡ false → finite.get (book_of limit steps).watched flow ≡ watched_in steps flow
watched limit [] flow fits = finite.get-empty flow_cmp flow
watched limit (step ∷ earlier) flow fits =
    get-after step.at step.shown (book_of limit earlier) flow fits
    ∙ ap (after_step step.at step.shown flow) (watched limit earlier flow (not_before step.at step.shown (book_of limit earlier) fits))
