-- What has waited too long as time goes on.
use Rattle.std.proofs.Common.{◌≡◌, ℕ, ◌<◌, ◌≤◌, nat_le, Bool, true, false, cond, not, Option, None, Some, refl, sym, ap, ◌∙◌, arith}
use Rattle.std.proofs.lemmas.Bool.{le-leb}
use Rattle.std.proofs.lemmas.Bool.Decides.{nat_tests}
use Rattle.std.specs.Option.{option_and_then}
use Rattle.std.specs.Ordering.{eq_by_cmp}
use Rattle.std.specs.FinMap as finite
use Rattle.someip_tables.specs.Retained.{kept_if}
use Rattle.someip_tables.proofs.Entries.{get-retain, same_by_test}
use Rattle.someip_tables.proofs.MapLaws.{retain_all}
use Rattle.someip_tables.specs.declared.hashed.due.Due.{Due}
use Rattle.someip_tables.specs.hashed.Dues.{IsFirstDue}
use Rattle.someip_tables.proofs.about_hashed.FirstDues.{not_before}
use Rattle.audit_sd.specs.declared.subscriptions.entry.Asked.{Asked}
use Rattle.audit_sd.specs.declared.subscriptions.finding.Unanswered.{Unanswered}
use Rattle.audit_sd.specs.declared.subscriptions.key.SubscriptionKey.{SubscriptionKey}
use Rattle.audit_sd.specs.subscriptions.SubscriptionKeys.{subscription_cmp}
use Rattle.audit_sd.specs.subscriptions.SubscriptionOrder.{subscriptions_total, exact_subscriptions}
use Rattle.audit_sd.specs.subscriptions.SubscribeRules.{is_late, waits_until}
use Rattle.audit_sd.specs.subscriptions.SubscribeTables.{FallsDue, SubscribeTable, Waiting, after_due}
use Rattle.audit_sd.specs.subscriptions.SubscribeHistories.{without_late}

-- the first deadline is to come
pub none_by : (now : ℕ) (waiting : Waiting) (first : Due SubscriptionKey) → IsFirstDue waits_until waiting (Some first) → now < first.at → FallsDue now waiting None
none_by now waiting first is later key asked has =
    let le : first.at ≤ asked.until = not_before subscription_cmp first (record { at = asked.until; key = key }) (is.1 (record { at = asked.until; key = key }) (ap (option_and_then waits_until) has)) in
    let lt : now < asked.until = omega (arith, le, later) in
    grind (arith, nat_tests)

-- none waits
pub none_ever : (now : ℕ) (waiting : Waiting) → IsFirstDue waits_until waiting None → FallsDue now waiting None
none_ever now waiting none key asked has = absurd (never (ap (option_and_then waits_until) (sym has) ∙ none key))
  where
    never : Some asked.until ≡ None → ⊥
    never is = cc

-- what is told had its own deadline
pub own : (now : ℕ) (waiting : Waiting) (told : Unanswered) → FallsDue now waiting (Some told) → finite.get waiting told.key ≡ Some (record { origin = told.origin; until = told.at })
own now waiting told falls = falls.1

pub first : (now : ℕ) (waiting : Waiting) (told : Unanswered) (key : SubscriptionKey) (asked : Asked) → FallsDue now waiting (Some told) → finite.get waiting key ≡ Some asked → told.at ≤ asked.until
first now waiting told key asked falls has =
    not_before subscription_cmp (record { at = told.at; key = told.key }) (record { at = asked.until; key = key })
    (falls.0.1 (record { at = asked.until; key = key }) (ap (option_and_then waits_until) has))

pub kept : (now : ℕ) (book : SubscribeTable) (told : Option Unanswered) → FallsDue now book.waiting told → without_late now (after_due told book) ≡ without_late now book
kept now book None falls = refl
kept now book (Some told) falls =
    ap (λ (waiting : Waiting). record book { waiting = waiting })
    (finite.same_map subscriptions_total exact_subscriptions _ _ (λ q.
    get-retain subscriptions_total exact_subscriptions (finite.remove book.waiting told.key) (λ _ asked. not (is_late now asked)) q
    ∙ ap (kept_if (λ asked. not (is_late now asked))) (finite.get-remove subscriptions_total book.waiting told.key q)
    ∙ at q (eq_by_cmp subscription_cmp q told.key) refl
    ∙ sym (get-retain subscriptions_total exact_subscriptions book.waiting (λ _ asked. not (is_late now asked)) q)))
  where
    at : (q : SubscriptionKey) (t : Bool) → eq_by_cmp subscription_cmp q told.key ≡ t
        → kept_if (λ asked. not (is_late now asked)) (cond t None (finite.get book.waiting q)) ≡ kept_if (λ asked. not (is_late now asked)) (finite.get book.waiting q)
    at q true tie =
        let there : finite.get book.waiting q ≡ Some (record { origin = told.origin; until = told.at }) = ap (finite.get book.waiting) (same_by_test exact_subscriptions q told.key tie) ∙ falls.1 in
        let late : nat_le told.at now ≡ true = le-leb told.at now falls.2 in
        rw (there, late) refl
    at q false tie = refl

pub all : (now : ℕ) (book : SubscribeTable) → FallsDue now book.waiting None → without_late now book ≡ book
all now book none =
    ap (λ (waiting : Waiting). record book { waiting = waiting })
    (retain_all subscriptions_total exact_subscriptions book.waiting (λ _ asked. not (is_late now asked)) (λ key asked has. ap not (none key asked has)))
