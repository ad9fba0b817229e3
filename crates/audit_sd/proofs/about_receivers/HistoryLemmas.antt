-- Which subscriptions a book holds after the events so far.
use Rattle.std.proofs.Common.{◌≡◌, ℕ, ◌==◌, nat_lt, Bool, true, false, cond, if◌then◌else◌, not, List, [], ◌∷◌, Option, None, Some, refl, sym, ap, ◌∙◌}
use Rattle.std.specs.Option.{option_map}
use Rattle.std.specs.Ordering.{eq_by_cmp}
use Rattle.std.specs.FinMap as finite
use Rattle.std.specs.declared.net.socket_addr.SocketAddrV4.{SocketAddrV4}
use Rattle.someip_tables.specs.declared.lasting.Lasting.{Lasting}
use Rattle.someip_tables.specs.Lastings.{unless_passed}
use Rattle.someip_tables.proofs.Entries.{same_by_test}
use Rattle.someip_tables.proofs.Expiry.{get-unexpired}
use Rattle.someip_tables.specs.hashed.Rooms.{may_hold}
use Rattle.audit_sd.specs.declared.subscriptions.entry.EntryKind.{EntryKind}
use Rattle.audit_sd.specs.declared.subscriptions.entry.EntryKind.TheVariants.{Answer, Subscribe}
use Rattle.audit_sd.specs.declared.subscriptions.key.SubscriptionKey.{SubscriptionKey}
use Rattle.audit_sd.specs.subscriptions.SubscriptionKeys.{subscription_cmp}
use Rattle.audit_sd.specs.subscriptions.SubscriptionOrder.{subscriptions_total, exact_subscriptions}
use Rattle.audit_sd.specs.subscriptions.SubscribeRules.{is_of}
use Rattle.audit_sd.specs.declared.receivers.delivery.Delivery.{Delivery}
use Rattle.audit_sd.specs.declared.receivers.entry.ReceiverEntry.{ReceiverEntry}
use Rattle.audit_sd.specs.receivers.ReceiverRules.{is_to, standing_from}
use Rattle.audit_sd.specs.receivers.ReceiverTables.{Receivers, Subscriptions, acked, after, after_entry, after_event, after_subscribe, is_passed_over, untold, without_expired}
use Rattle.audit_sd.specs.receivers.ReceiverHistories.{BeganAgain, Delivered, Entry, Event, Shown, Withdrawn, book_after, book_of, changed_by, stands_after, standing_in, subscribed}

-- ---- one entry

either : {X : Type 0} (t : Bool) (x : X) → x ≡ cond t x x
either true x = refl
either false x = refl

get-subscribed : (now : ℕ) (entry : ReceiverEntry) (place : Option SocketAddrV4) (book : Receivers) (key : SubscriptionKey) → (after_subscribe now entry place book).told_full ≡ false
    → finite.get (after_subscribe now entry place book).standing key
    ≡ (if eq_by_cmp subscription_cmp key entry.key then subscribed now entry place (finite.get book.standing key) else finite.get book.standing key)
get-subscribed now entry None book key fits = either (eq_by_cmp subscription_cmp key entry.key) (finite.get book.standing key)
get-subscribed now entry (Some place) book key fits = cases (may_hold book.limit book.standing entry.key) fits
  where
    cases : (b : Bool)
        → (if b then record book { standing = finite.insert book.standing entry.key (standing_from now entry.ttl place); told = untold entry.key place book.told } else record book { told_full = true }).told_full ≡ false
        → finite.get (if b then record book { standing = finite.insert book.standing entry.key (standing_from now entry.ttl place); told = untold entry.key place book.told } else record book { told_full = true }).standing key
        ≡ cond (eq_by_cmp subscription_cmp key entry.key) (Some (standing_from now entry.ttl place)) (finite.get book.standing key)
    cases true still = finite.get-insert subscriptions_total book.standing entry.key (standing_from now entry.ttl place) key
    cases false still = absurd (cc)

get-acked : (now : ℕ) (entry : ReceiverEntry) (standing : Subscriptions) (key : SubscriptionKey)
    → finite.get (acked now entry (finite.get standing entry.key) standing) key
    ≡ (if eq_by_cmp subscription_cmp key entry.key then option_map (λ lasting. standing_from now entry.ttl lasting.value) (finite.get standing key) else finite.get standing key)
get-acked now entry standing key = cases (finite.get standing entry.key) refl
  where
    none : (t : Bool) → finite.get standing entry.key ≡ None → eq_by_cmp subscription_cmp key entry.key ≡ t
        → finite.get standing key ≡ cond t (option_map (λ lasting. standing_from now entry.ttl lasting.value) (finite.get standing key)) (finite.get standing key)
    none true is tie =
        let here : finite.get standing key ≡ None = ap (finite.get standing) (same_by_test exact_subscriptions key entry.key tie) ∙ is in
        rw here refl
    none false is tie = refl

    some : (lasting : Lasting SocketAddrV4) (t : Bool) → finite.get standing entry.key ≡ Some lasting → eq_by_cmp subscription_cmp key entry.key ≡ t
        → cond t (Some (standing_from now entry.ttl lasting.value)) (finite.get standing key)
        ≡ cond t (option_map (λ l. standing_from now entry.ttl l.value) (finite.get standing key)) (finite.get standing key)
    some lasting true is tie =
        let here : finite.get standing key ≡ Some lasting = ap (finite.get standing) (same_by_test exact_subscriptions key entry.key tie) ∙ is in
        rw here refl
    some lasting false is tie = refl

    cases : (v : Option (Lasting SocketAddrV4)) → finite.get standing entry.key ≡ v
        → finite.get (acked now entry v standing) key
        ≡ cond (eq_by_cmp subscription_cmp key entry.key) (option_map (λ lasting. standing_from now entry.ttl lasting.value) (finite.get standing key)) (finite.get standing key)
    cases None is = none (eq_by_cmp subscription_cmp key entry.key) is refl
    cases (Some lasting) is =
        finite.get-insert subscriptions_total standing entry.key (standing_from now entry.ttl lasting.value) key
        ∙ some lasting (eq_by_cmp subscription_cmp key entry.key) is refl

get-after : (kind : EntryKind) (now : ℕ) (entry : ReceiverEntry) (book : Receivers) (key : SubscriptionKey) → (after now kind entry book).told_full ≡ false
    → finite.get (after now kind entry book).standing key
    ≡ (if eq_by_cmp subscription_cmp key entry.key then stands_after kind now entry (finite.get book.standing key) else finite.get book.standing key)
get-after Subscribe now entry book key fits = get-subscribed now entry entry.endpoint book key fits
get-after Answer now entry book key fits = get-acked now entry book.standing key

get-entry : (now : ℕ) (entry : ReceiverEntry) (book : Receivers) (key : SubscriptionKey) → (after_entry now entry book).told_full ≡ false
    → finite.get (after_entry now entry book).standing key ≡ changed_by now (Entry entry) key (finite.get book.standing key)
get-entry now entry book key fits = cases (entry.ttl == 0) fits
  where
    cases : (b : Bool) → (if b then record book { standing = finite.remove book.standing entry.key } else after now entry.kind entry book).told_full ≡ false
        → finite.get (if b then record book { standing = finite.remove book.standing entry.key } else after now entry.kind entry book).standing key
        ≡ cond (eq_by_cmp subscription_cmp key entry.key) (if b then None else stands_after entry.kind now entry (finite.get book.standing key)) (finite.get book.standing key)
    cases true still = finite.get-remove subscriptions_total book.standing entry.key key
    cases false still = get-after entry.kind now entry book key still

-- ---- what ends several

get-dropped : (p : SubscriptionKey → Bool) (standing : Subscriptions) (key : SubscriptionKey)
    → finite.get (finite.retain_keys standing (λ k. not (p k))) key ≡ (if p key then None else finite.get standing key)
get-dropped p standing key =
    finite.get-retain_keys standing (λ k. not (p k)) key (λ x tie. ap (λ k. not (p k)) (sym (exact_subscriptions key x tie))) ∙ turned (p key)
  where
    turned : (b : Bool) → cond (not b) (finite.get standing key) None ≡ cond b None (finite.get standing key)
    turned true = refl
    turned false = refl

same_standing : (now : ℕ) (delivery : Delivery) (book : Receivers) → (after_event now delivery book).standing ≡ book.standing
same_standing now delivery book = cases (is_passed_over now delivery book) (nat_lt (finite.len book.told) book.limit)
  where
    cases : (a b : Bool) → (if a then book else if b then record book { told = finite.insert book.told delivery tt } else record book { told_full = true }).standing ≡ book.standing
    cases true b = refl
    cases false true = refl
    cases false false = refl

-- ---- whether a book is full

full_after : (now : ℕ) (entry : ReceiverEntry) (kind : EntryKind) (book : Receivers) → book.told_full ≡ true → (after now kind entry book).told_full ≡ true
full_after now entry Answer book is = is
full_after now entry Subscribe book is = at entry.endpoint
  where
    cases : (place : SocketAddrV4) (b : Bool)
        → (if b then record book { standing = finite.insert book.standing entry.key (standing_from now entry.ttl place); told = untold entry.key place book.told } else record book { told_full = true }).told_full ≡ true
    cases place true = is
    cases place false = refl

    at : (place : Option SocketAddrV4) → (after_subscribe now entry place book).told_full ≡ true
    at None = is
    at (Some place) = cases place (may_hold book.limit book.standing entry.key)

pub full_by : (now : ℕ) (shown : Shown) (book : Receivers) → book.told_full ≡ true → (book_after now shown book).told_full ≡ true
full_by now (Entry entry) book is = cases (entry.ttl == 0)
  where
    cases : (b : Bool) → (if b then record book { standing = finite.remove book.standing entry.key } else after now entry.kind entry book).told_full ≡ true
    cases true = is
    cases false = full_after now entry entry.kind book is
full_by now (Withdrawn offer) book is = is
full_by now (BeganAgain address) book is = is
full_by now (Delivered delivery) book is = cases (is_passed_over now delivery book) (nat_lt (finite.len book.told) book.limit)
  where
    cases : (a b : Bool) → (if a then book else if b then record book { told = finite.insert book.told delivery tt } else record book { told_full = true }).told_full ≡ true
    cases true b = is
    cases false true = is
    cases false false = refl

-- a book that is not full after something was shown was not full before
pub not_before : (now : ℕ) (shown : Shown) (book : Receivers) → (book_after now shown book).told_full ≡ false → book.told_full ≡ false
not_before now shown book fits = cases book.told_full refl
  where
    cases : (b : Bool) → book.told_full ≡ b → b ≡ false
    cases false is = refl
    cases true is = let full = full_by now shown book is in absurd (cc)

-- ---- all events

get-shown : (now : ℕ) (shown : Shown) (book : Receivers) (key : SubscriptionKey) → (book_after now shown book).told_full ≡ false
    → finite.get (book_after now shown book).standing key ≡ changed_by now shown key (finite.get book.standing key)
get-shown now (Entry entry) book key fits = get-entry now entry book key fits
get-shown now (Withdrawn offer) book key fits = get-dropped (is_to offer) book.standing key
get-shown now (BeganAgain address) book key fits = get-dropped (is_of address) book.standing key
get-shown now (Delivered delivery) book key fits = ap (λ m. finite.get m key) (same_standing now delivery book)

-- a book that was never full holds the subscriptions that stand
pub stands : (limit settled : ℕ) (events : List Event) (key : SubscriptionKey) → (book_of limit settled events).told_full ≡ false
    → finite.get (book_of limit settled events).standing key ≡ standing_in events key
stands limit settled [] key fits = finite.get-empty subscription_cmp key
stands limit settled (event ∷ earlier) key fits =
    let before = not_before event.at event.shown (without_expired event.at (book_of limit settled earlier)) fits in
    get-shown event.at event.shown (without_expired event.at (book_of limit settled earlier)) key fits
    ∙ ap (changed_by event.at event.shown key)
    (get-unexpired subscriptions_total exact_subscriptions event.at (book_of limit settled earlier).standing key ∙ ap (unless_passed event.at) (stands limit settled earlier key before))
