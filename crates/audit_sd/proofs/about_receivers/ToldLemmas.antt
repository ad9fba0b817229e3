-- Which events a book tells after the events so far.
use Rattle.std.proofs.Common.{◌≡◌, ℕ, ◌==◌, nat_lt, Bool, true, false, cond, if◌then◌else◌, not, ◌&&◌, ◌||◌, List, [], ◌∷◌, Option, None, Some, is_some, refl, sym, ap, ◌∙◌}
use Rattle.std.specs.List.{cons_option, list_any}
use Rattle.std.specs.Ordering.{eq_by_cmp}
use Rattle.std.specs.FinMap as finite
use Rattle.std.specs.declared.net.socket_addr.SocketAddrV4.{SocketAddrV4}
use Rattle.someip_tables.specs.declared.lasting.Lasting.{Lasting}
use Rattle.someip_tables.specs.Lastings.{unless_passed}
use Rattle.someip_tables.proofs.Entries.{own_test, same_by_test}
use Rattle.someip_tables.proofs.Expiry.{get-unexpired}
use Rattle.someip_tables.proofs.Members.{any_at, any_found, both_or_none}
use Rattle.someip_tables.specs.hashed.Rooms.{may_hold}
use Rattle.audit_sd.specs.declared.subscriptions.entry.EntryKind.{EntryKind}
use Rattle.audit_sd.specs.declared.subscriptions.entry.EntryKind.TheVariants.{Answer, Subscribe}
use Rattle.audit_sd.specs.declared.subscriptions.key.SubscriptionKey.{SubscriptionKey}
use Rattle.audit_sd.specs.subscriptions.SubscriptionKeys.{subscription_cmp}
use Rattle.audit_sd.specs.subscriptions.SubscriptionOrder.{subscriptions_total, exact_subscriptions}
use Rattle.audit_sd.specs.subscriptions.SubscribeRules.{is_of}
use Rattle.audit_sd.specs.declared.receivers.delivery.Delivery.{Delivery}
use Rattle.audit_sd.specs.declared.receivers.entry.ReceiverEntry.{ReceiverEntry}
use Rattle.audit_sd.specs.declared.receivers.finding.Finding.TheVariants.{Full, Unsubscribed}
use Rattle.audit_sd.specs.receivers.DeliveryKeys.{delivery_cmp}
use Rattle.audit_sd.specs.receivers.DeliveryOrder.{deliveries_total, exact_deliveries}
use Rattle.audit_sd.specs.receivers.ReceiverRules.{goes_by, is_to, standing_from}
use Rattle.audit_sd.specs.receivers.ReceiverTables.{Receivers, after, after_entry, after_event, after_subscribe, is_passed_over, is_subscribed, told_of_event, untold, without_expired}
use Rattle.audit_sd.specs.receivers.ReceiverHistories.{BeganAgain, Delivered, Entry, Event, Shown, Withdrawn, book_after, book_of, changed_by, goes_by_standing, is_subscribed_in, is_told_by, is_told_in, key_in, keys_in, shown_by, standing_in, stands_after, subscribes_for}
use Rattle.audit_sd.proofs.about_receivers.HistoryLemmas.{not_before, stands}
use Rattle.audit_sd.proofs.about_receivers.SubscribedLemmas.{by_one, has_one}

-- ---- what stands was shown

-- a subscription that stands after something was shown stood before, or it was of this
stands_by : (now : ℕ) (shown : Shown) (key : SubscriptionKey) (before : Option (Lasting SocketAddrV4)) → is_some (changed_by now shown key before) ≡ true
    → (ks : List SubscriptionKey) → (is_some before ≡ true → list_any (eq_by_cmp subscription_cmp key) ks ≡ true)
    → list_any (eq_by_cmp subscription_cmp key) (cons_option (key_in shown) ks) ≡ true
stands_by now (Entry entry) key before is ks rest = cases (eq_by_cmp subscription_cmp key entry.key) refl is
  where
    cases : (b : Bool) → eq_by_cmp subscription_cmp key entry.key ≡ b → is_some (cond b (if entry.ttl == 0 then None else stands_after entry.kind now entry before) before) ≡ true → (b || list_any (eq_by_cmp subscription_cmp key) ks) ≡ true
    cases true tie some = refl
    cases false tie some = rest some
stands_by now (Withdrawn offer) key before is ks rest = rest (cases (is_to offer key) is)
  where
    cases : (b : Bool) → is_some (cond b None before) ≡ true → is_some before ≡ true
    cases true some = absurd (cc)
    cases false some = some
stands_by now (BeganAgain address) key before is ks rest = rest (cases (is_of address key) is)
  where
    cases : (b : Bool) → is_some (cond b None before) ≡ true → is_some before ≡ true
    cases true some = absurd (cc)
    cases false some = some
stands_by now (Delivered delivery) key before is ks rest = rest is

was_some : (now : ℕ) (v : Option (Lasting SocketAddrV4)) → is_some (unless_passed now v) ≡ true → is_some v ≡ true
was_some now None is = is
was_some now (Some lasting) is = refl

was_shown : (events : List Event) (key : SubscriptionKey) → is_some (standing_in events key) ≡ true → list_any (eq_by_cmp subscription_cmp key) (keys_in events) ≡ true
was_shown [] key is = absurd (cc)
was_shown (event ∷ earlier) key is =
    stands_by event.at event.shown key (unless_passed event.at (standing_in earlier key)) is (keys_in earlier) (λ some. was_shown earlier key (was_some event.at (standing_in earlier key) some))

-- ---- whether an endpoint is subscribed

standing_now : (limit settled : ℕ) (events : List Event) (now : ℕ) (key : SubscriptionKey) → (book_of limit settled events).told_full ≡ false
    → finite.get (without_expired now (book_of limit settled events)).standing key ≡ unless_passed now (standing_in events key)
standing_now limit settled events now key fits =
    get-unexpired subscriptions_total exact_subscriptions now (book_of limit settled events).standing key ∙ ap (unless_passed now) (stands limit settled events key fits)

some_goes : (delivery : Delivery) (key : SubscriptionKey) (v : Option (Lasting SocketAddrV4)) → goes_by_standing delivery key v ≡ true → (lasting : Lasting SocketAddrV4) × (v ≡ Some lasting) × (goes_by delivery key lasting.value ≡ true)
some_goes delivery key None is = absurd (cc)
some_goes delivery key (Some lasting) is = (lasting, refl, is)

pub subscribed_is : (limit settled : ℕ) (events : List Event) (now : ℕ) (delivery : Delivery) → (book_of limit settled events).told_full ≡ false
    → is_subscribed delivery (without_expired now (book_of limit settled events)).standing ≡ is_subscribed_in events now delivery
subscribed_is limit settled events now delivery fits = both_or_none _ _ from to
  where
    from : is_subscribed delivery (without_expired now (book_of limit settled events)).standing ≡ true → is_subscribed_in events now delivery ≡ true
    from is =
        let one = has_one delivery (without_expired now (book_of limit settled events)).standing is in
        let here : unless_passed now (standing_in events one.0) ≡ Some one.1 = sym (standing_now limit settled events now one.0 fits) ∙ one.2 in
        any_at subscriptions_total exact_subscriptions (λ key. goes_by_standing delivery key (unless_passed now (standing_in events key))) one.0
        (ap (goes_by_standing delivery one.0) here ∙ one.3) (keys_in events)
        (was_shown events one.0 (was_some now (standing_in events one.0) (ap (λ v. is_some v) here)))

    to : is_subscribed_in events now delivery ≡ true → is_subscribed delivery (without_expired now (book_of limit settled events)).standing ≡ true
    to is =
        let one = any_found subscriptions_total exact_subscriptions (λ key. goes_by_standing delivery key (unless_passed now (standing_in events key))) (keys_in events) is in
        let goes = some_goes delivery one.0 (unless_passed now (standing_in events one.0)) one.1 in
        by_one delivery (without_expired now (book_of limit settled events)).standing one.0 goes.0 (standing_now limit settled events now one.0 fits ∙ goes.1) goes.2

-- ---- what was told

settled_is : (limit settled : ℕ) (events : List Event) → (book_of limit settled events).settled ≡ settled
settled_is limit settled [] = refl
settled_is limit settled (event ∷ earlier) = by event.shown ∙ settled_is limit settled earlier
  where
    book : Receivers
    book = without_expired event.at (book_of limit settled earlier)

    by_subscribe : (entry : ReceiverEntry) (place : Option SocketAddrV4) (old : Receivers) → (after_subscribe event.at entry place old).settled ≡ old.settled
    by_subscribe entry None old = refl
    by_subscribe entry (Some place) old = cases (may_hold old.limit old.standing entry.key)
      where
        cases : (b : Bool)
            → (if b then record old { standing = finite.insert old.standing entry.key (standing_from event.at entry.ttl place); told = untold entry.key place old.told } else record old { told_full = true }).settled ≡ old.settled
        cases true = refl
        cases false = refl

    by_kind : (entry : ReceiverEntry) (kind : EntryKind) (old : Receivers) → (after event.at kind entry old).settled ≡ old.settled
    by_kind entry Subscribe old = by_subscribe entry entry.endpoint old
    by_kind entry Answer old = refl

    by_entry : (entry : ReceiverEntry) (old : Receivers) → (after_entry event.at entry old).settled ≡ old.settled
    by_entry entry old = cases (entry.ttl == 0)
      where
        cases : (b : Bool) → (if b then record old { standing = finite.remove old.standing entry.key } else after event.at entry.kind entry old).settled ≡ old.settled
        cases true = refl
        cases false = by_kind entry entry.kind old

    by_event : (delivery : Delivery) (old : Receivers) → (after_event event.at delivery old).settled ≡ old.settled
    by_event delivery old = cases (is_passed_over event.at delivery old) (nat_lt (finite.len old.told) old.limit)
      where
        cases : (a b : Bool) → (if a then old else if b then record old { told = finite.insert old.told delivery tt } else record old { told_full = true }).settled ≡ old.settled
        cases true b = refl
        cases false true = refl
        cases false false = refl

    by : (shown : Shown) → (book_after event.at shown (without_expired event.at (book_of limit settled earlier))).settled ≡ (book_of limit settled earlier).settled
    by (Entry entry) = by_entry entry (without_expired event.at (book_of limit settled earlier))
    by (Withdrawn offer) = refl
    by (BeganAgain address) = refl
    by (Delivered delivery) = by_event delivery (without_expired event.at (book_of limit settled earlier))

-- an entry untells what may go by it
told_by_subscribe : (now : ℕ) (entry : ReceiverEntry) (place : Option SocketAddrV4) (book : Receivers) (delivery : Delivery) → (entry.ttl == 0) ≡ false → (after_subscribe now entry place book).told_full ≡ false
    → is_some (finite.get (after_subscribe now entry place book).told delivery) ≡ (not (subscribes_for Subscribe entry place delivery) && is_some (finite.get book.told delivery))
told_by_subscribe now entry None book delivery above fits = refl
told_by_subscribe now entry (Some place) book delivery above fits = rw above (cases (may_hold book.limit book.standing entry.key) fits)
  where
    at : (b : Bool) (v : Option (Unit {0})) → is_some (cond (not b) v None) ≡ (not b && is_some v)
    at true v = refl
    at false v = refl

    cases : (b : Bool)
        → (if b then record book { standing = finite.insert book.standing entry.key (standing_from now entry.ttl place); told = untold entry.key place book.told } else record book { told_full = true }).told_full ≡ false
        → is_some (finite.get (if b then record book { standing = finite.insert book.standing entry.key (standing_from now entry.ttl place); told = untold entry.key place book.told } else record book { told_full = true }).told delivery)
        ≡ (not (goes_by delivery entry.key place) && is_some (finite.get book.told delivery))
    cases true still =
        ap (λ v. is_some v) (finite.get-retain_keys book.told (λ d. not (goes_by d entry.key place)) delivery (λ x tie. ap (λ d. not (goes_by d entry.key place)) (sym (exact_deliveries delivery x tie))))
        ∙ at (goes_by delivery entry.key place) (finite.get book.told delivery)
    cases false still = absurd (cc)

told_by_kind : (kind : EntryKind) (now : ℕ) (entry : ReceiverEntry) (book : Receivers) (delivery : Delivery) → (entry.ttl == 0) ≡ false → (after now kind entry book).told_full ≡ false
    → is_some (finite.get (after now kind entry book).told delivery) ≡ (not (subscribes_for kind entry entry.endpoint delivery) && is_some (finite.get book.told delivery))
told_by_kind Subscribe now entry book delivery above fits = told_by_subscribe now entry entry.endpoint book delivery above fits
told_by_kind Answer now entry book delivery above fits = refl

stops : (kind : EntryKind) (entry : ReceiverEntry) (place : Option SocketAddrV4) (delivery : Delivery) (told : Bool) → (entry.ttl == 0) ≡ true → told ≡ (not (subscribes_for kind entry place delivery) && told)
stops Answer entry place delivery told zero_ttl = refl
stops Subscribe entry None delivery told zero_ttl = refl
stops Subscribe entry (Some place) delivery told zero_ttl = rw zero_ttl refl

told_by_entry : (now : ℕ) (entry : ReceiverEntry) (book : Receivers) (delivery : Delivery) → (after_entry now entry book).told_full ≡ false
    → is_some (finite.get (after_entry now entry book).told delivery) ≡ (not (subscribes_for entry.kind entry entry.endpoint delivery) && is_some (finite.get book.told delivery))
told_by_entry now entry book delivery fits = cases (entry.ttl == 0) refl fits
  where
    cases : (b : Bool) → (entry.ttl == 0) ≡ b → (if b then record book { standing = finite.remove book.standing entry.key } else after now entry.kind entry book).told_full ≡ false
        → is_some (finite.get (if b then record book { standing = finite.remove book.standing entry.key } else after now entry.kind entry book).told delivery)
        ≡ (not (subscribes_for entry.kind entry entry.endpoint delivery) && is_some (finite.get book.told delivery))
    cases true is still = stops entry.kind entry entry.endpoint delivery (is_some (finite.get book.told delivery)) is
    cases false is still = told_by_kind entry.kind now entry book delivery is still

-- an event that is told is told once
told_by_event : (now : ℕ) (other : Delivery) (book : Receivers) (delivery : Delivery) → book.told_full ≡ false → (after_event now other book).told_full ≡ false
    → is_some (finite.get (after_event now other book).told delivery)
    ≡ (is_some (finite.get book.told delivery) || (eq_by_cmp delivery_cmp delivery other && not (nat_lt now book.settled || is_subscribed delivery book.standing || is_some (finite.get book.told delivery))))
told_by_event now other book delivery open_book fits =
    cases (eq_by_cmp delivery_cmp delivery other) refl
  where
    quiet : Delivery → Bool
    quiet d = nat_lt now book.settled || is_subscribed d book.standing || is_some (finite.get book.told d)

    passed : (d : Delivery) → is_passed_over now d book ≡ (nat_lt now book.settled || is_subscribed d book.standing || is_some (finite.get book.told d))
    passed d = rw open_book refl

    no_more : (a b : Bool) → a ≡ (a || (false && b))
    no_more true b = refl
    no_more false b = refl

    other_one : (p q : Bool) → eq_by_cmp delivery_cmp delivery other ≡ false
        → is_some (finite.get (if p then book else if q then record book { told = finite.insert book.told other tt } else record book { told_full = true }).told delivery) ≡ is_some (finite.get book.told delivery)
    other_one true q apart = refl
    other_one false true apart = ap (λ v. is_some v) (finite.get-insert deliveries_total book.told other tt delivery ∙ ap (λ b. cond b (Some tt) (finite.get book.told delivery)) apart)
    other_one false false apart = refl

    same_one : (p q : Bool) → is_passed_over now other book ≡ p
        → (if p then book else if q then record book { told = finite.insert book.told other tt } else record book { told_full = true }).told_full ≡ false
        → is_some (finite.get (if p then book else if q then record book { told = finite.insert book.told other tt } else record book { told_full = true }).told other)
        ≡ (is_some (finite.get book.told other) || not p)
    same_one true q is still = right (is_some (finite.get book.told other))
      where
        right : (b : Bool) → b ≡ (b || false)
        right true = refl
        right false = refl
    same_one false true is still = ap (λ v. is_some v) (finite.get-insert deliveries_total book.told other tt other ∙ ap (λ b. cond b (Some tt) (finite.get book.told other)) (own_test deliveries_total other)) ∙ right (is_some (finite.get book.told other))
      where
        right : (b : Bool) → true ≡ (b || true)
        right true = refl
        right false = refl
    same_one false false is still = absurd (cc)

    cases : (t : Bool) → eq_by_cmp delivery_cmp delivery other ≡ t
        → is_some (finite.get (after_event now other book).told delivery)
        ≡ (is_some (finite.get book.told delivery) || (t && not (nat_lt now book.settled || is_subscribed delivery book.standing || is_some (finite.get book.told delivery))))
    cases false apart =
        other_one (is_passed_over now other book) (nat_lt (finite.len book.told) book.limit) apart
        ∙ no_more (is_some (finite.get book.told delivery)) (not (nat_lt now book.settled || is_subscribed delivery book.standing || is_some (finite.get book.told delivery)))
    cases true tie =
        let same : delivery ≡ other = same_by_test exact_deliveries delivery other tie in
        rw same (same_one (is_passed_over now other book) (nat_lt (finite.len book.told) book.limit) refl fits ∙ ap (λ b. is_some (finite.get book.told other) || not b) (passed other))

-- a book that was never full knows what was told
pub told_is : (limit settled : ℕ) (events : List Event) (delivery : Delivery) → (book_of limit settled events).told_full ≡ false
    → is_some (finite.get (book_of limit settled events).told delivery) ≡ is_told_in settled events delivery
told_is limit settled [] delivery fits = ap (λ v. is_some v) (finite.get-empty delivery_cmp delivery)
told_is limit settled (event ∷ earlier) delivery fits =
    by event.shown (not_before event.at event.shown (without_expired event.at (book_of limit settled earlier)) fits) fits
    (told_is limit settled earlier delivery (not_before event.at event.shown (without_expired event.at (book_of limit settled earlier)) fits))
  where
    by : (shown : Shown) → (book_of limit settled earlier).told_full ≡ false → (book_after event.at shown (without_expired event.at (book_of limit settled earlier))).told_full ≡ false
        → is_some (finite.get (book_of limit settled earlier).told delivery) ≡ is_told_in settled earlier delivery
        → is_some (finite.get (book_after event.at shown (without_expired event.at (book_of limit settled earlier))).told delivery)
        ≡ is_told_by settled event.at shown earlier delivery (is_told_in settled earlier delivery)
    by (Entry entry) before still rest =
        told_by_entry event.at entry (without_expired event.at (book_of limit settled earlier)) delivery still ∙ ap (λ b. not (subscribes_for entry.kind entry entry.endpoint delivery) && b) rest
    by (Withdrawn offer) before still rest = rest
    by (BeganAgain address) before still rest = rest
    by (Delivered other) before still rest =
        told_by_event event.at other (without_expired event.at (book_of limit settled earlier)) delivery before still
        ∙ rw (rest, settled_is limit settled earlier, subscribed_is limit settled earlier event.at delivery before) refl

-- and tells of an event what these show
pub told_is_shown : (limit settled : ℕ) (events : List Event) (now : ℕ) (delivery : Delivery) → (book_of limit settled (record { at = now; shown = Delivered delivery } ∷ events)).told_full ≡ false
    → told_of_event now delivery (without_expired now (book_of limit settled events)) ≡ shown_by settled events now delivery
told_is_shown limit settled events now delivery fits =
    let before = not_before now (Delivered delivery) (without_expired now (book_of limit settled events)) fits in
    cases (is_passed_over now delivery (without_expired now (book_of limit settled events))) (nat_lt (finite.len (book_of limit settled events).told) (without_expired now (book_of limit settled events)).limit) refl fits
    ∙ ap (λ b. if not b then Some Unsubscribed else None) (passed before)
  where
    cases : (p q : Bool) → is_passed_over now delivery (without_expired now (book_of limit settled events)) ≡ p
        → (if p then without_expired now (book_of limit settled events)
        else if q then record (without_expired now (book_of limit settled events)) { told = finite.insert (book_of limit settled events).told delivery tt } else record (without_expired now (book_of limit settled events)) { told_full = true }).told_full ≡ false
        → (if p then None else if q then Some Unsubscribed else Some Full) ≡ (if not p then Some Unsubscribed else None)
    cases true q is still = refl
    cases false true is still = refl
    cases false false is still = absurd (cc)

    passed : (book_of limit settled events).told_full ≡ false
        → is_passed_over now delivery (without_expired now (book_of limit settled events)) ≡ (nat_lt now settled || is_subscribed_in events now delivery || is_told_in settled events delivery)
    passed before = rw (before, settled_is limit settled events, subscribed_is limit settled events now delivery before, told_is limit settled events delivery before) refl
