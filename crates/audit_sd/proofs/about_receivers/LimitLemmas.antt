-- A book keeps its limits.
use Rattle.std.proofs.Common.{◌≡◌, ℕ, ◌==◌, ◌<◌, ◌≤◌, nat_lt, Bool, true, false, if◌then◌else◌, not, ◌||◌, List, [], ◌∷◌, Option, None, Some, is_some, refl, arith}
use Rattle.std.proofs.lemmas.Bool.{ltb-true}
use Rattle.std.specs.FinMap as finite
use Rattle.std.specs.declared.net.socket_addr.SocketAddrV4.{SocketAddrV4}
use Rattle.someip_tables.specs.declared.lasting.Lasting.{Lasting}
use Rattle.someip_tables.specs.Deadlines.{has_passed}
use Rattle.someip_tables.proofs.Entries.{len-retain-≤, len-retain_keys-≤}
use Rattle.someip_tables.proofs.MapLaws.{len-insert-≤, len-insert_known, len-remove-≤}
use Rattle.audit_sd.specs.declared.subscriptions.entry.EntryKind.{EntryKind}
use Rattle.audit_sd.specs.declared.subscriptions.entry.EntryKind.TheVariants.{Answer, Subscribe}
use Rattle.audit_sd.specs.declared.subscriptions.key.SubscriptionKey.{SubscriptionKey}
use Rattle.audit_sd.specs.subscriptions.SubscriptionKeys.{subscription_cmp}
use Rattle.audit_sd.specs.subscriptions.SubscriptionOrder.{subscriptions_total, exact_subscriptions}
use Rattle.audit_sd.specs.subscriptions.SubscribeRules.{is_of}
use Rattle.audit_sd.specs.declared.receivers.delivery.Delivery.{Delivery}
use Rattle.audit_sd.specs.declared.receivers.entry.ReceiverEntry.{ReceiverEntry}
use Rattle.audit_sd.specs.receivers.DeliveryKeys.{delivery_cmp}
use Rattle.audit_sd.specs.receivers.DeliveryOrder.{deliveries_total, exact_deliveries}
use Rattle.audit_sd.specs.receivers.ReceiverRules.{goes_by, is_to, standing_from}
use Rattle.audit_sd.specs.receivers.ReceiverTables.{Receivers, acked, after, after_entry, after_event, after_subscribe, is_passed_over, untold, without_expired}
use Rattle.audit_sd.specs.receivers.ReceiverHistories.{BeganAgain, Delivered, Entry, Event, Shown, Withdrawn, book_after, book_of}

-- no more subscriptions stand, and no more events were told, than the limit, which is this
abbrev pub Fits : ℕ → Receivers → Type 0
Fits limit book = (book.limit ≡ limit) × (finite.len book.standing ≤ limit) × (finite.len book.told ≤ limit)

subscribe_fits : (limit now : ℕ) (entry : ReceiverEntry) (place : Option SocketAddrV4) (book : Receivers) → Fits limit book → Fits limit (after_subscribe now entry place book)
subscribe_fits limit now entry None book fits = fits
subscribe_fits limit now entry (Some place) book fits = cases (is_some (finite.get book.standing entry.key)) (nat_lt (finite.len book.standing) book.limit) refl refl
  where
    taken : finite.len (finite.insert book.standing entry.key (standing_from now entry.ttl place)) ≤ limit
        → Fits limit (record book { standing = finite.insert book.standing entry.key (standing_from now entry.ttl place); told = untold entry.key place book.told })
    taken few =
        let less = len-retain_keys-≤ deliveries_total exact_deliveries book.told (λ delivery. not (goes_by delivery entry.key place)) in
        (fits.0, few, omega (arith, less, fits.2))

    cases : (a b : Bool) → is_some (finite.get book.standing entry.key) ≡ a → nat_lt (finite.len book.standing) book.limit ≡ b
        → Fits limit (if a || b then record book { standing = finite.insert book.standing entry.key (standing_from now entry.ttl place); told = untold entry.key place book.told } else record book { told_full = true })
    cases true b held room = taken (rw (finite.len-insert subscriptions_total book.standing entry.key (standing_from now entry.ttl place), held) fits.1)
    cases false true held room =
        let below : finite.len book.standing < book.limit = ltb-true (finite.len book.standing) book.limit room in
        taken (rw (finite.len-insert subscriptions_total book.standing entry.key (standing_from now entry.ttl place), held) (omega (arith, below, fits.0)))
    cases false false held room = fits

acked_fits : (now : ℕ) (entry : ReceiverEntry) (book : Receivers) → finite.len (acked now entry (finite.get book.standing entry.key) book.standing) ≤ finite.len book.standing
acked_fits now entry book = cases (finite.get book.standing entry.key) refl
  where
    cases : (v : Option (Lasting SocketAddrV4)) → finite.get book.standing entry.key ≡ v → finite.len (acked now entry v book.standing) ≤ finite.len book.standing
    cases None is = omega arith
    cases (Some lasting) is =
        let same = len-insert_known subscriptions_total exact_subscriptions book.standing entry.key (standing_from now entry.ttl lasting.value) lasting is in
        omega (arith, same)

kind_fits : (limit now : ℕ) (kind : EntryKind) (entry : ReceiverEntry) (book : Receivers) → Fits limit book → Fits limit (after now kind entry book)
kind_fits limit now Subscribe entry book fits = subscribe_fits limit now entry entry.endpoint book fits
kind_fits limit now Answer entry book fits = (fits.0, (let less = acked_fits now entry book in let few : finite.len (acked now entry (finite.get book.standing entry.key) book.standing) ≤ limit = omega (arith, less, fits.1) in few), fits.2)

entry_fits : (limit now : ℕ) (entry : ReceiverEntry) (book : Receivers) → Fits limit book → Fits limit (after_entry now entry book)
entry_fits limit now entry book fits = cases (entry.ttl == 0)
  where
    cases : (b : Bool) → Fits limit (if b then record book { standing = finite.remove book.standing entry.key } else after now entry.kind entry book)
    cases true = let less = len-remove-≤ subscriptions_total exact_subscriptions book.standing entry.key in (fits.0, omega (arith, less, fits.1), fits.2)
    cases false = kind_fits limit now entry.kind entry book fits

dropped_fits : (limit : ℕ) (p : SubscriptionKey → Bool) (book : Receivers) → Fits limit book → Fits limit (record book { standing = finite.retain_keys book.standing p })
dropped_fits limit p book fits = let less = len-retain_keys-≤ subscriptions_total exact_subscriptions book.standing p in (fits.0, omega (arith, less, fits.1), fits.2)

event_fits : (limit now : ℕ) (delivery : Delivery) (book : Receivers) → Fits limit book → Fits limit (after_event now delivery book)
event_fits limit now delivery book fits = cases (is_passed_over now delivery book) (nat_lt (finite.len book.told) book.limit) refl
  where
    cases : (a b : Bool) → nat_lt (finite.len book.told) book.limit ≡ b
        → Fits limit (if a then book else if b then record book { told = finite.insert book.told delivery tt } else record book { told_full = true })
    cases true b room = fits
    cases false true room =
        let below : finite.len book.told < book.limit = ltb-true (finite.len book.told) book.limit room in
        let more = len-insert-≤ deliveries_total exact_deliveries book.told delivery tt in
        (fits.0, fits.1, omega (arith, below, more, fits.0))
    cases false false room = fits

shown_fits : (limit now : ℕ) (shown : Shown) (book : Receivers) → Fits limit book → Fits limit (book_after now shown book)
shown_fits limit now (Entry entry) book fits = entry_fits limit now entry book fits
shown_fits limit now (Withdrawn offer) book fits = dropped_fits limit (λ key. not (is_to offer key)) book fits
shown_fits limit now (BeganAgain address) book fits = dropped_fits limit (λ key. not (is_of address key)) book fits
shown_fits limit now (Delivered delivery) book fits = event_fits limit now delivery book fits

expired_fits : (limit now : ℕ) (book : Receivers) → Fits limit book → Fits limit (without_expired now book)
expired_fits limit now book fits =
    let less = len-retain-≤ subscriptions_total exact_subscriptions book.standing (λ _ lasting. not (has_passed now lasting.until)) in
    (fits.0, omega (arith, less, fits.1), fits.2)

pub keeps_limits : (limit settled : ℕ) (events : List Event) → Fits limit (book_of limit settled events)
keeps_limits limit settled [] = (refl, rw (finite.len-empty subscription_cmp (Lasting SocketAddrV4)) (omega arith), rw (finite.len-empty delivery_cmp (Unit {0})) (omega arith))
keeps_limits limit settled (event ∷ earlier) = shown_fits limit event.at event.shown (without_expired event.at (book_of limit settled earlier)) (expired_fits limit event.at (book_of limit settled earlier) (keeps_limits limit settled earlier))

pub few_stand : (limit settled : ℕ) (events : List Event) → finite.len (book_of limit settled events).standing ≤ limit
few_stand limit settled events = (keeps_limits limit settled events).1

pub few_told : (limit settled : ℕ) (events : List Event) → finite.len (book_of limit settled events).told ≤ limit
few_told limit settled events = (keeps_limits limit settled events).2
