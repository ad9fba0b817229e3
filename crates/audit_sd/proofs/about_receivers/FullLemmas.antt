-- That a book is full is told once.
use Rattle.std.proofs.Common.{◌≡◌, ℕ, ◌==◌, nat_lt, Bool, true, false, if◌then◌else◌, Option, None, Some, refl}
use Rattle.std.specs.FinMap as finite
use Rattle.std.specs.declared.net.socket_addr.SocketAddrV4.{SocketAddrV4}
use Rattle.someip_tables.specs.hashed.Rooms.{may_hold, told_when_full}
use Rattle.audit_sd.specs.declared.subscriptions.entry.EntryKind.{EntryKind}
use Rattle.audit_sd.specs.declared.subscriptions.entry.EntryKind.TheVariants.{Answer, Subscribe}
use Rattle.audit_sd.specs.declared.receivers.delivery.Delivery.{Delivery}
use Rattle.audit_sd.specs.declared.receivers.entry.ReceiverEntry.{ReceiverEntry}
use Rattle.audit_sd.specs.declared.receivers.finding.Finding.TheVariants.{Full, Unsubscribed}
use Rattle.audit_sd.specs.receivers.ReceiverRules.{standing_from}
use Rattle.audit_sd.specs.receivers.ReceiverTables.{Receivers, after, after_entry, after_event, after_subscribe, is_passed_over, told_by, told_of, told_of_event, told_of_subscribe, untold}

subscribe_noted : (now : ℕ) (entry : ReceiverEntry) (place : Option SocketAddrV4) (book : Receivers) → told_of_subscribe entry.key place book ≡ Some Full
    → (book.told_full ≡ false) × ((after_subscribe now entry place book).told_full ≡ true)
subscribe_noted now entry None book is = absurd (cc)
subscribe_noted now entry (Some place) book is = cases (may_hold book.limit book.standing entry.key) book.told_full is
  where
    cases : (b t : Bool) → (if b then None else told_when_full Full t) ≡ Some Full
        → (t ≡ false)
        × ((if b then record book { standing = finite.insert book.standing entry.key (standing_from now entry.ttl place); told = untold entry.key place book.told } else record book { told_full = true }).told_full ≡ true)
    cases true t e = absurd (cc)
    cases false true e = absurd (cc)
    cases false false e = (refl, refl)

kind_noted : (now : ℕ) (kind : EntryKind) (entry : ReceiverEntry) (book : Receivers) → told_of kind entry book ≡ Some Full → (book.told_full ≡ false) × ((after now kind entry book).told_full ≡ true)
kind_noted now Answer entry book is = absurd (cc)
kind_noted now Subscribe entry book is = subscribe_noted now entry entry.endpoint book is

pub entry_noted : (now : ℕ) (entry : ReceiverEntry) (book : Receivers) → told_by entry book ≡ Some Full → (book.told_full ≡ false) × ((after_entry now entry book).told_full ≡ true)
entry_noted now entry book is = cases (entry.ttl == 0) is
  where
    cases : (b : Bool) → (if b then None else told_of entry.kind entry book) ≡ Some Full
        → (book.told_full ≡ false) × ((if b then record book { standing = finite.remove book.standing entry.key } else after now entry.kind entry book).told_full ≡ true)
    cases true e = absurd (cc)
    cases false e = kind_noted now entry.kind entry book e

-- an event that is not passed over comes to a book that never was full
not_full : (now : ℕ) (delivery : Delivery) (book : Receivers) → is_passed_over now delivery book ≡ false → (t : Bool) → book.told_full ≡ t → t ≡ false
not_full now delivery book unpassed false is = refl
not_full now delivery book unpassed true is = let passed : is_passed_over now delivery book ≡ true = rw is refl in absurd (cc)

pub event_noted : (now : ℕ) (delivery : Delivery) (book : Receivers) → told_of_event now delivery book ≡ Some Full → (book.told_full ≡ false) × ((after_event now delivery book).told_full ≡ true)
event_noted now delivery book is = cases (is_passed_over now delivery book) (nat_lt (finite.len book.told) book.limit) refl is
  where
    cases : (a b : Bool) → is_passed_over now delivery book ≡ a → (if a then None else if b then Some Unsubscribed else Some Full) ≡ Some Full
        → (book.told_full ≡ false) × ((if a then book else if b then record book { told = finite.insert book.told delivery tt } else record book { told_full = true }).told_full ≡ true)
    cases true b passed e = absurd (cc)
    cases false true passed e = absurd (cc)
    cases false false passed e = (not_full now delivery book passed book.told_full refl, refl)

pub entry_told : (entry : ReceiverEntry) (place : SocketAddrV4) (book : Receivers) → entry.kind ≡ Subscribe → (entry.ttl == 0) ≡ false → entry.endpoint ≡ Some place
    → may_hold book.limit book.standing entry.key ≡ false → book.told_full ≡ false → told_by entry book ≡ Some Full
entry_told entry place book kind lasts at refused fits = rw (lasts, kind, at, refused, fits) refl

pub event_told : (now : ℕ) (delivery : Delivery) (book : Receivers) → is_passed_over now delivery book ≡ false → nat_lt (finite.len book.told) book.limit ≡ false
    → told_of_event now delivery book ≡ Some Full
event_told now delivery book unpassed full = rw (unpassed, full) refl
