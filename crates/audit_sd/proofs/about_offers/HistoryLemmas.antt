-- What a book holds of the events so far.
use Rattle.std.specs.Prelude.{◌≢◌}
use Rattle.std.proofs.Common.{◌≡◌, ℕ, ◌==◌, Bool, true, false, cond, if◌then◌else◌, not, List, [], ◌∷◌, Option, None, Some, refl, sym, ap, ◌∙◌}
use Rattle.std.specs.Ordering.{eq_by_cmp}
use Rattle.std.specs.FinMap as finite
use Rattle.std.specs.declared.net.ipv4_addr.Ipv4Addr.{Ipv4Addr}
use Rattle.std.specs.declared.net.socket_addr.SocketAddrV4.{SocketAddrV4}
use Rattle.someip_tables.proofs.Entries.{get-retain, same_by_test}
use Rattle.someip_tables.specs.hashed.Rooms.{may_hold, told_when_full}
use Rattle.audit_sd.specs.declared.offers.entry.OfferEntry.{OfferEntry}
use Rattle.audit_sd.specs.declared.offers.entry.Standing.{Standing}
use Rattle.audit_sd.specs.declared.offers.finding.Finding.TheVariants.{Full, Moved}
use Rattle.audit_sd.specs.declared.offers.key.OfferKey.{OfferKey}
use Rattle.audit_sd.specs.offers.OfferKeys.{offer_cmp}
use Rattle.audit_sd.specs.offers.OfferOrder.{offers_total, exact_offers}
use Rattle.audit_sd.specs.offers.OfferRules.{has_expired, is_of, is_renewed_by, moved_by, offered_at, sender_of, unless_expired, unless_of}
use Rattle.audit_sd.specs.offers.OfferTables.{OfferTable, Offers, after_entry, after_offer, is_offered_by, stopped, told_by, told_of_offer}
use Rattle.audit_sd.specs.offers.OfferHistories.{BeganAgain, Entry, Event, Shown, book_after, book_of, changed_by, offered, shown_by, shown_by_offer, standing_after, standing_in, without_expired}

-- ---- one entry

-- a StopOffer ends what is of its sender
stopped_here : (sender : Ipv4Addr) (v : Option Standing) (b : Bool) → is_offered_by sender v ≡ b → cond b None v ≡ unless_of sender v
stopped_here sender None true is = refl
stopped_here sender None false is = refl
stopped_here sender (Some offer) b is = cases b (is_of sender offer) (sym is)
  where
    cases : (c d : Bool) → c ≡ d → cond c None (Some offer) ≡ cond (not d) (Some offer) None
    cases true true e = refl
    cases false false e = refl
    cases true false e = absurd (cc)
    cases false true e = absurd (cc)

get-stopped : (entry : OfferEntry) (offers : Offers) (key : OfferKey)
    → finite.get (stopped entry offers) key ≡ (if eq_by_cmp offer_cmp key entry.key then unless_of (sender_of entry) (finite.get offers key) else finite.get offers key)
get-stopped entry offers key = cases (is_offered_by (sender_of entry) (finite.get offers entry.key)) refl
  where
    at : (b t : Bool) → is_offered_by (sender_of entry) (finite.get offers entry.key) ≡ b → eq_by_cmp offer_cmp key entry.key ≡ t
        → cond b (cond t None (finite.get offers key)) (finite.get offers key) ≡ cond t (unless_of (sender_of entry) (finite.get offers key)) (finite.get offers key)
    at b true is tie =
        let same : key ≡ entry.key = same_by_test exact_offers key entry.key tie in
        let here : is_offered_by (sender_of entry) (finite.get offers key) ≡ b = ap (λ k. is_offered_by (sender_of entry) (finite.get offers k)) same ∙ is in
        stopped_here (sender_of entry) (finite.get offers key) b here
    at true false is tie = refl
    at false false is tie = refl

    cases : (b : Bool) → is_offered_by (sender_of entry) (finite.get offers entry.key) ≡ b
        → finite.get (cond b (finite.remove offers entry.key) offers) key ≡ cond (eq_by_cmp offer_cmp key entry.key) (unless_of (sender_of entry) (finite.get offers key)) (finite.get offers key)
    cases true is = finite.get-remove offers_total offers entry.key key ∙ at true (eq_by_cmp offer_cmp key entry.key) is refl
    cases false is = at false (eq_by_cmp offer_cmp key entry.key) is refl

either : {X : Type 0} (t : Bool) (x : X) → x ≡ cond t x x
either true x = refl
either false x = refl

get-offered : (now : ℕ) (entry : OfferEntry) (place : Option SocketAddrV4) (book : OfferTable) (key : OfferKey) → (after_offer now entry place book).told_full ≡ false
    → finite.get (after_offer now entry place book).standing key ≡ (if eq_by_cmp offer_cmp key entry.key then offered now entry place (finite.get book.standing key) else finite.get book.standing key)
get-offered now entry None book key fits = either (eq_by_cmp offer_cmp key entry.key) (finite.get book.standing key)
get-offered now entry (Some place) book key fits = cases (may_hold book.limit book.standing entry.key) fits
  where
    cases : (b : Bool) → (if b then record book { standing = finite.insert book.standing entry.key (offered_at now entry place) } else record book { told_full = true }).told_full ≡ false
        → finite.get (if b then record book { standing = finite.insert book.standing entry.key (offered_at now entry place) } else record book { told_full = true }).standing key
        ≡ cond (eq_by_cmp offer_cmp key entry.key) (Some (offered_at now entry place)) (finite.get book.standing key)
    cases true still = finite.get-insert offers_total book.standing entry.key (offered_at now entry place) key
    cases false still = absurd (cc)

get-entry : (now : ℕ) (entry : OfferEntry) (book : OfferTable) (key : OfferKey) → (after_entry now entry book).told_full ≡ false
    → finite.get (after_entry now entry book).standing key ≡ (if eq_by_cmp offer_cmp key entry.key then standing_after now entry (finite.get book.standing key) else finite.get book.standing key)
get-entry now entry book key fits = cases (entry.ttl == 0) fits
  where
    cases : (b : Bool) → (if b then record book { standing = stopped entry book.standing } else after_offer now entry entry.endpoint book).told_full ≡ false
        → finite.get (if b then record book { standing = stopped entry book.standing } else after_offer now entry entry.endpoint book).standing key
        ≡ cond (eq_by_cmp offer_cmp key entry.key) (if b then unless_of (sender_of entry) (finite.get book.standing key) else offered now entry entry.endpoint (finite.get book.standing key)) (finite.get book.standing key)
    cases true still = get-stopped entry book.standing key
    cases false still = get-offered now entry entry.endpoint book key still

-- ---- whether a book is full

full_after_offer : (now : ℕ) (entry : OfferEntry) (place : Option SocketAddrV4) (book : OfferTable) → book.told_full ≡ true → (after_offer now entry place book).told_full ≡ true
full_after_offer now entry None book is = is
full_after_offer now entry (Some place) book is = cases (may_hold book.limit book.standing entry.key)
  where
    cases : (b : Bool) → (if b then record book { standing = finite.insert book.standing entry.key (offered_at now entry place) } else record book { told_full = true }).told_full ≡ true
    cases true = is
    cases false = refl

pub full_stays : (now : ℕ) (entry : OfferEntry) (book : OfferTable) → book.told_full ≡ true → (after_entry now entry book).told_full ≡ true
full_stays now entry book is = cases (entry.ttl == 0)
  where
    cases : (b : Bool) → (if b then record book { standing = stopped entry book.standing } else after_offer now entry entry.endpoint book).told_full ≡ true
    cases true = is
    cases false = full_after_offer now entry entry.endpoint book is

-- a book that is not full after something was shown was not full before
not_before : (now : ℕ) (shown : Shown) (book : OfferTable) (b : Bool) → book.told_full ≡ b → (book_after now shown book).told_full ≡ false → book.told_full ≡ false
not_before now shown book false is fits = is
not_before now (Entry entry) book true is fits = let full = full_stays now entry book is in absurd (cc)
not_before now (BeganAgain sender) book true is fits = fits

-- ---- all events

get-shown : (now : ℕ) (shown : Shown) (book : OfferTable) (key : OfferKey) → (book_after now shown book).told_full ≡ false
    → finite.get (book_after now shown book).standing key ≡ changed_by now shown key (finite.get book.standing key)
get-shown now (Entry entry) book key fits = get-entry now entry book key fits
get-shown now (BeganAgain sender) book key fits = get-retain offers_total exact_offers book.standing (λ _ offer. not (is_of sender offer)) key

-- a book that was never full holds the offers that stand
pub stands : (limit : ℕ) (events : List Event) (key : OfferKey) → (book_of limit events).told_full ≡ false → finite.get (book_of limit events).standing key ≡ standing_in events key
stands limit [] key fits = finite.get-empty offer_cmp key
stands limit (event ∷ earlier) key fits =
    let before = not_before event.at event.shown (without_expired event.at (book_of limit earlier)) (book_of limit earlier).told_full refl fits in
    get-shown event.at event.shown (without_expired event.at (book_of limit earlier)) key fits
    ∙ ap (changed_by event.at event.shown key) (get-retain offers_total exact_offers (book_of limit earlier).standing (λ _ offer. not (has_expired event.at offer)) key ∙ ap (unless_expired event.at) (stands limit earlier key before))

told_offer : (limit : ℕ) (events : List Event) (now : ℕ) (entry : OfferEntry) (place : Option SocketAddrV4) → (book_of limit events).told_full ≡ false
    → (after_offer now entry place (without_expired now (book_of limit events))).told_full ≡ false
    → told_of_offer entry place (without_expired now (book_of limit events)) ≡ shown_by_offer events now entry place
told_offer limit events now entry None before fits = refl
told_offer limit events now entry (Some place) before fits = cases (may_hold (without_expired now (book_of limit events)).limit (without_expired now (book_of limit events)).standing entry.key) fits
  where
    cases : (b : Bool)
        → (if b then record (without_expired now (book_of limit events)) { standing = finite.insert (without_expired now (book_of limit events)).standing entry.key (offered_at now entry place) }
        else record (without_expired now (book_of limit events)) { told_full = true }).told_full ≡ false
        → (if b then moved_by entry place (finite.get (without_expired now (book_of limit events)).standing entry.key) else told_when_full Full (book_of limit events).told_full)
        ≡ moved_by entry place (unless_expired now (standing_in events entry.key))
    cases true still =
        ap (moved_by entry place) (get-retain offers_total exact_offers (book_of limit events).standing (λ _ offer. not (has_expired now offer)) entry.key ∙ ap (unless_expired now) (stands limit events entry.key before))
    cases false still = absurd (cc)

-- and tells of an entry what these show
pub told : (limit : ℕ) (events : List Event) (now : ℕ) (entry : OfferEntry) → (book_of limit (record { at = now; shown = Entry entry } ∷ events)).told_full ≡ false
    → told_by entry (without_expired now (book_of limit events)) ≡ shown_by events now entry
told limit events now entry fits = cases (entry.ttl == 0) (not_before now (Entry entry) (without_expired now (book_of limit events)) (book_of limit events).told_full refl fits) fits
  where
    cases : (b : Bool) → (book_of limit events).told_full ≡ false
        → (if b then record (without_expired now (book_of limit events)) { standing = stopped entry (without_expired now (book_of limit events)).standing }
        else after_offer now entry entry.endpoint (without_expired now (book_of limit events))).told_full ≡ false
        → (if b then None else told_of_offer entry entry.endpoint (without_expired now (book_of limit events))) ≡ (if b then None else shown_by_offer events now entry entry.endpoint)
    cases true before still = refl
    cases false before still = told_offer limit events now entry entry.endpoint before still

-- ---- that it is full is told once

not_full : (entry : OfferEntry) (place : SocketAddrV4) (v : Option Standing) → moved_by entry place v ≢ Some Full
not_full entry place None is = cc
not_full entry place (Some offer) is = cases (is_renewed_by entry place offer) is
  where
    cases : (b : Bool) → (if b then None else Some Moved) ≡ Some Full → ⊥
    cases true e = cc
    cases false e = cc

full_by_offer : (now : ℕ) (entry : OfferEntry) (place : Option SocketAddrV4) (book : OfferTable) → told_of_offer entry place book ≡ Some Full
    → (book.told_full ≡ false) × ((after_offer now entry place book).told_full ≡ true)
full_by_offer now entry None book is = absurd (cc)
full_by_offer now entry (Some place) book is = cases (may_hold book.limit book.standing entry.key) book.told_full is
  where
    cases : (b t : Bool) → (if b then moved_by entry place (finite.get book.standing entry.key) else told_when_full Full t) ≡ Some Full
        → (t ≡ false) × ((if b then record book { standing = finite.insert book.standing entry.key (offered_at now entry place) } else record book { told_full = true }).told_full ≡ true)
    cases true t e = absurd (not_full entry place (finite.get book.standing entry.key) e)
    cases false true e = absurd (cc)
    cases false false e = (refl, refl)

pub full_noted : (now : ℕ) (entry : OfferEntry) (book : OfferTable) → told_by entry book ≡ Some Full → (book.told_full ≡ false) × ((after_entry now entry book).told_full ≡ true)
full_noted now entry book is = cases (entry.ttl == 0) is
  where
    cases : (b : Bool) → (if b then None else told_of_offer entry entry.endpoint book) ≡ Some Full
        → (book.told_full ≡ false) × ((if b then record book { standing = stopped entry book.standing } else after_offer now entry entry.endpoint book).told_full ≡ true)
    cases true e = absurd (cc)
    cases false e = full_by_offer now entry entry.endpoint book e

pub full_told : (entry : OfferEntry) (place : SocketAddrV4) (book : OfferTable) → (entry.ttl == 0) ≡ false → entry.endpoint ≡ Some place
    → may_hold book.limit book.standing entry.key ≡ false → book.told_full ≡ false → told_by entry book ≡ Some Full
full_told entry place book offers at refused fits = rw (offers, at, refused, fits) refl
