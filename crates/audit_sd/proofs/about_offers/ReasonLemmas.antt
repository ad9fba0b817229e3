-- Why something is told of an offer.
use Rattle.std.proofs.Common.{◌≡◌, ℕ, ◌==◌, Bool, true, false, cond, if◌then◌else◌, not, ◌||◌, List, [], ◌∷◌, ◌++◌, Option, None, Some, refl, sym, ap, ◌∙◌}
use Rattle.std.specs.Option.{is_none}
use Rattle.std.specs.Ordering.{eq_by_cmp}
use Rattle.std.specs.FinMap as finite
use Rattle.std.specs.declared.net.socket_addr.SocketAddrV4.{SocketAddrV4}
use Rattle.someip_tables.specs.Retained.{kept_if}
use Rattle.someip_tables.proofs.Entries.{get-retain, own_test, same_by_test}
use Rattle.audit_sd.specs.declared.offers.entry.OfferEntry.{OfferEntry}
use Rattle.audit_sd.specs.declared.offers.entry.Standing.{Standing}
use Rattle.audit_sd.specs.declared.offers.finding.Finding.TheVariants.{Moved}
use Rattle.audit_sd.specs.declared.offers.key.OfferKey.{OfferKey}
use Rattle.audit_sd.specs.offers.OfferKeys.{offer_cmp}
use Rattle.audit_sd.specs.offers.OfferOrder.{offers_total, exact_offers}
use Rattle.audit_sd.specs.offers.OfferRules.{has_expired, is_of, is_renewed_by, moved_by, offered_at, sender_of, unless_expired, unless_of}
use Rattle.audit_sd.specs.offers.OfferTables.{ended_by}
use Rattle.audit_sd.specs.offers.OfferHistories.{BeganAgain, Entry, Event, Shown, book_of, changed_by, expiring_in, offered, shown_by, shown_by_offer, standing_in, without_expired}
use Rattle.audit_sd.proofs.about_offers.HistoryLemmas.{stands}
use Rattle.audit_sd.specs.offers.OfferReasons.{IsStanding, Moves, NoneSince, leaves}

-- ---- what a test keeps

kept : (p : Standing → Bool) (v : Option Standing) (offer : Standing) → kept_if p v ≡ Some offer → (v ≡ Some offer) × (p offer ≡ true)
kept p None offer is = absurd (cc)
kept p (Some held) offer is = cases (p held) refl is
  where
    cases : (b : Bool) → p held ≡ b → cond b (Some held) None ≡ Some offer → (Some held ≡ Some offer) × (p offer ≡ true)
    cases true passes e = let same : held ≡ offer = cc in (e, ap p (sym same) ∙ passes)
    cases false passes e = absurd (cc)

not_true : (b : Bool) → not b ≡ true → b ≡ false
not_true true is = absurd (cc)
not_true false is = refl

-- ---- one event

-- it leaves an offer as it is, or it is an Offer by which the offer stands
abbrev Made : OfferKey → Standing → ℕ → Shown → Type 0
Made key offer at (Entry entry) =
    (place : SocketAddrV4) × (entry.key ≡ key) × ((entry.ttl == 0) ≡ false) × (entry.endpoint ≡ Some place) × (offered_at at entry place ≡ offer)
Made key offer at (BeganAgain sender) = ⊥

data Change (key : OfferKey) (offer : Standing) (at : ℕ) (shown : Shown) (before : Option Standing) : Type 0 where
  left : before ≡ Some offer → leaves key offer shown ≡ true → Change key offer at shown before
  made : Made key offer at shown → Change key offer at shown before

changed : (key : OfferKey) (offer : Standing) (at : ℕ) (shown : Shown) (before : Option Standing) → changed_by at shown key before ≡ Some offer → Change key offer at shown before
changed key offer at (BeganAgain sender) before is = let stays = kept (λ o. not (is_of sender o)) before offer is in left stays.0 stays.1
changed key offer at (Entry entry) before is = cases (eq_by_cmp offer_cmp key entry.key) (entry.ttl == 0) refl refl is
  where
    offers : (z : Bool) → (entry.ttl == 0) ≡ z → z ≡ false → eq_by_cmp offer_cmp key entry.key ≡ true → (v : Option SocketAddrV4) → entry.endpoint ≡ v → offered at entry v before ≡ Some offer → Change key offer at (Entry entry) before
    offers z is_z above tie None none e = left e (rw (tie, is_z ∙ above, none) refl)
    offers z is_z above tie (Some place) some e = made (place, sym (same_by_test exact_offers key entry.key tie), is_z ∙ above, some, (let s : offered_at at entry place ≡ offer = cc in s))

    cases : (t z : Bool) → eq_by_cmp offer_cmp key entry.key ≡ t → (entry.ttl == 0) ≡ z
        → cond t (if z then unless_of (sender_of entry) before else offered at entry entry.endpoint before) before ≡ Some offer → Change key offer at (Entry entry) before
    cases false z tie is_z e = left e (rw tie refl)
    cases true true tie is_z e = let stays = kept (λ o. not (is_of (sender_of entry) o)) before offer e in left stays.0 (rw (tie, is_z) stays.1)
    cases true false tie is_z e = offers false is_z refl tie entry.endpoint refl e

-- what leaves an offer changes nothing
unchanged : (key : OfferKey) (offer : Standing) (at : ℕ) (shown : Shown) → leaves key offer shown ≡ true → changed_by at shown key (Some offer) ≡ Some offer
unchanged key offer at (BeganAgain sender) is = rw is refl
unchanged key offer at (Entry entry) is = cases (eq_by_cmp offer_cmp key entry.key) (entry.ttl == 0) is
  where
    nowhere : (v : Option SocketAddrV4) → is_none v ≡ true → offered at entry v (Some offer) ≡ Some offer
    nowhere None e = refl
    nowhere (Some place) e = absurd (cc)

    cases : (t z : Bool) → (not t || (if z then not (is_of (sender_of entry) offer) else is_none entry.endpoint)) ≡ true
        → cond t (if z then unless_of (sender_of entry) (Some offer) else offered at entry entry.endpoint (Some offer)) (Some offer) ≡ Some offer
    cases false z e = refl
    cases true true e = rw e refl
    cases true false e = nowhere entry.endpoint e

-- ---- all events

further : (key : OfferKey) (offer : Standing) (event : Event) (earlier : List Event) → has_expired event.at offer ≡ false → leaves key offer event.shown ≡ true → IsStanding key offer earlier → IsStanding key offer (event ∷ earlier)
further key offer event earlier stands leaves_it one =
    (event ∷ one.0, one.1, one.2, one.3, one.4, ap (λ es. event ∷ es) one.5, one.6, one.7, one.8, one.9, (stands, leaves_it, one.10))

pub standing_is : (key : OfferKey) (offer : Standing) (events : List Event) → standing_in events key ≡ Some offer → IsStanding key offer events
standing_is key offer [] is = absurd (cc)
standing_is key offer (event ∷ earlier) is =
    by event.shown refl (changed key offer event.at event.shown (unless_expired event.at (standing_in earlier key)) is) (standing_is key offer earlier)
  where
    begun : (shown : Shown) → event.shown ≡ shown → Made key offer event.at shown → IsStanding key offer (event ∷ earlier)
    begun (BeganAgain sender) same it = absurd it
    begun (Entry entry) same it =
        ([], event.at, entry, it.0, earlier, ap (λ (s : Shown). record { at = event.at; shown = s } ∷ earlier) same, it.1, it.2, it.3, it.4, tt)

    by : (shown : Shown) → event.shown ≡ shown → Change key offer event.at event.shown (unless_expired event.at (standing_in earlier key)) → (standing_in earlier key ≡ Some offer → IsStanding key offer earlier) → IsStanding key offer (event ∷ earlier)
    by shown same (left before leaves_it) rest =
        let stays = kept (λ o. not (has_expired event.at o)) (standing_in earlier key) offer before in
        further key offer event earlier (not_true (has_expired event.at offer) stays.1) leaves_it (rest stays.0)
    by shown same (made it) rest = begun event.shown refl it

stands_on : (key : OfferKey) (offer : Standing) (newer rest : List Event) → standing_in rest key ≡ Some offer → NoneSince key offer newer → standing_in (newer ++ rest) key ≡ Some offer
stands_on key offer [] rest is since = is
stands_on key offer (event ∷ newer) rest is since =
    ap (λ v. changed_by event.at event.shown key (unless_expired event.at v)) (stands_on key offer newer rest is since.2)
    ∙ rw since.0 (unchanged key offer event.at event.shown since.1)

pub is_standing : (key : OfferKey) (offer : Standing) (events : List Event) → IsStanding key offer events → standing_in events key ≡ Some offer
is_standing key offer events one =
    ap (λ es. standing_in es key) one.5 ∙ stands_on key offer one.0 (record { at = one.1; shown = Entry one.2 } ∷ one.4) (begins one.6 one.7 one.8 one.9) one.10
  where
    begins : one.2.key ≡ key → (one.2.ttl == 0) ≡ false → one.2.endpoint ≡ Some one.3 → offered_at one.1 one.2 one.3 ≡ offer → standing_in (record { at = one.1; shown = Entry one.2 } ∷ one.4) key ≡ Some offer
    begins same above place made_it =
        let tie : eq_by_cmp offer_cmp key one.2.key ≡ true = ap (eq_by_cmp offer_cmp key) same ∙ own_test offers_total key in
        rw (tie, above, place) (ap (λ o. Some o) made_it)

-- ---- the findings

pub expired_is : (now : ℕ) (key : OfferKey) (offer : Standing) (events : List Event) → expiring_in events now key ≡ Some offer → IsStanding key offer events × (has_expired now offer ≡ true)
expired_is now key offer events is = let late = kept (has_expired now) (standing_in events key) offer is in (standing_is key offer events late.0, late.1)

pub is_expired : (now : ℕ) (key : OfferKey) (offer : Standing) (events : List Event) → IsStanding key offer events → has_expired now offer ≡ true → expiring_in events now key ≡ Some offer
is_expired now key offer events stands late = ap (kept_if (has_expired now)) (is_standing key offer events stands) ∙ rw late refl

moved_offer : (entry : OfferEntry) (place : SocketAddrV4) (v : Option Standing) → moved_by entry place v ≡ Some Moved → (offer : Standing) × (v ≡ Some offer) × (is_renewed_by entry place offer ≡ false)
moved_offer entry place None is = absurd (cc)
moved_offer entry place (Some offer) is = cases (is_renewed_by entry place offer) refl is
  where
    cases : (b : Bool) → is_renewed_by entry place offer ≡ b → (if b then None else Some Moved) ≡ Some Moved → (o : Standing) × (Some offer ≡ Some o) × (is_renewed_by entry place o ≡ false)
    cases true renewed e = absurd (cc)
    cases false renewed e = (offer, refl, renewed)

pub moved_is : (now : ℕ) (entry : OfferEntry) (events : List Event) → shown_by events now entry ≡ Some Moved → Moves now entry events
moved_is now entry events is = cases (entry.ttl == 0) refl is
  where
    at : (v : Option SocketAddrV4) → entry.endpoint ≡ v → (entry.ttl == 0) ≡ false → shown_by_offer events now entry v ≡ Some Moved → Moves now entry events
    at None none above e = absurd (cc)
    at (Some place) some above e =
        let one = moved_offer entry place (unless_expired now (standing_in events entry.key)) e in
        let stays = kept (λ o. not (has_expired now o)) (standing_in events entry.key) one.0 one.1 in
        (place, one.0, above, some, standing_is entry.key one.0 events stays.0, not_true (has_expired now one.0) stays.1, one.2)

    cases : (z : Bool) → (entry.ttl == 0) ≡ z → (if z then None else shown_by_offer events now entry entry.endpoint) ≡ Some Moved → Moves now entry events
    cases true is_z e = absurd (cc)
    cases false is_z e = at entry.endpoint refl is_z e

pub is_moved : (now : ℕ) (entry : OfferEntry) (events : List Event) → Moves now entry events → shown_by events now entry ≡ Some Moved
is_moved now entry events one =
    let here : unless_expired now (standing_in events entry.key) ≡ Some one.1 = ap (unless_expired now) (is_standing entry.key one.1 events one.4) ∙ rw one.5 refl in
    rw (one.2, one.3, here, one.6) refl

-- ---- what a StopOffer ends

held_is : (limit now : ℕ) (events : List Event) (key : OfferKey) → (book_of limit events).told_full ≡ false
    → finite.get (without_expired now (book_of limit events)).standing key ≡ unless_expired now (standing_in events key)
held_is limit now events key fits =
    get-retain offers_total exact_offers (book_of limit events).standing (λ _ offer. not (has_expired now offer)) key ∙ ap (unless_expired now) (stands limit events key fits)

pub ended_is : (limit now : ℕ) (entry : OfferEntry) (offer : Standing) (events : List Event) → (book_of limit events).told_full ≡ false → ended_by entry (without_expired now (book_of limit events)) ≡ Some offer
    → IsStanding entry.key offer events × (has_expired now offer ≡ false) × (is_of (sender_of entry) offer ≡ true)
ended_is limit now entry offer events fits is =
    let own = kept (is_of (sender_of entry)) (finite.get (without_expired now (book_of limit events)).standing entry.key) offer is in
    let stays = kept (λ o. not (has_expired now o)) (standing_in events entry.key) offer (sym (held_is limit now events entry.key fits) ∙ own.0) in
    (standing_is entry.key offer events stays.0, not_true (has_expired now offer) stays.1, own.1)

pub is_ended : (limit now : ℕ) (entry : OfferEntry) (offer : Standing) (events : List Event) → (book_of limit events).told_full ≡ false
    → IsStanding entry.key offer events × (has_expired now offer ≡ false) × (is_of (sender_of entry) offer ≡ true) → ended_by entry (without_expired now (book_of limit events)) ≡ Some offer
is_ended limit now entry offer events fits all =
    let here : unless_expired now (standing_in events entry.key) ≡ Some offer = ap (unless_expired now) (is_standing entry.key offer events all.0) ∙ rw all.1 refl in
    ap (kept_if (is_of (sender_of entry))) (held_is limit now events entry.key fits ∙ here) ∙ rw all.2 refl
