-- What expires as time goes on.
use Rattle.std.proofs.Common.{◌≡◌, ℕ, ◌<◌, ◌≤◌, Bool, true, false, cond, not, Option, None, Some, refl, sym, ap, ◌∙◌, arith}
use Rattle.std.proofs.lemmas.Bool.{le-leb}
use Rattle.std.proofs.lemmas.Bool.Decides.{nat_tests}
use Rattle.std.specs.Option.{option_and_then}
use Rattle.std.specs.Ordering.{eq_by_cmp}
use Rattle.std.specs.FinMap as finite
use Rattle.someip_tables.specs.declared.deadline.Deadline.{Deadline}
use Rattle.someip_tables.specs.declared.deadline.Deadline.TheVariants.{At, Never}
use Rattle.someip_tables.specs.Deadlines.{has_passed, millis_of}
use Rattle.someip_tables.specs.Retained.{kept_if}
use Rattle.someip_tables.proofs.Entries.{get-retain, same_by_test}
use Rattle.someip_tables.proofs.MapLaws.{retain_all}
use Rattle.someip_tables.specs.declared.hashed.due.Due.{Due}
use Rattle.someip_tables.specs.hashed.Dues.{IsFirstDue}
use Rattle.someip_tables.proofs.about_hashed.FirstDues.{not_before}
use Rattle.audit_sd.specs.declared.offers.entry.Standing.{Standing}
use Rattle.audit_sd.specs.declared.offers.finding.Expired.{Expired}
use Rattle.audit_sd.specs.declared.offers.key.OfferKey.{OfferKey}
use Rattle.audit_sd.specs.offers.OfferKeys.{offer_cmp}
use Rattle.audit_sd.specs.offers.OfferOrder.{offers_total, exact_offers}
use Rattle.audit_sd.specs.offers.OfferRules.{has_expired, passes_at}
use Rattle.audit_sd.specs.offers.OfferTables.{FallsDue, OfferTable, Offers, after_due}
use Rattle.audit_sd.specs.offers.OfferHistories.{without_expired}

-- ---- what stands where nothing has come

not_yet : (now : ℕ) (until : Deadline) → ((at : ℕ) → millis_of until ≡ Some at → now < at) → has_passed now until ≡ false
not_yet now (At moment) later = let lt : now < moment = later moment refl in grind (arith, nat_tests)
not_yet now Never later = refl

-- the first deadline is to come
pub none_by : (now : ℕ) (offers : Offers) (first : Due OfferKey) → IsFirstDue passes_at offers (Some first) → now < first.at → FallsDue now offers None
none_by now offers first is later key offer has =
    not_yet now offer.until (λ at waits.
    let le : first.at ≤ at = not_before offer_cmp first (record { at = at; key = key }) (is.1 (record { at = at; key = key }) (ap (option_and_then passes_at) has ∙ waits)) in
    omega (arith, le, later))

-- no deadline passes
pub none_ever : (now : ℕ) (offers : Offers) → IsFirstDue passes_at offers None → FallsDue now offers None
none_ever now offers none key offer has =
    not_yet now offer.until (λ at waits. absurd (never (ap (option_and_then passes_at) (sym has) ∙ none key) waits))
  where
    never : {at : ℕ} → passes_at offer ≡ None → passes_at offer ≡ Some at → ⊥
    never no_moment moment = cc

-- what is due first is there
pub is_there : (offers : Offers) (first : Due OfferKey) → IsFirstDue passes_at offers (Some first) → finite.get offers first.key ≡ None → ⊥
is_there offers first is none = let waits : option_and_then passes_at (finite.get offers first.key) ≡ Some first.at = is.0 in let gone = ap (option_and_then passes_at) none in cc

-- ---- what is told

moment_is : (until : Deadline) (at : ℕ) → millis_of until ≡ Some at → until ≡ At at
moment_is (At moment) at is = ap At (let e : moment ≡ at = cc in e)
moment_is Never at is = absurd (cc)

pub own : (now : ℕ) (offers : Offers) (told : Expired) → FallsDue now offers (Some told) → told.offer.until ≡ At told.at
own now offers told falls = moment_is told.offer.until told.at (ap (option_and_then passes_at) (sym falls.1) ∙ falls.0.0)

pub first : (now : ℕ) (offers : Offers) (told : Expired) (key : OfferKey) (offer : Standing) (at : ℕ) → FallsDue now offers (Some told) → finite.get offers key ≡ Some offer → offer.until ≡ At at → told.at ≤ at
first now offers told key offer at falls has until =
    not_before offer_cmp (record { at = told.at; key = told.key }) (record { at = at; key = key })
    (falls.0.1 (record { at = at; key = key }) (ap (option_and_then passes_at) has ∙ ap millis_of until))

expired_told : (now : ℕ) (offers : Offers) (told : Expired) → FallsDue now offers (Some told) → has_expired now told.offer ≡ true
expired_told now offers told falls = ap (has_passed now) (own now offers told falls) ∙ le-leb told.at now falls.2

pub kept : (now : ℕ) (book : OfferTable) (told : Option Expired) → FallsDue now book.standing told → without_expired now (after_due told book) ≡ without_expired now book
kept now book None falls = refl
kept now book (Some told) falls =
    ap (λ (offers : Offers). record book { standing = offers })
    (finite.same_map offers_total exact_offers _ _ (λ q.
    get-retain offers_total exact_offers (finite.remove book.standing told.key) (λ _ offer. not (has_expired now offer)) q
    ∙ ap (kept_if (λ offer. not (has_expired now offer))) (finite.get-remove offers_total book.standing told.key q)
    ∙ at q (eq_by_cmp offer_cmp q told.key) refl
    ∙ sym (get-retain offers_total exact_offers book.standing (λ _ offer. not (has_expired now offer)) q)))
  where
    at : (q : OfferKey) (t : Bool) → eq_by_cmp offer_cmp q told.key ≡ t
        → kept_if (λ offer. not (has_expired now offer)) (cond t None (finite.get book.standing q)) ≡ kept_if (λ offer. not (has_expired now offer)) (finite.get book.standing q)
    at q true tie =
        let there : finite.get book.standing q ≡ Some told.offer = ap (finite.get book.standing) (same_by_test exact_offers q told.key tie) ∙ falls.1 in
        let gone : has_expired now told.offer ≡ true = expired_told now book.standing told falls in
        rw (there, gone) refl
    at q false tie = refl

pub all : (now : ℕ) (book : OfferTable) → FallsDue now book.standing None → without_expired now book ≡ book
all now book none =
    ap (λ (offers : Offers). record book { standing = offers })
    (retain_all offers_total exact_offers book.standing (λ _ offer. not (has_expired now offer)) (λ key offer has. ap not (none key offer has)))
