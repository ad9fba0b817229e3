-- What ends as time passes.
use Rattle.std.proofs.Common.{◌≡◌, ◌≢◌, ◌⊎◌, inl, inr, ℕ, zero, suc, ◌+◌, ◌<◌, ◌≤◌, nat_le, Bool, true, false, not, cond, List, [], ◌∷◌, ◌++◌, filter, length, map, Option, None, Some, IsTrue, refl, sym, ap, subst, ◌∙◌, arith}
use Rattle.std.specs.declared.cmp.Ordering.{Ordering}
use Rattle.std.specs.Cmp.{IsTotalOrder}
use Rattle.std.specs.FinMap.{FinMap, IsAntisymmetric, empty, empty_of_len, entries, len, len-empty, len-entries}
use Rattle.std.proofs.lemmas.Bool.{leb-false, leb-true, le-leb}
use Rattle.someip_tables.specs.declared.lasting.Lasting.{Lasting}
use Rattle.someip_tables.specs.Deadlines.{has_passed}
use Rattle.someip_tables.specs.Lastings.{expired, unexpired}
use Rattle.someip_tables.specs.Retained.{retain}
use Rattle.someip_tables.specs.Waits.{HoldsFrom, earlier, is_due_by}
use Rattle.someip_tables.proofs.SortedEntries.{entries-retain}
use Rattle.audit_services.specs.OfferedKeys.{offered_cmp, places_of_offered, terms_cmp}
use Rattle.audit_services.specs.OfferedOrder.{offered}
use Rattle.audit_services.specs.SubscribedKeys.{no_terms_cmp, place_cmp, places_of_subscribed, subscribed_cmp}
use Rattle.audit_services.specs.SubscribedOrder.{subscribed}
use Rattle.someip_tables.specs.Endpoints.{address_cmp}
use Rattle.audit_sd.specs.sessions.SessionBooks.{Sessions}
use Rattle.audit_services.specs.declared.offered.OfferTerms.{OfferTerms}
use Rattle.audit_services.specs.declared.offered.Offered.{Offered}
use Rattle.audit_services.specs.declared.stay.Ended.{Ended}
use Rattle.audit_services.specs.declared.subscribed.NoTerms.{NoTerms}
use Rattle.audit_services.specs.declared.subscribed.Subscribed.{Subscribed}
use Rattle.audit_services.specs.Books.{after_expired, told_expired}
use Rattle.audit_services.specs.Histories.{book_after, full_by, told_by}
use Rattle.someip_services.specs.declared.told.FullBook.TheVariants.{Offers, Subscriptions}
use Rattle.someip_services.specs.declared.told.Told.{Told}
use Rattle.someip_services.specs.declared.told.Told.TheVariants.{Offer, Subscription}
use Rattle.someip_services.specs.Entries.{OfferShown, SubscriptionShown}
use Rattle.someip_services.specs.Services.{Expires, IsNextBy, IsNextEnd, IsNothingExpired, Known, OfferBook, Passes, SubscriptionBook, Work, due_by, expired_taken, offers_changed, subscriptions_changed, with_full}

-- ---- fewer stand each time

either_length : {X : Type 0} (b : Bool) (x : X) (ps qs : List X) → length (cond b (x ∷ ps) ps) + length (cond (not b) (x ∷ qs) qs) ≡ suc (length ps + length qs)
either_length true x ps qs = omega arith
either_length false x ps qs = omega arith

parts-length : {X : Type 0} (p : X → Bool) (xs : List X) → length (filter p xs) + length (filter (λ x. not (p x)) xs) ≡ length xs
parts-length p [] = refl
parts-length p (x ∷ xs) = either_length (p x) x (filter p xs) (filter (λ y. not (p y)) xs) ∙ ap suc (parts-length p xs)

module _ {K V : Type 0} {R : K → K → Ordering} (o : IsTotalOrder R) (exact : IsAntisymmetric R) where
  parts-len : (at : ℕ) (m : FinMap R (Lasting V)) → len (expired at m) + len (unexpired at m) ≡ len m
  parts-len at m =
      let one : len (expired at m) ≡ length (filter (λ e. has_passed at e.1.until) (entries m)) = len-entries (expired at m) ∙ ap length (entries-retain o exact m (λ _ x. has_passed at x.until)) in
      let other : len (unexpired at m) ≡ length (filter (λ e. not (has_passed at e.1.until)) (entries m)) = len-entries (unexpired at m) ∙ ap length (entries-retain o exact m (λ _ x. not (has_passed at x.until))) in
      ap (λ n. n + len (unexpired at m)) one ∙ ap (λ n. length (filter (λ e. has_passed at e.1.until) (entries m)) + n) other
      ∙ parts-length (λ e. has_passed at e.1.until) (entries m) ∙ sym (len-entries m)

  -- either nothing has expired, or fewer stand then
  ends_or_not : (at : ℕ) (m : FinMap R (Lasting V)) → (expired at m ≡ empty) ⊎ (len (unexpired at m) < len m)
  ends_or_not at m = cases (len (expired at m)) refl
    where
      cases : (n : ℕ) → len (expired at m) ≡ n → (expired at m ≡ empty) ⊎ (len (unexpired at m) < len m)
      cases zero is = inl (empty_of_len (expired at m) is)
      cases (suc n) is = let all = parts-len at m in inr (omega (arith, all, is))

  no_more : (at : ℕ) (m : FinMap R (Lasting V)) → len (unexpired at m) ≤ len m
  no_more at m = let all = parts-len at m in omega (arith, all)

-- how many stand
abbrev pub standing : Known → ℕ
standing known = len known.offers.stays + len known.subscriptions.stays

pub fewer_stand : (at : ℕ) (work after : Work) → IsNextEnd at work.known → after ≡ expired_taken at work → standing after.known < standing work.known
fewer_stand at work after next is =
    rw is
    (cases (ends_or_not offered.total offered.exact at work.known.offers.stays) (ends_or_not subscribed.total subscribed.exact at work.known.subscriptions.stays))
  where
    cases : (expired at work.known.offers.stays ≡ empty) ⊎ (len (unexpired at work.known.offers.stays) < len work.known.offers.stays)
        → (expired at work.known.subscriptions.stays ≡ empty) ⊎ (len (unexpired at work.known.subscriptions.stays) < len work.known.subscriptions.stays)
        → len (unexpired at work.known.offers.stays) + len (unexpired at work.known.subscriptions.stays) < len work.known.offers.stays + len work.known.subscriptions.stays
    cases (inl none) (inl neither) = absurd (next.ends (none, neither))
    cases (inr less) other = let more = no_more subscribed.total subscribed.exact at work.known.subscriptions.stays in omega (arith, less, more)
    cases (inl none) (inr less) = let more = no_more offered.total offered.exact at work.known.offers.stays in omega (arith, less, more)

-- ---- what is next

-- a map that is not filled is empty
unfilled : {K X : Type 0} {R : K → K → Ordering} (m : FinMap R X) → (m ≢ empty → ⊥) → m ≡ empty
unfilled {K} {X} {R} m never = cases (len m) refl
  where
    cases : (n : ℕ) → len m ≡ n → m ≡ empty
    cases zero is = empty_of_len m is
    cases (suc n) is = absurd (never (λ e. let none : len m ≡ 0 = ap len e ∙ len-empty R X in absurd (omega (arith, is, none))))

-- before the first deadline nothing has expired
none_expired : {K V : Type 0} {R : K → K → Ordering} (m : FinMap R (Lasting V)) (first : Option ℕ) (now : ℕ) → HoldsFrom first (λ now. expired now m ≢ empty) → is_due_by now first ≡ false → expired now m ≡ empty
none_expired m first now from early = unfilled (expired now m) (λ filled. let due : is_due_by now first ≡ true = (from now).1 filled in absurd (cc))

later : (x y now : ℕ) → x ≤ y → nat_le x now ≡ false → nat_le y now ≡ false
later x y now less none = pick (nat_le y now) refl
  where
    pick : (c : Bool) → nat_le y now ≡ c → c ≡ false
    pick true is =
        let le = leb-true y now is in
        let both : x ≤ now = omega (arith, le, less) in
        let come : nat_le x now ≡ true = le-leb x now both in absurd (cc)
    pick false is = refl

not_le : (a b : ℕ) → b < a → nat_le a b ≡ false
not_le a b less = pick (nat_le a b) refl
  where
    pick : (c : Bool) → nat_le a b ≡ c → c ≡ false
    pick true is = let le = leb-true a b is in absurd (omega (arith, le, less))
    pick false is = refl

-- which of two moments comes first
not_due : (a b : Option ℕ) (now : ℕ) → is_due_by now (earlier a b) ≡ false → (is_due_by now a ≡ false) × (is_due_by now b ≡ false)
not_due None None now is = (refl, refl)
not_due None (Some b) now is = (refl, is)
not_due (Some a) None now is = (is, refl)
not_due (Some a) (Some b) now is = pick (nat_le a b) refl is
  where
    pick : (c : Bool) → nat_le a b ≡ c → is_due_by now (cond c (Some a) (Some b)) ≡ false → (nat_le a now ≡ false) × (nat_le b now ≡ false)
    pick true le early = (early, later a b now (leb-true a b le) early)
    pick false more early = let less = leb-false a b more in let le : b ≤ a = omega (arith, less) in (later b a now le early, early)

module _ (known : Known) (a b : Option ℕ) (offers : HoldsFrom a (λ now. expired now known.offers.stays ≢ empty)) (asks : HoldsFrom b (λ now. expired now known.subscriptions.stays ≢ empty)) where
  -- nothing has expired before the earlier of both
  none_before : (now : ℕ) → is_due_by now (earlier a b) ≡ false → IsNothingExpired now known
  none_before now early =
      let both = not_due a b now early in (none_expired known.offers.stays a now offers both.0, none_expired known.subscriptions.stays b now asks both.1)

  -- and by then something has
  due : (first : Option ℕ) (x at : ℕ) → first ≡ Some x → x ≡ at → is_due_by at first ≡ true
  due first x at one same = ap (is_due_by at) (one ∙ ap Some same) ∙ le-leb at at (omega arith)

  ends_a : (x at : ℕ) → a ≡ Some x → x ≡ at → IsNothingExpired at known → ⊥
  ends_a x at one same none = (offers at).0 (due a x at one same) none.0

  ends_b : (y at : ℕ) → b ≡ Some y → y ≡ at → IsNothingExpired at known → ⊥
  ends_b y at one same none = (asks at).0 (due b y at one same) none.1

  at_first : (at : ℕ) → earlier a b ≡ Some at → IsNothingExpired at known → ⊥
  at_first at is none = cases a b refl refl is
    where
      cases : (p q : Option ℕ) → a ≡ p → b ≡ q → earlier p q ≡ Some at → ⊥
      cases None None one other e = absurd (cc)
      cases None (Some y) one other e = ends_b y at other (cc) none
      cases (Some x) None one other e = ends_a x at one (cc) none
      cases (Some x) (Some y) one other e = pick (nat_le x y) e
        where
          pick : (c : Bool) → cond c (Some x) (Some y) ≡ Some at → ⊥
          pick true same = ends_a x at one (cc) none
          pick false same = ends_b y at other (cc) none

  next_end : (at : ℕ) → earlier a b ≡ Some at → IsNextEnd at known
  next_end at is = record {
    ends = at_first at is;
    first = λ sooner less. none_before sooner (ap (is_due_by sooner) is ∙ not_le at sooner less);
  }

  -- the earlier of both, if it has come, is the next end
  pub is_next : (now : ℕ) → IsNextBy now known (due_by now (earlier a b))
  is_next now = cases (earlier a b) refl
    where
      cases : (e : Option ℕ) → earlier a b ≡ e → IsNextBy now known (due_by now e)
      cases None is = none_before now (ap (is_due_by now) is)
      cases (Some at) is = pick (nat_le at now) refl
        where
          pick : (c : Bool) → nat_le at now ≡ c → IsNextBy now known (cond c (Some at) None)
          pick true come = (leb-true at now come, next_end at is)
          pick false early = none_before now (ap (is_due_by now) is ∙ early)

-- ---- one after the other

-- whoever goes on from here has gone all the way from there
abbrev pub GoesOn : ℕ → Work → Work → Type 0
GoesOn now from here = (moments : List ℕ) (after : Work) → Expires now moments here after → Passes now from.known after

pub goes_first : (now : ℕ) (from here : Work) → here ≡ record { known = from.known; told = [] } → GoesOn now from here
goes_first now from here is moments after e = record { moments = moments; expires = subst (λ (w : Work). Expires now moments w after) is e }

pub goes_more : (now at : ℕ) (from here next : Work) → GoesOn now from here → at ≤ now → IsNextEnd at here.known → next ≡ expired_taken at here → GoesOn now from next
goes_more now at from here next goes less is_next is moments after e = goes (at ∷ moments) after (less, is_next, subst (λ (w : Work). Expires now moments w after) is e)

pub goes_last : (now : ℕ) (from here : Work) → GoesOn now from here → IsNothingExpired now here.known → Passes now from.known here
goes_last now from here goes none = goes [] here (none, refl)

-- ---- what one change leaves

pub expired_so : (at : ℕ) (work : Work) (s : Sessions) (o later_o : OfferBook) (q later_q : SubscriptionBook) (t one two : List Told) (e : List (Ended Offered OfferTerms)) (f : List (Ended Subscribed NoTerms))
    → work ≡ record { known = record { sessions = s; offers = o; subscriptions = q }; told = t } → later_o ≡ after_expired at o → later_q ≡ after_expired at q
    → one ≡ t ++ map Offer e → e ≡ told_expired at o → two ≡ one ++ map Subscription f → f ≡ told_expired at q
    → record { known = record { sessions = s; offers = later_o; subscriptions = later_q }; told = two } ≡ expired_taken at work
expired_so at work s o later_o q later_q t one two e f is offers asks first some second others = rw (is, offers, asks, second, first, some, others) refl

module _ (now : ℕ) (work after : Work) (s : Sessions) (o : OfferBook) (q : SubscriptionBook) (t one : List Told) (full : Bool) (is : work ≡ record { known = record { sessions = s; offers = o; subscriptions = q }; told = t }) where
  pub offers_changed_so : (shown : OfferShown) (later_o : OfferBook) (e : List (Ended Offered OfferTerms)) → later_o ≡ book_after address_cmp offered_cmp terms_cmp places_of_offered now shown o
      → e ≡ told_by address_cmp offered_cmp terms_cmp places_of_offered now shown o → one ≡ t ++ map Offer e → full ≡ full_by address_cmp offered_cmp terms_cmp places_of_offered shown o
      → after ≡ with_full Offers full (record { known = record { sessions = s; offers = later_o; subscriptions = q }; told = one }) → after ≡ offers_changed now shown work
  offers_changed_so shown later_o e offers ended told fills ends = rw (ends, is, offers, told, ended, fills) refl

  pub subscriptions_changed_so : (shown : SubscriptionShown) (later_q : SubscriptionBook) (e : List (Ended Subscribed NoTerms)) → later_q ≡ book_after place_cmp subscribed_cmp no_terms_cmp places_of_subscribed now shown q
      → e ≡ told_by place_cmp subscribed_cmp no_terms_cmp places_of_subscribed now shown q → one ≡ t ++ map Subscription e → full ≡ full_by place_cmp subscribed_cmp no_terms_cmp places_of_subscribed shown q
      → after ≡ with_full Subscriptions full (record { known = record { sessions = s; offers = o; subscriptions = later_q }; told = one }) → after ≡ subscriptions_changed now shown work
  subscriptions_changed_so shown later_q e asks ended told fills ends = rw (ends, is, asks, told, ended, fills) refl
