-- What a book tells of the events of a datagram, one after the other.
use Rattle.std.proofs.Common.{◌≡◌, ℕ, zero, suc, ◌+◌, ◌*◌, ◌<◌, ◌==◌, nat_le, Bool, true, false, not, cond, List, [], ◌∷◌, ◌++◌, Option, None, Some, refl, ap, sym, subst, ◌∙◌, append_assoc, arith}
use Rattle.std.specs.Option.{option_map}
use Rattle.std.specs.declared.cmp.Ordering.{Ordering}
use Rattle.std.specs.Ordering.{eq_by_cmp}
use Rattle.std.specs.Cmp.{IsTotalOrder}
use Rattle.std.specs.FinMap as finite
use Rattle.std.specs.FinMap.{FinMap, IsAntisymmetric, empty, get, get-insert, get-remove}
use Rattle.std.proofs.lemmas.Bool.{leb-true}
use Rattle.std.proofs.lemmas.List.{append-nil}
use Rattle.someip_tables.specs.declared.deadline.Deadline.TheVariants.{At, Never}
use Rattle.someip_tables.specs.declared.lasting.Lasting.{Lasting}
use Rattle.someip_tables.specs.Changed.{each_changed}
use Rattle.someip_tables.specs.Deadlines.{deadline_after, has_passed}
use Rattle.someip_tables.specs.Lastings.{expired}
use Rattle.someip_tables.specs.Retained.{kept_if, retain}
use Rattle.someip_tables.specs.hashed.Rooms.{may_hold}
use Rattle.someip_tables.proofs.ChangedLemmas.{get-changed}
use Rattle.someip_tables.proofs.Entries.{get-retain}
use Rattle.someip_tables.proofs.MapLaws.{retain_none}
use Rattle.audit_services.specs.declared.shown.Shown.{Shown}
use Rattle.audit_services.specs.declared.shown.Shown.TheVariants.{KeyBegins, KeyEnds, Nothing, PlaceEnds, PlaceGoesOn}
use Rattle.audit_services.specs.declared.stay.Ended.{Ended}
use Rattle.audit_services.specs.Books.{Book, begun, renewed}
use Rattle.audit_services.specs.Histories.{AreLasting, Event, Expires, IsLasting, Tells, after_all, book_after, events_at, told_all, told_by}
use Rattle.audit_services.specs.Places.{is_among}
use Rattle.audit_services.specs.Stays.{Stay, Stays, lasting_until}
use Rattle.audit_services.proofs.BookLemmas.{the_book}
use Rattle.audit_services.proofs.HistoryLemmas.{none_passed}

-- a TTL of a second or more has not passed at once
not_passed : (now ttl : ℕ) → 0 < ttl → has_passed now (deadline_after now ttl) ≡ false
not_passed now ttl lasts = cases (ttl == 0xFFFFFF)
  where
    cases : (b : Bool) → has_passed now (cond b Never (At (now + 1000 * ttl))) ≡ false
    cases true = refl
    cases false = pick (nat_le (now + 1000 * ttl) now) refl
      where
        pick : (c : Bool) → nat_le (now + 1000 * ttl) now ≡ c → c ≡ false
        pick true is = let le = leb-true (now + 1000 * ttl) now is in absurd (omega (arith, le, lasts))
        pick false is = refl

module _ {K V : Type 0} {R : K → K → Ordering} (o : IsTotalOrder R) (exact : IsAntisymmetric R) where
  -- all that stands has not passed
  abbrev AllStand : ℕ → Stays R V → Type 0
  AllStand now m = (key : K) (stay : Stay V) → get m key ≡ Some stay → has_passed now stay.until ≡ false

  none_expired : (now : ℕ) (m : Stays R V) → AllStand now m → expired now m ≡ empty
  none_expired now m stand = retain_none o exact m (λ _ lasting. has_passed now lasting.until) stand

  -- one more, or another
  with_one : (now : ℕ) (m : Stays R V) (one : K) (new : Stay V) → AllStand now m → has_passed now new.until ≡ false → AllStand now (finite.insert m one new)
  with_one now m one new stand lasts key stay found = cases (eq_by_cmp R key one) (sym (get-insert o m one new key) ∙ found)
    where
      cases : (b : Bool) → cond b (Some new) (get m key) ≡ Some stay → has_passed now stay.until ≡ false
      cases true is = let same : new ≡ stay = cc in subst (λ (s : Stay V). has_passed now s.until ≡ false) same lasts
      cases false is = stand key stay is

  without_one : (now : ℕ) (m : Stays R V) (one : K) → AllStand now m → AllStand now (finite.remove m one)
  without_one now m one stand key stay found = cases (eq_by_cmp R key one) (sym (get-remove o m one key) ∙ found)
    where
      cases : (b : Bool) → cond b None (get m key) ≡ Some stay → has_passed now stay.until ≡ false
      cases true is = absurd (cc)
      cases false is = stand key stay is

  with_some : (now : ℕ) (m : Stays R V) (test : K → Stay V → Bool) → AllStand now m → AllStand now (retain m test)
  with_some now m test stand key stay found = cases (get m key) refl (sym (get-retain o exact m test key) ∙ found)
    where
      cases : (v : Option (Stay V)) → get m key ≡ v → kept_if (test key) v ≡ Some stay → has_passed now stay.until ≡ false
      cases None was is = absurd (cc)
      cases (Some x) was is = by (test key x) is
        where
          by : (b : Bool) → cond b (Some x) None ≡ Some stay → has_passed now stay.until ≡ false
          by true is = stand key stay (was ∙ is)
          by false is = absurd (cc)

  module _ {P : Type 0} (Q : P → P → Ordering) (C : V → V → Ordering) (places : K → (P × P) × (P × P)) where
    all_renewed : (now : ℕ) (place : P) (ttl : ℕ) (m : Stays R V) → AllStand now m → 0 < ttl → AllStand now (each_changed (renewed Q places now place ttl) m)
    all_renewed now place ttl m stand lasts key stay found = cases (get m key) refl (sym (get-changed o exact (renewed Q places now place ttl) m key) ∙ found)
      where
        cases : (v : Option (Stay V)) → get m key ≡ v → option_map (renewed Q places now place ttl key) v ≡ Some stay → has_passed now stay.until ≡ false
        cases None was is = absurd (cc)
        cases (Some x) was is = by (is_among Q place (places key)) is
          where
            by : (b : Bool) → Some (cond b (lasting_until (deadline_after now ttl) x) x) ≡ Some stay → has_passed now stay.until ≡ false
            by true is =
                let same : lasting_until (deadline_after now ttl) x ≡ stay = cc in
                subst (λ (s : Stay V). has_passed now s.until ≡ false) same (not_passed now ttl lasts)
            by false is = stand key stay (was ∙ is)

    still_stand : (now : ℕ) (shown : Shown P K V) (book : Book R V) → IsLasting shown → AllStand now book.stays → AllStand now (book_after Q R C places now shown book).stays
    still_stand now Nothing book lasts stand = stand
    still_stand now (KeyBegins one value ttl) book lasts stand = room (may_hold book.limit book.stays one)
      where
        room : (b : Bool) → AllStand now (cond b (the_book R book.limit (finite.insert book.stays one (begun C now value ttl (get book.stays one))) book.told_full) (the_book R book.limit book.stays true)).stays
        room true = with_one now book.stays one (begun C now value ttl (get book.stays one)) stand (not_passed now ttl lasts)
        room false = stand
    still_stand now (KeyEnds one why) book lasts stand = without_one now book.stays one stand
    still_stand now (PlaceEnds place why) book lasts stand = with_some now book.stays (λ key _. not (is_among Q place (places key))) stand
    still_stand now (PlaceGoesOn place ttl) book lasts stand = all_renewed now place ttl book.stays stand lasts

    -- more events at the moment of the last
    more_told : (limit now : ℕ) (xs : List (Shown P K V)) (events : List (Event P K V)) (told : List (Ended K V)) (book : Book R V)
        → AreLasting xs → AllStand now book.stays → Tells Q R C places limit events told book
        → Tells Q R C places limit (events_at now xs events) (told ++ told_all Q R C places now xs book) (after_all Q R C places now xs book)
    more_told limit now [] events told book lasting stand tells = subst (λ (t : List (Ended K V)). Tells Q R C places limit events t book) (sym (append-nil told)) tells
    more_told limit now (x ∷ xs) events told book (lasts, lasting) stand tells =
        let by : List (Ended K V) = told_by Q R C places now x book in
        let after : Book R V = book_after Q R C places now x book in
        subst (λ (t : List (Ended K V)). Tells Q R C places limit (events_at now xs (record { at = now; shown = x } ∷ events)) t (after_all Q R C places now xs after))
        (append_assoc told by (told_all Q R C places now xs after))
        (more_told limit now xs (record { at = now; shown = x } ∷ events) (told ++ by) after lasting (still_stand now x book lasts stand)
        (told, book, 0, [], book, tells, (none_expired now book.stays stand, refl, refl), refl, refl))

    -- a datagram: what has expired by its moment, and its events
    pub datagram_told : (limit now count : ℕ) (xs : List (Shown P K V)) (events : List (Event P K V)) (before gone : List (Ended K V)) (was left : Book R V)
        → AreLasting xs → expired now left.stays ≡ empty → Expires Q R C places now count was gone left → Tells Q R C places limit events before was
        → Tells Q R C places limit (events_at now (Nothing ∷ xs) events) (before ++ (gone ++ told_all Q R C places now xs left)) (after_all Q R C places now xs left)
    datagram_told limit now count xs events before gone was left lasting none expires tells =
        subst (λ (t : List (Ended K V)). Tells Q R C places limit (events_at now (Nothing ∷ xs) events) t (after_all Q R C places now xs left))
        (ap (λ (t : List (Ended K V)). (before ++ t) ++ told_all Q R C places now xs left) (append-nil gone) ∙ append_assoc before gone (told_all Q R C places now xs left))
        (more_told limit now xs (record { at = now; shown = Nothing } ∷ events) (before ++ (gone ++ [])) left lasting (λ key stay found. none_passed o exact now left.stays key stay none found)
        (before, was, count, gone, left, tells, expires, refl, refl))
