-- What a book tells of a key is what happened to it.
use Rattle.std.proofs.Common.{◌≡◌, ◌⊎◌, inl, inr, ℕ, zero, suc, ◌+◌, ◌<◌, ◌≤◌, nat_le, nat_lt, ◌&&◌, ◌||◌, Bool, true, false, not, cond, List, [], ◌∷◌, ◌++◌, filter, map, Option, None, Some, refl, ap, sym, subst, ◌∙◌, arith}
use Rattle.std.specs.Option.{is_none, is_some, option_map, option_to_list}
use Rattle.std.specs.declared.cmp.Ordering.{Ordering}
use Rattle.std.specs.Ordering.{eq_by_cmp}
use Rattle.std.specs.Cmp.{IsTotalOrder, eq_by_cmp_equiv}
use Rattle.std.specs.FinMap as finite
use Rattle.std.specs.FinMap.{FinMap, IsAntisymmetric, empty, entries, find, get, get-empty, get-entries, get-insert, get-remove, same_map}
use Rattle.std.proofs.lemmas.Bool.{and_parts, leb-true, le-leb}
use Rattle.std.proofs.lemmas.List.{append-nil, append_assoc, map-append}
use Rattle.std.proofs.lemmas.List.Elements.{filter-append}
use Rattle.someip_tables.specs.declared.deadline.Deadline.{Deadline}
use Rattle.someip_tables.specs.declared.deadline.Deadline.TheVariants.{At, Never}
use Rattle.someip_tables.specs.Changed.{each_changed}
use Rattle.someip_tables.specs.Deadlines.{deadline_after, has_passed}
use Rattle.someip_tables.specs.Distinct.{are_distinct}
use Rattle.someip_tables.specs.Lastings.{expired, unexpired, unless_passed}
use Rattle.someip_tables.specs.Retained.{kept_if, retain}
use Rattle.someip_tables.specs.hashed.Rooms.{may_hold}
use Rattle.someip_tables.proofs.ChangedLemmas.{get-changed}
use Rattle.someip_tables.proofs.Entries.{entries_distinct, get-retain, none_found, own_test, same_by_test}
use Rattle.audit_services.specs.declared.stay.Ended.{Ended}
use Rattle.audit_services.specs.declared.stay.Interval.{Interval}
use Rattle.audit_services.specs.declared.shown.Shown.{Shown}
use Rattle.audit_services.specs.declared.shown.Shown.TheVariants.{KeyBegins, KeyEnds, Nothing, PlaceEnds, PlaceGoesOn}
use Rattle.audit_services.specs.declared.why.Why.{Why}
use Rattle.audit_services.specs.declared.why.Why.TheVariants.{Expired, Moved}
use Rattle.audit_services.specs.Books.{Book, IsFirstDeadline, after_begun, begun, is_same, renewed, told_begun, told_moved, told_of}
use Rattle.audit_services.specs.Histories.{Event, Expires, Tells, book_after, change_of, intervals_under, timeline, told_by}
use Rattle.audit_services.specs.Places.{is_among}
use Rattle.audit_services.specs.Stays.{Stay, Stays, all_ended, ended_of, interval_of, lasting_until}
use Rattle.audit_services.proofs.BookLemmas.{the_book}
use Rattle.audit_services.proofs.TimelineLemmas.{not_le}
use Rattle.audit_services.specs.Timelines.{Begins, Ends, GoesOn, Leaves, ended_by, ended_in, expired_at, expired_by, standing_in, stands_after}

passed_later : (at now : ℕ) (d : Deadline) → at ≤ now → has_passed at d ≡ true → has_passed now d ≡ true
passed_later at now Never le is = absurd (cc)
passed_later at now (At moment) le is = let sooner = leb-true moment at is in le-leb moment now (omega (arith, sooner, le))

-- ---- the intervals of a key

abbrev no_intervals : (V : Type 0) → List (Interval V)
no_intervals V = []

module _ {K V : Type 0} (R : K → K → Ordering) where
  pub under-append : (key : K) (xs ys : List (Ended K V)) → intervals_under R key (xs ++ ys) ≡ intervals_under R key xs ++ intervals_under R key ys
  under-append key xs ys = ap (map (λ ended. ended.interval)) (filter-append (λ ended. eq_by_cmp R key ended.key) xs ys) ∙ map-append (λ ended. ended.interval) (filter (λ ended. eq_by_cmp R key ended.key) xs) (filter (λ ended. eq_by_cmp R key ended.key) ys)

module _ {K V : Type 0} {R : K → K → Ordering} (o : IsTotalOrder R) (exact : IsAntisymmetric R) where
  -- of what may stand under one key
  under_one : (why : Why) (at : ℕ) (key one : K) (stood : Option (Stay V)) → intervals_under R key (told_of why at one stood) ≡ cond (eq_by_cmp R key one) (option_to_list (option_map (interval_of why at) stood)) []
  under_one why at key one None = either (eq_by_cmp R key one)
    where
      either : (b : Bool) → [] ≡ cond b (no_intervals V) (no_intervals V)
      either true = refl
      either false = refl
  under_one why at key one (Some stay) = cases (eq_by_cmp R key one)
    where
      cases : (b : Bool) → map (λ (e : Ended K V). e.interval) (cond b (ended_of why at (one, stay) ∷ []) []) ≡ cond b (interval_of why at stay ∷ []) []
      cases true = refl
      cases false = refl

  none_under : (why : Why) (at : ℕ) (key : K) (es : List (K × Stay V)) → find R key es ≡ None → intervals_under R key (map (ended_of why at) es) ≡ []
  none_under why at key [] none = refl
  none_under why at key (e ∷ es) none = cases (eq_by_cmp R key e.0) refl none (none_under why at key es)
    where
      cases : (b : Bool) → eq_by_cmp R key e.0 ≡ b → cond b (Some e.1) (find R key es) ≡ None → (find R key es ≡ None → intervals_under R key (map (ended_of why at) es) ≡ [])
          → map (λ (x : Ended K V). x.interval) (cond b (ended_of why at e ∷ filter (λ x. eq_by_cmp R key x.key) (map (ended_of why at) es)) (filter (λ x. eq_by_cmp R key x.key) (map (ended_of why at) es))) ≡ []
      cases true is none rest = absurd (cc)
      cases false is none rest = rest none

  under_entries : (why : Why) (at : ℕ) (key : K) (es : List (K × Stay V)) → are_distinct R es ≡ true → intervals_under R key (map (ended_of why at) es) ≡ option_to_list (option_map (interval_of why at) (find R key es))
  under_entries why at key [] distinct = refl
  under_entries why at key (e ∷ es) distinct =
      let parts = and_parts _ _ distinct in
      cases (eq_by_cmp R key e.0) refl (none_found _ parts.0) (under_entries why at key es parts.1)
    where
      cases : (b : Bool) → eq_by_cmp R key e.0 ≡ b → find R e.0 es ≡ None → intervals_under R key (map (ended_of why at) es) ≡ option_to_list (option_map (interval_of why at) (find R key es))
          → map (λ (x : Ended K V). x.interval) (cond b (ended_of why at e ∷ filter (λ x. eq_by_cmp R key x.key) (map (ended_of why at) es)) (filter (λ x. eq_by_cmp R key x.key) (map (ended_of why at) es)))
          ≡ option_to_list (option_map (interval_of why at) (cond b (Some e.1) (find R key es)))
      cases true is none rest = ap (λ xs. interval_of why at e.1 ∷ xs) (none_under why at key es (ap (λ k. find R k es) (same_by_test exact key e.0 is) ∙ none))
      cases false is none rest = rest

  -- of all that ends
  pub under_all : (why : Why) (at : ℕ) (key : K) (m : Stays R V) → intervals_under R key (all_ended why at m) ≡ option_to_list (option_map (interval_of why at) (get m key))
  under_all why at key m = under_entries why at key (entries m) (entries_distinct o exact m) ∙ ap (λ v. option_to_list (option_map (interval_of why at) v)) (sym (get-entries m key))

  -- ---- what has expired

  -- nothing has: what stands has not passed
  pub none_passed : (now : ℕ) (m : Stays R V) (key : K) (stay : Stay V) → expired now m ≡ empty → get m key ≡ Some stay → has_passed now stay.until ≡ false
  none_passed now m key stay none found = cases (has_passed now stay.until) refl
    where
      cases : (b : Bool) → has_passed now stay.until ≡ b → b ≡ false
      cases false is = refl
      cases true is =
          let gone : get (expired now m) key ≡ None = ap (λ n. get n key) none ∙ get-empty R key in
          let there : get (expired now m) key ≡ Some stay = get-retain o exact m (λ _ lasting. has_passed now lasting.until) key ∙ ap (kept_if (λ lasting. has_passed now lasting.until)) found ∙ rw is refl in
          absurd (cc)

  pub unexpired_all : (now : ℕ) (m : Stays R V) → expired now m ≡ empty → unexpired now m ≡ m
  unexpired_all now m none = same_map o exact _ _ (λ q. get-retain o exact m (λ _ lasting. not (has_passed now lasting.until)) q ∙ cases q (get m q) refl)
    where
      cases : (q : K) (v : Option (Stay V)) → get m q ≡ v → kept_if (λ lasting. not (has_passed now lasting.until)) v ≡ v
      cases q None found = refl
      cases q (Some stay) found = rw (none_passed now m q stay none found) refl

  unexpired_twice : (at now : ℕ) (m : Stays R V) → at ≤ now → unexpired now (unexpired at m) ≡ unexpired now m
  unexpired_twice at now m le =
      same_map o exact _ _ (λ q.
      get-retain o exact (unexpired at m) (λ _ lasting. not (has_passed now lasting.until)) q ∙ ap (kept_if (λ lasting. not (has_passed now lasting.until))) (get-retain o exact m (λ _ lasting. not (has_passed at lasting.until)) q)
      ∙ cases (get m q) ∙ sym (get-retain o exact m (λ _ lasting. not (has_passed now lasting.until)) q))
    where
      cases : (v : Option (Stay V)) → kept_if (λ lasting. not (has_passed now lasting.until)) (kept_if (λ lasting. not (has_passed at lasting.until)) v) ≡ kept_if (λ lasting. not (has_passed now lasting.until)) v
      cases None = refl
      cases (Some stay) = by (has_passed at stay.until) refl
        where
          by : (b : Bool) → has_passed at stay.until ≡ b → kept_if (λ lasting. not (has_passed now lasting.until)) (cond (not b) (Some stay) None) ≡ cond (not (has_passed now stay.until)) (Some stay) None
          by false is = refl
          by true is = rw (passed_later at now stay.until le is) refl

  -- what has the first deadline has passed just then
  at_first : (at : ℕ) (m : Stays R V) (key : K) (stay : Stay V) (moment : ℕ) → IsFirstDeadline at m → get m key ≡ Some stay → stay.until ≡ At moment → moment ≤ at → moment ≡ at
  at_first at m key stay moment first found is le = cases (nat_lt moment at) refl
    where
      cases : (b : Bool) → nat_lt moment at ≡ b → moment ≡ at
      cases true sooner =
          let none = none_passed moment m key stay (first.1 moment (leb-true (suc moment) at sooner)) found in
          let passed : has_passed moment stay.until ≡ true = ap (has_passed moment) is ∙ le-leb moment moment (omega arith) in
          absurd (cc)
      cases false sooner = let ge = not_le (suc moment) at sooner in omega (arith, ge, le)

  abbrev pub IsAllGone : ℕ → Book R V → List (Ended K V) → Book R V → Type 0
  IsAllGone now book told left =
      (left ≡ record book { stays = unexpired now book.stays }) × ((key : K) → intervals_under R key told ≡ expired_by now (get book.stays key))

  pub all_gone : {P : Type 0} (Q : P → P → Ordering) (C : V → V → Ordering) (places : K → (P × P) × (P × P)) (now count : ℕ) (book left : Book R V) (told : List (Ended K V))
      → Expires Q R C places now count book told left → IsAllGone now book told left
  all_gone Q C places now zero book left told expires =
      (expires.2 ∙ ap (λ s. the_book R book.limit s book.told_full) (sym (unexpired_all now book.stays expires.0)), λ key. ap (intervals_under R key) expires.1 ∙ sym (cases key (get book.stays key) refl))
    where
      cases : (key : K) (v : Option (Stay V)) → get book.stays key ≡ v → expired_by now v ≡ []
      cases key None found = refl
      cases key (Some stay) found = by stay.until (none_passed now book.stays key stay expires.0 found)
        where
          by : (d : Deadline) → has_passed now d ≡ false → expired_at now stay d ≡ []
          by Never is = refl
          by (At moment) is = rw is refl
  all_gone Q C places now (suc count) book left told (at, later, le, first, is, rest) =
      let gone = all_gone Q C places now count (record book { stays = unexpired at book.stays }) left later rest in (
        gone.0 ∙ ap (λ s. the_book R book.limit s book.told_full) (unexpired_twice at now book.stays le),
        λ key.
            ap (intervals_under R key) is ∙ under-append R key (all_ended Expired at (expired at book.stays)) later ∙ ap (λ xs. xs ++ intervals_under R key later) (under_all Expired at key (expired at book.stays))
            ∙ ap (λ xs. option_to_list (option_map (interval_of Expired at) (get (expired at book.stays) key)) ++ xs) (gone.1 key)
            ∙ ap (λ v. option_to_list (option_map (interval_of Expired at) v) ++ expired_by now (get (unexpired at book.stays) key)) (get-retain o exact book.stays (λ _ lasting. has_passed at lasting.until) key)
            ∙ ap (λ v. option_to_list (option_map (interval_of Expired at) (kept_if (λ lasting. has_passed at lasting.until) (get book.stays key))) ++ expired_by now v) (get-retain o exact book.stays (λ _ lasting. not (has_passed at lasting.until)) key)
            ∙ cases key (get book.stays key) refl,
      )
    where
      cases : (key : K) (v : Option (Stay V)) → get book.stays key ≡ v
          → option_to_list (option_map (interval_of Expired at) (kept_if (λ lasting. has_passed at lasting.until) v)) ++ expired_by now (kept_if (λ lasting. not (has_passed at lasting.until)) v) ≡ expired_by now v
      cases key None found = refl
      cases key (Some stay) found = by (has_passed at stay.until) refl
        where
          by : (b : Bool) → has_passed at stay.until ≡ b
              → option_to_list (option_map (interval_of Expired at) (cond b (Some stay) None)) ++ expired_by now (cond (not b) (Some stay) None) ≡ expired_at now stay stay.until
          by false is = refl
          by true is = with stay.until refl is
            where
              with : (d : Deadline) → stay.until ≡ d → has_passed at d ≡ true → interval_of Expired at stay ∷ [] ≡ expired_at now stay d
              with Never d passed = absurd (cc)
              with (At moment) d passed =
                  let sooner = leb-true moment at passed in
                  let same = at_first at book.stays key stay moment first found d sooner in
                  let yes_it : nat_le moment now ≡ true = le-leb moment now (omega (arith, sooner, le)) in
                  rw yes_it (ap (λ n. interval_of Expired n stay ∷ []) (sym same))

  -- ---- one event more

  module _ {P : Type 0} (Q : P → P → Ordering) (C : V → V → Ordering) (places : K → (P × P) × (P × P)) where
    -- a book that was not full by an event took it
    abbrev IsShownBy : ℕ → Shown P K V → Book R V → K → Type 0
    IsShownBy now shown book key =
        (get (book_after Q R C places now shown book).stays key ≡ stands_after C now (change_of Q R C places shown key) (get book.stays key))
        × (intervals_under R key (told_by Q R C places now shown book) ≡ ended_by C now (change_of Q R C places shown key) (get book.stays key)) × (book.told_full ≡ false)

    shown_by : (now : ℕ) (shown : Shown P K V) (book : Book R V) (key : K) → (book_after Q R C places now shown book).told_full ≡ false → IsShownBy now shown book key
    shown_by now Nothing book key full = (refl, refl, full)
    shown_by now (KeyBegins one value ttl) book key full = room (may_hold book.limit book.stays one) refl full
      where
        room : (b : Bool) → may_hold book.limit book.stays one ≡ b
            → (cond b (the_book R book.limit (finite.insert book.stays one (begun C now value ttl (get book.stays one))) book.told_full) (the_book R book.limit book.stays true)).told_full ≡ false
            → IsShownBy now (KeyBegins one value ttl) book key
        room true is full =
            rw is (
              get-insert o book.stays one (begun C now value ttl (get book.stays one)) key ∙ after (eq_by_cmp R key one) refl,
              told (eq_by_cmp R key one) refl (is_same C value (get book.stays one)) refl,
              full,
            )
          where
            after : (t : Bool) → eq_by_cmp R key one ≡ t → cond t (Some (begun C now value ttl (get book.stays one))) (get book.stays key) ≡ stands_after C now (cond t (Begins value ttl) Leaves) (get book.stays key)
            after true same = ap (λ k. Some (begun C now value ttl (get book.stays k))) (sym (same_by_test exact key one same))
            after false other = refl

            told : (t : Bool) → eq_by_cmp R key one ≡ t → (s : Bool) → is_same C value (get book.stays one) ≡ s
                → intervals_under R key (cond s [] (told_of Moved now one (get book.stays one))) ≡ ended_by C now (cond t (Begins value ttl) Leaves) (get book.stays key)
            told true same true s = let here : is_same C value (get book.stays key) ≡ true = ap (λ k. is_same C value (get book.stays k)) (same_by_test exact key one same) ∙ s in rw here refl
            told true same false s =
                let here : is_same C value (get book.stays key) ≡ false = ap (λ k. is_same C value (get book.stays k)) (same_by_test exact key one same) ∙ s in
                under_one Moved now key one (get book.stays one) ∙ rw (same, here) (ap (λ k. option_to_list (option_map (interval_of Moved now) (get book.stays k))) (sym (same_by_test exact key one same)))
            told false other true s = refl
            told false other false s = under_one Moved now key one (get book.stays one) ∙ rw other refl
        room false is full = absurd (cc)
    shown_by now (KeyEnds one why) book key full =
        (get-remove o book.stays one key ∙ after (eq_by_cmp R key one), under_one why now key one (get book.stays one) ∙ told (eq_by_cmp R key one) refl, full)
      where
        after : (t : Bool) → cond t None (get book.stays key) ≡ stands_after C now (cond t (Ends why) Leaves) (get book.stays key)
        after true = refl
        after false = refl

        told : (t : Bool) → eq_by_cmp R key one ≡ t → cond t (option_to_list (option_map (interval_of why now) (get book.stays one))) [] ≡ ended_by C now (cond t (Ends why) Leaves) (get book.stays key)
        told true same = ap (λ k. option_to_list (option_map (interval_of why now) (get book.stays k))) (sym (same_by_test exact key one same))
        told false other = refl
    shown_by now (PlaceEnds place why) book key full = (
      get-retain o exact book.stays (λ k _. not (is_among Q place (places k))) key ∙ after (is_among Q place (places key)) (get book.stays key),
      under_all why now key (retain book.stays (λ k _. is_among Q place (places k))) ∙ ap (λ v. option_to_list (option_map (interval_of why now) v)) (get-retain o exact book.stays (λ k _. is_among Q place (places k)) key)
          ∙ told (is_among Q place (places key)) (get book.stays key),
      full,
    )
      where
        after : (t : Bool) (v : Option (Stay V)) → kept_if (λ _. not t) v ≡ stands_after C now (cond t (Ends why) Leaves) v
        after true None = refl
        after true (Some stay) = refl
        after false None = refl
        after false (Some stay) = refl

        told : (t : Bool) (v : Option (Stay V)) → option_to_list (option_map (interval_of why now) (kept_if (λ _. t) v)) ≡ ended_by C now (cond t (Ends why) Leaves) v
        told true None = refl
        told true (Some stay) = refl
        told false None = refl
        told false (Some stay) = refl
    shown_by now (PlaceGoesOn place ttl) book key full =
        (get-changed o exact (renewed Q places now place ttl) book.stays key ∙ after (is_among Q place (places key)) (get book.stays key), told (is_among Q place (places key)), full)
      where
        after : (t : Bool) (v : Option (Stay V)) → option_map (λ stay. cond t (lasting_until (deadline_after now ttl) stay) stay) v ≡ stands_after C now (cond t (GoesOn ttl) Leaves) v
        after true None = refl
        after true (Some stay) = refl
        after false None = refl
        after false (Some stay) = refl

        told : (t : Bool) → [] ≡ ended_by C now (cond t (GoesOn ttl) Leaves) (get book.stays key)
        told true = refl
        told false = refl

    -- ---- the law

    abbrev IsTimeline : List (Event P K V) → List (Ended K V) → Book R V → K → Type 0
    IsTimeline events told book key =
        (get book.stays key ≡ standing_in C (timeline Q R C places events key)) × (intervals_under R key told ≡ ended_in C (timeline Q R C places events key))

    pub a_book_tells_timelines : (limit : ℕ) (events : List (Event P K V)) (told : List (Ended K V)) (book : Book R V) → Tells Q R C places limit events told book → book.told_full ≡ false → (key : K) → IsTimeline events told book key
    a_book_tells_timelines limit [] told book tells full key = (ap (λ (b : Book R V). get b.stays key) tells.1 ∙ get-empty R key, ap (intervals_under R key) tells.0)
    a_book_tells_timelines limit (event ∷ earlier) told book (before, was, count, gone, left, tells, expires, is, after) full key =
        let left_is = all_gone Q C places event.at count was left gone expires in
        let by = shown_by event.at event.shown left key (ap (λ (b : Book R V). b.told_full) (sym after) ∙ full) in
        let was_full : was.told_full ≡ false = sym (ap (λ (b : Book R V). b.told_full) left_is.0) ∙ by.2 in
        let rest = a_book_tells_timelines limit earlier before was tells was_full key in
        let stood : get left.stays key ≡ unless_passed event.at (standing_in C (timeline Q R C places earlier key)) =
        ap (λ (b : Book R V). get b.stays key) left_is.0 ∙ get-retain o exact was.stays (λ _ lasting. not (has_passed event.at lasting.until)) key ∙ ap (unless_passed event.at) rest.0 in (
          ap (λ (b : Book R V). get b.stays key) after ∙ by.0 ∙ ap (stands_after C event.at (change_of Q R C places event.shown key)) stood,
          ap (intervals_under R key) is ∙ under-append R key before (gone ++ told_by Q R C places event.at event.shown left)
              ∙ ap (λ xs. intervals_under R key before ++ xs) (under-append R key gone (told_by Q R C places event.at event.shown left) ∙ ap (λ xs. xs ++ intervals_under R key (told_by Q R C places event.at event.shown left)) (left_is.1 key ∙ ap (expired_by event.at) rest.0)
              ∙ ap (λ xs. expired_by event.at (standing_in C (timeline Q R C places earlier key)) ++ xs) (by.1 ∙ ap (ended_by C event.at (change_of Q R C places event.shown key)) stood))
              ∙ ap (λ xs. xs ++ (expired_by event.at (standing_in C (timeline Q R C places earlier key)) ++ ended_by C event.at (change_of Q R C places event.shown key) (unless_passed event.at (standing_in C (timeline Q R C places earlier key))))) rest.1,
        )
