-- What it means that a search among some schedules came to something.
use Rattle.std.proofs.Common.{◌≡◌, ◌≢◌, ℕ, zero, suc, ◌+◌, ◌-◌, ◌<◌, ◌≤◌, Bool, true, false, cond, nat_lt, nltb→le, ltb→lt, T, not, List, [], ◌∷◌, ◌++◌, length, filter, refl, sym, ap, subst, ◌∙◌, arith, append_assoc, append-nil, length-append}
use Rattle.std.proofs.lemmas.List.Elements.{filter-append}
use Rattle.someip_explore.specs.declared.search.Judgement.{Judgement}
use Rattle.someip_explore.specs.declared.search.Judgement.TheVariants.{Bad, Missed, Reached}
use Rattle.someip_explore.specs.declared.search.Ended.TheVariants as ends
use Rattle.someip_explore.specs.declared.search.Explored.TheVariants as explored
use Rattle.someip_explore.specs.Search.{longer_by, up_to}
use Rattle.someip_explore.specs.Searching.{Outcome, Passed, Found, Full, Comes, Explores, GoesOver, NoneReaches, count_good, is_good, search_all, search_one, then_search}

bad_misses : Bad ≢ Reached
bad_misses e = absurd cc

missed_misses : Missed ≢ Reached
missed_misses e = absurd cc

module _ {S : Type 0} (judge : List S → Judgement) (most : ℕ) where
  -- where so many were judged before
  pub record Finds (n : ℕ) (xs : List (List S)) (x : List S) (m : ℕ) : Type 0 where
    pub before : List (List S)
    pub after : List (List S)
    pub is : xs ≡ before ++ x ∷ after
    pub reaches : judge x ≡ Reached
    pub earlier : NoneReaches judge before
    pub counted : m ≡ n + count_good judge before + 1
    pub within : m ≤ most

  pub record Overflows (n : ℕ) (xs : List (List S)) : Type 0 where
    pub before : List (List S)
    pub more : List S
    pub after : List (List S)
    pub is : xs ≡ before ++ more ∷ after
    pub good : is_good (judge more) ≡ true
    pub none : NoneReaches judge before
    pub counted : n + count_good judge before ≡ most

  abbrev pub Means : ℕ → List (List S) → Outcome S → Type 0
  Means n xs (Passed m) = NoneReaches judge xs × (m ≡ n + count_good judge xs) × (m ≤ most)
  Means n xs (Found x m) = Finds n xs x m
  Means n xs Full = Overflows n xs

  -- how many are good, with one before
  abbrev one_if : Bool → ℕ
  one_if true = 1
  one_if false = 0

  counts : (x : List S) (b : Bool) (xs : List (List S)) → is_good (judge x) ≡ b → count_good judge (x ∷ xs) ≡ one_if b + count_good judge xs
  counts x b xs is = (λ i. length (cond (is i) (x ∷ filter (λ x. is_good (judge x)) xs) (filter (λ x. is_good (judge x)) xs))) ∙ cases b
    where
      cases : (b : Bool) → length (cond b (x ∷ filter (λ x. is_good (judge x)) xs) (filter (λ x. is_good (judge x)) xs)) ≡ one_if b + count_good judge xs
      cases true = omega arith
      cases false = omega arith

  -- one before that does not reach
  behind_one : (x : List S) (b : Bool) (xs : List (List S)) (n m : ℕ) → is_good (judge x) ≡ b → judge x ≢ Reached → m ≡ n + one_if b → (o : Outcome S) → Means m xs o → Means n (x ∷ xs) o
  behind_one x b xs n m good miss is (Passed k) means =
      let c = counts x b xs good in
      ((miss, means.0), omega (arith, c, means.1, is), means.2)
  behind_one x b xs n m good miss is (Found y k) means =
      let c = counts x b means.before good in
      record {
        before = x ∷ means.before;
        after = means.after;
        is = ap (λ ys. x ∷ ys) means.is;
        reaches = means.reaches;
        earlier = (miss, means.earlier);
        counted = omega (arith, c, means.counted, is);
        within = means.within;
      }
  behind_one x b xs n m good miss is Full means =
      let c = counts x b means.before good in
      record {
        before = x ∷ means.before;
        more = means.more;
        after = means.after;
        is = ap (λ ys. x ∷ ys) means.is;
        good = means.good;
        none = (miss, means.none);
        counted = omega (arith, c, means.counted, is);
      }

  full_at : (x : List S) (xs : List (List S)) (n : ℕ) → is_good (judge x) ≡ true → n ≤ most → most ≤ n → Overflows n (x ∷ xs)
  full_at x xs n good le ge = record { before = []; more = x; after = xs; is = refl; good = good; none = tt; counted = omega (arith, le, ge) }

  pub means : (xs : List (List S)) (n : ℕ) → n ≤ most → Means n xs (search_all judge most xs n)
  means [] n le = (tt, omega arith, le)
  means (x ∷ xs) n le = cases (judge x) refl (means xs n le) (means xs (n + 1))
    where
      of_missed : (b : Bool) → nat_lt n most ≡ b → judge x ≡ Missed → (n + 1 ≤ most → Means (n + 1) xs (search_all judge most xs (n + 1)))
          → Means n (x ∷ xs) (then_search (cond b (Passed (n + 1)) Full) (search_all judge most xs))
      of_missed true lt is rest =
          behind_one x true xs n (n + 1) (ap is_good is) (λ e. missed_misses (sym is ∙ e)) refl (search_all judge most xs (n + 1)) (rest (let less = ltb→lt n most (subst T (sym lt) tt) in omega (arith, less)))
      of_missed false lt is rest = full_at x xs n (ap is_good is) le (nltb→le n most (subst (λ b. T (not b)) (sym lt) tt))

      of_reached : (b : Bool) → nat_lt n most ≡ b → judge x ≡ Reached → Means n (x ∷ xs) (then_search (cond b (Found x (n + 1)) Full) (search_all judge most xs))
      of_reached true lt is = record {
        before = [];
        after = xs;
        is = refl;
        reaches = is;
        earlier = tt;
        counted = omega arith;
        within = let less = ltb→lt n most (subst T (sym lt) tt) in omega (arith, less);
      }
      of_reached false lt is = full_at x xs n (ap is_good is) le (nltb→le n most (subst (λ b. T (not b)) (sym lt) tt))

      cases : (j : Judgement) → judge x ≡ j → Means n xs (search_all judge most xs n) → (n + 1 ≤ most → Means (n + 1) xs (search_all judge most xs (n + 1)))
          → Means n (x ∷ xs) (then_search (search_one most n x (judge x)) (search_all judge most xs))
      cases Bad is same rest =
          subst (λ j. Means n (x ∷ xs) (then_search (search_one most n x j) (search_all judge most xs))) (sym is)
          (behind_one x false xs n n (ap is_good is) (λ e. bad_misses (sym is ∙ e)) (omega arith) (search_all judge most xs n) same)
      cases Missed is same rest =
          subst (λ j. Means n (x ∷ xs) (then_search (search_one most n x j) (search_all judge most xs))) (sym is) (of_missed (nat_lt n most) refl is rest)
      cases Reached is same rest =
          subst (λ j. Means n (x ∷ xs) (then_search (search_one most n x j) (search_all judge most xs))) (sym is) (of_reached (nat_lt n most) refl is)

  -- no more are judged than may be
  pub within_most : (xs : List (List S)) (n m : ℕ) (old new : List S) → n ≤ most → Comes (search_all judge most xs n) (ends.Passed m) old new → m ≤ most
  within_most xs n m old new le c = cases (search_all judge most xs n) (means xs n le) c
    where
      cases : (o : Outcome S) → Means n xs o → Comes o (ends.Passed m) old new → m ≤ most
      cases (Passed k) means c = subst (λ k. k ≤ most) (sym c.0) means.2
      cases (Found x k) means c = absurd c
      cases Full means c = absurd c

-- ---- lengths one after the other

put_together : {X : Type 0} (a b c d : List X) (x : X) → (a ++ (b ++ x ∷ c)) ++ d ≡ (a ++ b) ++ x ∷ (c ++ d)
put_together a b c d x = ap (λ xs. xs ++ d) (sym (append_assoc a b (x ∷ c))) ∙ append_assoc (a ++ b) (x ∷ c) d

module _ {S : Type 0} (next : List S → List S) (judge : List S → Judgement) (before : List S) where
  -- the schedules that are shorter than so many steps more
  abbrev pub shorter : ℕ → List (List S)
  shorter zero = []
  shorter (suc k) = up_to next k before

  with_longer : (k : ℕ) → up_to next k before ≡ shorter k ++ longer_by next k before
  with_longer zero = refl
  with_longer (suc k) = refl

  none_append : (xs ys : List (List S)) → NoneReaches judge xs → NoneReaches judge ys → NoneReaches judge (xs ++ ys)
  none_append [] ys none others = others
  none_append (x ∷ xs) ys none others = (none.0, none_append xs ys none.1 others)

  count_append : (xs ys : List (List S)) → count_good judge (xs ++ ys) ≡ count_good judge xs + count_good judge ys
  count_append xs ys = ap length (filter-append (λ x. is_good (judge x)) xs ys) ∙ length-append (filter (λ x. is_good (judge x)) xs) (filter (λ x. is_good (judge x)) ys)

  -- the shorter ones come first
  begins : (k more : ℕ) → (rest : List (List S)) × (up_to next (more + k) before ≡ up_to next k before ++ rest)
  begins k zero = ([], let none : 0 + k ≡ k = omega arith in ap (λ n. up_to next n before) none ∙ sym (append-nil (up_to next k before)))
  begins k (suc more) =
      let shorter = begins k more in (
        shorter.0 ++ longer_by next (suc (more + k)) before,
        (let one : suc more + k ≡ suc (more + k) = omega arith in ap (λ n. up_to next n before) one)
            ∙ ap (λ xs. xs ++ longer_by next (suc (more + k)) before) shorter.1 ∙ append_assoc (up_to next k before) shorter.0 (longer_by next (suc (more + k)) before),
      )

  -- none of the shorter ones reaches, and so many of them are good
  pub record SoFar (k judged : ℕ) : Type 0 where
    pub none : NoneReaches judge (shorter k)
    pub counted : judged ≡ count_good judge (shorter k)

  module _ (most k judged : ℕ) (le : judged ≤ most) (so_far : SoFar k judged) where
    abbrev these : Outcome S
    these = search_all judge most (longer_by next k before) judged

    pub passed_on : (now : ℕ) (new : List S) → Comes these (ends.Passed now) before new → SoFar (k + 1) now × (now ≤ most) × (new ≡ before)
    passed_on now new c = cases these (means judge most (longer_by next k before) judged le) c
      where
        cases : (o : Outcome S) → Means judge most judged (longer_by next k before) o → Comes o (ends.Passed now) before new → SoFar (k + 1) now × (now ≤ most) × (new ≡ before)
        cases (Passed m) means c =
            let added : up_to next k before ≡ shorter k ++ longer_by next k before = with_longer k in
            let counts = count_append (shorter k) (longer_by next k before) in
            let one : suc k ≡ k + 1 = omega arith in (
              subst (λ n. SoFar n now) one (record {
                none = subst (NoneReaches judge) (sym added) (none_append (shorter k) (longer_by next k before) so_far.none means.0);
                counted = c.0 ∙ means.1 ∙ (λ i. so_far.counted i + count_good judge (longer_by next k before)) ∙ sym counts ∙ ap (count_good judge) (sym added);
              }),
              subst (λ n. n ≤ most) (sym c.0) means.2,
              c.1,
            )
        cases (Found x m) means c = absurd c
        cases Full means c = absurd c

    pub found_there : (longest : ℕ) → k ≤ longest → (now : ℕ) (new : List S) → Comes these (ends.Found now) before new → Explores next judge longest most before new (explored.Found now)
    found_there longest within now new c = cases these (means judge most (longer_by next k before) judged le) c
      where
        cases : (o : Outcome S) → Means judge most judged (longer_by next k before) o → Comes o (ends.Found now) before new → Explores next judge longest most before new (explored.Found now)
        cases (Passed m) means c = absurd c
        cases Full means c = absurd c
        cases (Found x m) means c =
            let rest = begins k (longest - k) in
            let whole : longest - k + k ≡ longest = omega (arith, within) in
            let counts = count_append (shorter k) means.before in (
              record {
                before = shorter k ++ means.before;
                after = means.after ++ rest.0;
                is = ap (λ n. up_to next n before) (sym whole) ∙ rest.1
                    ∙ ap (λ xs. xs ++ rest.0) (with_longer k ∙ ap (λ xs. shorter k ++ xs) means.is)
                    ∙ put_together (shorter k) means.before means.after rest.0 x
                    ∙ ap (λ y. (shorter k ++ means.before) ++ y ∷ (means.after ++ rest.0)) (sym c.1);
                reaches = ap judge c.1 ∙ means.reaches;
                earlier = none_append (shorter k) means.before so_far.none means.earlier;
                counted = omega (arith, counts, c.0, means.counted, so_far.counted);
              },
              subst (λ n. n ≤ most) (sym c.0) means.within,
            )

    pub full_there : (longest : ℕ) → k ≤ longest → 0 < most → (new older : List S) → Comes these ends.Full before new → Explores next judge longest most before older (explored.Stopped (k - 1))
    full_there longest within some new older c = cases these (means judge most (longer_by next k before) judged le) c
      where
        at_length : (k : ℕ) → k ≤ longest → SoFar k judged → Overflows judge most judged (longer_by next k before) → Explores next judge longest most before older (explored.Stopped (k - 1))
        at_length zero within so_far over = absurd (first over.before over.is over.counted)
          where
            first : (xs : List (List S)) → before ∷ [] ≡ xs ++ over.more ∷ over.after → judged + count_good judge xs ≡ most → ⊥
            first [] is counted = let none : judged ≡ 0 = so_far.counted in omega (arith, counted, some, none)
            first (x ∷ xs) is counted =
                let long = length-append xs (over.more ∷ over.after) in
                let lengths : 1 ≡ suc (length (xs ++ over.more ∷ over.after)) = ap length is in
                let behind : length (over.more ∷ over.after) ≡ suc (length over.after) = refl in
                omega (arith, lengths, long, behind)
        at_length (suc l) within so_far over =
            let counts = count_append (up_to next l before) over.before in
            let less : l ≡ suc l - 1 = omega arith in
            let one : suc l ≡ l + 1 = omega arith in
            subst (λ n. Explores next judge longest most before older (explored.Stopped n)) less (
              omega (arith, within),
              so_far.none,
              subst (λ n. GoesOver judge (up_to next n before) most) one (record {
                before = up_to next l before ++ over.before;
                more = over.more;
                after = over.after;
                is = ap (λ xs. up_to next l before ++ xs) over.is ∙ sym (append_assoc (up_to next l before) over.before (over.more ∷ over.after));
                good = over.good;
                none = none_append (up_to next l before) over.before so_far.none over.none;
                counted = omega (arith, counts, over.counted, so_far.counted);
              }),
            )

        cases : (o : Outcome S) → Means judge most judged (longer_by next k before) o → Comes o ends.Full before new → Explores next judge longest most before older (explored.Stopped (k - 1))
        cases (Passed m) means c = absurd c
        cases (Found x m) means c = absurd c
        cases Full means c = at_length k within so_far means

  pub none_at_all : (longest judged most : ℕ) (new : List S) → judged ≤ most → SoFar (longest + 1) judged → Explores next judge longest most before new (explored.None judged)
  none_at_all longest judged most new le so_far =
      let one : longest + 1 ≡ suc longest = omega arith in
      let all : SoFar (suc longest) judged = subst (λ n. SoFar n judged) one so_far in
      (all.none, all.counted, le)
