-- Intervals of held blocks, and what becomes of them where one block more is held.
use Rattle.std.proofs.Common.{◌≡◌, ◌≢◌, ℕ, zero, suc, ◌+◌, ◌<◌, ◌≤◌, ◌-◌, ◌==◌, Bool, true, false, ◌||◌, nat_lt, nat_le, refl, sym, ap, subst, ◌∙◌, arith}
use Rattle.std.proofs.lemmas.Bool.{eqb-true, eq-eqb}
use Rattle.std.proofs.lemmas.Bool.Decides.{nat_tests}
use Rattle.someip_tp.specs.Blocks.{IsInterval, AreTied, IsFirstTo, IsLastFrom}

-- ---- the interval that ends before a block

pub first_alone : (held : ℕ → Bool) (k : ℕ) → ((j : ℕ) → j + 1 ≡ k → held j ≡ false) → IsFirstTo held k k
first_alone held k before = record {
  order = omega arith;
  within = λ j le lt. absurd (omega (arith, le, lt));
  before = before;
}

begins : (held : ℕ → Bool) (k : ℕ) → (first : ℕ) × IsFirstTo held k first
begins held zero = (0, first_alone held 0 (λ j at. absurd (omega (arith, at))))
begins held (suc k) = cases (held k) refl (begins held k)
  where
    cases : (b : Bool) → held k ≡ b → (first : ℕ) × IsFirstTo held k first → (first : ℕ) × IsFirstTo held (suc k) first
    cases false test rest = (suc k, first_alone held (suc k) (λ j at. (let same : j ≡ k = omega (arith, at) in ap held same ∙ test)))
    cases true test rest = (
      rest.0,
      record {
        order = omega (arith, rest.1.order);
        within = λ j le lt. inside j le lt (nat_lt j k) refl;
        before = rest.1.before;
      },
    )
      where
        inside : (j : ℕ) → rest.0 ≤ j → j < suc k → (b : Bool) → nat_lt j k ≡ b → held j ≡ true
        inside j le lt true below = rest.1.within j le (grind (arith, nat_tests, below))
        inside j le lt false below = let same : j ≡ k = grind (arith, nat_tests, below, lt) in ap held same ∙ test

pub first_is : (held : ℕ → Bool) (other : ℕ → ℕ) (j : ℕ) → AreTied held other → held (j + 1) ≡ false → held j ≡ true → IsFirstTo held (j + 1) (other j)
first_is held other j tied new behind =
    let found = begins held (j + 1) in
    let low : found.0 ≤ j = lower found.0 found.1 (nat_le found.0 j) refl in
    let this : IsInterval held found.0 j = record {
      order = low;
      within = λ k le at. found.1.within k le (omega (arith, at));
      before = found.1.before;
      after = new;
    } in
    subst (IsFirstTo held (j + 1)) (sym (tied found.0 j this).1) found.1
  where
    lower : (first : ℕ) → IsFirstTo held (j + 1) first → (b : Bool) → nat_le first j ≡ b → first ≤ j
    lower first is true test = grind (arith, nat_tests, test)
    lower first is false test =
        let same : j + 1 ≡ first = grind (arith, nat_tests, test, is.order) in
        absurd (let gone = is.before j same in cc)

-- ---- the interval that begins after a block

pub last_alone : (held : ℕ → Bool) (k : ℕ) → held (k + 1) ≡ false → IsLastFrom held k k
last_alone held k after = record {
  order = omega arith;
  within = λ j lt le. absurd (omega (arith, le, lt));
  after = after;
}

-- all held blocks lie below n
ends : (held : ℕ → Bool) (n : ℕ) → ((j : ℕ) → held j ≡ true → j < n) → (steps k : ℕ) → n ≤ k + steps → (last : ℕ) × IsLastFrom held k last
ends held n below zero k near = (k, last_alone held k (cases (held (k + 1)) refl))
  where
    cases : (b : Bool) → held (k + 1) ≡ b → held (k + 1) ≡ false
    cases false test = test
    cases true test = absurd (let lt = below (k + 1) test in omega (arith, lt, near))
ends held n below (suc steps) k near = cases (held (k + 1)) refl (ends held n below steps (k + 1) (omega (arith, near)))
  where
    cases : (b : Bool) → held (k + 1) ≡ b → (last : ℕ) × IsLastFrom held (k + 1) last → (last : ℕ) × IsLastFrom held k last
    cases false test rest = (k, last_alone held k test)
    cases true test rest = (
      rest.0,
      record {
        order = omega (arith, rest.1.order);
        within = λ j lt le. inside j lt le (nat_lt (k + 1) j) refl;
        after = rest.1.after;
      },
    )
      where
        inside : (j : ℕ) → k < j → j ≤ rest.0 → (b : Bool) → nat_lt (k + 1) j ≡ b → held j ≡ true
        inside j lt le true past = rest.1.within j (grind (arith, nat_tests, past)) le
        inside j lt le false past = let same : j ≡ k + 1 = grind (arith, nat_tests, past, lt) in ap held same ∙ test

pub last_is : (held : ℕ → Bool) (other : ℕ → ℕ) (n k : ℕ) → ((j : ℕ) → held j ≡ true → j < n) → AreTied held other → held k ≡ false → held (k + 1) ≡ true → IsLastFrom held k (other (k + 1))
last_is held other n k below tied new ahead =
    let found = ends held n below n (k + 1) (omega arith) in
    let this : IsInterval held (k + 1) found.0 = record {
      order = found.1.order;
      within = λ j le at. inside found.0 found.1 j le at (nat_lt (k + 1) j) refl;
      before = λ j at. (let same : j ≡ k = omega (arith, at) in ap held same ∙ new);
      after = found.1.after;
    } in
    let wide : IsLastFrom held k found.0 = record {
      order = omega (arith, found.1.order);
      within = λ j lt le. inside found.0 found.1 j (omega (arith, lt)) le (nat_lt (k + 1) j) refl;
      after = found.1.after;
    } in
    subst (IsLastFrom held k) (sym (tied (k + 1) found.0 this).0) wide
  where
    inside : (last : ℕ) → IsLastFrom held (k + 1) last → (j : ℕ) → k + 1 ≤ j → j ≤ last → (b : Bool) → nat_lt (k + 1) j ≡ b → held j ≡ true
    inside last is j le at true past = is.within j (grind (arith, nat_tests, past)) at
    inside last is j le at false past = let same : j ≡ k + 1 = grind (arith, nat_tests, past, le) in ap held same ∙ ahead

-- ---- one block more is held

-- the block is held, and the others as before
abbrev pub IsJoined : (ℕ → Bool) → ℕ → (ℕ → Bool) → Type 0
IsJoined held k held' = (j : ℕ) → held' j ≡ ((j == k) || held j)

at_new : (held held' : ℕ → Bool) (k : ℕ) → IsJoined held k held' → held' k ≡ true
at_new held held' k joined = joined k ∙ ap (λ b. b || held k) (eq-eqb k k refl)

elsewhere : (held held' : ℕ → Bool) (k j : ℕ) → IsJoined held k held' → j ≢ k → held' j ≡ held j
elsewhere held held' k j joined other = cases (j == k) refl (joined j)
  where
    cases : (b : Bool) → (j == k) ≡ b → held' j ≡ (b || held j) → held' j ≡ held j
    cases true same is = absurd (other (eqb-true j k same))
    cases false same is = is

still : (held held' : ℕ → Bool) (k j : ℕ) → IsJoined held k held' → held j ≡ true → held' j ≡ true
still held held' k j joined is = joined j ∙ cases (j == k)
  where
    cases : (b : Bool) → (b || held j) ≡ true
    cases true = refl
    cases false = is

pub tied_once_joined : (held held' : ℕ → Bool) (other other' : ℕ → ℕ) (k first last : ℕ) → AreTied held other → IsFirstTo held k first → IsLastFrom held k last
    → IsJoined held k held' → other' first ≡ last → other' last ≡ first → ((j : ℕ) → j ≢ k → j ≢ first → j ≢ last → other' j ≡ other j) → AreTied held' other'
tied_once_joined held held' other other' k first last tied begin finish joined at_first at_last rest f l this = where_is (nat_lt k f) (nat_lt l k) refl refl
  where
    -- an interval without the new block was one before
    old : ((j : ℕ) → f ≤ j → j ≤ l → j ≢ k) → ((j : ℕ) → j + 1 ≡ f → j ≢ k) → l + 1 ≢ k → IsInterval held f l
    old inside behind ahead = record {
      order = this.order;
      within = λ j le at. sym (elsewhere held held' k j joined (inside j le at)) ∙ this.within j le at;
      before = λ j at. sym (elsewhere held held' k j joined (behind j at)) ∙ this.before j at;
      after = sym (elsewhere held held' k (l + 1) joined ahead) ∙ this.after;
    }

    -- blocks between the new interval's ends are held
    inside_new : (j : ℕ) → first ≤ j → j ≤ last → held' j ≡ true
    inside_new j le at = cases (nat_lt j k) (nat_lt k j) refl refl
      where
        cases : (b d : Bool) → nat_lt j k ≡ b → nat_lt k j ≡ d → held' j ≡ true
        cases true d below past = still held held' k j joined (begin.within j le (grind (arith, nat_tests, below)))
        cases false true below past = still held held' k j joined (finish.within j (grind (arith, nat_tests, past)) at)
        cases false false below past = let same : j ≡ k = grind (arith, nat_tests, below, past) in ap held' same ∙ at_new held held' k joined

    -- what ends beside it is no block of it
    past_it : k < f → last + 1 < f
    past_it gt = cases (nat_lt (last + 1) f) refl
      where
        cases : (b : Bool) → nat_lt (last + 1) f ≡ b → last + 1 < f
        cases true test = grind (arith, nat_tests, test)
        cases false test =
            let j : ℕ = f - 1 in
            let at : j + 1 ≡ f = omega (arith, gt) in
            let on = inside_new j (omega (arith, gt, begin.order)) (grind (arith, nat_tests, test)) in
            absurd (let off = this.before j at in cc)

    short_of_it : l < k → l + 1 < first
    short_of_it lt = cases (nat_lt (l + 1) first) refl
      where
        cases : (b : Bool) → nat_lt (l + 1) first ≡ b → l + 1 < first
        cases true test = grind (arith, nat_tests, test)
        cases false test =
            let on = inside_new (l + 1) (grind (arith, nat_tests, test)) (omega (arith, lt, finish.order)) in
            absurd (let off = this.after in cc)

    -- the interval with the new block begins and ends where it was told to
    begins_so : f ≤ k → k ≤ l → f ≡ first
    begins_so low high = cases (nat_lt f first) (nat_lt first f) refl refl
      where
        cases : (b d : Bool) → nat_lt f first ≡ b → nat_lt first f ≡ d → f ≡ first
        cases true d early late =
            let j : ℕ = first - 1 in
            let lt : f < first = grind (arith, nat_tests, early) in
            let at : j + 1 ≡ first = omega (arith, lt) in
            let on = this.within j (omega (arith, lt)) (omega (arith, begin.order, high)) in
            let off = elsewhere held held' k j joined (λ same. omega (arith, same, at, begin.order)) ∙ begin.before j at in
            absurd (cc)
        cases false true early late =
            let j : ℕ = f - 1 in
            let gt : first < f = grind (arith, nat_tests, late) in
            let at : j + 1 ≡ f = omega (arith, gt) in
            let on = inside_new j (omega (arith, gt)) (omega (arith, low, finish.order)) in
            absurd (let off = this.before j at in cc)
        cases false false early late = grind (arith, nat_tests, early, late)

    ends_so : f ≤ k → k ≤ l → l ≡ last
    ends_so low high = cases (nat_lt l last) (nat_lt last l) refl refl
      where
        cases : (b d : Bool) → nat_lt l last ≡ b → nat_lt last l ≡ d → l ≡ last
        cases true d early late =
            let lt : l < last = grind (arith, nat_tests, early) in
            let on = inside_new (l + 1) (omega (arith, high, begin.order)) (omega (arith, lt)) in
            absurd (let off = this.after in cc)
        cases false true early late =
            let gt : last < l = grind (arith, nat_tests, late) in
            let on = this.within (last + 1) (omega (arith, low, finish.order)) (omega (arith, gt)) in
            let off = elsewhere held held' k (last + 1) joined (λ same. omega (arith, same, finish.order)) ∙ finish.after in
            absurd (cc)
        cases false false early late = grind (arith, nat_tests, early, late)

    where_is : (b d : Bool) → nat_lt k f ≡ b → nat_lt l k ≡ d → (other' f ≡ l) × (other' l ≡ f)
    where_is true d ahead behind =
        let gt : k < f = grind (arith, nat_tests, ahead) in
        let past : last + 1 < f = past_it gt in
        let was : IsInterval held f l = old (λ j le at same. omega (arith, le, same, gt)) (λ j at same. omega (arith, at, same, past, finish.order)) (λ same. omega (arith, same, gt, this.order)) in
        let told = tied f l was in (
          rest f (λ e. omega (arith, e, gt)) (λ e. omega (arith, e, gt, begin.order)) (λ e. omega (arith, e, past)) ∙ told.0,
          rest l (λ e. omega (arith, e, gt, this.order)) (λ e. omega (arith, e, gt, begin.order, this.order)) (λ e. omega (arith, e, past, this.order)) ∙ told.1,
        )
    where_is false true ahead behind =
        let lt : l < k = grind (arith, nat_tests, behind) in
        let short : l + 1 < first = short_of_it lt in
        let was : IsInterval held f l = old (λ j le at same. omega (arith, at, same, lt)) (λ j at same. omega (arith, at, same, lt, this.order)) (λ same. omega (arith, same, short, begin.order)) in
        let told = tied f l was in (
          rest f (λ e. omega (arith, e, lt, this.order)) (λ e. omega (arith, e, short, this.order)) (λ e. omega (arith, e, short, begin.order, finish.order, this.order)) ∙ told.0,
          rest l (λ e. omega (arith, e, lt)) (λ e. omega (arith, e, short)) (λ e. omega (arith, e, short, begin.order, finish.order)) ∙ told.1,
        )
    where_is false false ahead behind =
        let low : f ≤ k = grind (arith, nat_tests, ahead) in
        let high : k ≤ l = grind (arith, nat_tests, behind) in
        let b = begins_so low high in
        let e = ends_so low high in (ap other' b ∙ (at_first ∙ sym e), ap other' e ∙ (at_last ∙ sym b))

-- the interval that begins with the first block
pub from_start : (held : ℕ → Bool) (other : ℕ → ℕ) (n : ℕ) → ((j : ℕ) → held j ≡ true → j < n) → AreTied held other → held 0 ≡ true → IsInterval held 0 (other 0)
from_start held other n below tied first =
    let found = ends held n below n 0 (omega arith) in
    let this : IsInterval held 0 found.0 = record {
      order = omega arith;
      within = λ k le at. inside found.0 found.1 k at;
      before = λ k at. absurd (omega (arith, at));
      after = found.1.after;
    } in
    subst (IsInterval held 0) (sym (tied 0 found.0 this).0) this
  where
    inside : (last : ℕ) → IsLastFrom held 0 last → (k : ℕ) → k ≤ last → held k ≡ true
    inside last is zero at = first
    inside last is (suc k) at = is.within (suc k) (omega arith) at

-- ---- intervals are apart

pub holds_all : (held : ℕ → Bool) (first last from to block : ℕ) → IsInterval held first last → ((k : ℕ) → from ≤ k → k < to → held k ≡ true) → first ≤ block → block ≤ last → from ≤ block → block < to
    → (first ≤ from) × (to ≤ last + 1)
holds_all held first last from to block this all a b c d = (low (nat_lt from first) refl, high (nat_lt (last + 1) to) refl)
  where
    low : (t : Bool) → nat_lt from first ≡ t → first ≤ from
    low false test = grind (arith, nat_tests, test)
    low true test =
        let lt : from < first = grind (arith, nat_tests, test) in
        let off = this.before (first - 1) (omega (arith, lt)) in
        let on = all (first - 1) (omega (arith, lt)) (omega (arith, lt, a, d)) in
        absurd (cc)

    high : (t : Bool) → nat_lt (last + 1) to ≡ t → to ≤ last + 1
    high false test = grind (arith, nat_tests, test)
    high true test =
        let lt : last + 1 < to = grind (arith, nat_tests, test) in
        let on = all (last + 1) (omega (arith, b, c)) lt in
        let off = this.after in
        absurd (cc)

-- an interval that begins within another one, or right after it, begins and ends no later than that
begins_with : (held : ℕ → Bool) (a b c d : ℕ) → IsInterval held a b → IsInterval held c d → c ≤ b + 1 → c ≤ a
begins_with held a b c d one other near = cases (nat_lt a c) refl
  where
    cases : (t : Bool) → nat_lt a c ≡ t → c ≤ a
    cases false test = grind (arith, nat_tests, test)
    cases true test =
        let lt : a < c = grind (arith, nat_tests, test) in
        let off = other.before (c - 1) (omega (arith, lt)) in
        let on = one.within (c - 1) (omega (arith, lt)) (omega (arith, near)) in
        absurd (cc)

ends_with : (held : ℕ → Bool) (a b c d : ℕ) → IsInterval held a b → IsInterval held c d → c ≤ b + 1 → d ≤ b
ends_with held a b c d one other near = cases (nat_lt b d) refl
  where
    cases : (t : Bool) → nat_lt b d ≡ t → d ≤ b
    cases false test = grind (arith, nat_tests, test)
    cases true test =
        let lt : b < d = grind (arith, nat_tests, test) in
        let on = other.within (b + 1) near (omega (arith, lt)) in
        let off = one.after in
        absurd (cc)

pub are_one : (held : ℕ → Bool) (a b c d : ℕ) → IsInterval held a b → IsInterval held c d → c ≤ b + 1 → a ≤ d + 1 → (a ≡ c) × (b ≡ d)
are_one held a b c d one other near far = (
  omega (arith, begins_with held a b c d one other near, begins_with held c d a b other one far),
  omega (arith, ends_with held a b c d one other near, ends_with held c d a b other one far),
)
