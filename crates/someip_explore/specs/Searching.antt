-- What a search among some schedules comes to.
use Rattle.std.specs.Prelude.{ℕ, ◌+◌, ◌≡◌, ◌≢◌, ◌<◌, ◌≤◌, nat_lt, Bool, true, false, if◌then◌else◌, List, [], ◌∷◌, ◌++◌, length, filter}
use Rattle.std.specs.List.{AllByRecursion}
use Rattle.someip_explore.specs.Search.{up_to}
use Rattle.someip_explore.specs.declared.search.Judgement.{Judgement}
use Rattle.someip_explore.specs.declared.search.Judgement.TheVariants.{Bad, Missed, Reached}
use Rattle.someip_explore.specs.declared.search.Ended as declared
use Rattle.someip_explore.specs.declared.search.Explored.{Explored}
use Rattle.someip_explore.specs.declared.search.Explored.TheVariants as explored
use Rattle.someip_explore.specs.declared.search.Ended.TheVariants as ends

-- a schedule is good: it can happen
abbrev pub is_good : Judgement → Bool
is_good Bad = false
is_good judgement = true

-- what a search comes to: all were judged, or one of them reaches, or more are good than may be judged. Numbers count the good
-- ones that were judged, the last one too
pub data Outcome (S : Type 0) : Type 0 where
  Passed : ℕ → Outcome S
  Found : List S → ℕ → Outcome S
  Full : Outcome S

module _ {S : Type 0} where
  -- what comes of what was judged so far and of the others
  abbrev pub then_search : Outcome S → (ℕ → Outcome S) → Outcome S
  then_search (Passed n) others = others n
  then_search (Found x n) others = Found x n
  then_search Full others = Full

  -- a good schedule is judged if one more may be
  abbrev pub unless_full : ℕ → ℕ → Outcome S → Outcome S
  unless_full most n outcome = if nat_lt n most then outcome else Full

  -- what comes of a schedule with a judgement, where so many were judged before it
  abbrev pub search_one : ℕ → ℕ → List S → Judgement → Outcome S
  search_one most n x Bad = Passed n
  search_one most n x Missed = unless_full most n (Passed (n + 1))
  search_one most n x Reached = unless_full most n (Found x (n + 1))

  module _ (judge : List S → Judgement) (most : ℕ) where
    -- what comes of schedules, one after the other
    abbrev pub search_all : List (List S) → ℕ → Outcome S
    search_all [] n = Passed n
    search_all (x ∷ xs) n = then_search (search_one most n x (judge x)) (search_all xs)

  -- a search among those behind a beginning came to this: the steps are those that were found, or as before
  abbrev pub Comes : Outcome S → declared.Ended → List S → List S → Type 0
  Comes (Passed n) (ends.Passed m) old new = (m ≡ n) × (new ≡ old)
  Comes (Found x n) (ends.Found m) old new = (m ≡ n) × (new ≡ x)
  Comes Full ends.Full old new = Unit {0}
  Comes outcome ended old new = ⊥

  -- ---- what that means

  module _ (judge : List S → Judgement) where
    -- none of some schedules reaches
    abbrev pub NoneReaches : List (List S) → Type 0
    NoneReaches xs = AllByRecursion (λ x. judge x ≢ Reached) xs

    -- how many of them are good
    abbrev pub count_good : List (List S) → ℕ
    count_good xs = length (filter (λ x. is_good (judge x)) xs)

    -- one is the first of them that reaches, and with it so many were judged
    pub record IsFirst (xs : List (List S)) (x : List S) (judged : ℕ) : Type 0 where
      pub before : List (List S)
      pub after : List (List S)
      pub is : xs ≡ before ++ x ∷ after
      pub reaches : judge x ≡ Reached
      pub earlier : NoneReaches before
      pub counted : judged ≡ count_good before + 1

    -- none of the first of them reaches, of which so many are good, and after those comes another good one
    pub record GoesOver (xs : List (List S)) (most : ℕ) : Type 0 where
      pub before : List (List S)
      pub more : List S
      pub after : List (List S)
      pub is : xs ≡ before ++ more ∷ after
      pub good : is_good (judge more) ≡ true
      pub none : NoneReaches before
      pub counted : count_good before ≡ most

  -- What a search of the schedules behind a beginning comes to, with at most so many steps more, of which at most so many may be
  -- judged. The first that reaches is found, or none of them reaches, or more are good than may be judged, of which the first do
  -- not reach: then no schedule of that many steps reaches, nor a shorter one
  abbrev pub Explores : (List S → List S) → (List S → Judgement) → ℕ → ℕ → List S → List S → Explored → Type 0
  Explores next judge longest most before steps (explored.Found n) = IsFirst judge (up_to next longest before) steps n × (n ≤ most)
  Explores next judge longest most before steps (explored.None n) =
      NoneReaches judge (up_to next longest before) × (n ≡ count_good judge (up_to next longest before)) × (n ≤ most)
  Explores next judge longest most before steps (explored.Stopped covered) =
      (covered < longest) × NoneReaches judge (up_to next covered before) × GoesOver judge (up_to next (covered + 1) before) most
