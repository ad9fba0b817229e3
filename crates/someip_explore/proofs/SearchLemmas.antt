-- What a search among some schedules comes to, one after the other.
use Rattle.std.proofs.Common.{◌≡◌, ℕ, zero, suc, ◌-◌, List, [], ◌∷◌, ◌++◌, length, flat_map, take, refl, sym, ap, subst, ◌∙◌, arith}
use Rattle.std.proofs.Math.Seq.{take-append_seam}
use Rattle.someip_explore.specs.declared.search.Judgement.{Judgement}
use Rattle.someip_explore.specs.declared.search.Ended.{Ended}
use Rattle.someip_explore.specs.declared.search.Ended.TheVariants as ends
use Rattle.someip_explore.specs.Search.{longer_by}
use Rattle.someip_explore.specs.Searching.{Outcome, Passed, Found, Full, Comes, search_all, search_one, then_search}

module _ {S : Type 0} where
  -- what stands before the last
  pub taken_last : (xs : List S) (x : S) (n : ℕ) → n ≡ length xs → take n (xs ++ x ∷ []) ≡ xs
  taken_last xs x n is = ap (λ n. take n (xs ++ x ∷ [])) is ∙ take-append_seam xs (x ∷ [])

  then_then : (o : Outcome S) (f g : ℕ → Outcome S) → then_search o (λ n. then_search (f n) g) ≡ then_search (then_search o f) g
  then_then (Passed n) f g = refl
  then_then (Found x n) f g = refl
  then_then Full f g = refl

  passed : (o : Outcome S) (m : ℕ) (old new : List S) → Comes o (ends.Passed m) old new → (o ≡ Passed m) × (new ≡ old)
  passed (Passed n) m old new c = (ap Passed (sym c.0), c.1)
  passed (Found x n) m old new c = absurd c
  passed Full m old new c = absurd c

  -- what did not go on stays
  stays : (o : Outcome S) (f : ℕ → Outcome S) (e : Ended) (old older new : List S) → ((m : ℕ) → e ≡ ends.Passed m → ⊥) → Comes o e old new → Comes (then_search o f) e older new
  stays (Passed n) f (ends.Passed m) old older new other c = absurd (other m refl)
  stays (Passed n) f (ends.Found m) old older new other c = absurd c
  stays (Passed n) f ends.Full old older new other c = absurd c
  stays (Found x n) f (ends.Found m) old older new other c = c
  stays (Found x n) f (ends.Passed m) old older new other c = absurd c
  stays (Found x n) f ends.Full old older new other c = absurd c
  stays Full f ends.Full old older new other c = c
  stays Full f (ends.Passed m) old older new other c = absurd c
  stays Full f (ends.Found m) old older new other c = absurd c

  module _ (judge : List S → Judgement) (most : ℕ) where
    pub append : (xs ys : List (List S)) (n : ℕ) → search_all judge most (xs ++ ys) n ≡ then_search (search_all judge most xs n) (search_all judge most ys)
    append [] ys n = refl
    append (x ∷ xs) ys n =
        (λ i. then_search (search_one most n x (judge x)) (λ m. append xs ys m i))
        ∙ then_then (search_one most n x (judge x)) (search_all judge most xs) (search_all judge most ys)

    -- of one schedule alone
    pub alone : (x : List S) (n : ℕ) → search_all judge most (x ∷ []) n ≡ search_one most n x (judge x)
    alone x n = cases (search_one most n x (judge x))
      where
        cases : (o : Outcome S) → then_search o Passed ≡ o
        cases (Passed m) = refl
        cases (Found y m) = refl
        cases Full = refl

    module _ (next : List S → List S) (left : ℕ) (old : List S) where
      -- the schedules that go on by a step
      abbrev pub behind : S → List (List S)
      behind s = longer_by next (left - 1) (old ++ s ∷ [])

      -- what is left of the choices
      abbrev pub of_choices : List S → ℕ → Outcome S
      of_choices choices n = search_all judge most (flat_map behind choices) n

      pub chosen : (left ≡ 0 → ⊥) → (n : ℕ) → search_all judge most (longer_by next left old) n ≡ of_choices (next old) n
      chosen some n = cases left some refl
        where
          cases : (k : ℕ) → (k ≡ 0 → ⊥) → k ≡ left → search_all judge most (longer_by next k old) n ≡ search_all judge most (flat_map (λ s. longer_by next (k - 1) (old ++ s ∷ [])) (next old)) n
          cases zero some is = absurd (some refl)
          cases (suc k) some is =
              let one : k ≡ suc k - 1 = omega arith in
              λ i. search_all judge most (flat_map (λ s. longer_by next (one i) (old ++ s ∷ [])) (next old)) n

      -- a choice passed: what is left of the others makes the rest
      pub went_on : (s : S) (rest : List S) (n m : ℕ) (pushed new : List S) → pushed ≡ old ++ s ∷ []
          → Comes (search_all judge most (longer_by next (left - 1) pushed) n) (ends.Passed m) pushed new → (of_choices (s ∷ rest) n ≡ of_choices rest m) × (new ≡ old ++ s ∷ [])
      went_on s rest n m pushed new is c =
          let did = passed (search_all judge most (longer_by next (left - 1) pushed) n) m pushed new c in (
            append (behind s) (flat_map behind rest) n
                ∙ (λ i. then_search (search_all judge most (longer_by next (left - 1) (sym is i)) n) (of_choices rest))
                ∙ (λ i. then_search (did.0 i) (of_choices rest)),
            did.1 ∙ is,
          )

      -- a choice did not: the whole came to that
      pub ended : (s : S) (rest : List S) (n : ℕ) (e : Ended) (pushed older new : List S) → pushed ≡ old ++ s ∷ [] → ((m : ℕ) → e ≡ ends.Passed m → ⊥)
          → Comes (search_all judge most (longer_by next (left - 1) pushed) n) e pushed new → Comes (of_choices (s ∷ rest) n) e older new
      ended s rest n e pushed older new is other c =
          subst (λ o. Comes o e older new)
          (sym (append (behind s) (flat_map behind rest) n ∙ (λ i. then_search (search_all judge most (longer_by next (left - 1) (sym is i)) n) (of_choices rest))))
          (stays (search_all judge most (longer_by next (left - 1) pushed) n) (of_choices rest) e pushed older new other c)
