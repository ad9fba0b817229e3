-- The nearest session that another receiver got tells what all of them do.
use Rattle.std.proofs.Common.{◌≡◌, ℕ, ◌==◌, ◌<◌, ◌≤◌, nat_le, nat_lt, Bool, true, false, not, ◌&&◌, ◌||◌, if◌then◌else◌, List, [], ◌∷◌, Option, None, Some, refl, ap, ◌∙◌, arith}
use Rattle.std.proofs.lemmas.Bool.{ltb-true, leb-true, leb-false, lt-ltb, le-ltb, eqb-true, eqb-false}
use Rattle.std.specs.List.{list_any}
use Rattle.audit_traffic.specs.events.EventRules.{ahead, is_nearer, is_skipped, nearer}
use Rattle.audit_traffic.specs.events.EventHistories.{nearest_of}

or_none : (b : Bool) → b ≡ (b || false)
or_none true = refl
or_none false = refl

-- the lesser of two is below a bound where one of them is
lesser : (near d bound : ℕ) → is_nearer (if nat_le near d then Some near else Some d) bound ≡ (nat_lt d bound || nat_lt near bound)
lesser near d bound = cases (nat_le near d) refl
  where
    first : near ≤ d → (b : Bool) → nat_lt d bound ≡ b → nat_lt near bound ≡ (b || nat_lt near bound)
    first le true is = let lt = ltb-true d bound is in lt-ltb near bound (omega (arith, le, lt))
    first le false is = refl

    second : d < near → (b : Bool) → nat_lt near bound ≡ b → nat_lt d bound ≡ (nat_lt d bound || b)
    second lt true is =
        let below = ltb-true near bound is in
        let here : nat_lt d bound ≡ true = lt-ltb d bound (omega (arith, lt, below)) in
        rw here refl
    second lt false is = or_none (nat_lt d bound)

    cases : (b : Bool) → nat_le near d ≡ b → is_nearer (if b then Some near else Some d) bound ≡ (nat_lt d bound || nat_lt near bound)
    cases true is = first (leb-true near d is) (nat_lt d bound) refl
    cases false is = second (leb-false near d is) (nat_lt near bound) refl

nearer_step : (d : ℕ) (near : Option ℕ) (bound : ℕ) → is_nearer (nearer d near) bound ≡ ((nat_lt 0 d && nat_lt d bound) || is_nearer near bound)
nearer_step d near bound = cases (d == 0) refl
  where
    none : d ≡ 0 → nat_lt 0 d ≡ false
    none is = le-ltb 0 d (omega (arith, is))

    some : (d ≡ 0 → ⊥) → nat_lt 0 d ≡ true
    some not_zero = lt-ltb 0 d (omega (arith, not_zero))

    at_none : (b : Bool) → nat_lt 0 d ≡ not b → is_nearer (if b then None else Some d) bound ≡ ((nat_lt 0 d && nat_lt d bound) || false)
    at_none true is = rw is refl
    at_none false is = rw is (or_none (nat_lt d bound))

    at_some : (n : ℕ) (b : Bool) → nat_lt 0 d ≡ not b → is_nearer (if b || nat_le n d then Some n else Some d) bound ≡ ((nat_lt 0 d && nat_lt d bound) || nat_lt n bound)
    at_some n true is = rw is refl
    at_some n false is = rw is (lesser n d bound)

    by : (b : Bool) → (d == 0) ≡ b → nat_lt 0 d ≡ not b → (v : Option ℕ) → is_nearer (nearer d v) bound ≡ ((nat_lt 0 d && nat_lt d bound) || is_nearer v bound)
    by b is pos None = rw is (at_none b pos)
    by b is pos (Some n) = rw is (at_some n b pos)

    cases : (b : Bool) → (d == 0) ≡ b → is_nearer (nearer d near) bound ≡ ((nat_lt 0 d && nat_lt d bound) || is_nearer near bound)
    cases true is = by true is (none (eqb-true d 0 is)) near
    cases false is = by false is (some (eqb-false d 0 is)) near

-- one number tells whether a session between was got
pub nearest_tells : (last session : ℕ) (got : List ℕ) → is_nearer (nearest_of last got) (ahead last session) ≡ list_any (is_skipped last session) got
nearest_tells last session [] = refl
nearest_tells last session (one ∷ more) =
    nearer_step (ahead last one) (nearest_of last more) (ahead last session)
    ∙ ap (λ b. is_skipped last session one || b) (nearest_tells last session more)
