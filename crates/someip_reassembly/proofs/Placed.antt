-- What is read of bytes that were added at their places.
use Rattle.std.proofs.Common.{◌≡◌, ◌≢◌, ℕ, suc, ◌+◌, ◌-◌, ◌<◌, Bool, true, false, cond, not, ◌||◌, ◌==◌, nat_le, List, [], ◌∷◌, slice_get, Option, None, Some, refl, sym, ap, ◌∙◌, arith}
use Rattle.std.specs.List.{list_any}
use Rattle.std.specs.Option.{is_some}
use Rattle.std.proofs.lemmas.Bool.{eqb-true, eq-eqb}
use Rattle.std.proofs.lemmas.Bool.Decides.{nat_tests}
use Rattle.std.proofs.lemmas.Grind.{common_steps}
use Rattle.std.specs.Ordering.{nat_cmp}
use Rattle.std.specs.FinMap.{FinMap, get, insert, gets}
use Rattle.someip_reassembly.specs.SegmentOffers.{placed, added, differ}
use Rattle.someip_reassembly.specs.Slices.{byte_at, Agree}

pub or_false : (a b : Bool) → (a || b) ≡ false → (a ≡ false) × (b ≡ false)
or_false true b p = cc
or_false false b p = (refl, p)

-- the byte of a slice, or else what there was
abbrev pub over : Option ℕ → Option ℕ → Option ℕ
over None other = other
over (Some byte) other = Some byte

pub over-none : (x : Option ℕ) → over x None ≡ x
over-none None = refl
over-none (Some b) = refl

pub over-over : (x y z : Option ℕ) → over (over x y) z ≡ over x (over y z)
over-over None y z = refl
over-over (Some b) y z = refl

pub is_some-over : (x y : Option ℕ) → is_some y ≡ true → is_some (over x y) ≡ true
is_some-over None y p = p
is_some-over (Some b) y p = refl

pub is_some-first : (x y : Option ℕ) → is_some x ≡ true → is_some (over x y) ≡ true
is_some-first None y p = cc
is_some-first (Some b) y p = refl

get-insert-other : (bytes : FinMap nat_cmp ℕ) (offset b place : ℕ) → place ≢ offset → get (insert bytes offset b) place ≡ get bytes place
get-insert-other bytes offset b place other = grind (arith, gets, common_steps, nat_tests)

get-insert-same : (bytes : FinMap nat_cmp ℕ) (offset b place : ℕ) → place ≡ offset → get (insert bytes offset b) place ≡ Some b
get-insert-same bytes offset b place same = grind (arith, gets, common_steps, nat_tests)

added_here : (bytes : FinMap nat_cmp ℕ) (offset b : ℕ) (bs : List ℕ) (place : ℕ) (d e : Bool) → nat_le offset place ≡ d → nat_le (offset + 1) place ≡ e
    → over (cond e (slice_get bs (place - (offset + 1))) None) (get (insert bytes offset b) place) ≡ over (cond d (slice_get (b ∷ bs) (place - offset)) None) (get bytes place)
added_here bytes offset b bs place false false p q =
    let other : place ≢ offset = grind (arith, nat_tests) in get-insert-other bytes offset b place other
added_here bytes offset b bs place true false p q =
    let same : place ≡ offset = grind (arith, nat_tests) in
    let first : place - offset ≡ 0 = omega arith in
    rw (first, get-insert-same bytes offset b place same)
added_here bytes offset b bs place true true p q =
    let later : offset < place = grind (arith, nat_tests) in
    let other : place ≢ offset = omega arith in
    let next : place - offset ≡ suc (place - (offset + 1)) = omega arith in
    rw (next, get-insert-other bytes offset b place other)
added_here bytes offset b bs place false true p q = absurd (grind (arith, nat_tests))

-- what is held at a place once a slice was added
pub get-added : (bytes : FinMap nat_cmp ℕ) (offset : ℕ) (bs : List ℕ) (place : ℕ) → get (added bytes (placed offset bs)) place ≡ over (byte_at offset bs place) (get bytes place)
get-added bytes offset [] place = none (nat_le offset place)
  where
    none : (d : Bool) → get bytes place ≡ over (cond d (slice_get {X = ℕ} [] (place - offset)) None) (get bytes place)
    none true = refl
    none false = refl
get-added bytes offset (b ∷ bs) place =
    get-added (insert bytes offset b) (offset + 1) bs place ∙ added_here bytes offset b bs place _ _ refl refl

-- ---- a test of each byte of a slice

byte_first : (offset b : ℕ) (bs : List ℕ) → byte_at offset (b ∷ bs) offset ≡ Some b
byte_first offset b bs =
    let test : nat_le offset offset ≡ true = grind (arith, nat_tests) in
    let first : offset - offset ≡ 0 = omega arith in
    rw (test, first)

byte_later : (offset b : ℕ) (bs : List ℕ) (place c : ℕ) → byte_at (offset + 1) bs place ≡ Some c → byte_at offset (b ∷ bs) place ≡ Some c
byte_later offset b bs place c = cases (nat_le (offset + 1) place) refl
  where
    cases : (d : Bool) → nat_le (offset + 1) place ≡ d → cond d (slice_get bs (place - (offset + 1))) None ≡ Some c → byte_at offset (b ∷ bs) place ≡ Some c
    cases true test is =
        let wide : nat_le offset place ≡ true = grind (arith, nat_tests) in
        let next : place - offset ≡ suc (place - (offset + 1)) = grind (arith, nat_tests) in
        rw (wide, next) is
    cases false test is = absurd (cc)

-- the byte is the first one, or one of the others
byte_cases : {Q : Type 0} (offset b : ℕ) (bs : List ℕ) (place c : ℕ) → byte_at offset (b ∷ bs) place ≡ Some c → (place ≡ offset → b ≡ c → Q) → (byte_at (offset + 1) bs place ≡ Some c → Q) → Q
byte_cases {Q} offset b bs place c is first later = cases (nat_le offset place) (nat_le (offset + 1) place) refl refl is
  where
    cases : (d e : Bool) → nat_le offset place ≡ d → nat_le (offset + 1) place ≡ e → cond d (slice_get (b ∷ bs) (place - offset)) None ≡ Some c → Q
    cases true false p q is =
        let same : place ≡ offset = grind (arith, nat_tests) in
        let zero_in : place - offset ≡ 0 = omega arith in
        let this : Some b ≡ Some c = ap (slice_get (b ∷ bs)) (sym zero_in) ∙ is in
        first same (cc)
    cases true true p q is =
        let next : suc (place - (offset + 1)) ≡ place - offset = grind (arith, nat_tests) in
        later (rw q (ap (slice_get (b ∷ bs)) next ∙ is))
    cases false e p q is = absurd (cc)

differ_never : (x : Option ℕ) (b : ℕ) → ((a : ℕ) → x ≡ Some a → a ≡ b) → differ x (Some b) ≡ false
differ_never None b same = refl
differ_never (Some a) b same = ap not (eq-eqb a b (same a refl))

differ_not : (a b : ℕ) → differ (Some a) (Some b) ≡ false → a ≡ b
differ_not a b p = eqb-true a b (turn (a == b) p)
  where
    turn : (t : Bool) → not t ≡ false → t ≡ true
    turn true p = refl
    turn false p = cc

-- no byte differs from what is held, exactly where the two agree
pub none_differs : (held : ℕ → Option ℕ) (offset : ℕ) (bs : List ℕ) → Agree held (byte_at offset bs) → list_any (λ e. differ (held e.0) (Some e.1)) (placed offset bs) ≡ false
none_differs held offset [] agree = refl
none_differs held offset (b ∷ bs) agree =
    rw (differ_never (held offset) b (λ a is. agree offset a b is (byte_first offset b bs)))
    (none_differs held (offset + 1) bs (λ place a c p q. agree place a c p (byte_later offset b bs place c q)))

pub agree_where_none_differs : (held : ℕ → Option ℕ) (offset : ℕ) (bs : List ℕ) → list_any (λ e. differ (held e.0) (Some e.1)) (placed offset bs) ≡ false → Agree held (byte_at offset bs)
agree_where_none_differs held offset [] none place a c p q = absurd (nothing (nat_le offset place) q)
  where
    nothing : (d : Bool) → cond d (slice_get {X = ℕ} [] (place - offset)) None ≡ Some c → ⊥
    nothing true is = cc
    nothing false is = cc
agree_where_none_differs held offset (b ∷ bs) none place a c p q =
    let parts = or_false _ _ none in
    byte_cases offset b bs place c q
    (λ at is. differ_not a b (ap (λ x. differ x (Some b)) (sym p ∙ ap held at) ∙ parts.0) ∙ is)
    (λ later. agree_where_none_differs held (offset + 1) bs parts.1 place a c p later)
