-- Blocks that are written.
use Rattle.std.proofs.Common.{◌≡◌, ◌≢◌, ℕ, zero, suc, ◌+◌, ◌-◌, ◌<◌, ◌≤◌, ◌==◌, Bool, true, false, ◌||◌, ◌&&◌, nat_lt, nat_le, List, [], ◌∷◌, ◌++◌, length, take, drop, replicate, set, get_or, Option, None, Some, refl, sym, ap, subst, ◌∙◌, arith}
use Rattle.std.specs.List.{slice_get}
use Rattle.std.specs.Option.{option_map_or}
use Rattle.std.proofs.lemmas.Bool.{eqb-true, eq-eqb}
use Rattle.std.proofs.lemmas.Bool.Decides.{nat_tests}
use Rattle.std.proofs.Math.ListN.{drop_of_length-le}
use Rattle.std.proofs.lemmas.List.{length-set, append-nil, take_all}
use Rattle.std.proofs.lemmas.Option.{slice_get_within, slice_get-get_or, same_Some}
use Rattle.someip_tp.specs.declared.pool.block.Block.{Block}
use Rattle.someip_tp.specs.Blocks.{is_held, other_end, AreTied, AreUpTo, IsInterval, IsFirstTo, IsLastFrom}
use Rattle.someip_tp.proofs.reserved_memory.Intervals.{first_is, last_is, IsJoined, tied_once_joined}

-- ---- an element that is set

pub slice_get-same : {X : Type 0} (xs : List X) (i : ℕ) (x : X) → i < length xs → slice_get (set xs i x) i ≡ Some x
slice_get-same [] i x lt = absurd (omega (arith, lt))
slice_get-same (y ∷ xs) zero x lt = refl
slice_get-same (y ∷ xs) (suc i) x lt = slice_get-same xs i x (omega (arith, lt))

pub slice_get-other : {X : Type 0} (xs : List X) (i j : ℕ) (x : X) → j ≢ i → slice_get (set xs i x) j ≡ slice_get xs j
slice_get-other [] i j x other = refl
slice_get-other (y ∷ xs) zero zero x other = absurd (other refl)
slice_get-other (y ∷ xs) zero (suc j) x other = refl
slice_get-other (y ∷ xs) (suc i) zero x other = refl
slice_get-other (y ∷ xs) (suc i) (suc j) x other = slice_get-other xs i j x (λ e. other (ap suc e))

-- ---- a held block is there

of_some : {X : Type 0} (p : X → Bool) (o : Option X) → option_map_or p o false ≡ true → (x : X) × (o ≡ Some x)
of_some p None is = cc
of_some p (Some x) is = (x, refl)

pub held_within : (message : ℕ) (blocks : List Block) (j : ℕ) → is_held message blocks j ≡ true → j < length blocks
held_within message blocks j is =
    let found = of_some (λ (b : Block). b.message == message) (slice_get blocks j) is in slice_get_within blocks j found.0 found.1

-- ---- the intervals beside a block that is not held

held_as : (message : ℕ) (blocks : List Block) (j : ℕ) (b : Block) → slice_get blocks j ≡ Some b → is_held message blocks j ≡ (b.message == message)
held_as message blocks j b is = ap (λ p. option_map_or (λ (x : Block). x.message == message) p false) is

pub told_as : (blocks : List Block) (j : ℕ) (d : Block) → j < length blocks → other_end blocks j ≡ (get_or blocks j d).other
told_as blocks j d lt = ap (λ p. option_map_or (λ (x : Block). x.other) p 0) (slice_get-get_or blocks j d lt)

pub first_found : (message : ℕ) (blocks : List Block) (k : ℕ) (d : Block) → AreTied (is_held message blocks) (other_end blocks) → is_held message blocks k ≡ false → 0 < k
    → is_held message blocks (k - 1) ≡ true → IsFirstTo (is_held message blocks) k (get_or blocks (k - 1) d).other
first_found message blocks zero d tied new some held = absurd (omega (arith, some))
first_found message blocks (suc k) d tied new some held =
    let at : k ≡ suc k - 1 = omega arith in
    let next : k + 1 ≡ suc k = omega arith in
    let behind : is_held message blocks k ≡ true = ap (is_held message blocks) at ∙ held in
    let found = first_is (is_held message blocks) (other_end blocks) k tied (ap (is_held message blocks) next ∙ new) behind in
    let told : other_end blocks k ≡ (get_or blocks (suc k - 1) d).other = told_as blocks k d (held_within message blocks k behind) ∙ ap (λ j. (get_or blocks j d).other) at in
    subst (λ f. IsFirstTo (is_held message blocks) (suc k) f) told (subst (λ n. IsFirstTo (is_held message blocks) n (other_end blocks k)) next found)

pub last_found : (message : ℕ) (blocks : List Block) (k : ℕ) (d : Block) → AreTied (is_held message blocks) (other_end blocks) → is_held message blocks k ≡ false
    → is_held message blocks (k + 1) ≡ true → IsLastFrom (is_held message blocks) k (get_or blocks (k + 1) d).other
last_found message blocks k d tied new held =
    let found = last_is (is_held message blocks) (other_end blocks) (length blocks) k (held_within message blocks) tied new held in
    subst (λ l. IsLastFrom (is_held message blocks) k l) (told_as blocks (k + 1) d (held_within message blocks (k + 1) held)) found

-- ---- a block is held, and the ends of its interval tell one another

-- the blocks once one is held, whose interval is from the first to the last
abbrev pub tied_at : ℕ → List Block → ℕ → ℕ → ℕ → List Block
tied_at message blocks k first last =
    set (set (set blocks k (record { message = message; other = k })) first (record { message = message; other = last })) last (record { message = message; other = first })

-- one that is set is held, and no other is held for it or for it no longer
one_set : (message : ℕ) (blocks : List Block) (k o : ℕ) → k < length blocks → (j : ℕ) → is_held message (set blocks k (record { message = message; other = o })) j ≡ ((j == k) || is_held message blocks j)
one_set message blocks k o lt j = cases (j == k) refl
  where
    cases : (b : Bool) → (j == k) ≡ b → is_held message (set blocks k (record { message = message; other = o })) j ≡ (b || is_held message blocks j)
    cases true same =
        let at : j ≡ k = eqb-true j k same in
        let found : slice_get (set blocks k (record { message = message; other = o })) j ≡ Some (record { message = message; other = o }) = ap (slice_get (set blocks k (record { message = message; other = o }))) at ∙ slice_get-same blocks k _ lt in
        held_as message (set blocks k (record { message = message; other = o })) j _ found ∙ eq-eqb message message refl
    cases false other =
        ap (λ p. option_map_or (λ (b : Block). b.message == message) p false) (slice_get-other blocks k j _ (λ same. (let is = eq-eqb j k same in absurd (cc))))

other_set : (blocks : List Block) (k : ℕ) (b : Block) → k < length blocks → other_end (set blocks k b) k ≡ b.other
other_set blocks k b lt = ap (λ p. option_map_or (λ (x : Block). x.other) p 0) (slice_get-same blocks k b lt)

other_kept : (blocks : List Block) (k j : ℕ) (b : Block) → j ≢ k → other_end (set blocks k b) j ≡ other_end blocks j
other_kept blocks k j b other = ap (λ p. option_map_or (λ (x : Block). x.other) p 0) (slice_get-other blocks k j b other)

first_within : (message : ℕ) (blocks : List Block) (k first : ℕ) → k < length blocks → IsFirstTo (is_held message blocks) k first → first < length blocks
first_within message blocks k first lt begin = omega (arith, lt, begin.order)

last_within : (message : ℕ) (blocks : List Block) (k last : ℕ) → k < length blocks → IsLastFrom (is_held message blocks) k last → last < length blocks
last_within message blocks k last lt finish = cases (nat_lt k last) refl
  where
    cases : (b : Bool) → nat_lt k last ≡ b → last < length blocks
    cases true test = held_within message blocks last (finish.within last (grind (arith, nat_tests, test)) (omega arith))
    cases false test = let same : last ≡ k = grind (arith, nat_tests, test, finish.order) in omega (arith, same, lt)

-- a block that is held at the first or the last of the interval, or is the new one
held_there : (message : ℕ) (blocks : List Block) (k j : ℕ) → (j ≢ k → is_held message blocks j ≡ true) → (t : ℕ) → ((t == j) || ((t == k) || is_held message blocks t)) ≡ ((t == k) || is_held message blocks t)
held_there message blocks k j there t = cases (t == j) refl (t == k) refl
  where
    cases : (b : Bool) → (t == j) ≡ b → (d : Bool) → (t == k) ≡ d → (b || (d || is_held message blocks t)) ≡ (d || is_held message blocks t)
    cases true same true new = refl
    cases true same false other =
        let at : t ≡ j = eqb-true t j same in
        let apart : j ≢ k = λ is. (let e = eq-eqb t k (at ∙ is) in absurd (cc)) in
        sym (ap (is_held message blocks) at ∙ there apart)
    cases false other d test = refl

pub joined_so : (message : ℕ) (blocks : List Block) (k first last : ℕ) → k < length blocks → IsFirstTo (is_held message blocks) k first → IsLastFrom (is_held message blocks) k last
    → IsJoined (is_held message blocks) k (is_held message (tied_at message blocks k first last))
joined_so message blocks k first last lt begin finish t =
    let low = first_within message blocks k first lt begin in
    let high = last_within message blocks k last lt finish in
    let one : List Block = set blocks k (record { message = message; other = k }) in
    let two : List Block = set one first (record { message = message; other = last }) in
    let at_first : first ≢ k → is_held message blocks first ≡ true = λ apart. begin.within first (omega arith) (grind (arith, apart, begin.order)) in
    let at_last : last ≢ k → is_held message blocks last ≡ true = λ apart. finish.within last (grind (arith, apart, finish.order)) (omega arith) in
    one_set message two last first (omega (arith, high, length-set one first (record { message = message; other = last }), length-set blocks k (record { message = message; other = k }))) t
    ∙ ap (λ b. (t == last) || b) (one_set message one first last (omega (arith, low, length-set blocks k (record { message = message; other = k }))) t ∙ ap (λ b. (t == first) || b) (one_set message blocks k k lt t) ∙ held_there message blocks k first at_first t)
    ∙ held_there message blocks k last at_last t

pub tied_so : (message : ℕ) (blocks : List Block) (k first last : ℕ) → k < length blocks → AreTied (is_held message blocks) (other_end blocks) → IsFirstTo (is_held message blocks) k first
    → IsLastFrom (is_held message blocks) k last → AreTied (is_held message (tied_at message blocks k first last)) (other_end (tied_at message blocks k first last))
tied_so message blocks k first last lt tied begin finish =
    let low = first_within message blocks k first lt begin in
    let high = last_within message blocks k last lt finish in
    let one : List Block = set blocks k (record { message = message; other = k }) in
    let two : List Block = set one first (record { message = message; other = last }) in
    let wide_one = length-set blocks k (record { message = message; other = k }) in
    let wide_two = length-set one first (record { message = message; other = last }) in
    tied_once_joined (is_held message blocks) (is_held message (tied_at message blocks k first last)) (other_end blocks) (other_end (tied_at message blocks k first last)) k first last tied begin finish
    (joined_so message blocks k first last lt begin finish)
    (at_first one two low high wide_one wide_two (first == last) refl)
    (other_set two last (record { message = message; other = first }) (omega (arith, high, wide_one, wide_two)))
    (λ j apart other_first other_last.
    other_kept two last j (record { message = message; other = first }) other_last
    ∙ (other_kept one first j (record { message = message; other = last }) other_first ∙ other_kept blocks k j (record { message = message; other = k }) apart))
  where
    at_first : (one two : List Block) → first < length blocks → last < length blocks → length one ≡ length blocks → length two ≡ length one → (b : Bool) → (first == last) ≡ b
        → other_end (set (set one first (record { message = message; other = last })) last (record { message = message; other = first })) first ≡ last
    at_first one two low high wide_one wide_two true same =
        let is : first ≡ last = eqb-true first last same in
        let wide : length (set one first (record { message = message; other = last })) ≡ length blocks = length-set one first (record { message = message; other = last }) ∙ wide_one in
        ap (other_end (set (set one first (record { message = message; other = last })) last (record { message = message; other = first }))) is
        ∙ (other_set (set one first (record { message = message; other = last })) last (record { message = message; other = first }) (omega (arith, high, wide)) ∙ is)
    at_first one two low high wide_one wide_two false other =
        other_kept (set one first (record { message = message; other = last })) last first (record { message = message; other = first }) (λ is. (let e = eq-eqb first last is in absurd (cc)))
        ∙ other_set one first (record { message = message; other = last }) (omega (arith, low, wide_one))

-- no block that is set is held for a later message
pub up_to_set : (top : ℕ) (blocks : List Block) (k : ℕ) (b : Block) → b.message ≤ top → AreUpTo top blocks → AreUpTo top (set blocks k b)
up_to_set top blocks k b le all j x is = cases (j == k) refl
  where
    cases : (t : Bool) → (j == k) ≡ t → x.message ≤ top
    cases true same =
        let at : j ≡ k = eqb-true j k same in
        let inside = slice_get_within (set blocks k b) j x is in
        let wide = length-set blocks k b in
        let found : slice_get (set blocks k b) j ≡ Some b = ap (slice_get (set blocks k b)) at ∙ slice_get-same blocks k b (omega (arith, at, inside, wide)) in
        let this : b ≡ x = same_Some b x (sym found ∙ is) in
        subst (λ (y : Block). y.message ≤ top) this le
    cases false other = all j x (sym (slice_get-other blocks k j b (λ e. (let t = eq-eqb j k e in absurd (cc)))) ∙ is)

-- ---- blocks that are held one after the other

pub one_more : (from k j : ℕ) (b : Bool) → from ≤ k → ((j == k) || ((nat_le from j && nat_lt j k) || b)) ≡ ((nat_le from j && nat_lt j (k + 1)) || b)
one_more from k j b le = cases (j == k) refl
  where
    cases : (t : Bool) → (j == k) ≡ t → (t || ((nat_le from j && nat_lt j k) || b)) ≡ ((nat_le from j && nat_lt j (k + 1)) || b)
    cases true same =
        let is : j ≡ k = eqb-true j k same in
        let low : nat_le from j ≡ true = grind (arith, nat_tests, is, le) in
        let high : nat_lt j (k + 1) ≡ true = grind (arith, nat_tests, is) in
        rw (low, high) refl
    cases false other =
        let apart : j ≢ k = λ is. (let e = eq-eqb j k is in absurd (cc)) in
        let high : nat_lt j k ≡ nat_lt j (k + 1) = grind (arith, nat_tests, apart) in
        ap (λ t. (nat_le from j && t) || b) high

-- where the count has come to the end, or never began
pub all_done : (from to k j : ℕ) (b : Bool) → from ≤ k → to ≤ k → (from ≤ to → k ≤ to) → (to < from → k ≤ from) → ((nat_le from j && nat_lt j k) || b) ≡ ((nat_le from j && nat_lt j to) || b)
all_done from to k j b low high end none = ap (λ t. t || b) (cases (nat_le from j) (nat_le from to) refl refl)
  where
    cases : (t u : Bool) → nat_le from j ≡ t → nat_le from to ≡ u → (t && nat_lt j k) ≡ (t && nat_lt j to)
    cases false u test some = refl
    cases true true test some =
        let le : from ≤ to = grind (arith, nat_tests, some) in
        let same : k ≡ to = omega (arith, high, end le) in
        ap (nat_lt j) same
    cases true false test some =
        let less : to < from = grind (arith, nat_tests, some) in
        let still : k ≤ from = none less in
        grind (arith, nat_tests, test, less, still)

-- ---- blocks that are not held yet

pub blank_held : (message n : ℕ) (blocks : List Block) (j : ℕ) → 0 < message → is_held message (blocks ++ replicate n (record { message = 0; other = 0 })) j ≡ is_held message blocks j
blank_held message zero [] j some = refl
blank_held message (suc n) [] zero some = cases (0 == message) refl
  where
    cases : (b : Bool) → (0 == message) ≡ b → (0 == message) ≡ false
    cases false test = test
    cases true test = absurd (let is : 0 ≡ message = eqb-true 0 message test in omega (arith, is, some))
blank_held message (suc n) [] (suc j) some = blank_held message n [] j some
blank_held message n (b ∷ blocks) zero some = refl
blank_held message n (b ∷ blocks) (suc j) some = blank_held message n blocks j some

pub blank_other : (n : ℕ) (blocks : List Block) (j : ℕ) → other_end (blocks ++ replicate n (record { message = 0; other = 0 })) j ≡ other_end blocks j
blank_other zero [] j = refl
blank_other (suc n) [] zero = refl
blank_other (suc n) [] (suc j) = blank_other n [] j
blank_other n (b ∷ blocks) zero = refl
blank_other n (b ∷ blocks) (suc j) = blank_other n blocks j

pub blank_up_to : (top n : ℕ) (blocks : List Block) → AreUpTo top blocks → AreUpTo top (blocks ++ replicate n (record { message = 0; other = 0 }))
blank_up_to top zero [] all j b is = cc
blank_up_to top (suc n) [] all zero b is = let same = same_Some (record { message = 0; other = 0 }) b is in subst (λ (x : Block). x.message ≤ top) same (omega arith)
blank_up_to top (suc n) [] all (suc j) b is = blank_up_to top n [] (λ k x at. all k x at) j b is
blank_up_to top n (c ∷ blocks) all zero b is = all 0 b is
blank_up_to top n (c ∷ blocks) all (suc j) b is = blank_up_to top n blocks (λ k x at. all (suc k) x at) j b is

pub tied_alike : (held held' : ℕ → Bool) (other other' : ℕ → ℕ) → ((j : ℕ) → held' j ≡ held j) → ((j : ℕ) → other' j ≡ other j) → AreTied held other → AreTied held' other'
tied_alike held held' other other' same told tied first last this =
    let was : IsInterval held first last = record {
      order = this.order;
      within = λ k le at. sym (same k) ∙ this.within k le at;
      before = λ k at. sym (same k) ∙ this.before k at;
      after = sym (same (last + 1)) ∙ this.after;
    } in
    let ends = tied first last was in (told first ∙ ends.0, told last ∙ ends.1)

-- ---- a list that was lent whole

pub whole_again : {X : Type 0} (n : ℕ) (xs ys : List X) → length xs ≡ length ys → n ≡ length ys → take n (xs ++ drop (length xs) ys) ≡ xs
whole_again n xs ys same is =
    let none : drop (length xs) ys ≡ [] = drop_of_length-le ys (omega (arith, same)) in
    ap (λ zs. take n (xs ++ zs)) none ∙ (ap (take n) (append-nil xs) ∙ take_all n xs (omega (arith, same, is)))
