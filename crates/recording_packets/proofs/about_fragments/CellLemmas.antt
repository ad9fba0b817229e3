-- Cells: what is read of them, and what is written into them.
use Rattle.std.proofs.Common.{◌≡◌, ℕ, zero, suc, ◌+◌, ◌-◌, ◌<◌, ◌≤◌, Bool, true, false, cond, not, ◌&&◌, ◌||◌, ◌==◌, List, [], ◌∷◌, ◌++◌, length, get_or, take, drop, replicate, Option, Some, None, Result, Ok, Err, OnErr, refl, ap, sym, ◌∙◌, add-one, arith, drop-cons}
use Rattle.std.proofs.Math.ListN.{set}
use Rattle.std.proofs.lemmas.List.{drop_all, take_all, append-nil, length-append, length-replicate}
use Rattle.std.proofs.lemmas.Bool.Decides.{nat_tests}
use Rattle.std.specs.Option.{is_some, option_map}
use Rattle.recording_packets.specs.fragments.Cells.{Cells, has_another, with_first, with_bytes, grown, all_bytes}
use Rattle.recording_packets.specs.fragments.Parts.{is_end}
use Rattle.recording_packets.specs.fragments.Views.{cells_of, count_known}

-- ---- one cell

abbrev pub cell : Bool → ℕ → Option ℕ
cell true byte = Some byte
cell false byte = None

pub cells_of-cons : (k : Bool) (b : ℕ) (ks : List Bool) (bs : List ℕ) → cells_of (k ∷ ks) (b ∷ bs) ≡ cell k b ∷ cells_of ks bs
cells_of-cons true b ks bs = refl
cells_of-cons false b ks bs = refl

pub length-cells_of : (ks : List Bool) (bs : List ℕ) → length ks ≤ length bs → length (cells_of ks bs) ≡ length ks
length-cells_of [] bs le = refl
length-cells_of (k ∷ ks) [] le = absurd (omega (arith, le))
length-cells_of (true ∷ ks) (b ∷ bs) le = ap suc (length-cells_of ks bs (omega (arith, le)))
length-cells_of (false ∷ ks) (b ∷ bs) le = ap suc (length-cells_of ks bs (omega (arith, le)))

drop-cells : (p : ℕ) (ks : List Bool) (bs : List ℕ) → p < length ks → length ks ≤ length bs
    → drop p (cells_of ks bs) ≡ cell (get_or ks p false) (get_or bs p 0) ∷ drop (suc p) (cells_of ks bs)
drop-cells p [] bs lt le = absurd (omega (arith, lt))
drop-cells p (k ∷ ks) [] lt le = absurd (omega (arith, le))
drop-cells zero (k ∷ ks) (b ∷ bs) lt le = rw (cells_of-cons k b ks bs) refl
drop-cells (suc p) (k ∷ ks) (b ∷ bs) lt le = rw (cells_of-cons k b ks bs) (drop-cells p ks bs (omega (arith, lt)) (omega (arith, le)))

-- ---- whether one differs

has_another-cell : (byte : ℕ) (bytes : List ℕ) (k : Bool) (b : ℕ) (cells : Cells)
    → has_another (byte ∷ bytes) (cell k b ∷ cells) ≡ ((k && not (b == byte)) || has_another bytes cells)
has_another-cell byte bytes true b cells = refl
has_another-cell byte bytes false b cells = refl

pub has_another-step : (ks : List Bool) (bs new : List ℕ) (offset i : ℕ) → i < length new → offset + i < length ks → length ks ≤ length bs
    → has_another (drop i new) (drop (offset + i) (cells_of ks bs))
    ≡ ((get_or ks (offset + i) false && not (get_or bs (offset + i) 0 == get_or new i 0)) || has_another (drop (i + 1) new) (drop (offset + (i + 1)) (cells_of ks bs)))
has_another-step ks bs new offset i lt within le =
    let next : offset + (i + 1) ≡ suc (offset + i) = omega arith in
    rw (drop-cons new i 0 lt, drop-cells (offset + i) ks bs within le, has_another-cell (get_or new i 0) (drop (suc i) new) (get_or ks (offset + i) false) (get_or bs (offset + i) 0) (drop (suc (offset + i)) (cells_of ks bs)), next, add-one i) refl

test_here : (k : Bool) (a b : ℕ) (rest : Bool) → k ≡ true → (a ≡ b → ⊥) → ((k && not (a == b)) || rest) ≡ true
test_here k a b rest known other =
    let test : (a == b) ≡ false = grind (arith, nat_tests, other) in
    rw (known, test) refl

test_same : (a b : ℕ) (k rest : Bool) → a ≡ b → ((k && not (a == b)) || rest) ≡ rest
test_same a b true rest same =
    let test : (a == b) ≡ true = grind (arith, nat_tests, same) in
    rw test refl
test_same a b false rest same = refl

-- another byte at the place of the i-th
pub has_another-here : (ks : List Bool) (bs new : List ℕ) (offset i : ℕ) → i < length new → offset + i < length ks → length ks ≤ length bs
    → get_or ks (offset + i) false ≡ true → (get_or bs (offset + i) 0 ≡ get_or new i 0 → ⊥) → has_another (drop i new) (drop (offset + i) (cells_of ks bs)) ≡ true
has_another-here ks bs new offset i lt within le known other =
    has_another-step ks bs new offset i lt within le ∙ test_here (get_or ks (offset + i) false) (get_or bs (offset + i) 0) (get_or new i 0) _ known other

-- no other byte at the place of the i-th
pub has_another-same : (ks : List Bool) (bs new : List ℕ) (offset i : ℕ) → i < length new → offset + i < length ks → length ks ≤ length bs
    → get_or bs (offset + i) 0 ≡ get_or new i 0
    → has_another (drop (i + 1) new) (drop (offset + (i + 1)) (cells_of ks bs)) ≡ has_another (drop i new) (drop (offset + i) (cells_of ks bs))
has_another-same ks bs new offset i lt within le same =
    sym (has_another-step ks bs new offset i lt within le ∙ test_same (get_or bs (offset + i) 0) (get_or new i 0) (get_or ks (offset + i) false) _ same)

pub has_another-unknown : (ks : List Bool) (bs new : List ℕ) (offset i : ℕ) → i < length new → offset + i < length ks → length ks ≤ length bs
    → get_or ks (offset + i) false ≡ false
    → has_another (drop (i + 1) new) (drop (offset + (i + 1)) (cells_of ks bs)) ≡ has_another (drop i new) (drop (offset + i) (cells_of ks bs))
has_another-unknown ks bs new offset i lt within le unknown =
    sym (has_another-step ks bs new offset i lt within le ∙ ap (λ k. (k && not (get_or bs (offset + i) 0 == get_or new i 0)) || has_another (drop (i + 1) new) (drop (offset + (i + 1)) (cells_of ks bs))) unknown)

pub has_another-nil : (new : List ℕ) → has_another new [] ≡ false
has_another-nil [] = refl
has_another-nil (b ∷ bs) = refl

pub has_another-past : (ks : List Bool) (bs new : List ℕ) (place : ℕ) → length ks ≤ place → length ks ≤ length bs → has_another new (drop place (cells_of ks bs)) ≡ false
has_another-past ks bs new place past le = rw (drop_all place (cells_of ks bs) (omega (arith, length-cells_of ks bs le, past))) (has_another-nil new)

-- ---- bytes that are written

with_first-nil : (n : ℕ) (cells : Cells) → n ≤ length cells → with_bytes n [] cells ≡ cells
with_first-nil zero cells le = refl
with_first-nil (suc n) [] le = absurd (omega (arith, le))
with_first-nil (suc n) (c ∷ cells) le = ap (λ cs. c ∷ cs) (with_first-nil n cells (omega (arith, le)))

with_bytes-set : (n b : ℕ) (bs : List ℕ) (cells : Cells) → n < length cells → with_bytes n (b ∷ bs) cells ≡ with_bytes (suc n) bs (set cells n (Some b))
with_bytes-set n b bs [] lt = absurd (omega (arith, lt))
with_bytes-set zero b bs (c ∷ cells) lt = refl
with_bytes-set (suc n) b bs (c ∷ cells) lt = ap (λ cs. c ∷ cs) (with_bytes-set n b bs cells (omega (arith, lt)))

cells_of-set : (p b : ℕ) (ks : List Bool) (bs : List ℕ) → p < length ks → length ks ≤ length bs → cells_of (set ks p true) (set bs p b) ≡ set (cells_of ks bs) p (Some b)
cells_of-set p b [] bs lt le = absurd (omega (arith, lt))
cells_of-set p b (k ∷ ks) [] lt le = absurd (omega (arith, le))
cells_of-set zero b (true ∷ ks) (x ∷ bs) lt le = refl
cells_of-set zero b (false ∷ ks) (x ∷ bs) lt le = refl
cells_of-set (suc p) b (true ∷ ks) (x ∷ bs) lt le = ap (λ cs. Some x ∷ cs) (cells_of-set p b ks bs (omega (arith, lt)) (omega (arith, le)))
cells_of-set (suc p) b (false ∷ ks) (x ∷ bs) lt le = ap (λ cs. None ∷ cs) (cells_of-set p b ks bs (omega (arith, lt)) (omega (arith, le)))

pub with_bytes-step : (ks : List Bool) (bs new : List ℕ) (offset i : ℕ) → i < length new → offset + i < length ks → length ks ≤ length bs
    → with_bytes (offset + (i + 1)) (drop (i + 1) new) (cells_of (set ks (offset + i) true) (set bs (offset + i) (get_or new i 0)))
    ≡ with_bytes (offset + i) (drop i new) (cells_of ks bs)
with_bytes-step ks bs new offset i lt within le =
    let next : offset + (i + 1) ≡ suc (offset + i) = omega arith in
    let room : offset + i < length (cells_of ks bs) = omega (arith, length-cells_of ks bs le, within) in
    rw (next, add-one i, drop-cons new i 0 lt, cells_of-set (offset + i) (get_or new i 0) ks bs within le) (sym (with_bytes-set (offset + i) (get_or new i 0) (drop (suc i) new) (cells_of ks bs) room))

pub with_bytes-done : (ks : List Bool) (bs new : List ℕ) (offset i : ℕ) → length new ≤ i → offset + i ≤ length ks → length ks ≤ length bs
    → with_bytes (offset + i) (drop i new) (cells_of ks bs) ≡ cells_of ks bs
with_bytes-done ks bs new offset i past within le =
    rw (drop_all i new past) (with_first-nil (offset + i) (cells_of ks bs) (omega (arith, length-cells_of ks bs le, within)))

-- how many are known
pub count-new : (ks : List Bool) (p : ℕ) → p < length ks → get_or ks p false ≡ false → count_known (set ks p true) ≡ suc (count_known ks)
count-new [] p lt is = absurd (omega (arith, lt))
count-new (true ∷ ks) zero lt is = cc
count-new (false ∷ ks) zero lt is = refl
count-new (true ∷ ks) (suc p) lt is = ap suc (count-new ks p (omega (arith, lt)) is)
count-new (false ∷ ks) (suc p) lt is = count-new ks p (omega (arith, lt)) is

pub count-old : (ks : List Bool) (p : ℕ) → p < length ks → get_or ks p false ≡ true → count_known (set ks p true) ≡ count_known ks
count-old [] p lt is = absurd (omega (arith, lt))
count-old (true ∷ ks) zero lt is = refl
count-old (false ∷ ks) zero lt is = cc
count-old (true ∷ ks) (suc p) lt is = ap suc (count-old ks p (omega (arith, lt)) is)
count-old (false ∷ ks) (suc p) lt is = count-old ks p (omega (arith, lt)) is

-- ---- room

cells_of-replicate : (m : ℕ) (bs : List ℕ) → m ≤ length bs → cells_of (replicate m false) bs ≡ replicate m None
cells_of-replicate zero bs le = refl
cells_of-replicate (suc m) [] le = absurd (omega (arith, le))
cells_of-replicate (suc m) (b ∷ bs) le = ap (λ cs. None ∷ cs) (cells_of-replicate m bs (omega (arith, le)))

cells_of-room : (m : ℕ) (ks : List Bool) (bs : List ℕ) → length ks + m ≤ length bs → cells_of (ks ++ replicate m false) bs ≡ cells_of ks bs ++ replicate m None
cells_of-room m [] bs le = cells_of-replicate m bs (omega (arith, le))
cells_of-room m (k ∷ ks) [] le = absurd (omega (arith, le))
cells_of-room m (true ∷ ks) (b ∷ bs) le = ap (λ cs. Some b ∷ cs) (cells_of-room m ks bs (omega (arith, le)))
cells_of-room m (false ∷ ks) (b ∷ bs) le = ap (λ cs. None ∷ cs) (cells_of-room m ks bs (omega (arith, le)))

pub cells_of-more : (ks : List Bool) (bs rest : List ℕ) → length ks ≤ length bs → cells_of ks (bs ++ rest) ≡ cells_of ks bs
cells_of-more [] bs rest le = refl
cells_of-more (k ∷ ks) [] rest le = absurd (omega (arith, le))
cells_of-more (true ∷ ks) (b ∷ bs) rest le = ap (λ cs. Some b ∷ cs) (cells_of-more ks bs rest (omega (arith, le)))
cells_of-more (false ∷ ks) (b ∷ bs) rest le = ap (λ cs. None ∷ cs) (cells_of-more ks bs rest (omega (arith, le)))

pub cells-grown : (len : ℕ) (ks : List Bool) (bs rest : List ℕ) → length ks ≤ length bs → length ks + (len - length ks) ≤ length (bs ++ rest)
    → cells_of (ks ++ replicate (len - length ks) false) (bs ++ rest) ≡ grown len (cells_of ks bs)
cells-grown len ks bs rest le room =
    cells_of-room (len - length ks) ks (bs ++ rest) room
    ∙ (ap (λ cs. cs ++ replicate (len - length ks) None) (cells_of-more ks bs rest le) ∙ ap (λ n. cells_of ks bs ++ replicate (len - n) None) (sym (length-cells_of ks bs le)))

count-replicate : (m : ℕ) → count_known (replicate m false) ≡ 0
count-replicate zero = refl
count-replicate (suc m) = count-replicate m

pub count-room : (m : ℕ) (ks : List Bool) → count_known (ks ++ replicate m false) ≡ count_known ks
count-room m [] = count-replicate m
count-room m (true ∷ ks) = ap suc (count-room m ks)
count-room m (false ∷ ks) = count-room m ks

-- lists that were cut to a length and filled up to it
longer : {A : Type 0} (n : ℕ) (xs ys : List A) (x : A) → length xs ≤ n → ys ≡ take n xs ++ replicate (n - length xs) x → ys ≡ xs ++ replicate (n - length xs) x
longer n xs ys x le is = is ∙ ap (λ front. front ++ replicate (n - length xs) x) (take_all n xs le)

pub filled-grown : (len n m : ℕ) (ks new_ks : List Bool) (bs new_bs : List ℕ) → length ks ≤ length bs → length ks ≤ n → length bs ≤ m → n ≤ m → n - length ks ≡ len - length ks
    → new_ks ≡ take n ks ++ replicate (n - length ks) false → new_bs ≡ take m bs ++ replicate (m - length bs) 0 → cells_of new_ks new_bs ≡ grown len (cells_of ks bs)
filled-grown len n m ks new_ks bs new_bs le ks_le bs_le room same ks_is bs_is =
    let known : new_ks ≡ ks ++ replicate (n - length ks) false = longer n ks new_ks false ks_le ks_is in
    let bytes : new_bs ≡ bs ++ replicate (m - length bs) 0 = longer m bs new_bs 0 bs_le bs_is in
    let fits : length ks + (len - length ks) ≤ length (bs ++ replicate (m - length bs) 0) = simp (length-append, length-replicate) (omega (arith, ks_le, bs_le, room, same)) in
    rw (known, bytes, same) (cells-grown len ks bs (replicate (m - length bs) 0) le fits)

pub filled-count : (n : ℕ) (ks new_ks : List Bool) → length ks ≤ n → new_ks ≡ take n ks ++ replicate (n - length ks) false → count_known new_ks ≡ count_known ks
filled-count n ks new_ks le is = ap count_known (longer n ks new_ks false le is) ∙ count-room (n - length ks) ks

pub filled-same : (m : ℕ) (ks : List Bool) (bs new_bs : List ℕ) → length ks ≤ length bs → length bs ≤ m → new_bs ≡ take m bs ++ replicate (m - length bs) 0 → cells_of ks new_bs ≡ cells_of ks bs
filled-same m ks bs new_bs le bs_le is = ap (cells_of ks) (longer m bs new_bs 0 bs_le is) ∙ cells_of-more ks bs (replicate (m - length bs) 0) le

-- room that the bytes fill
with_first-room : (m : ℕ) (bs : List ℕ) (cells : Cells) → length cells + m ≤ length bs → with_first bs (cells ++ replicate m None) ≡ with_first bs cells
with_first-room zero [] [] le = refl
with_first-room (suc m) [] [] le = absurd (omega (arith, le))
with_first-room m [] (c ∷ cells) le = absurd (omega (arith, le))
with_first-room zero (b ∷ bs) [] le = refl
with_first-room (suc m) (b ∷ bs) [] le = ap (λ cs. Some b ∷ cs) (with_first-room m bs [] (omega (arith, le)))
with_first-room m (b ∷ bs) (c ∷ cells) le = ap (λ cs. Some b ∷ cs) (with_first-room m bs cells (omega (arith, le)))

with_bytes-room : (n m : ℕ) (bs : List ℕ) (cells : Cells) → length cells + m ≤ n + length bs → with_bytes n bs (cells ++ replicate m None) ≡ with_bytes n bs cells
with_bytes-room zero m bs cells le = with_first-room m bs cells (omega (arith, le))
with_bytes-room (suc n) zero bs [] le = refl
with_bytes-room (suc n) (suc m) bs [] le = ap (λ cs. None ∷ cs) (with_bytes-room n m bs [] (omega (arith, le)))
with_bytes-room (suc n) m bs (c ∷ cells) le = ap (λ cs. c ∷ cs) (with_bytes-room n m bs cells (omega (arith, le)))

pub with_bytes-grown : (n : ℕ) (bs : List ℕ) (cells : Cells) → with_bytes n bs (grown (n + length bs) cells) ≡ with_bytes n bs cells
with_bytes-grown n bs cells = cases ((n + length bs) - length cells) refl
  where
    cases : (m : ℕ) → (n + length bs) - length cells ≡ m → with_bytes n bs (cells ++ replicate m None) ≡ with_bytes n bs cells
    cases zero is = ap (with_bytes n bs) (append-nil cells)
    cases (suc m) is = with_bytes-room n (suc m) bs cells (omega (arith, is))

-- ---- whether all are known

pub count-le : (ks : List Bool) → count_known ks ≤ length ks
count-le [] = omega arith
count-le (true ∷ ks) = omega (arith, count-le ks)
count-le (false ∷ ks) = omega (arith, count-le ks)

pub all-known : (ks : List Bool) (bs : List ℕ) → length ks ≤ length bs → count_known ks ≡ length ks → all_bytes (cells_of ks bs) ≡ Some (take (length ks) bs)
all-known [] bs le is = refl
all-known (k ∷ ks) [] le is = absurd (omega (arith, le))
all-known (true ∷ ks) (b ∷ bs) le is = ap (option_map (λ xs. b ∷ xs)) (all-known ks bs (omega (arith, le)) (omega (arith, is)))
all-known (false ∷ ks) (b ∷ bs) le is = absurd (omega (arith, is, count-le ks))

pub not-all-known : (ks : List Bool) (bs : List ℕ) → length ks ≤ length bs → count_known ks < length ks → all_bytes (cells_of ks bs) ≡ None
not-all-known [] bs le is = absurd (omega (arith, is))
not-all-known (k ∷ ks) [] le is = absurd (omega (arith, le))
not-all-known (true ∷ ks) (b ∷ bs) le is = ap (option_map (λ xs. b ∷ xs)) (not-all-known ks bs (omega (arith, le)) (omega (arith, is)))
not-all-known (false ∷ ks) (b ∷ bs) le is = refl

pub all-or-none : (ks : List Bool) (bs : List ℕ) → length ks ≤ length bs
    → all_bytes (cells_of ks bs) ≡ cond (count_known ks == length ks) (Some (take (length ks) bs)) None
all-or-none ks bs le = cases (count_known ks == length ks) refl
  where
    cases : (t : Bool) → (count_known ks == length ks) ≡ t → all_bytes (cells_of ks bs) ≡ cond t (Some (take (length ks) bs)) None
    cases true test = all-known ks bs le (grind (arith, nat_tests, test))
    cases false test =
        let other : (count_known ks ≡ length ks) → ⊥ = λ is. (grind (arith, nat_tests, test, is)) in
        not-all-known ks bs le (omega (arith, other, count-le ks))

both : {A : Type 0} (a b : Bool) (x : A) → cond a (cond b (Some x) None) None ≡ cond (a && b) (Some x) None
both true b x = refl
both false b x = refl

-- the payload of a packet in part, by how many bytes are known
pub payload-of-cells : (ks : List Bool) (bs : List ℕ) (end : Option ℕ) → length ks ≤ length bs
    → cond (is_end (length (cells_of ks bs)) end) (all_bytes (cells_of ks bs)) None
    ≡ cond (is_end (length ks) end && (count_known ks == length ks)) (Some (take (length ks) bs)) None
payload-of-cells ks bs end le =
    rw (length-cells_of ks bs le, all-or-none ks bs le) (both (is_end (length ks) end) (count_known ks == length ks) (take (length ks) bs))

is_some-cond : {A : Type 0} (t : Bool) (x : A) → is_some (cond t (Some x) None) ≡ t
is_some-cond true x = refl
is_some-cond false x = refl

pub is-whole : (ks : List Bool) (bs : List ℕ) (end : Option ℕ) → length ks ≤ length bs
    → is_some (cond (is_end (length (cells_of ks bs)) end) (all_bytes (cells_of ks bs)) None) ≡ (is_end (length ks) end && (count_known ks == length ks))
is-whole ks bs end le = ap is_some (payload-of-cells ks bs end le) ∙ is_some-cond _ (take (length ks) bs)

taken-cond : {A : Type 0} (t : Bool) (x : A) (o : Option A) → o ≡ cond t (Some x) None → is_some o ≡ true → o ≡ Some x
taken-cond true x o is some = is
taken-cond false x o is some = let none : is_some o ≡ false = ap is_some is in cc

pub whole-payload : (ks : List Bool) (bs : List ℕ) (end : Option ℕ) → length ks ≤ length bs
    → is_some (cond (is_end (length (cells_of ks bs)) end) (all_bytes (cells_of ks bs)) None) ≡ true
    → cond (is_end (length (cells_of ks bs)) end) (all_bytes (cells_of ks bs)) None ≡ Some (take (length ks) bs)
whole-payload ks bs end le some = taken-cond _ (take (length ks) bs) _ (payload-of-cells ks bs end le) some

-- a vector after its slice was written
pub written_back : {A : Type 0} (len : ℕ) (xs items : List A) → length xs ≡ length items → len ≡ length items → take len (xs ++ drop (length xs) items) ≡ xs
written_back len xs items same all =
    rw (drop_all (length xs) items (omega (arith, same)), append-nil xs) (take_all len xs (omega (arith, same, all)))

-- what is true is true where there is an error
pub on_err_any : {T E P : Type 0} (r : Result T E) → P → OnErr r P
on_err_any (Ok x) p = tt
on_err_any (Err e) p = p
