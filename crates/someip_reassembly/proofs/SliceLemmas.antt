-- Slices that lie over one another: where they agree, and how far they go from the first place on.
use Rattle.std.proofs.Common.{◌≡◌, ℕ, zero, suc, ◌+◌, ◌-◌, ◌<◌, ◌≤◌, Bool, true, false, cond, nat_lt, nat_le, List, [], ◌∷◌, ◌++◌, length, slice_get, get_or, take, drop, Option, None, Some, refl, sym, ap, subst, ◌∙◌, arith}
use Rattle.std.proofs.lemmas.Bool.{and_parts, and_from, eqb-true, eq-eqb}
use Rattle.std.proofs.lemmas.Bool.Decides.{nat_tests}
use Rattle.std.proofs.lemmas.Option.{slice_get_within, slice_get_past, slice_get-get_or}
use Rattle.std.specs.Option.{is_some}
use Rattle.std.specs.Str.{bytes_eq}
use Rattle.std.proofs.lemmas.List.{take-append-drop, take_more, get_or-drop, get_or_default, length-drop}
use Rattle.std.specs.List.{All, insert, list_any}
use Rattle.std.proofs.lemmas.List.Elements.{All-weaker, All-same, All-append, All-take, All-drop, All-cons}
use Rattle.std.specs.List.Sorted.{IsPartitionPoint}
use Rattle.std.proofs.lemmas.List.Sorted.{IsNonDecreasingBy-insert}
use Rattle.std.specs.Ordering.{nat_cmp}
use Rattle.std.specs.Cmp.{nat_cmp_total}
use Rattle.std.specs.FinMap.{FinMap, get, empty, get-empty, same_map, nat_cmp-IsAntisymmetric}
use Rattle.someip_reassembly.specs.declared.slices.Slice.{Slice}
use Rattle.someip_reassembly.specs.SegmentOffers.{placed, added, differ}
use Rattle.someip_reassembly.specs.Slices.{byte_at, Agree, Holds, AreOneText, AreInOrder, end_of, with_slices, bytes_in}
use Rattle.someip_reassembly.proofs.Placed.{over, over-none, over-over, is_some-over, is_some-first, get-added, agree_where_none_differs}

-- ---- two slices that begin at one place

alike_at : (m : ℕ) (xs ys : List ℕ) (i a b : ℕ) → i < m → bytes_eq (take m xs) (take m ys) ≡ true → slice_get xs i ≡ Some a → slice_get ys i ≡ Some b → a ≡ b
alike_at zero xs ys i a b lt same p q = absurd (omega arith)
alike_at (suc m) [] ys i a b lt same p q = cc
alike_at (suc m) (x ∷ xs) [] i a b lt same p q = cc
alike_at (suc m) (x ∷ xs) (y ∷ ys) zero a b lt same p q =
    let is : x ≡ y = eqb-true x y (and_parts _ _ same).0 in
    cc
alike_at (suc m) (x ∷ xs) (y ∷ ys) (suc i) a b lt same p q = alike_at m xs ys i a b (omega arith) (and_parts _ _ same).1 p q

pub alike_to : (m : ℕ) (xs ys : List ℕ) → bytes_eq (take m xs) (take m ys) ≡ true → ((i : ℕ) → i < length xs → i < length ys → i < m) → Agree (slice_get xs) (slice_get ys)
alike_to m xs ys same within i a b p q =
    alike_at m xs ys i a b (within i (slice_get_within xs i a p) (slice_get_within ys i b q)) same p q

pub alike_from : (m : ℕ) (xs ys : List ℕ) → m ≤ length xs → m ≤ length ys → Agree (slice_get xs) (slice_get ys) → bytes_eq (take m xs) (take m ys) ≡ true
alike_from zero xs ys p q agree = refl
alike_from (suc m) [] ys p q agree = absurd (omega arith)
alike_from (suc m) (x ∷ xs) [] p q agree = absurd (omega arith)
alike_from (suc m) (x ∷ xs) (y ∷ ys) p q agree =
    and_from _ _ (eq-eqb x y (agree 0 x y refl refl)) (alike_from m xs ys (omega arith) (omega arith) (λ i a b. agree (suc i) a b))

-- ---- a slice at its places

byte_test : (d : Bool) (bs : List ℕ) (i b : ℕ) → (cond d (slice_get bs i) None) ≡ Some b → (d ≡ true) × (slice_get bs i ≡ Some b)
byte_test true bs i b p = (refl, p)
byte_test false bs i b p = cc

pub byte_within : (offset : ℕ) (bs : List ℕ) (place b : ℕ) → byte_at offset bs place ≡ Some b → (offset ≤ place) × (slice_get bs (place - offset) ≡ Some b)
byte_within offset bs place b p =
    let parts = byte_test (nat_le offset place) bs (place - offset) b p in
    let test = parts.0 in
    (grind (arith, nat_tests), parts.1)

pub byte_from : (offset : ℕ) (bs : List ℕ) (place b : ℕ) → offset ≤ place → slice_get bs (place - offset) ≡ Some b → byte_at offset bs place ≡ Some b
byte_from offset bs place b le is =
    let test : nat_le offset place ≡ true = grind (arith, nat_tests) in
    rw (test, is)

pub turned : {f g : ℕ → Option ℕ} → Agree f g → Agree g f
turned agree place a b p q = sym (agree place b a q p)

pub agree_to : (early late skipped : ℕ) (es ls behind : List ℕ) → early ≤ late → skipped ≡ late - early → ((i : ℕ) → slice_get behind i ≡ slice_get es (skipped + i))
    → Agree (slice_get behind) (slice_get ls) → Agree (byte_at early es) (byte_at late ls)
agree_to early late skipped es ls behind le is left agree place a b p q =
    let first = byte_within early es place a p in
    let second = byte_within late ls place b q in
    let at : place - early ≡ skipped + (place - late) = omega (arith, second.0) in
    agree (place - late) a b (left (place - late) ∙ (ap (slice_get es) (sym at) ∙ first.1)) second.1

pub agree_from : (early late skipped : ℕ) (es ls behind : List ℕ) → early ≤ late → skipped ≡ late - early → ((i : ℕ) → slice_get behind i ≡ slice_get es (skipped + i))
    → Agree (byte_at early es) (byte_at late ls) → Agree (slice_get behind) (slice_get ls)
agree_from early late skipped es ls behind le is left agree i a b p q =
    let at : (late + i) - early ≡ skipped + i = omega arith in
    let there : (late + i) - late ≡ i = omega arith in
    agree (late + i) a b
    (byte_from early es (late + i) a (omega arith) (ap (slice_get es) at ∙ (sym (left i) ∙ p)))
    (byte_from late ls (late + i) b (omega arith) (ap (slice_get ls) there ∙ q))

-- ---- slices

-- the byte of the last of these slices that has one
abbrev pub last_in : List Slice → ℕ → Option ℕ
last_in [] place = None
last_in (p ∷ slices) place = over (last_in slices place) (byte_at p.offset p.bytes.items place)

pub get-with_slices : (bytes : FinMap nat_cmp ℕ) (slices : List Slice) (place : ℕ) → get (with_slices bytes slices) place ≡ over (last_in slices place) (get bytes place)
get-with_slices bytes [] place = refl
get-with_slices bytes (p ∷ slices) place =
    get-with_slices (added bytes (placed p.offset p.bytes.items)) slices place
    ∙ (ap (over (last_in slices place)) (get-added bytes p.offset p.bytes.items place)
    ∙ sym (over-over (last_in slices place) (byte_at p.offset p.bytes.items place) (get bytes place)))

pub get-bytes_in : (slices : List Slice) (place : ℕ) → get (bytes_in slices) place ≡ last_in slices place
get-bytes_in slices place = get-with_slices empty slices place ∙ (ap (over (last_in slices place)) (get-empty nat_cmp place) ∙ over-none (last_in slices place))

last_in-append : (ps qs : List Slice) (place : ℕ) → last_in (ps ++ qs) place ≡ over (last_in qs place) (last_in ps place)
last_in-append [] qs place = sym (over-none (last_in qs place))
last_in-append (p ∷ ps) qs place =
    ap (λ o. over o (byte_at p.offset p.bytes.items place)) (last_in-append ps qs place)
    ∙ over-over (last_in qs place) (last_in ps place) (byte_at p.offset p.bytes.items place)

-- a held byte is one of a slice
pub slice_with : {Q : Type 0} (slices : List Slice) (place a : ℕ) → last_in slices place ≡ Some a
    → ((k : ℕ) (p : Slice) → k < length slices → get_or slices k p ≡ p → byte_at p.offset p.bytes.items place ≡ Some a → Q) → Q
slice_with [] place a is found = absurd (cc)
slice_with {Q} (p ∷ slices) place a is found =
    cases (last_in slices place) refl is (λ h. slice_with slices place a h (λ k q lt at this. found (suc k) q (omega arith) at this))
  where
    cases : (o : Option ℕ) → last_in slices place ≡ o → over o (byte_at p.offset p.bytes.items place) ≡ Some a → (last_in slices place ≡ Some a → Q) → Q
    cases None rest this later = found 0 p (omega arith) refl this
    cases (Some b) rest this later = later (rest ∙ this)

pub none_in : (slices : List Slice) (place : ℕ) → ((k : ℕ) (d : Slice) → k < length slices → byte_at (get_or slices k d).offset (get_or slices k d).bytes.items place ≡ None) → last_in slices place ≡ None
none_in [] place none = refl
none_in (p ∷ slices) place none =
    ap (λ o. over o (byte_at p.offset p.bytes.items place)) (none_in slices place (λ k d lt. none (suc k) d (omega arith)))
    ∙ none 0 p (omega arith)

-- the slices agree with a slice where each of them does
pub all_agree : (slices : List Slice) (new : ℕ → Option ℕ) → ((k : ℕ) (d : Slice) → k < length slices → Agree (byte_at (get_or slices k d).offset (get_or slices k d).bytes.items) new) → Agree (get (bytes_in slices)) new
all_agree slices new each place a b p q =
    slice_with slices place a (sym (get-bytes_in slices place) ∙ p)
    (λ k slice lt at this. each k slice lt place a b (ap (λ (x : Slice). byte_at x.offset x.bytes.items place) at ∙ this) q)

-- ---- a slice more

insert_at : (d b t e : Option ℕ) → ((x y : ℕ) → over (over d t) e ≡ Some x → b ≡ Some y → x ≡ y) → over (over (over d b) t) e ≡ over b (over (over d t) e)
insert_at d None t e agree = ap (λ o. over (over o t) e) (over-none d)
insert_at None (Some b) t e agree = refl
insert_at (Some x) (Some b) t e agree = ap Some (agree x b refl refl)

pub bytes_with_one_more : (slices : List Slice) (i : ℕ) (p : Slice) → Agree (get (bytes_in slices)) (byte_at p.offset p.bytes.items)
    → bytes_in (insert slices i p) ≡ added (bytes_in slices) (placed p.offset p.bytes.items)
bytes_with_one_more slices i p agree =
    same_map nat_cmp_total nat_cmp-IsAntisymmetric _ _ (λ place.
    let front = last_in (take i slices) place in
    let back = last_in (drop i slices) place in
    let this = byte_at p.offset p.bytes.items place in
    let old : get (bytes_in slices) place ≡ over (over back front) None =
    get-bytes_in slices place ∙ (ap (λ ps. last_in ps place) (sym (take-append-drop i slices)) ∙ (last_in-append (take i slices) (drop i slices) place ∙ sym (over-none (over back front)))) in
    get-bytes_in (insert slices i p) place
    ∙ (last_in-append (take i slices) (p ∷ drop i slices) place ∙ sym (over-none (over (over back this) front))
    ∙ (insert_at back this front None (λ x y h k. agree place x y (old ∙ h) k)
    ∙ (ap (over this) (sym old) ∙ sym (get-added (bytes_in slices) p.offset p.bytes.items place)))))

-- ---- a slice that contradicts a slice

pub clashes_with : (slices : List Slice) (offset : ℕ) (bs : List ℕ) (i : ℕ) (p : Slice) (r : Bool) → i < length slices → p ≡ get_or slices i p → AreOneText slices
    → (Agree (byte_at p.offset p.bytes.items) (byte_at offset bs) → r ≡ true) → r ≡ false
    → true ≡ list_any (λ e. differ (get (bytes_in slices) e.0) (Some e.1)) (placed offset bs)
clashes_with slices offset bs i p r lt is one agrees not_so = cases (list_any (λ e. differ (get (bytes_in slices) e.0) (Some e.1)) (placed offset bs)) refl
  where
    cases : (t : Bool) → list_any (λ e. differ (get (bytes_in slices) e.0) (Some e.1)) (placed offset bs) ≡ t → true ≡ t
    cases true h = refl
    cases false h =
        let all = agree_where_none_differs (get (bytes_in slices)) offset bs h in
        let this : r ≡ true = agrees (λ place a b k q. all place a b (one i p lt place a (ap (λ (x : Slice). byte_at x.offset x.bytes.items place) (sym is) ∙ k)) q) in
        cc

-- ---- how far slices go without a gap

-- no byte after a slice's end, nor before its offset
pub byte_past : (offset : ℕ) (bs : List ℕ) (place : ℕ) → offset + length bs ≤ place → byte_at offset bs place ≡ None
byte_past offset bs place past = cases (nat_le offset place) refl
  where
    cases : (d : Bool) → nat_le offset place ≡ d → cond d (slice_get bs (place - offset)) None ≡ None
    cases true test = slice_get_past bs (place - offset) (omega (arith, past))
    cases false test = refl

pub byte_before : (offset : ℕ) (bs : List ℕ) (place : ℕ) → place < offset → byte_at offset bs place ≡ None
byte_before offset bs place before =
    let test : nat_le offset place ≡ false = grind (arith, nat_tests) in
    rw test

pub byte_inside : (offset : ℕ) (bs : List ℕ) (place : ℕ) → offset ≤ place → place < offset + length bs → is_some (byte_at offset bs place) ≡ true
byte_inside offset bs place from to =
    let test : nat_le offset place ≡ true = grind (arith, nat_tests) in
    rw test (ap is_some (slice_get-get_or bs (place - offset) 0 (omega (arith, from, to))))

-- one slice more
pub held_more : (slices : List Slice) (i : ℕ) (p : Slice) (place : ℕ) → i < length slices → p ≡ get_or slices i p
    → get (bytes_in (take (i + 1) slices)) place ≡ over (byte_at p.offset p.bytes.items place) (get (bytes_in (take i slices)) place)
held_more slices i p place lt is =
    get-bytes_in (take (i + 1) slices) place
    ∙ (ap (λ ps. last_in ps place) (take_more slices i p lt ∙ ap (λ q. take i slices ++ q ∷ []) (sym is))
    ∙ (last_in-append (take i slices) (p ∷ []) place ∙ ap (over (byte_at p.offset p.bytes.items place)) (sym (get-bytes_in (take i slices) place))))

-- what the front of the slices holds, all of them hold
pub held_by_all : (slices : List Slice) (i place : ℕ) → is_some (get (bytes_in (take i slices)) place) ≡ true → is_some (get (bytes_in slices) place) ≡ true
held_by_all slices i place h =
    let split : get (bytes_in slices) place ≡ over (last_in (drop i slices) place) (last_in (take i slices) place) =
    get-bytes_in slices place ∙ (ap (λ ps. last_in ps place) (sym (take-append-drop i slices)) ∙ last_in-append (take i slices) (drop i slices) place) in
    ap is_some split ∙ is_some-over (last_in (drop i slices) place) (last_in (take i slices) place) (ap is_some (sym (get-bytes_in (take i slices) place)) ∙ h)

-- a gap before the i-th slice is one of all of them
pub gap_before : (slices : List Slice) (i : ℕ) (p : Slice) (place : ℕ) → i < length slices → p ≡ get_or slices i p → AreInOrder slices → place < p.offset
    → get (bytes_in (take i slices)) place ≡ None → get (bytes_in slices) place ≡ None
gap_before slices i p place lt is in_order before none =
    get-bytes_in slices place
    ∙ (ap (λ ps. last_in ps place) (sym (take-append-drop i slices))
    ∙ (last_in-append (take i slices) (drop i slices) place
    ∙ (ap (λ o. over o (last_in (take i slices) place)) (none_in (drop i slices) place behind)
    ∙ (sym (get-bytes_in (take i slices) place) ∙ none))))
  where
    behind : (k : ℕ) (d : Slice) → k < length (drop i slices) → byte_at (get_or (drop i slices) k d).offset (get_or (drop i slices) k d).bytes.items place ≡ None
    behind k d l =
        let room : i + k < length slices = omega (arith, l, length-drop i slices) in
        let rises : (get_or slices i d).offset ≤ (get_or slices (i + k) d).offset = in_order i (i + k) d (omega arith) room in
        let this : get_or slices i d ≡ p = get_or_default slices i d p lt ∙ sym is in
        let same : get_or (drop i slices) k d ≡ get_or slices (i + k) d = get_or-drop i slices k d in
        let first : p.offset ≤ (get_or slices (i + k) d).offset = subst (λ (x : Slice). x.offset ≤ (get_or slices (i + k) d).offset) this rises in
        rw same (byte_before (get_or slices (i + k) d).offset (get_or slices (i + k) d).bytes.items place (omega (arith, before, first)))

pub longer_front : (slices : List Slice) (i : ℕ) (p : Slice) (end new : ℕ) → i < length slices → p ≡ get_or slices i p → p.offset ≤ end → ((place : ℕ) → place < new → end ≤ place → place < end_of p)
    → ((place : ℕ) → place < end → is_some (get (bytes_in (take i slices)) place) ≡ true) → (place : ℕ) → place < new → is_some (get (bytes_in (take (i + 1) slices)) place) ≡ true
longer_front slices i p end new lt is from within held place below = ap is_some (held_more slices i p place lt is) ∙ cases (nat_lt place end) refl
  where
    cases : (d : Bool) → nat_lt place end ≡ d → is_some (over (byte_at p.offset p.bytes.items place) (get (bytes_in (take i slices)) place)) ≡ true
    cases true test = is_some-over (byte_at p.offset p.bytes.items place) _ (held place (grind (arith, nat_tests)))
    cases false test =
        let far : end ≤ place = grind (arith, nat_tests) in
        is_some-first (byte_at p.offset p.bytes.items place) _ (byte_inside p.offset p.bytes.items place (omega (arith, from, far)) (within place below far))

pub none_past : (slices : List Slice) (i : ℕ) (p : Slice) (end new : ℕ) → i < length slices → p ≡ get_or slices i p → end ≤ new → end_of p ≤ new
    → ((place : ℕ) → end ≤ place → get (bytes_in (take i slices)) place ≡ None) → (place : ℕ) → new ≤ place → get (bytes_in (take (i + 1) slices)) place ≡ None
none_past slices i p end new lt is further behind past place at =
    held_more slices i p place lt is
    ∙ (ap (λ o. over o (get (bytes_in (take i slices)) place)) (byte_past p.offset p.bytes.items place (omega (arith, behind, at))) ∙ past place (omega (arith, further, at)))

-- a slice goes between those that begin no later and those that begin later
pub still_in_order : (slices : List Slice) (i offset : ℕ) (slice : Slice) → AreInOrder slices → i ≤ length slices → slice.offset ≡ offset
    → IsPartitionPoint (λ (y : Slice). nat_le y.offset offset ≡ true) (λ (y : Slice). nat_le y.offset offset ≡ false) slices i → AreInOrder (insert slices i slice)
still_in_order slices i offset slice in_order within is parted =
    IsNonDecreasingBy-insert (λ (y : Slice). y.offset) slices i slice in_order within
    (λ k d lt.
    let test : nat_le (get_or slices k d).offset offset ≡ true = parted.0 k d (omega arith) lt in
    grind (arith, nat_tests))
    (λ k d from to.
    let test : nat_le (get_or slices k d).offset offset ≡ false = parted.1 k d from to in
    grind (arith, nat_tests))

-- ---- the bytes from the first place on

slice_get-front : (xs ys : List ℕ) (i : ℕ) → i < length xs → slice_get (xs ++ ys) i ≡ slice_get xs i
slice_get-front [] ys i lt = absurd (omega (arith, lt))
slice_get-front (x ∷ xs) ys zero lt = refl
slice_get-front (x ∷ xs) ys (suc i) lt = slice_get-front xs ys i (omega (arith, lt))

slice_get-behind : (xs ys : List ℕ) (i : ℕ) → slice_get (xs ++ ys) (length xs + i) ≡ slice_get ys i
slice_get-behind [] ys i =
    let same : 0 + i ≡ i = omega arith in ap (slice_get ys) same
slice_get-behind (x ∷ xs) ys i =
    let same : suc (length xs) + i ≡ suc (length xs + i) = omega arith in
    ap (slice_get (x ∷ (xs ++ ys))) same ∙ slice_get-behind xs ys i

pub longer_text : (bytes : FinMap nat_cmp ℕ) (front new : List ℕ) (end start : ℕ) (ps : List ℕ) → length front ≡ end → start ≤ end
    → ((i : ℕ) → slice_get new i ≡ slice_get ps ((end - start) + i))
    → ((place b : ℕ) → byte_at start ps place ≡ Some b → get bytes place ≡ Some b)
    → ((place : ℕ) → place < end → get bytes place ≡ slice_get front place)
    → (place : ℕ) → place < end + length new → get bytes place ≡ slice_get (front ++ new) place
longer_text bytes front new end start ps long from behind holds old place below = cases (nat_lt place end) refl
  where
    cases : (d : Bool) → nat_lt place end ≡ d → get bytes place ≡ slice_get (front ++ new) place
    cases true test =
        let lt : place < end = grind (arith, nat_tests) in
        old place lt ∙ sym (slice_get-front front new place (omega (arith, lt, long)))
    cases false test =
        let far : end ≤ place = grind (arith, nat_tests) in
        let this : slice_get new (place - end) ≡ Some (get_or new (place - end) 0) = slice_get-get_or new (place - end) 0 (omega (arith, far, below)) in
        let split : length front + (place - end) ≡ place = omega (arith, far, long) in
        let at : (end - start) + (place - end) ≡ place - start = omega (arith, far, from) in
        holds place (get_or new (place - end) 0) (byte_from start ps place _ (omega (arith, far, from)) (ap (slice_get ps) (sym at) ∙ (sym (behind (place - end)) ∙ this)))
        ∙ (sym this ∙ (sym (slice_get-behind front new (place - end)) ∙ ap (slice_get (front ++ new)) split))

-- ---- a slice is put among the slices

here : (offset at : ℕ) (bs bytes : List ℕ) (place b : ℕ) → at ≡ offset → bytes ≡ bs → byte_at at bytes place ≡ Some b → byte_at offset bs place ≡ Some b
here offset at bs bytes place b same is this = sym (λ j. byte_at (same j) (is j) place) ∙ this

pub bytes_once_put : (slices new : List Slice) (i : ℕ) (p : Slice) (offset : ℕ) (bs : List ℕ) → new ≡ insert slices i p → p.offset ≡ offset → p.bytes.items ≡ bs
    → Agree (get (bytes_in slices)) (byte_at offset bs) → bytes_in new ≡ added (bytes_in slices) (placed offset bs)
bytes_once_put slices new i p offset bs is at bytes agree =
    ap bytes_in is
    ∙ (bytes_with_one_more slices i p (λ place a b h k. agree place a b h (here offset p.offset bs p.bytes.items place b at bytes k))
    ∙ λ j. added (bytes_in slices) (placed (at j) (bytes j)))

holds_still : (bytes more : FinMap nat_cmp ℕ) (offset : ℕ) (bs : List ℕ) (q : Slice) → more ≡ added bytes (placed offset bs) → Agree (get bytes) (byte_at offset bs) → Holds bytes q → Holds more q
holds_still bytes more offset bs q is agree holds place b this =
    ap (λ m. get m place) is ∙ (get-added bytes offset bs place ∙ cases (byte_at offset bs place) refl)
  where
    cases : (o : Option ℕ) → byte_at offset bs place ≡ o → over o (get bytes place) ≡ Some b
    cases None none = holds place b this
    cases (Some c) new = ap Some (sym (agree place b c (holds place b this) new))

holds_new : (bytes more : FinMap nat_cmp ℕ) (q : Slice) → more ≡ added bytes (placed q.offset q.bytes.items) → Holds more q
holds_new bytes more q is place b this = ap (λ m. get m place) is ∙ (get-added bytes q.offset q.bytes.items place ∙ ap (λ o. over o (get bytes place)) this)

pub one_text_once_put : (slices new : List Slice) (i : ℕ) (p : Slice) (offset : ℕ) (bs : List ℕ) → new ≡ insert slices i p → p.offset ≡ offset → p.bytes.items ≡ bs
    → Agree (get (bytes_in slices)) (byte_at offset bs) → AreOneText slices → AreOneText new
one_text_once_put slices new i p offset bs is at bytes agree one =
    let more = bytes_once_put slices new i p offset bs is at bytes agree in
    let own : bytes_in new ≡ added (bytes_in slices) (placed p.offset p.bytes.items) = more ∙ sym (λ j. added (bytes_in slices) (placed (at j) (bytes j))) in
    let all : All (Holds (bytes_in new)) slices = All-weaker (Holds (bytes_in slices)) (Holds (bytes_in new)) (λ q holds. holds_still (bytes_in slices) (bytes_in new) offset bs q more agree holds) slices one in
    All-same (Holds (bytes_in new)) new (insert slices i p) is
    (All-append (Holds (bytes_in new)) (take i slices) (p ∷ drop i slices) (All-take (Holds (bytes_in new)) i slices all)
    (All-cons (Holds (bytes_in new)) p (drop i slices) (holds_new (bytes_in slices) (bytes_in new) p own) (All-drop (Holds (bytes_in new)) i slices all)))
