-- Moments that never fall are what a list of calls needs.
use Rattle.std.proofs.Common.{◌≡◌, ◌↔◌, ℕ, zero, suc, ◌+◌, ◌≤◌, ◌<◌, ◌%◌, Bool, true, false, cond, nat_le, ◌&&◌, ◌==◌, List, [], ◌∷◌, length, get_or, None, Some, refl, sym, subst, drop, arith}
use Rattle.std.specs.List.{All}
use Rattle.std.specs.List.Sorted.{IsNonDecreasing}
use Rattle.std.proofs.lemmas.List.Sorted.{IsNonDecreasingBy-short}
use Rattle.std.proofs.lemmas.Bool.Decides.{nat_tests}
use Rattle.std.proofs.lemmas.List.{drop_more}
use Rattle.std.proofs.Math.ListN.{drop_of_length-le}
use Rattle.std.specs.FinMap.{empty}
use Rattle.someip_tp.specs.declared.calls.TpCall.{TpCall}
use Rattle.someip_tp.specs.declared.calls.TpCall.TheVariants as call
use Rattle.someip_reassembly.specs.Parts.{Parts, Limits, NoneAfter}
use Rattle.someip_reassembly.specs.SegmentOffers.{offer}
use Rattle.someip_tp.specs.Calls.{MayCalls}
use Rattle.someip_tp.specs.Moments.{IsAligned, AreInTime, moments, moment_after}
use Rattle.someip_reassembly.proofs.MomentLemmas.{none_in_empty, later, none_after-parts_at, none_after-offer, none_after-take}

-- ---- lists of calls

tail_aligned : (c : TpCall) (calls : List TpCall) → All IsAligned (c ∷ calls) → All IsAligned calls
tail_aligned c calls all k d lt = all (suc k) d (omega (arith, lt))

-- the first of numbers that never fall is at most the second, and the others never fall
pub rises_by : (a b : ℕ) (ns : List ℕ) → IsNonDecreasing (a ∷ b ∷ ns) → a ≤ b
rises_by a b ns rising = rising 0 1 a (omega arith) (omega arith)

pub rest_rises : (a : ℕ) (ns : List ℕ) → IsNonDecreasing (a ∷ ns) → IsNonDecreasing ns
rest_rises a ns rising i j d le lt = rising (suc i) (suc j) d (omega (arith, le)) (omega (arith, lt))

pub may_from : (limits : Limits) (last : ℕ) (calls : List TpCall) (parts : Parts) → All IsAligned calls → IsNonDecreasing (last ∷ moments calls) → NoneAfter last parts → MayCalls limits calls parts
may_from limits last [] parts aligned rising none = tt
may_from limits last (call.Offer key offset more bytes now ∷ calls) parts aligned rising none =
    let now_none : NoneAfter now parts = later last now parts (rises_by last now (moments calls) rising) none in (
      (aligned 0 (call.Offer key offset more bytes now) (omega arith), now_none),
      may_from limits now calls _ (tail_aligned _ calls aligned) (rest_rises last (now ∷ moments calls) rising) (none_after-offer now limits (offer key offset more bytes.now) parts now_none),
    )
may_from limits last (call.Take key ∷ calls) parts aligned rising none =
    (tt, may_from limits last calls _ (tail_aligned _ calls aligned) rising (none_after-take last key parts none))
may_from limits last (call.Expire now ∷ calls) parts aligned rising none =
    (tt, may_from limits last calls _ (tail_aligned _ calls aligned) rising (none_after-parts_at last limits now parts none))
may_from limits last (call.Clear ∷ calls) parts aligned rising none =
    (tt, may_from limits last calls _ (tail_aligned _ calls aligned) rising (none_in_empty last))

-- numbers that never fall, after 0
behind_zero : (ns : List ℕ) → IsNonDecreasing ns → IsNonDecreasing (0 ∷ ns)
behind_zero ns rising zero j d le lt = omega arith
behind_zero ns rising (suc i) zero d le lt = absurd (omega (arith, le))
behind_zero ns rising (suc i) (suc j) d le lt = rising i j d (omega (arith, le)) (omega (arith, lt))

pub in_time_may : (limits : Limits) (calls : List TpCall) → AreInTime calls → MayCalls limits calls empty
in_time_may limits calls fit = may_from limits 0 calls empty fit.aligned (behind_zero _ fit.rising) (none_in_empty 0)

-- ---- the test of a list of calls

-- the calls may follow a segment that was offered at this moment
abbrev pub FollowFrom : ℕ → List TpCall → Type 0
FollowFrom last calls = All IsAligned calls × IsNonDecreasing (last ∷ moments calls)

pub follow_from_start : (calls : List TpCall) → AreInTime calls ↔ FollowFrom 0 calls
follow_from_start calls =
    ((λ fit. (fit.aligned, behind_zero _ fit.rising)), (λ f. record { aligned = f.0; rising = rest_rises 0 _ f.1 }))

pub none_follow : (last : ℕ) → FollowFrom last []
none_follow last = ((λ k d lt. absurd (omega (arith, lt))), IsNonDecreasingBy-short (λ (n : ℕ). n) (last ∷ []) (omega arith))

head_aligned : (c : TpCall) (calls : List TpCall) → All IsAligned (c ∷ calls) → IsAligned c
head_aligned c calls all = all 0 c (omega arith)

all_aligned : (c : TpCall) (calls : List TpCall) → IsAligned c → All IsAligned calls → All IsAligned (c ∷ calls)
all_aligned c calls one all zero d lt = one
all_aligned c calls one all (suc k) d lt = all k d (omega (arith, lt))

-- a number that is at most the first of numbers that never fall goes in front of them
rises_on : (a b : ℕ) (ns : List ℕ) → a ≤ b → IsNonDecreasing (b ∷ ns) → IsNonDecreasing (a ∷ b ∷ ns)
rises_on a b ns below rising zero zero d le lt = omega arith
rises_on a b ns below rising zero (suc j) d le lt =
    let first = rising 0 j d (omega arith) (omega (arith, lt)) in
    omega (arith, below, first)
rises_on a b ns below rising (suc i) zero d le lt = absurd (omega (arith, le))
rises_on a b ns below rising (suc i) (suc j) d le lt = rising i j d (omega (arith, le)) (omega (arith, lt))

-- one call further
pub follow_on : (last next : ℕ) (c : TpCall) (calls : List TpCall) → moment_after last c ≡ Some next → FollowFrom last (c ∷ calls) ↔ FollowFrom next calls
follow_on last next (call.Offer key offset more bytes now) calls is = cases (offset % 16 == 0) (nat_le last now) refl refl is
  where
    cases : (t u : Bool) → (offset % 16 == 0) ≡ t → nat_le last now ≡ u → cond (t && u) (Some now) None ≡ Some next
        → FollowFrom last (call.Offer key offset more bytes now ∷ calls) ↔ FollowFrom next calls
    cases true true zero_left below is =
        let same : now ≡ next = cc in
        let fits : offset % 16 ≡ 0 = grind (arith, nat_tests) in
        let le : last ≤ now = grind (arith, nat_tests) in
        subst (λ n. FollowFrom last (call.Offer key offset more bytes now ∷ calls) ↔ FollowFrom n calls) same (
          (λ f. (tail_aligned _ calls f.0, rest_rises last (now ∷ moments calls) f.1)),
          (λ f. (all_aligned _ calls fits f.0, rises_on last now (moments calls) le f.1)),
        )
    cases true false a b is = absurd (cc)
    cases false u a b is = absurd (cc)
follow_on last next (call.Take key) calls is =
    let same : last ≡ next = cc in
    subst (λ n. FollowFrom last (call.Take key ∷ calls) ↔ FollowFrom n calls) same ((λ f. (tail_aligned _ calls f.0, f.1)), (λ f. (all_aligned _ calls tt f.0, f.1)))
follow_on last next (call.Expire now) calls is =
    let same : last ≡ next = cc in
    subst (λ n. FollowFrom last (call.Expire now ∷ calls) ↔ FollowFrom n calls) same ((λ f. (tail_aligned _ calls f.0, f.1)), (λ f. (all_aligned _ calls tt f.0, f.1)))
follow_on last next call.Clear calls is =
    let same : last ≡ next = cc in
    subst (λ n. FollowFrom last (call.Clear ∷ calls) ↔ FollowFrom n calls) same ((λ f. (tail_aligned _ calls f.0, f.1)), (λ f. (all_aligned _ calls tt f.0, f.1)))

-- no further
pub none_on : (last : ℕ) (c : TpCall) (calls : List TpCall) → moment_after last c ≡ None → FollowFrom last (c ∷ calls) → ⊥
none_on last (call.Offer key offset more bytes now) calls is f = cases (offset % 16 == 0) (nat_le last now) refl refl is
  where
    cases : (t u : Bool) → (offset % 16 == 0) ≡ t → nat_le last now ≡ u → cond (t && u) (Some now) None ≡ None → ⊥
    cases true true a b is = absurd (cc)
    cases true false a b is =
        let le : last ≤ now = rises_by last now (moments calls) f.1 in
        grind (arith, nat_tests)
    cases false u a b is =
        let fits : offset % 16 ≡ 0 = head_aligned (call.Offer key offset more bytes now) calls f.0 in
        absurd (cc)
none_on last (call.Take key) calls is f = absurd (cc)
none_on last (call.Expire now) calls is f = absurd (cc)
none_on last call.Clear calls is f = absurd (cc)

-- the same of a call among others
pub follow_at : (calls : List TpCall) (i last next : ℕ) (d : TpCall) → i < length calls → moment_after last (get_or calls i d) ≡ Some next
    → AreInTime calls ↔ FollowFrom last (drop i calls) → AreInTime calls ↔ FollowFrom next (drop (i + 1) calls)
follow_at calls i last next d lt is so =
    let more : drop i calls ≡ get_or calls i d ∷ drop (i + 1) calls = drop_more calls i d lt in
    let on = follow_on last next (get_or calls i d) (drop (i + 1) calls) is in
    ((λ fit. on.0 (subst (FollowFrom last) more (so.0 fit))), (λ f. so.1 (subst (FollowFrom last) (sym more) (on.1 f))))

pub none_at : (calls : List TpCall) (i last : ℕ) (d : TpCall) → i < length calls → moment_after last (get_or calls i d) ≡ None
    → AreInTime calls ↔ FollowFrom last (drop i calls) → AreInTime calls → ⊥
none_at calls i last d lt is so fit =
    none_on last (get_or calls i d) (drop (i + 1) calls) is (subst (FollowFrom last) (drop_more calls i d lt) (so.0 fit))

pub all_followed : (calls : List TpCall) (i last : ℕ) → length calls ≤ i → AreInTime calls ↔ FollowFrom last (drop i calls) → true ≡ true ↔ AreInTime calls
all_followed calls i last le so =
    ((λ h. so.1 (subst (FollowFrom last) (sym (drop_of_length-le calls le)) (none_follow last))), (λ fit. refl))

pub may_run : (limits : Limits) (parts : Parts) (calls : List TpCall) → parts ≡ empty → true ≡ true ↔ AreInTime calls → MayCalls limits calls parts
may_run limits parts calls is fit = subst (MayCalls limits calls) (sym is) (in_time_may limits calls (fit.0 refl))
