-- Numbers and Data IDs that are compared with the earlier ones.
use Rattle.std.proofs.Common.{◌≡◌, ℕ, ◌+◌, ◌<◌, ◌≤◌, ◌==◌, ◌||◌, ◌&&◌, not, Bool, true, false, cond, List, ◌∷◌, length, drop, get_or, nat_lt, refl, ap, ◌∙◌, arith}
use Rattle.std.proofs.lemmas.Bool.{lt-ltb, le-ltb}
use Rattle.std.proofs.lemmas.Bool.Decides.{nat_tests}
use Rattle.std.proofs.Math.ListN.{drop_of_length-le}
use Rattle.std.specs.Ordering.{nat_cmp}
use Rattle.std.specs.BTreeMap.{is_at}
use Rattle.someip_payload_values.specs.declared.shape.Member.{Member, out-Member}
use Rattle.someip_payload_values.specs.View.{all_members}
use Rattle.someip_payload_values.specs.Check.{is_among, are_ids}
use Rattle.someip_payload_values.proofs.Shapes.{all_members-drop}

at_is : (n k : ℕ) → is_at (nat_cmp n) k ≡ (k == n)
at_is n k = grind (arith, nat_tests)

-- a set has one number more
pub one_more : (n k : ℕ) (earlier : List ℕ) (old new : Bool) → new ≡ cond (is_at (nat_cmp n) k) true old → old ≡ is_among k earlier → new ≡ is_among k (n ∷ earlier)
one_more n k earlier old new is before = is ∙ cases (k == n) (at_is n k)
  where
    cases : (t : Bool) → is_at (nat_cmp n) k ≡ t → cond (is_at (nat_cmp n) k) true old ≡ t || is_among k earlier
    cases true same = ap (λ t. cond t true old) same
    cases false same = ap (λ t. cond t true old) same ∙ before

pub ids_on : (earlier : List ℕ) (ms : List Member) (i : ℕ) (m : Member) → i < length ms → m ≡ get_or ms i m → (out-Member m).id ≤ 4095 → is_among (out-Member m).id earlier ≡ false
    → are_ids earlier (all_members (drop i ms)) ≡ are_ids ((out-Member m).id ∷ earlier) (all_members (drop (i + 1) ms))
ids_on earlier ms i m lt is small new =
    let below : nat_lt (out-Member m).id 4096 ≡ true = lt-ltb (out-Member m).id 4096 (omega (arith, small)) in
    rw (all_members-drop ms i m lt, ← is, below, new) refl

pub ids_large : (earlier : List ℕ) (ms : List Member) (i : ℕ) (m : Member) → i < length ms → m ≡ get_or ms i m → 4095 < (out-Member m).id → are_ids earlier (all_members (drop i ms)) ≡ false
ids_large earlier ms i m lt is large =
    let above : nat_lt (out-Member m).id 4096 ≡ false = le-ltb (out-Member m).id 4096 (omega (arith, large)) in
    rw (all_members-drop ms i m lt, ← is, above) refl

pub ids_again : (earlier : List ℕ) (ms : List Member) (i : ℕ) (m : Member) → i < length ms → m ≡ get_or ms i m → is_among (out-Member m).id earlier ≡ true → are_ids earlier (all_members (drop i ms)) ≡ false
ids_again earlier ms i m lt is among = rw (all_members-drop ms i m lt, ← is, among) (cases (nat_lt (out-Member m).id 4096))
  where
    cases : (t : Bool) → (t && (not true && are_ids ((out-Member m).id ∷ earlier) (all_members (drop (i + 1) ms)))) ≡ false
    cases true = refl
    cases false = refl

pub ids_done : (earlier : List ℕ) (ms : List Member) (i : ℕ) → length ms ≤ i → are_ids earlier (all_members (drop i ms)) ≡ true
ids_done earlier ms i le = rw (drop_of_length-le ms le) refl

-- what inserting a number told of it
pub was_there : (inserted there : Bool) → inserted ≡ not there → inserted ≡ false → there ≡ true
was_there inserted true is old = refl
was_there inserted false is old = absurd (cc)

pub was_none : (inserted there : Bool) → inserted ≡ not there → inserted ≡ true → there ≡ false
was_none inserted true is new = absurd (cc)
was_none inserted false is new = refl
