-- The moments of Offers and Finds: what a tick at each millisecond makes of what is to be sent.
use Rattle.std.proofs.Common.{◌≡◌, ◌↔◌, ℕ, zero, suc, ◌+◌, ◌-◌, ◌*◌, ◌^◌, ◌<◌, ◌≤◌, nat_lt, nat_le, Bool, true, false, if◌then◌else◌, Option, None, Some, refl, ap, sym, subst, ◌∙◌, arith}
use Rattle.std.proofs.Math.Nat.{two-pow-succ, mul-add, add-mul, one-mul}
use Rattle.std.proofs.lemmas.Nat.{pow_pos, mul-le}
use Rattle.std.proofs.lemmas.Bool.{lt-ltb, le-ltb, ltb-true, ltb-false, le-leb, lt-leb, leb-true, leb-false}
use Rattle.std.specs.Option.{option_and_then, option_map_or}
use Rattle.sd_core.specs.declared.phases.Phases.{Phases}
use Rattle.sd_core.specs.declared.sending.Sending.{Sending}
use Rattle.sd_core.specs.Sendings.{wait, first_at, goes_out, after_sending, sent_if_due, after_find}
use Rattle.sd_core.specs.OfferMoments.{offer_moment}

-- ---- the moments

moment_early : (phases : Phases) (d k : ℕ) → k ≤ phases.repetitions → offer_moment phases d k ≡ d + phases.base * (2 ^ k - 1)
moment_early phases d k le = rw (le-leb k phases.repetitions le) refl

moment_late : (phases : Phases) (d k : ℕ) → phases.repetitions < k
    → offer_moment phases d k ≡ d + phases.base * (2 ^ phases.repetitions - 1) + (k - phases.repetitions) * phases.cyclic
moment_late phases d k lt = rw (lt-leb k phases.repetitions lt) refl

-- how many are counted as sent
abbrev counted_sent : Phases → ℕ → ℕ
counted_sent phases k = if nat_le k phases.repetitions then k else phases.repetitions + 1

counted_early : (phases : Phases) (k : ℕ) → k ≤ phases.repetitions → counted_sent phases k ≡ k
counted_early phases k le = rw (le-leb k phases.repetitions le) refl

counted_late : (phases : Phases) (k : ℕ) → phases.repetitions < k → counted_sent phases k ≡ phases.repetitions + 1
counted_late phases k lt = rw (lt-leb k phases.repetitions lt) refl

wait_early : (phases : Phases) (k : ℕ) → k < phases.repetitions → wait phases k ≡ phases.base * 2 ^ k
wait_early phases k lt = rw (lt-ltb k phases.repetitions lt) refl

wait_late : (phases : Phases) (k : ℕ) → phases.repetitions ≤ k → wait phases k ≡ phases.cyclic
wait_late phases k le = rw (le-ltb k phases.repetitions le) refl

-- the gaps double
doubled : (base k : ℕ) → base * (2 ^ suc k - 1) ≡ base * (2 ^ k - 1) + base * 2 ^ k
doubled base k =
    let more : 2 ^ suc k - 1 ≡ (2 ^ k - 1) + 2 ^ k = omega (arith, two-pow-succ k, pow_pos k) in
    ap (λ x. base * x) more ∙ mul-add base (2 ^ k - 1) (2 ^ k)

one_more : (n c : ℕ) → (n + 1) * c ≡ n * c + c
one_more n c = add-mul n 1 c ∙ ap (λ x. n * c + x) (one-mul c)

sums : (d a b c m n w : ℕ) → n ≡ d + c → m ≡ d + a → w ≡ b → c ≡ a + b → n ≡ m + w
sums d a b c m n w x y z e = omega arith

-- the gap after each
pub gap : (phases : Phases) (d k : ℕ) → offer_moment phases d (suc k) ≡ offer_moment phases d k + wait phases (counted_sent phases k)
gap phases d k = cases (nat_lt k phases.repetitions) (nat_le k phases.repetitions) refl refl
  where
    cases : (b e : Bool) → nat_lt k phases.repetitions ≡ b → nat_le k phases.repetitions ≡ e → offer_moment phases d (suc k) ≡ offer_moment phases d k + wait phases (counted_sent phases k)
    cases true e lt le =
        let below : k < phases.repetitions = ltb-true k phases.repetitions lt in
        sums d (phases.base * (2 ^ k - 1)) (phases.base * 2 ^ k) (phases.base * (2 ^ suc k - 1)) _ _ _
        (moment_early phases d (suc k) (omega (arith, below))) (moment_early phases d k (omega (arith, below)))
        (ap (wait phases) (counted_early phases k (omega (arith, below))) ∙ wait_early phases k below) (doubled phases.base k)
    cases false true lt le =
        let is : k ≡ phases.repetitions = omega (arith, ltb-false k phases.repetitions lt, leb-true k phases.repetitions le) in
        let one : (suc k - phases.repetitions) * phases.cyclic ≡ phases.cyclic =
        ap (λ x. x * phases.cyclic) (let e : suc k - phases.repetitions ≡ 1 = omega (arith, is) in e) ∙ one-mul phases.cyclic in
        sums (d + phases.base * (2 ^ phases.repetitions - 1)) 0 phases.cyclic ((suc k - phases.repetitions) * phases.cyclic) _ _ _
        (moment_late phases d (suc k) (omega (arith, is)))
        (moment_early phases d k (omega (arith, is)) ∙ ap (λ x. d + phases.base * (2 ^ x - 1)) is ∙ (let e : d + phases.base * (2 ^ phases.repetitions - 1) ≡ d + phases.base * (2 ^ phases.repetitions - 1) + 0 = omega arith in e))
        (ap (wait phases) (counted_early phases k (omega (arith, is))) ∙ wait_late phases k (omega (arith, is)))
        (one ∙ (let e : phases.cyclic ≡ 0 + phases.cyclic = omega arith in e))
    cases false false lt le =
        let past : phases.repetitions < k = leb-false k phases.repetitions le in
        let more : (suc k - phases.repetitions) * phases.cyclic ≡ (k - phases.repetitions) * phases.cyclic + phases.cyclic =
        ap (λ x. x * phases.cyclic) (let e : suc k - phases.repetitions ≡ (k - phases.repetitions) + 1 = omega (arith, past) in e) ∙ one_more (k - phases.repetitions) phases.cyclic in
        sums (d + phases.base * (2 ^ phases.repetitions - 1)) ((k - phases.repetitions) * phases.cyclic) phases.cyclic ((suc k - phases.repetitions) * phases.cyclic) _ _ _
        (moment_late phases d (suc k) (omega (arith, past))) (moment_late phases d k past)
        (ap (wait phases) (counted_late phases k past) ∙ wait_late phases (phases.repetitions + 1) (omega arith)) more

-- each is later than the one before
pub wait_is_long : (phases : Phases) (k : ℕ) → 1 ≤ wait phases k
wait_is_long phases k = cases (nat_lt k phases.repetitions) refl
  where
    cases : (b : Bool) → nat_lt k phases.repetitions ≡ b → 1 ≤ wait phases k
    cases true lt = rw lt (mul-le 1 1 phases.base (2 ^ k) phases.base_from (omega (arith, pow_pos k)))
    cases false lt = rw lt phases.cyclic_from

rises_by : (phases : Phases) (d k j : ℕ) → offer_moment phases d k ≤ offer_moment phases d (k + j)
rises_by phases d k zero = omega (arith, ap (offer_moment phases d) (let e : k + 0 ≡ k = omega arith in e))
rises_by phases d k (suc j) =
    let next : offer_moment phases d (k + suc j) ≡ offer_moment phases d (suc (k + j)) = ap (offer_moment phases d) (omega arith) in
    omega (arith, rises_by phases d k j, gap phases d (k + j), next)

rises : (phases : Phases) (d k i : ℕ) → k ≤ i → offer_moment phases d k ≤ offer_moment phases d i
rises phases d k i le =
    let is : offer_moment phases d (k + (i - k)) ≡ offer_moment phases d i = ap (offer_moment phases d) (omega (arith, le)) in
    omega (arith, rises_by phases d k (i - k), is)

-- ---- what is to be sent

-- what is to be sent before the Offer, or Find, of that number goes out
abbrev sending_at : Phases → ℕ → ℕ → Sending
sending_at phases d k = record { due = offer_moment phases d k; sent = counted_sent phases k }

start_is : (phases : Phases) (d : ℕ) → first_at d ≡ sending_at phases d 0
start_is phases d =
    let due : offer_moment phases d 0 ≡ d = moment_early phases d 0 (omega arith) ∙ (let e : d + phases.base * 0 ≡ d = omega arith in e) in
    let sent : counted_sent phases 0 ≡ 0 = counted_early phases 0 (omega arith) in
    λ i. record { due = sym due i; sent = sym sent i }

counted_next : (phases : Phases) (k : ℕ)
    → (if nat_le (counted_sent phases k) phases.repetitions then counted_sent phases k + 1 else counted_sent phases k) ≡ counted_sent phases (suc k)
counted_next phases k = cases (nat_le k phases.repetitions) (nat_le (suc k) phases.repetitions) refl refl
  where
    cases : (b e : Bool) → nat_le k phases.repetitions ≡ b → nat_le (suc k) phases.repetitions ≡ e
        → (if nat_le (counted_sent phases k) phases.repetitions then counted_sent phases k + 1 else counted_sent phases k) ≡ counted_sent phases (suc k)
    cases true true le next = rw (le, le, next) (omega arith)
    cases true false le next =
        let is : k ≡ phases.repetitions = omega (arith, leb-true k phases.repetitions le, leb-false (suc k) phases.repetitions next) in
        rw (le, le, next) (omega (arith, is))
    cases false e le next =
        let past : phases.repetitions < k = leb-false k phases.repetitions le in
        rw (counted_late phases k past, lt-leb (phases.repetitions + 1) phases.repetitions (omega arith), counted_late phases (suc k) (omega (arith, past))) refl

sent_at : (phases : Phases) (d k now : ℕ) → now ≡ offer_moment phases d k → after_sending phases now (sending_at phases d k) ≡ sending_at phases d (suc k)
sent_at phases d k now is =
    let due : now + wait phases (counted_sent phases k) ≡ offer_moment phases d (suc k) = ap (λ x. x + wait phases (counted_sent phases k)) is ∙ sym (gap phases d k) in
    λ i. record { due = due i; sent = counted_next phases k i }

-- ---- Offers, ticked at each millisecond

-- what is to be sent after a tick at each of n milliseconds
abbrev pub ticked_from : Phases → ℕ → ℕ → Sending → Sending
ticked_from phases from zero sending = sending
ticked_from phases from (suc n) sending = sent_if_due phases (from + n) (ticked_from phases from n sending)

-- all went out before the next moment whose moments are before it
sent_before : (phases : Phases) (d now k : ℕ) → ((j : ℕ) → j < k → offer_moment phases d j < now) → now ≡ offer_moment phases d k
    → (j : ℕ) → j < suc k → offer_moment phases d j < suc now
sent_before phases d now k past at j lt = cases (nat_lt j k) refl
  where
    cases : (b : Bool) → nat_lt j k ≡ b → offer_moment phases d j < suc now
    cases true is = omega (arith, past j (ltb-true j k is))
    cases false is =
        let same : offer_moment phases d j ≡ offer_moment phases d k = ap (offer_moment phases d) (omega (arith, ltb-false j k is)) in
        omega (arith, same, at)

-- before a moment all went out whose moments were before it, and the next is still to come
record Stands (phases : Phases) (d now : ℕ) (sending : Sending) : Type 0 where
  k : ℕ
  is : sending ≡ sending_at phases d k
  next : now ≤ offer_moment phases d k
  past : (j : ℕ) → j < k → offer_moment phases d j < now

tick_at : (phases : Phases) (d now : ℕ) (sending : Sending) → Stands phases d now sending → Stands phases d (suc now) (sent_if_due phases now sending)
tick_at phases d now sending s = cases (nat_le (offer_moment phases d s.k) now) refl
  where
    cases : (b : Bool) → nat_le (offer_moment phases d s.k) now ≡ b → Stands phases d (suc now) (sent_if_due phases now sending)
    cases true due =
        let at : now ≡ offer_moment phases d s.k = omega (arith, leb-true (offer_moment phases d s.k) now due, s.next) in
        record {
          k = suc s.k;
          is = ap (sent_if_due phases now) s.is ∙ rw due (sent_at phases d s.k now at);
          next = omega (arith, gap phases d s.k, wait_is_long phases (counted_sent phases s.k), at);
          past = sent_before phases d now s.k s.past at;
        }
    cases false due = record {
      k = s.k;
      is = ap (sent_if_due phases now) s.is ∙ rw due refl;
      next = omega (arith, leb-false (offer_moment phases d s.k) now due);
      past = λ j lt. omega (arith, s.past j lt);
    }

stands : (phases : Phases) (d from n : ℕ) → from ≤ d → Stands phases d (from + n) (ticked_from phases from n (first_at d))
stands phases d from zero le =
    let first : offer_moment phases d 0 ≡ d = sym (ap (λ s. s.due) (start_is phases d)) in
    record { k = 0; is = start_is phases d; next = omega (arith, first); past = λ j lt. absurd (omega arith) }
stands phases d from (suc n) le =
    let next : suc (from + n) ≡ from + suc n = omega arith in
    subst (λ now. Stands phases d now (ticked_from phases from (suc n) (first_at d))) next (tick_at phases d (from + n) (ticked_from phases from n (first_at d)) (stands phases d from n le))

-- one goes out exactly at the moments
pub offers_sent : (phases : Phases) (d from n : ℕ) → from ≤ d
    → (goes_out (from + n) (ticked_from phases from n (first_at d)) ≡ true) ↔ ((k : ℕ) × (from + n ≡ offer_moment phases d k))
offers_sent phases d from n le = (goes, is_sent)
  where
    s : Stands phases d (from + n) (ticked_from phases from n (first_at d))
    s = stands phases d from n le

    due_is : goes_out (from + n) (ticked_from phases from n (first_at d)) ≡ nat_le (offer_moment phases d s.k) (from + n)
    due_is = ap (goes_out (from + n)) s.is

    goes : goes_out (from + n) (ticked_from phases from n (first_at d)) ≡ true → (k : ℕ) × (from + n ≡ offer_moment phases d k)
    goes due = (s.k, omega (arith, leb-true (offer_moment phases d s.k) (from + n) (sym due_is ∙ due), s.next))

    is_sent : ((k : ℕ) × (from + n ≡ offer_moment phases d k)) → goes_out (from + n) (ticked_from phases from n (first_at d)) ≡ true
    is_sent at = due_is ∙ cases (nat_lt at.0 s.k) refl
      where
        cases : (b : Bool) → nat_lt at.0 s.k ≡ b → nat_le (offer_moment phases d s.k) (from + n) ≡ true
        cases true is = absurd (omega (arith, s.past at.0 (ltb-true at.0 s.k is), at.1))
        cases false is = le-leb (offer_moment phases d s.k) (from + n) (omega (arith, rises phases d s.k at.0 (ltb-false at.0 s.k is), at.1))

-- ---- Finds, ticked at each millisecond

-- what is left to be sent after a tick at each of n milliseconds
abbrev pub found_from : Phases → ℕ → ℕ → Option Sending → Option Sending
found_from phases from zero finding = finding
found_from phases from (suc n) finding = option_and_then (after_find phases (from + n)) (found_from phases from n finding)

-- what is left before the Find of that number goes out
abbrev finding_at : Phases → ℕ → ℕ → Option Sending
finding_at phases d k = if nat_le k phases.repetitions then Some (sending_at phases d k) else None

finding_early : (phases : Phases) (d k : ℕ) → k ≤ phases.repetitions → finding_at phases d k ≡ Some (sending_at phases d k)
finding_early phases d k le = ap (λ (b : Bool). if b then Some (sending_at phases d k) else None) (le-leb k phases.repetitions le)

finding_late : (phases : Phases) (d k : ℕ) → phases.repetitions < k → finding_at phases d k ≡ None
finding_late phases d k lt = ap (λ (b : Bool). if b then Some (sending_at phases d k) else None) (lt-leb k phases.repetitions lt)

-- a tick before its moment, at it, and at that of the last
find_kept : (phases : Phases) (now : ℕ) (sending : Sending) → goes_out now sending ≡ false → after_find phases now sending ≡ Some sending
find_kept phases now sending due =
    ap (λ (b : Bool). if b then (if nat_lt sending.sent phases.repetitions then Some (after_sending phases now sending) else None) else Some sending) due

find_sent : (phases : Phases) (now : ℕ) (sending : Sending) → goes_out now sending ≡ true → nat_lt sending.sent phases.repetitions ≡ true
    → after_find phases now sending ≡ Some (after_sending phases now sending)
find_sent phases now sending due more =
    ap (λ (b : Bool). if b then (if nat_lt sending.sent phases.repetitions then Some (after_sending phases now sending) else None) else Some sending) due
    ∙ ap (λ (b : Bool). if b then Some (after_sending phases now sending) else None) more

find_last : (phases : Phases) (now : ℕ) (sending : Sending) → goes_out now sending ≡ true → nat_lt sending.sent phases.repetitions ≡ false → after_find phases now sending ≡ None
find_last phases now sending due more =
    ap (λ (b : Bool). if b then (if nat_lt sending.sent phases.repetitions then Some (after_sending phases now sending) else None) else Some sending) due
    ∙ ap (λ (b : Bool). if b then Some (after_sending phases now sending) else None) more

find_at : (phases : Phases) (d k now : ℕ) → k ≤ phases.repetitions → now ≡ offer_moment phases d k
    → after_find phases now (sending_at phases d k) ≡ finding_at phases d (suc k)
find_at phases d k now le at = cases (nat_lt k phases.repetitions) refl
  where
    due : goes_out now (sending_at phases d k) ≡ true
    due = le-leb (offer_moment phases d k) now (omega (arith, at))

    more : nat_lt (counted_sent phases k) phases.repetitions ≡ nat_lt k phases.repetitions
    more = ap (λ x. nat_lt x phases.repetitions) (counted_early phases k le)

    cases : (b : Bool) → nat_lt k phases.repetitions ≡ b → after_find phases now (sending_at phases d k) ≡ finding_at phases d (suc k)
    cases true lt =
        find_sent phases now (sending_at phases d k) due (more ∙ lt) ∙ ap (λ s. Some s) (sent_at phases d k now at)
        ∙ sym (finding_early phases d (suc k) (omega (arith, ltb-true k phases.repetitions lt)))
    cases false lt =
        find_last phases now (sending_at phases d k) due (more ∙ lt) ∙ sym (finding_late phases d (suc k) (omega (arith, ltb-false k phases.repetitions lt)))

-- before a moment all went out whose moments were before it, and the next is still to come, if there is one
record Searches (phases : Phases) (d now : ℕ) (finding : Option Sending) : Type 0 where
  k : ℕ
  is : finding ≡ finding_at phases d k
  next : k ≤ phases.repetitions → now ≤ offer_moment phases d k
  past : (j : ℕ) → j < k → offer_moment phases d j < now

find_tick : (phases : Phases) (d now : ℕ) (finding : Option Sending) → Searches phases d now finding → Searches phases d (suc now) (option_and_then (after_find phases now) finding)
find_tick phases d now finding s = cases (nat_le s.k phases.repetitions) (nat_le (offer_moment phases d s.k) now) refl refl
  where
    cases : (b e : Bool) → nat_le s.k phases.repetitions ≡ b → nat_le (offer_moment phases d s.k) now ≡ e
        → Searches phases d (suc now) (option_and_then (after_find phases now) finding)
    cases true true left due =
        let le : s.k ≤ phases.repetitions = leb-true s.k phases.repetitions left in
        let at : now ≡ offer_moment phases d s.k = omega (arith, leb-true (offer_moment phases d s.k) now due, s.next le) in
        record {
          k = suc s.k;
          is = ap (option_and_then (after_find phases now)) (s.is ∙ finding_early phases d s.k le) ∙ find_at phases d s.k now le at;
          next = λ more. omega (arith, gap phases d s.k, wait_is_long phases (counted_sent phases s.k), at);
          past = sent_before phases d now s.k s.past at;
        }
    cases true false left due =
        let early = finding_early phases d s.k (leb-true s.k phases.repetitions left) in
        record {
          k = s.k;
          is = ap (option_and_then (after_find phases now)) (s.is ∙ early) ∙ find_kept phases now (sending_at phases d s.k) due ∙ sym early;
          next = λ more. omega (arith, leb-false (offer_moment phases d s.k) now due);
          past = λ j lt. omega (arith, s.past j lt);
        }
    cases false e left due =
        let late = finding_late phases d s.k (leb-false s.k phases.repetitions left) in
        record {
          k = s.k;
          is = ap (option_and_then (after_find phases now)) (s.is ∙ late) ∙ sym late;
          next = λ more. absurd (omega (arith, leb-false s.k phases.repetitions left));
          past = λ j lt. omega (arith, s.past j lt);
        }

searches : (phases : Phases) (d from n : ℕ) → from ≤ d → Searches phases d (from + n) (found_from phases from n (Some (first_at d)))
searches phases d from zero le =
    let first : offer_moment phases d 0 ≡ d = sym (ap (λ s. s.due) (start_is phases d)) in
    record {
      k = 0;
      is = ap (λ s. Some s) (start_is phases d) ∙ sym (finding_early phases d 0 (omega arith));
      next = λ more. omega (arith, first);
      past = λ j lt. absurd (omega arith);
    }
searches phases d from (suc n) le =
    let next : suc (from + n) ≡ from + suc n = omega arith in
    subst (λ now. Searches phases d now (found_from phases from (suc n) (Some (first_at d)))) next
    (find_tick phases d (from + n) (found_from phases from n (Some (first_at d))) (searches phases d from n le))

-- one goes out exactly at the moments up to the last repetition
pub finds_sent : (phases : Phases) (d from n : ℕ) → from ≤ d
    → (option_map_or (goes_out (from + n)) (found_from phases from n (Some (first_at d))) false ≡ true) ↔ ((k : ℕ) × (k ≤ phases.repetitions) × (from + n ≡ offer_moment phases d k))
finds_sent phases d from n le = (goes, is_sent)
  where
    s : Searches phases d (from + n) (found_from phases from n (Some (first_at d)))
    s = searches phases d from n le

    tested : {v : Option Sending} → finding_at phases d s.k ≡ v → option_map_or (goes_out (from + n)) (found_from phases from n (Some (first_at d))) false ≡ option_map_or (goes_out (from + n)) v false
    tested is = ap (λ v. option_map_or (goes_out (from + n)) v false) (s.is ∙ is)

    goes : option_map_or (goes_out (from + n)) (found_from phases from n (Some (first_at d))) false ≡ true → (k : ℕ) × (k ≤ phases.repetitions) × (from + n ≡ offer_moment phases d k)
    goes due = cases (nat_le s.k phases.repetitions) refl
      where
        cases : (b : Bool) → nat_le s.k phases.repetitions ≡ b → (k : ℕ) × (k ≤ phases.repetitions) × (from + n ≡ offer_moment phases d k)
        cases true left =
            let le : s.k ≤ phases.repetitions = leb-true s.k phases.repetitions left in
            let now : nat_le (offer_moment phases d s.k) (from + n) ≡ true = sym (tested (finding_early phases d s.k le)) ∙ due in
            (s.k, le, omega (arith, leb-true (offer_moment phases d s.k) (from + n) now, s.next le))
        cases false left = let never : false ≡ true = sym (tested (finding_late phases d s.k (leb-false s.k phases.repetitions left))) ∙ due in absurd (cc)

    is_sent : ((k : ℕ) × (k ≤ phases.repetitions) × (from + n ≡ offer_moment phases d k)) → option_map_or (goes_out (from + n)) (found_from phases from n (Some (first_at d))) false ≡ true
    is_sent at = cases (nat_lt at.0 s.k) refl
      where
        cases : (b : Bool) → nat_lt at.0 s.k ≡ b → option_map_or (goes_out (from + n)) (found_from phases from n (Some (first_at d))) false ≡ true
        cases true is = absurd (omega (arith, s.past at.0 (ltb-true at.0 s.k is), at.2))
        cases false is =
            let left : s.k ≤ phases.repetitions = omega (arith, ltb-false at.0 s.k is, at.1) in
            tested (finding_early phases d s.k left) ∙ le-leb (offer_moment phases d s.k) (from + n) (omega (arith, rises phases d s.k at.0 (ltb-false at.0 s.k is), at.2))

-- nothing is left of nothing
pub none_found : (phases : Phases) (from n : ℕ) → found_from phases from n None ≡ None
none_found phases from zero = refl
none_found phases from (suc n) = ap (option_and_then (after_find phases (from + n))) (none_found phases from n)

-- ---- one tick, however late

pub not_due_again : (phases : Phases) (now : ℕ) (sending : Sending) → goes_out now (sent_if_due phases now sending) ≡ false
not_due_again phases now sending = cases (nat_le sending.due now) refl
  where
    cases : (b : Bool) → nat_le sending.due now ≡ b → goes_out now (sent_if_due phases now sending) ≡ false
    cases true due = rw due (lt-leb (now + wait phases sending.sent) now (omega (arith, wait_is_long phases sending.sent)))
    cases false due = rw due due

pub no_find_again : (phases : Phases) (now : ℕ) (sending : Sending) → option_map_or (goes_out now) (after_find phases now sending) false ≡ false
no_find_again phases now sending = cases (nat_le sending.due now) (nat_lt sending.sent phases.repetitions) refl refl
  where
    tested : {v : Option Sending} → after_find phases now sending ≡ v → option_map_or (goes_out now) (after_find phases now sending) false ≡ option_map_or (goes_out now) v false
    tested is = ap (λ v. option_map_or (goes_out now) v false) is

    cases : (b e : Bool) → nat_le sending.due now ≡ b → nat_lt sending.sent phases.repetitions ≡ e → option_map_or (goes_out now) (after_find phases now sending) false ≡ false
    cases true true due more = tested (find_sent phases now sending due more) ∙ lt-leb (now + wait phases sending.sent) now (omega (arith, wait_is_long phases sending.sent))
    cases true false due more = tested (find_last phases now sending due more)
    cases false e due more = tested (find_kept phases now sending due) ∙ due

pub next_due : (phases : Phases) (now : ℕ) (sending : Sending) → goes_out now sending ≡ true → (sent_if_due phases now sending).due ≡ now + wait phases sending.sent
next_due phases now sending due = rw due refl
