-- At each moment just what stood is covered by an interval.
use Rattle.std.proofs.Common.{◌≡◌, ◌⊎◌, inl, inr, ℕ, suc, ◌+◌, ◌*◌, ◌<◌, ◌≤◌, nat_le, nat_lt, nat_eq, ◌&&◌, Bool, true, false, not, cond, List, [], ◌∷◌, ◌++◌, filter, map, Option, None, Some, refl, ap, sym, subst, ◌∙◌, arith}
use Rattle.std.specs.Option.{option_map, option_to_list}
use Rattle.std.specs.declared.cmp.Ordering.{Ordering}
use Rattle.std.specs.Ordering.{eq_by_cmp}
use Rattle.std.specs.FinMap.{IsAntisymmetric}
use Rattle.std.proofs.lemmas.Bool.{leb-true, le-leb}
use Rattle.std.proofs.lemmas.Bool.Decides.{leb_tells}
use Rattle.std.proofs.lemmas.List.{append-nil, append_assoc}
use Rattle.someip_tables.specs.declared.deadline.Deadline.{Deadline}
use Rattle.someip_tables.specs.declared.deadline.Deadline.TheVariants.{At, Never}
use Rattle.someip_tables.specs.Deadlines.{deadline_after, has_passed}
use Rattle.someip_tables.specs.Lastings.{unless_passed}
use Rattle.someip_tables.proofs.Entries.{same_by_test}
use Rattle.audit_services.specs.declared.stay.Interval.{Interval}
use Rattle.audit_services.specs.declared.why.Why.{Why}
use Rattle.audit_services.specs.declared.why.Why.TheVariants.{Expired, Moved, Open}
use Rattle.audit_services.specs.Books.{begun, is_same, since_of}
use Rattle.audit_services.specs.Stays.{Stay, interval_of, lasting_until}
use Rattle.audit_services.specs.Timelines.{AreInOrder, Begins, Change, Changed, Ends, GoesOn, Leaves, changes_until, covering, covers, ended_by, ended_in, ended_later, expired_at, expired_by, intervals_of, standing_in, stands_after, stood_at}

le_false : (a b : ℕ) → b < a → nat_le a b ≡ false
le_false a b lt = cases (nat_le a b) refl
  where
    cases : (t : Bool) → nat_le a b ≡ t → t ≡ false
    cases false is = refl
    cases true is = let le = leb-true a b is in absurd (omega (arith, lt, le))

pub not_le : (a b : ℕ) → nat_le a b ≡ false → b < a
not_le a b no_le = by (leb_tells a b)
  where
    by : ((nat_le a b ≡ true) × (a ≤ b)) ⊎ ((nat_le a b ≡ false) × (b < a)) → b < a
    by (inl both) = absurd (let is = both.0 in cc)
    by (inr both) = both.1

lt_true : (a b : ℕ) → a < b → nat_lt a b ≡ true
lt_true a b lt = le-leb (suc a) b (omega (arith, lt))

lt_false : (a b : ℕ) → b ≤ a → nat_lt a b ≡ false
lt_false a b le = le_false (suc a) b (omega (arith, le))

-- ---- lists of intervals, by what they cover

pub covering-append : {V : Type 0} (now : ℕ) (xs ys : List (Interval V)) → covering now (xs ++ ys) ≡ covering now xs ++ covering now ys
covering-append now [] ys = refl
covering-append now (x ∷ xs) ys = cases (covers now x) (covering-append now xs ys)
  where
    cases : (b : Bool) → covering now (xs ++ ys) ≡ covering now xs ++ covering now ys
        → map (λ i. i.value) (cond b (x ∷ filter (covers now) (xs ++ ys)) (filter (covers now) (xs ++ ys))) ≡ map (λ i. i.value) (cond b (x ∷ filter (covers now) xs) (filter (covers now) xs)) ++ covering now ys
    cases true rest = ap (λ vs. x.value ∷ vs) rest
    cases false rest = rest

covering_one : {V : Type 0} (now : ℕ) (x : Interval V) (b : Bool) → covers now x ≡ b → covering now (x ∷ []) ≡ cond b (x.value ∷ []) []
covering_one now x true is = rw is refl
covering_one now x false is = rw is refl

-- the interval of a stay covers a moment before its end from its beginning on
before_end : {V : Type 0} (why : Why) (now end : ℕ) (stay : Stay V) → now < end → covers now (interval_of why end stay) ≡ nat_le stay.value.since now
before_end why now end stay lt = let yes = lt_true now end lt in cases (nat_le stay.value.since now)
  where
    cases : (b : Bool) → (b && nat_lt now end) ≡ b
    cases true = lt_true now end lt
    cases false = refl

not_after : {V : Type 0} (why : Why) (now end : ℕ) (stay : Stay V) → end ≤ now → covers now (interval_of why end stay) ≡ false
not_after why now end stay le = cases (nat_le stay.value.since now)
  where
    cases : (b : Bool) → (b && nat_lt now end) ≡ false
    cases true = lt_false now end le
    cases false = refl

-- the value, if it stands at a moment
abbrev value_if : {V : Type 0} → Bool → V → List V
value_if b value = cond b (value ∷ []) []

-- ---- what ends later

-- of what stands the interval covers a moment before the end where it began by then, and has not expired
later_covers : {V : Type 0} (now end : ℕ) (stay : Stay V) → now < end → covering now (ended_later end (Some stay)) ≡ value_if (nat_le stay.value.since now && not (has_passed now stay.until)) stay.value.value
later_covers {V} now end stay lt = cases stay.until refl
  where
    open_one : covering now (interval_of Open end stay ∷ []) ≡ value_if (nat_le stay.value.since now) stay.value.value
    open_one = covering_one now (interval_of Open end stay) (nat_le stay.value.since now) (before_end Open now end stay lt)

    and_true : (b : Bool) → (b && true) ≡ b
    and_true true = refl
    and_true false = refl

    and_false : (b : Bool) → (b && false) ≡ false
    and_false true = refl
    and_false false = refl

    cases : (d : Deadline) → stay.until ≡ d
        → covering now (expired_at end stay d ++ option_to_list (option_map (interval_of Open end) (cond (not (has_passed end d)) (Some stay) None))) ≡ value_if (nat_le stay.value.since now && not (has_passed now d)) stay.value.value
    cases Never is = open_one ∙ ap (λ b. value_if b stay.value.value) (sym (and_true (nat_le stay.value.since now)))
    cases (At at) is = by (nat_le at end) refl (nat_le at now) refl
      where
        by : (e : Bool) → nat_le at end ≡ e → (n : Bool) → nat_le at now ≡ n
            → covering now (cond e (interval_of Expired at stay ∷ []) [] ++ option_to_list (option_map (interval_of Open end) (cond (not e) (Some stay) None))) ≡ value_if (nat_le stay.value.since now && not n) stay.value.value
        by true e true n =
            covering_one now (interval_of Expired at stay) false (not_after Expired now at stay (leb-true at now n)) ∙ ap (λ b. value_if b stay.value.value) (sym (and_false (nat_le stay.value.since now)))
        by true e false n =
            covering_one now (interval_of Expired at stay) (nat_le stay.value.since now) (before_end Expired now at stay (not_le at now n)) ∙ ap (λ b. value_if b stay.value.value) (sym (and_true (nat_le stay.value.since now)))
        by false e false n = open_one ∙ ap (λ b. value_if b stay.value.value) (sym (and_true (nat_le stay.value.since now)))
        by false e true n = let le = leb-true at now n in let no_way : nat_le at end ≡ true = le-leb at end (omega (arith, le, lt)) in absurd (cc)

-- ---- one change more

-- a deadline that is set has not passed before
set_later : (now at ttl : ℕ) → now < at → has_passed now (deadline_after at ttl) ≡ false
set_later now at ttl lt = cases (nat_eq ttl 0xFFFFFF)
  where
    cases : (b : Bool) → has_passed now (cond b Never (At (at + 1000 * ttl))) ≡ false
    cases true = refl
    cases false = le_false (at + 1000 * ttl) now (omega (arith, lt))

-- a deadline that has not passed had not before
not_sooner : (now at : ℕ) (d : Deadline) → now < at → has_passed at d ≡ false → has_passed now d ≡ false
not_sooner now at Never lt later = refl
not_sooner now at (At moment) lt later = let gt = not_le moment at later in le_false moment now (omega (arith, lt, gt))

-- what stands before a change, and has not expired, if something does
abbrev IsLeftAt : {V : Type 0} → ℕ → Option (Stay V) → Type 0
IsLeftAt at None = Unit {0}
IsLeftAt at (Some stay) = has_passed at stay.until ≡ false

left_at : {V : Type 0} (at : ℕ) (stood : Option (Stay V)) → IsLeftAt at (unless_passed at stood)
left_at at None = tt
left_at at (Some stay) = cases (has_passed at stay.until) refl
  where
    cases : (b : Bool) → has_passed at stay.until ≡ b → IsLeftAt at (cond (not b) (Some stay) None)
    cases true is = tt
    cases false is = is

-- before a change the intervals cover what they would if all ended with it
one_more : {V : Type 0} (C : V → V → Ordering) (exact : IsAntisymmetric C) (now at end : ℕ) (change : Change V) (before : Option (Stay V)) → now < at → at ≤ end → IsLeftAt at before
    → covering now (ended_by C at change before ++ ended_later end (stands_after C at change before)) ≡ covering now (option_to_list (option_map (interval_of Open at) before))
one_more {V} C exact now at end change before lt le left = cases change before left
  where
    sooner : now < end
    sooner = omega (arith, lt, le)

    ends : (why : Why) (stay : Stay V) → covering now (interval_of why at stay ∷ []) ≡ value_if (nat_le stay.value.since now) stay.value.value
    ends why stay = covering_one now (interval_of why at stay) (nat_le stay.value.since now) (before_end why now at stay lt)

    and_true : (b : Bool) → (b && true) ≡ b
    and_true true = refl
    and_true false = refl

    -- what goes on
    goes_on : (stay : Stay V) → has_passed now stay.until ≡ false → covering now (ended_later end (Some stay)) ≡ value_if (nat_le stay.value.since now) stay.value.value
    goes_on stay stands = later_covers now end stay sooner ∙ ap (λ b. value_if (nat_le stay.value.since now && not b) stay.value.value) stands ∙ ap (λ b. value_if b stay.value.value) (and_true (nat_le stay.value.since now))

    -- what begins with the change
    begins : (stay : Stay V) → stay.value.since ≡ at → has_passed now stay.until ≡ false → covering now (ended_later end (Some stay)) ≡ []
    begins stay is stands = goes_on stay stands ∙ ap (λ b. value_if b stay.value.value) (ap (λ n. nat_le n now) is ∙ le_false at now lt)

    cases : (change : Change V) (before : Option (Stay V)) → IsLeftAt at before
        → covering now (ended_by C at change before ++ ended_later end (stands_after C at change before)) ≡ covering now (option_to_list (option_map (interval_of Open at) before))
    cases Leaves None left = refl
    cases Leaves (Some stay) left = goes_on stay (not_sooner now at stay.until lt left) ∙ sym (ends Open stay)
    cases (GoesOn ttl) None left = refl
    cases (GoesOn ttl) (Some stay) left = goes_on (lasting_until (deadline_after at ttl) stay) (set_later now at ttl lt) ∙ sym (ends Open stay)
    cases (Ends why) None left = refl
    cases (Ends why) (Some stay) left = ends why stay ∙ sym (ends Open stay)
    cases (Begins value ttl) None left = begins (begun C at value ttl None) refl (set_later now at ttl lt)
    cases (Begins value ttl) (Some stay) left = by (eq_by_cmp C stay.value.value value) refl
      where
        by : (b : Bool) → eq_by_cmp C stay.value.value value ≡ b
            → covering now (cond b [] (interval_of Moved at stay ∷ []) ++ ended_later end (Some (record { value = record { value = value; since = cond b stay.value.since at }; until = deadline_after at ttl })))
            ≡ covering now (interval_of Open at stay ∷ [])
        by true same =
            goes_on (record { value = record { value = value; since = stay.value.since }; until = deadline_after at ttl }) (set_later now at ttl lt)
            ∙ ap (λ v. value_if (nat_le stay.value.since now) v) (sym (same_by_test exact stay.value.value value same)) ∙ sym (ends Open stay)
        by false other =
            covering-append now (interval_of Moved at stay ∷ []) (ended_later end (Some (record { value = record { value = value; since = at }; until = deadline_after at ttl })))
            ∙ ap (λ vs. covering now (interval_of Moved at stay ∷ []) ++ vs) (begins (record { value = record { value = value; since = at }; until = deadline_after at ttl }) refl (set_later now at ttl lt))
            ∙ append-nil (covering now (interval_of Moved at stay ∷ [])) ∙ ends Moved stay ∙ sym (ends Open stay)

-- ---- what ended covers no moment since

abbrev LastAt : {V : Type 0} → ℕ → List (Changed V) → Type 0
LastAt now [] = Unit {0}
LastAt now (one ∷ earlier) = one.at ≤ now

expired_before : {V : Type 0} (at now : ℕ) (stood : Option (Stay V)) → at ≤ now → covering now (expired_by at stood) ≡ []
expired_before at now None le = refl
expired_before at now (Some stay) le = cases stay.until
  where
    cases : (d : Deadline) → covering now (expired_at at stay d) ≡ []
    cases Never = refl
    cases (At moment) = by (nat_le moment at) refl
      where
        by : (b : Bool) → nat_le moment at ≡ b → covering now (cond b (interval_of Expired moment stay ∷ []) []) ≡ []
        by true is = let sooner = leb-true moment at is in covering_one now (interval_of Expired moment stay) false (not_after Expired now moment stay (omega (arith, sooner, le)))
        by false is = refl

ended_before : {V : Type 0} (C : V → V → Ordering) (at now : ℕ) (change : Change V) (before : Option (Stay V)) → at ≤ now → covering now (ended_by C at change before) ≡ []
ended_before {V} C at now change before le = cases change before
  where
    ends : (why : Why) (before : Option (Stay V)) → covering now (option_to_list (option_map (interval_of why at) before)) ≡ []
    ends why None = refl
    ends why (Some stay) = covering_one now (interval_of why at stay) false (not_after why now at stay le)

    cases : (change : Change V) (before : Option (Stay V)) → covering now (ended_by C at change before) ≡ []
    cases Leaves before = refl
    cases (GoesOn ttl) before = refl
    cases (Ends why) before = ends why before
    cases (Begins value ttl) before = by (is_same C value before)
      where
        by : (b : Bool) → covering now (cond b [] (option_to_list (option_map (interval_of Moved at) before))) ≡ []
        by true = refl
        by false = ends Moved before

none_since : {V : Type 0} (C : V → V → Ordering) (changes : List (Changed V)) (now : ℕ) → AreInOrder changes now → covering now (ended_in C changes) ≡ []
none_since C [] now order = refl
none_since {V} C (one ∷ earlier) now order =
    let stood = standing_in C earlier in
    covering-append now (ended_in C earlier) (expired_by one.at stood ++ ended_by C one.at one.change (unless_passed one.at stood))
    ∙ ap (λ vs. vs ++ covering now (expired_by one.at stood ++ ended_by C one.at one.change (unless_passed one.at stood))) (none_since C earlier now (sooner earlier order.1 order.0))
    ∙ covering-append now (expired_by one.at stood) (ended_by C one.at one.change (unless_passed one.at stood))
    ∙ ap (λ vs. vs ++ covering now (ended_by C one.at one.change (unless_passed one.at stood))) (expired_before one.at now stood order.0) ∙ ended_before C one.at now one.change (unless_passed one.at stood) order.0
  where
    sooner : (changes : List (Changed V)) → AreInOrder changes one.at → one.at ≤ now → AreInOrder changes now
    sooner [] order le = tt
    sooner (first ∷ others) order le = let at = order.0 in (omega (arith, at, le), order.1)

-- what stands began by the last change
abbrev BeganBy : {V : Type 0} → ℕ → Option (Stay V) → Type 0
BeganBy now None = Unit {0}
BeganBy now (Some stay) = stay.value.since ≤ now

began_by : {V : Type 0} (C : V → V → Ordering) (changes : List (Changed V)) (now : ℕ) → AreInOrder changes now → BeganBy now (standing_in C changes)
began_by C [] now order = tt
began_by {V} C (one ∷ earlier) now order = after one.change (unless_passed one.at (standing_in C earlier)) (kept (standing_in C earlier) (began_by C earlier one.at order.1)) order.0
  where
    kept : (stood : Option (Stay V)) → BeganBy one.at stood → BeganBy one.at (unless_passed one.at stood)
    kept None began = tt
    kept (Some stay) began = by (has_passed one.at stay.until)
      where
        by : (b : Bool) → BeganBy one.at (cond (not b) (Some stay) None)
        by true = tt
        by false = began

    after : (change : Change V) (before : Option (Stay V)) → BeganBy one.at before → one.at ≤ now → BeganBy now (stands_after C one.at change before)
    after Leaves None began le = tt
    after Leaves (Some stay) began le = omega (arith, began, le)
    after (GoesOn ttl) None began le = tt
    after (GoesOn ttl) (Some stay) began le = omega (arith, began, le)
    after (Ends why) before began le = tt
    after (Begins value ttl) None began le = le
    after (Begins value ttl) (Some stay) began le = by (eq_by_cmp C stay.value.value value)
      where
        by : (b : Bool) → cond b stay.value.since one.at ≤ now
        by true = omega (arith, began, le)
        by false = le

-- ---- the law

pub what_stood_is_covered : {V : Type 0} (C : V → V → Ordering) (exact : IsAntisymmetric C) (changes : List (Changed V)) (end now : ℕ) → AreInOrder changes end → now < end
    → covering now (intervals_of C changes end) ≡ option_to_list (stood_at C changes now)
what_stood_is_covered C exact [] end now order lt = refl
what_stood_is_covered {V} C exact (one ∷ earlier) end now order lt = cases (what_stood_is_covered C exact earlier one.at now order.1) (nat_le one.at now) refl
  where
    stood : Option (Stay V)
    stood = standing_in C earlier

    now_stands : (stood : Option (Stay V)) → BeganBy now stood → covering now (ended_later end stood) ≡ option_to_list (option_map (λ stay. stay.value.value) (unless_passed now stood))
    now_stands None began = refl
    now_stands (Some stay) began = later_covers now end stay lt ∙ ap (λ b. value_if (b && not (has_passed now stay.until)) stay.value.value) (le-leb stay.value.since now began) ∙ by (has_passed now stay.until)
      where
        by : (b : Bool) → value_if (true && not b) stay.value.value ≡ option_to_list (option_map (λ (stay : Stay V). stay.value.value) (cond (not b) (Some stay) None))
        by true = refl
        by false = refl

    cases : (now < one.at → covering now (intervals_of C earlier one.at) ≡ option_to_list (stood_at C earlier now)) → (b : Bool) → nat_le one.at now ≡ b
        → covering now (intervals_of C (one ∷ earlier) end) ≡ option_to_list (option_map (λ (stay : Stay V). stay.value.value) (unless_passed now (standing_in C (cond b (one ∷ earlier) (changes_until now earlier)))))
    cases rest true is =
        let here : AreInOrder (one ∷ earlier) now = (leb-true one.at now is, order.1) in
        covering-append now (ended_in C (one ∷ earlier)) (ended_later end (standing_in C (one ∷ earlier))) ∙ ap (λ vs. vs ++ covering now (ended_later end (standing_in C (one ∷ earlier)))) (none_since C (one ∷ earlier) now here)
        ∙ now_stands (standing_in C (one ∷ earlier)) (began_by C (one ∷ earlier) now here)
    cases rest false is =
        let sooner : now < one.at = not_le one.at now is in
        let before = unless_passed one.at stood in
        let later = ended_by C one.at one.change before ++ ended_later end (stands_after C one.at one.change before) in
        ap (covering now) (append_assoc (ended_in C earlier) (expired_by one.at stood ++ ended_by C one.at one.change before) (ended_later end (stands_after C one.at one.change before))
        ∙ ap (λ is. ended_in C earlier ++ is) (append_assoc (expired_by one.at stood) (ended_by C one.at one.change before) (ended_later end (stands_after C one.at one.change before))))
        ∙ covering-append now (ended_in C earlier) (expired_by one.at stood ++ later)
        ∙ ap (λ vs. covering now (ended_in C earlier) ++ vs) (covering-append now (expired_by one.at stood) later
        ∙ ap (λ vs. covering now (expired_by one.at stood) ++ vs) (one_more C exact now one.at end one.change before sooner order.0 (left_at one.at stood))
        ∙ sym (covering-append now (expired_by one.at stood) (option_to_list (option_map (interval_of Open one.at) before))))
        ∙ sym (covering-append now (ended_in C earlier) (ended_later one.at stood)) ∙ rest sooner
