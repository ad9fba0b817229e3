-- Sessions in cyclic order, and how many of them a table can hold.
use Rattle.std.proofs.Common.{◌≡◌, ℕ, zero, suc, ◌+◌, ◌==◌, ◌<◌, ◌≤◌, nat_lt, Bool, true, false, cond, if◌then◌else◌, Option, None, Some, ◌⊎◌, inl, inr, refl, sym, ap, ◌∙◌, arith}
use Rattle.std.specs.Option.{is_some}
use Rattle.std.specs.declared.cmp.Ordering.{Ordering}
use Rattle.std.specs.Ordering.{eq_by_cmp}
use Rattle.std.specs.Cmp.{IsTotalOrder}
use Rattle.std.specs.FinMap.{FinMap, IsAntisymmetric, get, remove, len, get-remove}
use Rattle.std.proofs.lemmas.Bool.{eqb-true, eqb-false, ltb-true, ltb-false}
use Rattle.someip_tables.proofs.Entries.{same_by_test}
use Rattle.someip_tables.proofs.MapLaws.{insert_present, insert-remove, len-insert_new, get-remove_own}
use Rattle.someip_rpc.specs.declared.ids.MessageId.{MessageId}
use Rattle.someip_rpc.specs.Sessions.{session_after}
use Rattle.someip_rpc.specs.Calls.{Pending, IsFirstFree, is_pending}

-- the n-th session after one lies n further, or 65535 below that once it has wrapped
abbrev Lies : ℕ → ℕ → ℕ → Type 0
Lies n first s = ((s ≡ first + n) × (first + n ≤ 65535)) ⊎ ((s + 65535 ≡ first + n) × (65535 < first + n))

step : (n first s : ℕ) (wraps : Bool) → (s == 0xffff) ≡ wraps → first ≤ 65535 → suc n < 65535 → Lies n first s → Lies (suc n) first (if wraps then 1 else s + 1)
step n first s true is high below (inl (e, le)) = let last : s ≡ 65535 = eqb-true s 65535 is in inr (omega arith, omega arith)
step n first s true is high below (inr (e, lt)) = let last : s ≡ 65535 = eqb-true s 65535 is in absurd (omega arith)
step n first s false is high below (inl (e, le)) = let other : s ≡ 65535 → ⊥ = eqb-false s 65535 is in inl (omega arith, omega (arith, other))
step n first s false is high below (inr (e, lt)) = inr (omega arith, omega arith)

lies : (n first : ℕ) → first ≤ 65535 → n < 65535 → Lies n first (session_after n first)
lies zero first high below = inl (omega arith, omega arith)
lies (suc n) first high below = step n first (session_after n first) (session_after n first == 0xffff) refl high below (lies n first high (omega arith))

apart : (i j first s : ℕ) → i < 65535 → j < 65535 → Lies i first s → Lies j first s → i ≡ j
apart i j first s x y (inl (e, le)) (inl (f, lf)) = omega arith
apart i j first s x y (inl (e, le)) (inr (f, lf)) = omega arith
apart i j first s x y (inr (e, le)) (inl (f, lf)) = omega arith
apart i j first s x y (inr (e, le)) (inr (f, lf)) = omega arith

-- fewer than 65535 sessions in a row differ
pub differ : (first i j : ℕ) → first ≤ 65535 → i < 65535 → j < 65535 → session_after i first ≡ session_after j first → i ≡ j
differ first i j high x y same = apart i j first (session_after i first) x y (lies i first high x) (rw same (lies j first high y))

value_of : {X : Type 0} (v : Option X) → is_some v ≡ true → (x : X) × (v ≡ Some x)
value_of None is = cc
value_of (Some x) is = (x, refl)

module _ {K X : Type 0} {R : K → K → Ordering} (o : IsTotalOrder R) (exact : IsAntisymmetric R) where
  len-taken : (m : FinMap R X) (k : K) (x : X) → get m k ≡ Some x → len m ≡ len (remove m k) + 1
  len-taken m k x is =
      ap len (sym (insert-remove o exact m k x ∙ insert_present o exact m k x is)) ∙ len-insert_new o exact (remove m k) k x (get-remove_own o exact m k)

  others_stay : (n i : ℕ) (m : FinMap R X) (key : ℕ → K) (b : Bool) → eq_by_cmp R (key i) (key n) ≡ b → (key i ≡ key n → i ≡ n) → i < n → is_some (get m (key i)) ≡ true
      → is_some (cond b None (get m (key i))) ≡ true
  others_stay n i m key true is differ below there = let e : i ≡ n = differ (same_by_test exact (key i) (key n) is) in absurd (omega arith)
  others_stay n i m key false is differ below there = there

  -- a map that has n keys that differ has n entries at least
  pub at_least : (n : ℕ) (m : FinMap R X) (key : ℕ → K) → ((i j : ℕ) → i < n → j < n → key i ≡ key j → i ≡ j) → ((i : ℕ) → i < n → is_some (get m (key i)) ≡ true) → n ≤ len m
  at_least zero m key differ there = omega arith
  at_least (suc n) m key differ there =
      let here = value_of (get m (key n)) (there n (omega arith)) in
      let more : len m ≡ len (remove m (key n)) + 1 = len-taken m (key n) here.0 here.1 in
      let rest : n ≤ len (remove m (key n)) =
      at_least n (remove m (key n)) key (λ i j x y. differ i j (omega (arith, x)) (omega (arith, y)))
      (λ i x.
      rw (get-remove o m (key n) (key i))
      (others_stay n i m key (eq_by_cmp R (key i) (key n)) refl (differ i n (omega (arith, x)) (omega arith)) x (there i (omega (arith, x))))) in
      omega arith

-- the first session of a search that does not wait is determined
pub one_first_free : (live : Pending) (message : MessageId) (first one other : ℕ) → IsFirstFree live message first one → IsFirstFree live message first other → one ≡ other
one_first_free live message first one other a b = cases (nat_lt a.0 b.0) (nat_lt b.0 a.0) refl refl
  where
    cases : (less more : Bool) → nat_lt a.0 b.0 ≡ less → nat_lt b.0 a.0 ≡ more → one ≡ other
    cases true more is not =
        let waits : is_pending live message (session_after a.0 first) ≡ true = b.3 a.0 (ltb-true a.0 b.0 is) in
        let free : is_pending live message (session_after a.0 first) ≡ false = ap (is_pending live message) (sym a.1) ∙ a.2 in
        absurd (cc)
    cases false true not is =
        let waits : is_pending live message (session_after b.0 first) ≡ true = a.3 b.0 (ltb-true b.0 a.0 is) in
        let free : is_pending live message (session_after b.0 first) ≡ false = ap (is_pending live message) (sym b.1) ∙ b.2 in
        absurd (cc)
    cases false false not no_more =
        let above : b.0 ≤ a.0 = ltb-false a.0 b.0 not in
        let below : a.0 ≤ b.0 = ltb-false b.0 a.0 no_more in
        let same : a.0 ≡ b.0 = omega (arith, above, below) in
        a.1 ∙ ap (λ n. session_after n first) same ∙ sym b.1
