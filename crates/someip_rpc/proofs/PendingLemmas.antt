-- The calls that wait, as a map.
use Rattle.std.proofs.Common.{◌≡◌, ◌≢◌, ℕ, zero, suc, ◌<◌, ◌≤◌, nat_lt, nat_le, Bool, true, false, cond, not, IsTrue, ◌↔◌, Option, None, Some, List, [], ◌∷◌, length, map, Result, Ok, Err, OnOk, OnErr, Bor, refl, sym, ap, ◌∙◌, arith}
use Rattle.std.specs.Option.{is_some, option_copied}
use Rattle.std.specs.declared.cmp.Ordering.{Ordering}
use Rattle.std.specs.Cmp.{IsTotalOrder}
use Rattle.std.specs.FinMap.{FinMap, IsAntisymmetric, get, insert, remove, len, empty, entries, keys, retain_keys, get-empty, empty_of_len, len-empty, len-entries}
use Rattle.std.proofs.lemmas.Bool.{ltb-true, ltb-false}
use Rattle.std.proofs.lemmas.Bool.Decides.{nat_tests}
use Rattle.someip_tables.specs.declared.lasting.Lasting.{Lasting}
use Rattle.someip_tables.specs.Deadlines.{has_passed}
use Rattle.someip_tables.specs.Retained.{kept_if}
use Rattle.someip_tables.specs.Lastings.{unless_passed, expired, unexpired}
use Rattle.someip_tables.proofs.Entries.{retain_keys_retain, len-retain-≤}
use Rattle.someip_tables.proofs.Expiry.{get-expired, get-unexpired, unexpired-all}
use Rattle.someip_tables.proofs.MapLaws.{retain_all, retain-insert_kept, retain-insert_dropped, len-insert-≤, len-remove-≤, insert-insert, insert_present, remove-insert_absent}
use Rattle.someip_rpc.specs.declared.call.Awaited.{Awaited}
use Rattle.someip_rpc.specs.declared.ids.CallKey.{CallKey}
use Rattle.someip_rpc.specs.declared.ids.MessageId.{MessageId}
use Rattle.someip_rpc.specs.Ids.{call_cmp}
use Rattle.someip_rpc.specs.IdOrder.{calls_total, exact_calls}
use Rattle.someip_rpc.specs.Sessions.{session_after}
use Rattle.someip_rpc.specs.declared.call.CallKind.{CallKind}
use Rattle.someip_rpc.specs.declared.call.CallKind.TheVariants.{Request, RequestNoReturn}
use Rattle.someip_tables.specs.declared.deadline.Deadline.TheVariants.{At}
use Rattle.someip_rpc.specs.Calls.{Pending, is_full, is_pending, pending_after}
use Rattle.someip_rpc.proofs.SessionLemmas.{differ, at_least}

module _ {K V : Type 0} {R : K → K → Ordering} (o : IsTotalOrder R) (exact : IsAntisymmetric R) where
  -- every key
  pub all_keys : (m : FinMap R V) → retain_keys m (λ _. true) ≡ m
  all_keys m = sym (retain_keys_retain o exact m (λ _. true)) ∙ retain_all o exact m (λ _ _. true) (λ _ _ _. refl)

  -- an insertion, of which what has passed is dropped, adds one entry at most to what had not
  after_insert : (now n : ℕ) (m : FinMap R (Lasting V)) (k : K) (x : Lasting V) (b : Bool) → not (has_passed now x.until) ≡ b → len (unexpired now m) < n → len (unexpired now (insert m k x)) ≤ n
  after_insert now n m k x true is few =
      let e : len (unexpired now (insert m k x)) ≡ len (insert (unexpired now m) k x) = ap len (retain-insert_kept o exact m (λ _ lasting. not (has_passed now lasting.until)) k x is) in
      let le = len-insert-≤ o exact (unexpired now m) k x in
      omega arith
  after_insert now n m k x false is few =
      let e : len (unexpired now (insert m k x)) ≡ len (remove (unexpired now m) k) = ap len (retain-insert_dropped o exact m (λ _ lasting. not (has_passed now lasting.until)) k x is) in
      let le = len-remove-≤ o exact (unexpired now m) k in
      omega arith

  pub len-after_insert : (now n : ℕ) (m : FinMap R (Lasting V)) (k : K) (x : Lasting V) → len (unexpired now m) < n → len (unexpired now (insert m k x)) ≤ n
  len-after_insert now n m k x few = after_insert now n m k x (not (has_passed now x.until)) refl few

  -- a change of a key's value is undone
  pub undone : (m before : FinMap R V) (k : K) (x y : V) → get before k ≡ Some x → m ≡ insert before k y → insert m k x ≡ before
  undone m before k x y was is = ap (λ n. insert n k x) is ∙ insert-insert o exact before k y x ∙ insert_present o exact before k x was

  pub undone_new : (m before : FinMap R V) (k : K) (y : V) → get before k ≡ None → m ≡ insert before k y → remove m k ≡ before
  undone_new m before k y was is = ap (λ n. remove n k) is ∙ remove-insert_absent o exact before k y was

  -- nothing has passed
  stands : (now : ℕ) (v : Option (Lasting V)) → kept_if (λ lasting. has_passed now lasting.until) v ≡ None → unless_passed now v ≡ v
  stands now None none = refl
  stands now (Some x) none = cases (has_passed now x.until) none
    where
      cases : (b : Bool) → cond b (Some x) None ≡ None → cond (not b) (Some x) None ≡ Some x
      cases true none = cc
      cases false none = refl

  pub all_stands : (now : ℕ) (m : FinMap R (Lasting V)) → expired now m ≡ empty → unexpired now m ≡ m
  all_stands now m none =
      unexpired-all o exact now m (λ q. stands now (get m q) (sym (get-expired o exact now m q) ∙ ap (λ n. get n q) none ∙ get-empty R q))

-- no entry, since it is not so that there are some
pub none_of : {K V : Type 0} {R : K → K → Ordering} (m : FinMap R V) (some : Bool) → (IsTrue some ↔ (m ≢ empty)) → some ≡ false → m ≡ empty
none_of {K} {V} {R} m some tells is = cases (len m) refl
  where
    cases : (n : ℕ) → len m ≡ n → m ≡ empty
    cases zero none = empty_of_len m none
    cases (suc n) more =
        absurd (let there : IsTrue some = tells.1 (λ e. let zeros : len m ≡ 0 = ap len e ∙ len-empty R V in omega arith) in cc)

-- a table that is not at its greatest size is not full
pub not_full : (n live : ℕ) → live ≤ n → n < 1024 → nat_le 1024 n ≡ nat_le 1024 live
not_full n live le below = grind (arith, nat_tests)

pub fewer_live : (now : ℕ) (m : Pending) → len (unexpired now m) ≤ len m
fewer_live now m = len-retain-≤ calls_total exact_calls m (λ _ lasting. not (has_passed now lasting.until))

-- as many sessions in a row do not wait as a table may have entries
module _ (live : Pending) (message : MessageId) (first passed session : ℕ) (high : first ≤ 65535) (few : len live ≤ 1024)
    (is : session ≡ session_after passed first) (before : (k : ℕ) → k < passed → is_pending live message (session_after k first) ≡ true) (here : is_pending live message session ≡ true) where
  waiting : (k : ℕ) (b : Bool) → nat_lt k passed ≡ b → k ≤ passed → is_pending live message (session_after k first) ≡ true
  waiting k true lt le = before k (ltb-true k passed lt)
  waiting k false lt le =
      let past : passed ≤ k = ltb-false k passed lt in
      let last : k ≡ passed = omega arith in
      ap (λ n. is_pending live message (session_after n first)) last ∙ ap (is_pending live message) (sym is) ∙ here

  below : (b : Bool) → nat_lt passed 1024 ≡ b → passed < 1024
  below true lt = ltb-true passed 1024 lt
  below false lt =
      let past : 1024 ≤ passed = ltb-false passed 1024 lt in
      let many : 1025 ≤ len live =
      at_least calls_total exact_calls 1025 live (λ k. record { message = message; session = session_after k first })
      (λ i j x y same. differ first i j high (omega (arith, x)) (omega (arith, y)) (ap (λ (key : CallKey). key.session) same))
      (λ i x. waiting i (nat_lt i passed) refl (omega (arith, x))) in
      absurd (omega arith)

  pub passed_few : passed < 1024
  passed_few = below (nat_lt passed 1024) refl

-- a table without entries, what is left of a table, and a table without one of its entries are as small
pub none_held : (m : Pending) → m ≡ empty → len m ≤ 1024
none_held m none = let zeros : len m ≡ 0 = ap len none ∙ len-empty call_cmp (Lasting Awaited) in omega arith

pub live_few : (old : Pending) (now : ℕ) (new : Pending) → new ≡ unexpired now old → len old ≤ 1024 → len new ≤ 1024
live_few old now new is few =
    let same : len new ≡ len (unexpired now old) = ap len is in
    let fewer : len (unexpired now old) ≤ len old = fewer_live now old in
    omega arith

pub fewer_few : (old new : Pending) → len new ≤ len old → len old ≤ 1024 → len new ≤ 1024
fewer_few old new fewer few = omega arith

-- and a table that was not full, once a call waits
pub pending_few : (kind : CallKind) (key : CallKey) (awaited : Awaited) (until now : ℕ) (old new : Pending) → is_full kind (unexpired now old) ≡ false → len old ≤ 1024 → new ≡ pending_after kind key awaited until now old
    → len new ≤ 1024
pending_few Request key awaited until now old new full few is =
    let same : len new ≡ len (unexpired now (insert old key (record { value = awaited; until = At until }))) = ap len is in
    let below : len (unexpired now old) < 1024 = grind (arith, nat_tests) in
    let le = len-after_insert calls_total exact_calls now 1024 old key (record { value = awaited; until = At until }) below in
    omega arith
pending_few RequestNoReturn key awaited until now old new full few is = let same : len new ≡ len old = ap len is in omega arith

pub one_fewer : (old new : Pending) (key : CallKey) → new ≡ remove old key → len new ≤ len old
one_fewer old new key is = let same : len new ≡ len (remove old key) = ap len is in let le = len-remove-≤ calls_total exact_calls old key in omega arith

-- what a call that waits has, by the table without what has passed
pub shown : (now : ℕ) (m : Pending) (key : CallKey) (v : Option (Lasting Awaited)) → v ≡ unless_passed now (get m key) → v ≡ get (unexpired now m) key
shown now m key v is = is ∙ sym (get-unexpired calls_total exact_calls now m key)

pub some_copied : {X : Type 0} (v : Option (Bor X)) → is_some v ≡ is_some (option_copied v)
some_copied None = refl
some_copied (Some x) = refl

-- an Ok, since there is no Err
pub on_ok_since : {X E : Type 0} {A B : Type 0} (r : Result X E) → OnOk r A → OnErr r B → (B → ⊥) → A
on_ok_since (Ok x) ok err never = ok
on_ok_since (Err e) ok err never = absurd (never err)

-- no keys
none_listed : {K V : Type 0} (ks : List K) (es : List (K × V)) → length ks ≡ 0 → length es ≡ 0 → ks ≡ map (λ e. e.0) es
none_listed [] [] a b = refl
none_listed [] (e ∷ es) a b = cc
none_listed (k ∷ ks) es a b = cc

pub no_keys : {K V : Type 0} {R : K → K → Ordering} (m : FinMap R V) (ks : List K) → m ≡ empty → length ks ≡ 0 → ks ≡ keys m
no_keys {K} {V} {R} m ks none zeros =
    none_listed ks (entries m) zeros (sym (len-entries m) ∙ ap len none ∙ len-empty R V)
