-- The calls of two tables.
use Rattle.std.proofs.Common.{◌≡◌, ◌≢◌, ℕ, ◌+◌, ◌-◌, ◌<◌, ◌≤◌, nat_lt, Bool, true, false, cond, List, [], ◌∷◌, ◌++◌, map, length, Option, None, Some, refl, sym, ap, ◌∙◌, ◌⊎◌, inl, inr, arith}
use Rattle.std.specs.Option.{is_none, is_some, option_and_then, option_map}
use Rattle.std.specs.Ordering.{eq_by_cmp, is_le}
use Rattle.std.specs.FinMap.{FinMap, empty, entries, find, get, insert, len, remove, empty_of_len, len-remove, get-empty, get-entries, get-from_entries, get-insert, get-remove, len-entries, same_map}
use Rattle.std.proofs.lemmas.Bool.{and_from, and_parts, lt-ltb, le-ltb}
use Rattle.someip_tables.specs.Retained.{kept_if, retain}
use Rattle.someip_tables.proofs.MapLaws.{retain_all}
use Rattle.someip_tables.specs.Distinct.{are_distinct}
use Rattle.someip_tables.proofs.Entries.{entries_distinct, get-retain, len-from_entries, none_found, own_test, same_by_test}
use Rattle.someip_tables.proofs.about_hashed.FirstDues.{not_before}
use Rattle.someip_tables.specs.declared.hashed.due.Due.{Due}
use Rattle.someip_tables.specs.hashed.Dues.{IsFirstDue, WantsMemory, due_cmp}
use Rattle.audit_traffic.specs.declared.calls.call.AuditedCall.{AuditedCall}
use Rattle.audit_traffic.specs.declared.calls.call_table.Asked.{Asked}
use Rattle.audit_traffic.specs.declared.calls.call_table.Asked.TheVariants.{Waiting, Told}
use Rattle.audit_traffic.specs.declared.calls.call_table.Answered.{Answered}
use Rattle.audit_traffic.specs.declared.calls.known.Known.{Known}
use Rattle.audit_traffic.specs.declared.calls.known.Known.TheVariants as known
use Rattle.audit_traffic.specs.calls.AuditedCalls.{call_cmp}
use Rattle.audit_traffic.specs.calls.CallOrder.{calls_total, exact_calls}
use Rattle.audit_traffic.specs.calls.CallTables.{AreApart, all_calls, answered_waits, asked_waits, is_open, is_still_known, known_answered, known_asked, known_by_both, open_of, unless_answered, waiting_of}
use Rattle.audit_traffic.specs.calls.KnownCalls.{is_known_at, waits_of}
use Rattle.audit_traffic.specs.calls.Overdue.{still_known}

-- ---- the entries of both

abbrev from_asked : AuditedCall × Asked → AuditedCall × Known
from_asked e = (e.0, known_asked e.1)

abbrev from_answered : AuditedCall × Answered → AuditedCall × Known
from_answered e = (e.0, known_answered e.1)

found_answered : (q : AuditedCall) (ys : List (AuditedCall × Answered)) → find call_cmp q (map from_answered ys) ≡ option_map known_answered (find call_cmp q ys)
found_answered q [] = refl
found_answered q (e ∷ ys) = cases (eq_by_cmp call_cmp q e.0) (found_answered q ys)
  where
    cases : (b : Bool) → find call_cmp q (map from_answered ys) ≡ option_map known_answered (find call_cmp q ys)
        → cond b (Some (known_answered e.1)) (find call_cmp q (map from_answered ys)) ≡ option_map known_answered (cond b (Some e.1) (find call_cmp q ys))
    cases true rest = refl
    cases false rest = rest

found_in_both : (q : AuditedCall) (xs : List (AuditedCall × Asked)) (ys : List (AuditedCall × Answered))
    → find call_cmp q (map from_asked xs ++ map from_answered ys) ≡ known_by_both (find call_cmp q xs) (find call_cmp q ys)
found_in_both q [] ys = found_answered q ys
found_in_both q (e ∷ xs) ys = cases (eq_by_cmp call_cmp q e.0) (found_in_both q xs ys)
  where
    cases : (b : Bool) → find call_cmp q (map from_asked xs ++ map from_answered ys) ≡ known_by_both (find call_cmp q xs) (find call_cmp q ys)
        → cond b (Some (known_asked e.1)) (find call_cmp q (map from_asked xs ++ map from_answered ys)) ≡ known_by_both (cond b (Some e.1) (find call_cmp q xs)) (find call_cmp q ys)
    cases true rest = refl
    cases false rest = rest

distinct_answered : (ys : List (AuditedCall × Answered)) → are_distinct call_cmp ys ≡ true → are_distinct call_cmp (map from_answered ys) ≡ true
distinct_answered [] d = refl
distinct_answered (e ∷ ys) d =
    let parts = and_parts _ _ d in
    and_from _ _ (ap is_none (found_answered e.0 ys ∙ ap (option_map known_answered) (none_found _ parts.0))) (distinct_answered ys parts.1)

found_later : {X : Type 0} (q : AuditedCall) (e : AuditedCall × X) (xs : List (AuditedCall × X)) → is_some (find call_cmp q xs) ≡ true → is_some (find call_cmp q (e ∷ xs)) ≡ true
found_later q e xs is = cases (eq_by_cmp call_cmp q e.0)
  where
    cases : (b : Bool) → is_some (cond b (Some e.1) (find call_cmp q xs)) ≡ true
    cases true = refl
    cases false = is

found_first : {X : Type 0} (e : AuditedCall × X) (xs : List (AuditedCall × X)) → is_some (find call_cmp e.0 (e ∷ xs)) ≡ true
found_first e xs = rw (own_test calls_total e.0) refl

distinct_both : (xs : List (AuditedCall × Asked)) (ys : List (AuditedCall × Answered)) → ((q : AuditedCall) → is_some (find call_cmp q xs) ≡ true → find call_cmp q ys ≡ None)
    → are_distinct call_cmp xs ≡ true → are_distinct call_cmp ys ≡ true → are_distinct call_cmp (map from_asked xs ++ map from_answered ys) ≡ true
distinct_both [] ys apart d e = distinct_answered ys e
distinct_both (x ∷ xs) ys apart d e =
    let parts = and_parts _ _ d in
    let gone : known_by_both (find call_cmp x.0 xs) (find call_cmp x.0 ys) ≡ None = ap (λ v. known_by_both v (find call_cmp x.0 ys)) (none_found _ parts.0) ∙ ap (known_by_both None) (apart x.0 (found_first x xs)) in
    and_from _ _ (ap is_none (found_in_both x.0 xs ys ∙ gone)) (distinct_both xs ys (λ q is. apart q (found_later q x xs is)) parts.1 e)

length_both : (xs : List (AuditedCall × Asked)) (ys : List (AuditedCall × Answered)) → length (map from_asked xs ++ map from_answered ys) ≡ length xs + length ys
length_both [] ys = let rest = length_answered ys in omega (arith, rest)
  where
    length_answered : (ys : List (AuditedCall × Answered)) → length (map from_answered ys) ≡ length ys
    length_answered [] = refl
    length_answered (y ∷ ys) = let rest = length_answered ys in omega (arith, rest)
length_both (x ∷ xs) ys = let rest = length_both xs ys in omega (arith, rest)

-- ---- the calls of both

module _ (asked : FinMap call_cmp Asked) (answered : FinMap call_cmp Answered) where
  pub get-all : (q : AuditedCall) → get (all_calls asked answered) q ≡ known_by_both (get asked q) (get answered q)
  get-all q =
      get-from_entries calls_total _ q ∙ found_in_both q (entries asked) (entries answered)
      ∙ ap (λ v. known_by_both v (find call_cmp q (entries answered))) (sym (get-entries asked q)) ∙ ap (known_by_both (get asked q)) (sym (get-entries answered q))

  pub len-all : AreApart asked answered → len (all_calls asked answered) ≡ len asked + len answered
  len-all apart =
      len-from_entries calls_total exact_calls _
      (distinct_both (entries asked) (entries answered)
      (λ q is. sym (get-entries answered q) ∙ apart q (ap is_some (get-entries asked q) ∙ is))
      (entries_distinct calls_total exact_calls asked) (entries_distinct calls_total exact_calls answered))
      ∙ length_both (entries asked) (entries answered)
      ∙ ap (λ n. n + length (entries answered)) (sym (len-entries asked)) ∙ ap (λ n. len asked + n) (sym (len-entries answered))

pub none_at_all : all_calls empty empty ≡ empty
none_at_all = same_map calls_total exact_calls _ _ (λ q. get-all empty empty q ∙ none q ∙ sym (get-empty call_cmp q))
  where
    by : (u : Option Asked) (w : Option Answered) → u ≡ None → w ≡ None → known_by_both u w ≡ None
    by None None a b = refl
    by None (Some w) a b = cc
    by (Some u) w a b = cc

    none : (q : AuditedCall) → known_by_both (get (empty {R = call_cmp}) q) (get (empty {R = call_cmp}) q) ≡ None
    none q = by _ _ (get-empty call_cmp q) (get-empty call_cmp q)

-- ---- changes

module _ (o o' : FinMap call_cmp Asked) (a a' : FinMap call_cmp Answered) (k : AuditedCall) where
  -- a call is asked
  pub asked_put : (v : Asked) → o' ≡ insert o k v → (a' ≡ remove a k) ⊎ (a' ≡ a) → all_calls o' a' ≡ insert (all_calls o a) k (known_asked v)
  asked_put v put left =
      same_map calls_total exact_calls _ _ (λ q.
      get-all o' a' q ∙ ap (λ m. known_by_both (get m q) (get a' q)) put ∙ ap (λ w. known_by_both w (get a' q)) (get-insert calls_total o k v q)
      ∙ at q (eq_by_cmp call_cmp q k) refl left ∙ ap (cond (eq_by_cmp call_cmp q k) (Some (known_asked v))) (sym (get-all o a q))
      ∙ sym (get-insert calls_total (all_calls o a) k (known_asked v) q))
    where
      at : (q : AuditedCall) (b : Bool) → eq_by_cmp call_cmp q k ≡ b → (a' ≡ remove a k) ⊎ (a' ≡ a)
          → known_by_both (cond b (Some v) (get o q)) (get a' q) ≡ cond b (Some (known_asked v)) (known_by_both (get o q) (get a q))
      at q true is left = refl
      at q false is (inl left) =
          ap (λ m. known_by_both (get o q) (get m q)) left ∙ ap (known_by_both (get o q)) (get-remove calls_total a k q ∙ ap (λ b. cond b None (get a q)) is)
      at q false is (inr left) = ap (λ m. known_by_both (get o q) (get m q)) left

  -- a call is answered
  pub answered_put : (v : Answered) → a' ≡ insert a k v → o' ≡ remove o k → all_calls o' a' ≡ insert (all_calls o a) k (known_answered v)
  answered_put v put left =
      same_map calls_total exact_calls _ _ (λ q.
      get-all o' a' q ∙ ap (λ m. known_by_both (get m q) (get a' q)) left ∙ ap (λ w. known_by_both w (get a' q)) (get-remove calls_total o k q)
      ∙ ap (λ m. known_by_both (cond (eq_by_cmp call_cmp q k) None (get o q)) (get m q)) put
      ∙ ap (known_by_both (cond (eq_by_cmp call_cmp q k) None (get o q))) (get-insert calls_total a k v q) ∙ at q (eq_by_cmp call_cmp q k)
      ∙ ap (cond (eq_by_cmp call_cmp q k) (Some (known_answered v))) (sym (get-all o a q)) ∙ sym (get-insert calls_total (all_calls o a) k (known_answered v) q))
    where
      at : (q : AuditedCall) (b : Bool) → known_by_both (cond b None (get o q)) (cond b (Some v) (get a q)) ≡ cond b (Some (known_answered v)) (known_by_both (get o q) (get a q))
      at q true = refl
      at q false = refl

  pub apart_asked : (v : Asked) → AreApart o a → o' ≡ insert o k v → a' ≡ remove a k → AreApart o' a'
  apart_asked v apart put left = λ q is.
      ap (λ m. get m q) left ∙ get-remove calls_total a k q
      ∙ at q (eq_by_cmp call_cmp q k) (ap is_some (sym (get-insert calls_total o k v q) ∙ ap (λ m. get m q) (sym put)) ∙ is)
    where
      at : (q : AuditedCall) (b : Bool) → is_some (cond b (Some v) (get o q)) ≡ true → cond b None (get a q) ≡ None
      at q true is = refl
      at q false is = apart q is

  pub apart_answered : (v : Answered) → AreApart o a → a' ≡ insert a k v → o' ≡ remove o k → AreApart o' a'
  apart_answered v apart put left = λ q is.
      ap (λ m. get m q) put ∙ get-insert calls_total a k v q
      ∙ at q (eq_by_cmp call_cmp q k) (ap is_some (sym (get-remove calls_total o k q) ∙ ap (λ m. get m q) (sym left)) ∙ is)
    where
      at : (q : AuditedCall) (b : Bool) → is_some (cond b None (get o q)) ≡ true → cond b (Some v) (get a q) ≡ None
      at q true is = cc
      at q false is = apart q is

-- ---- what a call is known as

module _ (asked : FinMap call_cmp Asked) (answered : FinMap call_cmp Answered) (k : AuditedCall) where
  pub known_there : (v : Asked) → Some v ≡ get asked k → Some (known_asked v) ≡ get (all_calls asked answered) k
  known_there v is = ap (λ u. known_by_both u (get answered k)) is ∙ sym (get-all asked answered k)

  pub known_elsewhere : (w : Option Answered) → None ≡ get asked k → w ≡ get answered k → option_map known_answered w ≡ get (all_calls asked answered) k
  known_elsewhere w none is = ap (option_map known_answered) is ∙ ap (λ u. known_by_both u (get answered k)) none ∙ sym (get-all asked answered k)

  -- what is said of the table of those asked alone, and of what a call is known as
  by_known : {X : Type 0} (says : Option Asked → X) (said : Option Known → X) → ((u : Option Asked) (w : Option Answered) → says u ≡ said (known_by_both u w))
      → (u : Option Asked) → u ≡ get asked k → says u ≡ said (get (all_calls asked answered) k)
  by_known says said by u is = by u (get answered k) ∙ ap (λ v. said (known_by_both v (get answered k))) is ∙ ap said (sym (get-all asked answered k))

  pub open_there : (u : Option Asked) → u ≡ get asked k → option_and_then waiting_of u ≡ open_of (get (all_calls asked answered) k)
  open_there = by_known (option_and_then waiting_of) open_of by
    where
      by : (u : Option Asked) (w : Option Answered) → option_and_then waiting_of u ≡ open_of (known_by_both u w)
      by None None = refl
      by None (Some w) = refl
      by (Some (Waiting call)) w = refl
      by (Some (Told since)) w = refl

  pub without_answer : (u : Option Asked) → u ≡ get asked k → option_map known_asked u ≡ unless_answered (get (all_calls asked answered) k)
  without_answer = by_known (option_map known_asked) unless_answered by
    where
      by : (u : Option Asked) (w : Option Answered) → option_map known_asked u ≡ unless_answered (known_by_both u w)
      by None None = refl
      by None (Some w) = refl
      by (Some (Waiting call)) w = refl
      by (Some (Told since)) w = refl

open_is_asked : (u : Option Asked) (w : Option Answered) → is_open (known_by_both u w) ≡ true → is_some u ≡ true
open_is_asked None None is = cc
open_is_asked None (Some w) is = cc
open_is_asked (Some u) w is = refl

module _ (asked : FinMap call_cmp Asked) (answered : FinMap call_cmp Answered) (k : AuditedCall) where
  pub told_is_asked : is_open (get (all_calls asked answered) k) ≡ true → is_some (get asked k) ≡ true
  told_is_asked is = open_is_asked (get asked k) (get answered k) (ap is_open (sym (get-all asked answered k)) ∙ is)

  -- one that is open is told
  pub apart_told : (asked' : FinMap call_cmp Asked) (v : Asked) → AreApart asked answered → is_some (get asked k) ≡ true → asked' ≡ insert asked k v → AreApart asked' answered
  apart_told asked' v apart there put = λ q is.
      at q (eq_by_cmp call_cmp q k) refl (ap is_some (sym (get-insert calls_total asked k v q) ∙ ap (λ m. get m q) (sym put)) ∙ is)
    where
      at : (q : AuditedCall) (b : Bool) → eq_by_cmp call_cmp q k ≡ b → is_some (cond b (Some v) (get asked q)) ≡ true → get answered q ≡ None
      at q true tie is = apart q (ap (λ c. is_some (get asked c)) (same_by_test exact_calls q k tie) ∙ there)
      at q false tie is = apart q is

-- ---- those of which nothing is known any more

-- one that is taken out was not to stay
pub less_gone : (now : ℕ) (m n : FinMap call_cmp Answered) (k : AuditedCall) → n ≡ remove m k → kept_if (is_still_known now) (get m k) ≡ None
    → retain n (λ _ a. is_still_known now a) ≡ retain m (λ _ a. is_still_known now a)
less_gone now m n k left gone =
    same_map calls_total exact_calls _ _ (λ q.
    get-retain calls_total exact_calls n (λ _ a. is_still_known now a) q
    ∙ ap (λ l. kept_if (is_still_known now) (get l q)) left ∙ ap (kept_if (is_still_known now)) (get-remove calls_total m k q)
    ∙ at q (eq_by_cmp call_cmp q k) refl
    ∙ sym (get-retain calls_total exact_calls m (λ _ a. is_still_known now a) q))
  where
    at : (q : AuditedCall) (b : Bool) → eq_by_cmp call_cmp q k ≡ b → kept_if (is_still_known now) (cond b None (get m q)) ≡ kept_if (is_still_known now) (get m q)
    at q true is = sym (ap (λ x. kept_if (is_still_known now) (get m x)) (same_by_test exact_calls q k is) ∙ gone)
    at q false is = refl

-- and there is one less
pub fewer : (m n : FinMap call_cmp Answered) (k : AuditedCall) → n ≡ remove m k → is_some (get m k) ≡ true → len n < len m
fewer m n k left there =
    let less : len n ≡ len m - 1 = ap len left ∙ len-remove calls_total m k ∙ rw there refl in
    let some : len m ≢ 0 = λ zero. let empty_is : get m k ≡ None = ap (λ l. get l k) (empty_of_len m zero) ∙ get-empty call_cmp k in let is : is_some (get m k) ≡ true = there in cc in
    omega (arith, less, some)

-- where none is to go, all stay
pub all_stay : (now : ℕ) (m : FinMap call_cmp Answered) → ((k : AuditedCall) (what : Answered) → get m k ≡ Some what → is_still_known now what ≡ true)
    → m ≡ retain m (λ _ a. is_still_known now a)
all_stay now m none = sym (retain_all calls_total exact_calls m (λ _ a. is_still_known now a) none)

-- the one that waits for the first moment is to go, if it is past
pub first_gone : (now : ℕ) (m : FinMap call_cmp Answered) (due : Due AuditedCall) → IsFirstDue answered_waits m (Some due) → due.at ≤ now
    → (is_some (get m due.key) ≡ true) × (kept_if (is_still_known now) (get m due.key) ≡ None)
first_gone now m due first past = cases (get m due.key) first.0
  where
    not_still : (a : Answered) → Some a.0 ≡ Some due.at → cond (nat_lt now a.0) (Some a) None ≡ None
    not_still a is =
        let same : a.0 ≡ due.at = cc in
        let no : nat_lt now a.0 ≡ false = le-ltb _ _ (omega (arith, same, past)) in
        rw no refl

    cases : (v : Option Answered) → option_and_then answered_waits v ≡ Some due.at → (is_some v ≡ true) × (kept_if (is_still_known now) v ≡ None)
    cases None is = absurd (cc)
    cases (Some a) is = (refl, not_still a is)

-- and where it is not past, none is to go
pub none_gone : (now : ℕ) (m : FinMap call_cmp Answered) (first : Due AuditedCall) → IsFirstDue answered_waits m (Some first) → now < first.at
    → (k : AuditedCall) (what : Answered) → get m k ≡ Some what → is_still_known now what ≡ true
none_gone now m first least later k what is =
    let waits : option_and_then answered_waits (get m k) ≡ Some what.0 = rw is refl in
    let le : is_le (due_cmp call_cmp first (record { at = what.0; key = k })) ≡ true = least.1 (record { at = what.0; key = k }) waits in
    let before : first.at ≤ what.0 = not_before call_cmp first (record { at = what.0; key = k }) le in
    lt-ltb now what.0 (omega (arith, before, later))

module _ (asked : FinMap call_cmp Asked) (answered : FinMap call_cmp Answered) (now : ℕ) where
  module _ (answered' : FinMap call_cmp Answered) (left : answered' ≡ retain answered (λ _ a. is_still_known now a)) where
    get_left : (q : AuditedCall) → get answered' q ≡ kept_if (is_still_known now) (get answered q)
    get_left q = ap (λ m. get m q) left ∙ get-retain calls_total exact_calls answered (λ _ a. is_still_known now a) q

    pub let_go : all_calls asked answered' ≡ still_known now (all_calls asked answered)
    let_go =
        same_map calls_total exact_calls _ _ (λ q.
        get-all asked answered' q ∙ ap (known_by_both (get asked q)) (get_left q) ∙ at (get asked q) (get answered q) ∙ ap (kept_if (is_known_at now)) (sym (get-all asked answered q))
        ∙ sym (get-retain calls_total exact_calls (all_calls asked answered) (λ _ what. is_known_at now what) q))
      where
        at : (u : Option Asked) (w : Option Answered) → known_by_both u (kept_if (is_still_known now) w) ≡ kept_if (is_known_at now) (known_by_both u w)
        at (Some (Waiting call)) w = refl
        at (Some (Told since)) w = refl
        at None None = refl
        at None (Some w) = cases (nat_lt now w.0)
          where
            cases : (b : Bool) → option_map known_answered (cond b (Some w) None) ≡ cond b (Some (known.Answered w.0)) None
            cases true = refl
            cases false = refl

    pub apart_let_go : AreApart asked answered → AreApart asked answered'
    apart_let_go apart = λ q is. get_left q ∙ ap (kept_if (is_still_known now)) (apart q is)

-- ---- which moment comes first

waits_by_both : (u : Option Asked) (w : Option Answered) → option_and_then waits_of (known_by_both u w) ≡ option_and_then asked_waits u
waits_by_both None None = refl
waits_by_both None (Some w) = refl
waits_by_both (Some (Waiting call)) w = refl
waits_by_both (Some (Told since)) w = refl

-- the first of those without an answer is the first of all
pub asked_first : (asked : FinMap call_cmp Asked) (answered : FinMap call_cmp Answered) (r : Option (Due AuditedCall)) → IsFirstDue asked_waits asked r
    → IsFirstDue waits_of (all_calls asked answered) r
asked_first asked answered None none = λ q. ap (option_and_then waits_of) (get-all asked answered q) ∙ waits_by_both (get asked q) (get answered q) ∙ none q
asked_first asked answered (Some first) is =
    (same first.key ∙ is.0, λ other waits. is.1 other (sym (same other.key) ∙ waits))
  where
    same : (q : AuditedCall) → option_and_then waits_of (get (all_calls asked answered) q) ≡ option_and_then asked_waits (get asked q)
    same q = ap (option_and_then waits_of) (get-all asked answered q) ∙ waits_by_both (get asked q) (get answered q)

-- ---- memory

-- what wants memory says something else
wants_asked : (u : Option Asked) (w : Option Answered) (v : Asked) → WantsMemory asked_waits u (asked_waits v) → known_by_both u w ≡ Some (known_asked v) → ⊥
wants_asked None None v wants is = cc
wants_asked None (Some w) (Waiting call) wants is = cc
wants_asked None (Some w) (Told since) wants is = cc
wants_asked (Some u) w v wants is =
    let same : waits_of (known_asked u) ≡ waits_of (known_asked v) = same_waits (known_asked u) (known_asked v) is in
    wants.0 (sym (waits_asked u) ∙ same ∙ waits_asked v)
  where
    waits_asked : (v : Asked) → waits_of (known_asked v) ≡ asked_waits v
    waits_asked (Waiting call) = refl
    waits_asked (Told since) = refl

    same_waits : (a b : Known) → Some a ≡ Some b → waits_of a ≡ waits_of b
    same_waits a b e = let s : a ≡ b = cc in ap waits_of s

wants_answered : (u : Option Asked) (w : Option Answered) (v : Answered) → (is_some u ≡ true → w ≡ None) → WantsMemory answered_waits w (answered_waits v)
    → known_by_both u w ≡ Some (known_answered v) → ⊥
wants_answered (Some (Waiting call)) w v apart wants is = cc
wants_answered (Some (Told since)) w v apart wants is = cc
wants_answered None None v apart wants is = cc
wants_answered None (Some w) v apart wants is = let same : w.0 ≡ v.0 = cc in wants.0 (ap Some same)

module _ (asked : FinMap call_cmp Asked) (answered : FinMap call_cmp Answered) (k : AuditedCall) where
  pub asked_anew : (v : Asked) → WantsMemory asked_waits (get asked k) (asked_waits v) → get (all_calls asked answered) k ≢ Some (known_asked v)
  asked_anew v wants is = wants_asked (get asked k) (get answered k) v wants (sym (get-all asked answered k) ∙ is)

  pub answered_anew : (v : Answered) → AreApart asked answered → WantsMemory answered_waits (get answered k) (answered_waits v) → get (all_calls asked answered) k ≢ Some (known_answered v)
  answered_anew v apart wants is = wants_answered (get asked k) (get answered k) v (apart k) wants (sym (get-all asked answered k) ∙ is)

-- one that is told wants none
pub told_wants_none : (u : Option Asked) → is_some u ≡ true → WantsMemory asked_waits u None → ⊥
told_wants_none None is wants = cc
told_wants_none (Some u) is wants = wants.1 refl
