-- The key whose moment comes first, by the set of moments.
use Rattle.std.proofs.Common.{◌≡◌, ◌≢◌, ℕ, ◌==◌, ◌≤◌, nat_le, nat_lt, Bool, true, false, cond, ◌&&◌, IsTrue, List, Option, None, Some, IfSome, IfNone, refl, ap, sym, ◌∙◌, arith}
use Rattle.std.specs.Option.{option_and_then}
use Rattle.std.specs.declared.cmp.Ordering.{Ordering}
use Rattle.std.specs.declared.cmp.Ordering.TheVariants.{Less, Equal, Greater}
use Rattle.std.specs.Ordering.{is_le, is_gt, eq_by_cmp, ordering_reverse, ordering_then}
use Rattle.std.specs.Cmp.{IsTotalOrder}
use Rattle.std.specs.FinMap.{FinMap, IsAntisymmetric, get, empty, get-empty}
use Rattle.std.proofs.lemmas.Bool.{eqb-true, eq-eqb}
use Rattle.std.proofs.lemmas.Bool.Decides.{nat_tests}
use Rattle.std.specs.Cmp.{nat_cmp_total}
use Rattle.std.proofs.lemmas.Cmp.{on_total, then_total}
use Rattle.std.proofs.lemmas.Map.Lookups.{exact_pairs, exact_unsigned}
use Rattle.std.specs.Ordering.{nat_cmp}
use Rattle.someip_tables.specs.Agendas.{is_awaited}
use Rattle.someip_tables.specs.Retained.{kept_if}
use Rattle.someip_tables.specs.Tables.{map_of}
use Rattle.someip_tables.specs.Waits.{HoldsFrom, due_by, is_due_by}
use Rattle.someip_tables.proofs.Entries.{get-retain, own_test, same_by_test}
use Rattle.someip_tables.proofs.MapLaws.{retain_none}
use Rattle.someip_tables.proofs.Trees.{get-map_of}
use Rattle.someip_tables.proofs.DueLemmas.{test_is_true, true_is_test}
use Rattle.someip_tables.specs.declared.hashed.due.Due.{Due}
use Rattle.someip_tables.specs.hashed.Dues.{Dues, IsFirstDue, Tracks, WantsMemory, at_key, due_cmp, has_due, is_due_of}

not_above : (o : Ordering) → is_gt o ≡ false → is_le o ≡ true
not_above Less h = refl
not_above Equal h = refl
not_above Greater h = cc

awaited_is : (at : ℕ) (v : Option ℕ) → is_awaited at v ≡ true → v ≡ Some at
awaited_is at None is = cc
awaited_is at (Some moment) is = ap Some (eqb-true moment at is)

is_awaited_own : (at : ℕ) (v : Option ℕ) → v ≡ Some at → is_awaited at v ≡ true
is_awaited_own at v is = ap (is_awaited at) is ∙ eq-eqb at at refl

-- two that are not above each other tie
tied : (p q : Ordering) → p ≡ ordering_reverse q → is_le p ≡ true → is_le q ≡ true → p ≡ Equal
tied Less Less turned p q = cc
tied Less Equal turned p q = cc
tied Less Greater turned p q = cc
tied Equal q turned p le = refl
tied Greater q turned p le = cc

-- the order of keys at their moments is total, and only equal ones tie
pub dues_total : {K : Type 0} {R : K → K → Ordering} → IsTotalOrder R → IsTotalOrder (due_cmp R)
dues_total o = then_total (on_total (λ due. due.at) nat_cmp_total) (on_total (λ due. due.key) o)

pub exact_dues : {K : Type 0} {R : K → K → Ordering} → IsAntisymmetric R → IsAntisymmetric (due_cmp R)
exact_dues {K} {R} exact a b h =
    ap (λ (p : ℕ × K). record { at = p.0; key = p.1 }) (exact_pairs nat_cmp R exact_unsigned exact (a.at, a.key) (b.at, b.key) h)

module _ {K V : Type 0} {R : K → K → Ordering} (o : IsTotalOrder R) where
  -- what the map waits for stands in the set, and nothing else
  pub waits_tracked : (moment : V → Option ℕ) (dues : Dues K) (held : List (K × V)) (due : Due K) → Tracks R moment dues held
      → option_and_then moment (get (map_of R held) due.key) ≡ Some due.at → IsTrue (has_due R dues due)
  waits_tracked moment dues held due tracks is =
      true_is_test (tracks due ∙ is_awaited_own due.at _ (ap (option_and_then moment) (sym (get-map_of o held due.key)) ∙ is))

  pub first_is : (moment : V → Option ℕ) (dues : Dues K) (held : List (K × V)) (r : Option (Due K)) → Tracks R moment dues held
      → IfSome r (λ due. IsTrue (has_due R dues due))
      → IfSome r (λ first. (due : Due K) → IsTrue (has_due R dues due) → is_gt (due_cmp R first due) ≡ false)
      → IfNone r ((due : Due K) → IsTrue (has_due R dues due) → ⊥)
      → IsFirstDue moment (map_of R held) r
  first_is moment dues held None tracks found first none = λ k. at k (option_and_then moment (get (map_of R held) k)) refl
    where
      at : (k : K) (v : Option ℕ) → option_and_then moment (get (map_of R held) k) ≡ v → v ≡ None
      at k None is = refl
      at k (Some moment_of) is = absurd (none (record { at = moment_of; key = k }) (waits_tracked moment dues held (record { at = moment_of; key = k }) tracks is))
  first_is moment dues held (Some due) tracks found first none = (
    ap (option_and_then moment) (get-map_of o held due.key) ∙ awaited_is due.at _ (sym (tracks due) ∙ test_is_true found),
    λ other is. not_above _ (first other (waits_tracked moment dues held other tracks is)),
  )

  module _ (exact : IsAntisymmetric R) where
    never_none : (moment : V → Option ℕ) (m : FinMap R V) (due : Due K) → ((k : K) → option_and_then moment (get m k) ≡ None) → option_and_then moment (get m due.key) ≡ Some due.at → ⊥
    never_none moment m due none is = let e : option_and_then moment (get m due.key) ≡ None = none due.key in cc

    pub one_first : (moment : V → Option ℕ) (m : FinMap R V) (one other : Option (Due K)) → IsFirstDue moment m one → IsFirstDue moment m other → one ≡ other
    one_first moment m None None a b = refl
    one_first moment m None (Some due) a b = absurd (never_none moment m due a b.0)
    one_first moment m (Some due) None a b = absurd (never_none moment m due b a.0)
    one_first moment m (Some one) (Some other) a b =
        ap Some (exact_dues exact one other (tied (due_cmp R one other) (due_cmp R other one) ((dues_total o).antisymm one other) (a.1 other b.0) (b.1 one a.0)))

-- what the first one leaves, once it was taken out
module _ {K V : Type 0} {R : K → K → Ordering} (o : IsTotalOrder R) (exact : IsAntisymmetric R) (moment : V → Option ℕ) (dues : Dues K) (held : List (K × V)) (first : Due K)
    (tracks : Tracks R moment dues held) (is : IsFirstDue moment (map_of R held) (Some first)) where
  pub first_leaves : (dues' : Dues K) (held' : List (K × V))
      → ((due : Due K) → has_due R dues' due ≡ cond (is_due_of R first.key (Some first.at) due) false (has_due R dues due))
      → ((q : K) → at_key R held' q ≡ cond (eq_by_cmp R first.key q) None (at_key R held q)) → Tracks R moment dues' held'
  first_leaves dues' held' popped removed = λ due. popped due ∙ at due (eq_by_cmp R first.key due.key) refl ∙ ap (λ v. is_awaited due.at (option_and_then moment v)) (sym (removed due.key))
    where
      taken : (e : Bool) → cond (e && true) false e ≡ false
      taken true = refl
      taken false = refl

      other : (e c : Bool) → cond (e && false) false c ≡ c
      other true c = refl
      other false c = refl

      waits : (due : Due K) → first.key ≡ due.key → option_and_then moment (at_key R held due.key) ≡ Some first.at
      waits due same = ap (λ k. option_and_then moment (at_key R held k)) (sym same) ∙ ap (option_and_then moment) (sym (get-map_of o held first.key)) ∙ is.0

      at : (due : Due K) (b : Bool) → eq_by_cmp R first.key due.key ≡ b
          → cond (is_awaited due.at (Some first.at) && eq_by_cmp R first.key due.key) false (has_due R dues due)
          ≡ is_awaited due.at (option_and_then moment (cond (eq_by_cmp R first.key due.key) None (at_key R held due.key)))
      at due true tie =
          rw tie
          (ap (λ c. cond (is_awaited due.at (Some first.at) && true) false c) (tracks due ∙ ap (is_awaited due.at) (waits due (same_by_test exact first.key due.key tie)))
          ∙ taken (is_awaited due.at (Some first.at)))
      at due false tie = rw tie (other (is_awaited due.at (Some first.at)) (has_due R dues due) ∙ tracks due)

-- nothing in order comes before the first
pub not_before : {K : Type 0} (R : K → K → Ordering) (first due : Due K) → is_le (due_cmp R first due) ≡ true → first.at ≤ due.at
not_before R first due h = cases (nat_lt first.at due.at) (first.at == due.at) refl refl h
  where
    cases : (l e : Bool) → nat_lt first.at due.at ≡ l → (first.at == due.at) ≡ e → is_le (ordering_then (cond l Less (cond e Equal Greater)) (R first.key due.key)) ≡ true → first.at ≤ due.at
    cases true e l is h = grind (arith, nat_tests)
    cases false true l is h = grind (arith, nat_tests)
    cases false false l is h = cc

is_come : (now at : ℕ) → at ≤ now → nat_le at now ≡ true
is_come now at le = grind (arith, nat_tests)

not_come : (now at first : ℕ) → nat_le first now ≡ false → first ≤ at → nat_le at now ≡ false
not_come now at first before le = grind (arith, nat_tests)

module _ {K V : Type 0} {R : K → K → Ordering} (o : IsTotalOrder R) (exact : IsAntisymmetric R) (moment : V → Option ℕ) (m : FinMap R V) where
  -- a value that waits is due at its moment
  due_there : (now : ℕ) (v : Option V) (at : ℕ) → option_and_then moment v ≡ Some at → at ≤ now → kept_if (λ x. is_due_by now (moment x)) v ≡ None → ⊥
  due_there now None at waits come none = cc
  due_there now (Some x) at waits come none =
      let kept : kept_if (λ y. is_due_by now (moment y)) (Some x) ≡ Some x = rw waits (rw (is_come now at come) refl) in
      cc

  -- the first moment is that from which something is due
  pub due_from_first : (first : Due K) → IsFirstDue moment m (Some first) → HoldsFrom (Some first.at) (λ now. due_by moment now m ≢ empty)
  due_from_first first is = λ now. (
    λ come none. due_there now (get m first.key) first.at is.0 (come_is now come)
        (sym (get-retain o exact m (λ _ x. is_due_by now (moment x)) first.key) ∙ ap (λ n. get n first.key) none ∙ get-empty R first.key),
    λ some. at now (nat_le first.at now) refl some,
  )
    where
      come_is : (now : ℕ) → IsTrue (nat_le first.at now) → first.at ≤ now
      come_is now come = let t : nat_le first.at now ≡ true = test_is_true come in grind (arith, nat_tests)

      late : (now : ℕ) → nat_le first.at now ≡ false → (k : K) (x : V) (v : Option ℕ) → get m k ≡ Some x → moment x ≡ v → is_due_by now v ≡ false
      late now before k x None there waits = refl
      late now before k x (Some at) there waits =
          not_come now at first.at before (not_before R first (record { at = at; key = k }) (is.1 (record { at = at; key = k }) (ap (option_and_then moment) there ∙ waits)))

      at : (now : ℕ) (b : Bool) → nat_le first.at now ≡ b → (due_by moment now m ≢ empty) → IsTrue (nat_le first.at now)
      at now true come some = true_is_test come
      at now false before some = absurd (some (retain_none o exact m (λ _ x. is_due_by now (moment x)) (λ k x there. late now before k x (moment x) there refl)))

  -- and where nothing waits, nothing is ever due
  pub never_due : ((k : K) → option_and_then moment (get m k) ≡ None) → HoldsFrom None (λ now. due_by moment now m ≢ empty)
  never_due none = λ now. (
    λ come. never come,
    λ some. absurd (some (retain_none o exact m (λ _ x. is_due_by now (moment x)) (λ k x there. waits_not now k x (moment x) there refl))),
  )
    where
      never : {Q : Type 0} → IsTrue false → Q
      never h = cc

      waits_not : (now : ℕ) (k : K) (x : V) (v : Option ℕ) → get m k ≡ Some x → moment x ≡ v → is_due_by now v ≡ false
      waits_not now k x None there waits = refl
      waits_not now k x (Some at) there waits =
          let e : option_and_then moment (get m k) ≡ None = none k in
          let f : option_and_then moment (get m k) ≡ Some at = ap (option_and_then moment) there ∙ waits in
          cc

-- a moment that is not in the set is new to its key
pub wants_new : {K V : Type 0} {R : K → K → Ordering} (o : IsTotalOrder R) (moment : V → Option ℕ) (dues : Dues K) (held : List (K × V)) (key : K) (at : Option ℕ) → Tracks R moment dues held → at ≢ None
    → ((due : Due K) → is_due_of R key at due ≡ true → has_due R dues due ≡ false) → WantsMemory moment (at_key R held key) at
wants_new {K} {V} {R} o moment dues held key None tracks some absent = absurd (some refl)
wants_new {K} {V} {R} o moment dues held key (Some at) tracks some absent = cases (at_key R held key) refl
  where
    due : Due K
    due = record { at = at; key = key }

    asked : is_due_of R key (Some at) due ≡ true
    asked = rw (eq-eqb at at refl) (own_test o key)

    known : (v : Option V) → at_key R held key ≡ v → option_and_then moment v ≡ Some at → ⊥
    known v is waits =
        let there : has_due R dues due ≡ true = tracks due ∙ ap (is_awaited at) (ap (option_and_then moment) is ∙ waits) ∙ eq-eqb at at refl in
        let not_there = absent due asked in
        cc

    cases : (v : Option V) → at_key R held key ≡ v → WantsMemory moment v (Some at)
    cases None is = tt
    cases (Some value) is = (λ same. known (Some value) is same, some)

-- what follows of each that is found
pub if_some_map : {A : Type 0} {P Q : A → Type 0} (r : Option A) → ((x : A) → P x → Q x) → IfSome r P → IfSome r Q
if_some_map None f h = h
if_some_map (Some x) f h = f x h
