-- The keys of what has passed, found by the deadlines in order.
use Rattle.std.specs.Prelude.{◌≢◌, IsTrue, IfSome, IfNone, take_while}
use Rattle.std.proofs.Common.{◌≡◌, ℕ, ◌<◌, ◌≤◌, nat_le, Bool, true, false, cond, ◌&&◌, List, [], ◌∷◌, map, filter, Option, None, Some, refl, ap, sym, ◌∙◌, arith, rules}
use Rattle.std.specs.Option.{is_some}
use Rattle.std.specs.List.{AllByRecursion, list_any}
use Rattle.std.specs.List.Sorted.{IsStrictlySortedBy}
use Rattle.std.specs.declared.cmp.Ordering.{Ordering}
use Rattle.std.specs.declared.cmp.Ordering.TheVariants.{Less}
use Rattle.std.specs.Ordering.{eq_by_cmp, is_gt}
use Rattle.std.specs.Cmp.{IsTotalOrder}
use Rattle.std.specs.BTreeMap as tree
use Rattle.std.specs.BTreeMap.{BTreeMap}
use Rattle.std.specs.BTreeSet.{BTreeSet, IsFromIterResult, contains}
use Rattle.std.specs.FinMap.{IsAntisymmetric, get, keys, empty, get-empty, same_map}
use Rattle.std.proofs.lemmas.Bool.{and_parts, and_from}
use Rattle.std.proofs.lemmas.Bool.Decides.{nat_tests}
use Rattle.std.proofs.lemmas.List.Sums.{take_while-cons}
use Rattle.someip_tables.specs.declared.deadline.Deadline.{Deadline}
use Rattle.someip_tables.specs.declared.deadline.Deadline.TheVariants.{At, Never}
use Rattle.someip_tables.specs.declared.lasting.Lasting.{Lasting}
use Rattle.someip_tables.specs.declared.due.Due.{Due}
use Rattle.someip_tables.specs.Deadlines.{has_passed}
use Rattle.someip_tables.specs.Retained.{kept_if}
use Rattle.someip_tables.specs.Lastings.{until_of, expired}
use Rattle.someip_tables.specs.Dues.{due_cmp, is_due, Tracks}
use Rattle.someip_tables.specs.Tables.{map_of}
use Rattle.someip_tables.proofs.Entries.{same_by_test, own_test}
use Rattle.someip_tables.proofs.Trees.{get-map_of}
use Rattle.someip_tables.proofs.DueLemmas.{not_before, dues_total, exact_dues, test_is_true, true_is_test}
use Rattle.someip_tables.proofs.Expiry.{at_passed, not_passed, get-expired}
use Rattle.someip_tables.proofs.Members.{any_map, any_filter, any_at, any_found, both_or_none}
use Rattle.someip_tables.proofs.Sorted.{keys_of_set}

-- ---- in order, those that have passed stand in front

module _ {K : Type 0} (R : K → K → Ordering) (now : ℕ) where
  none_later : (first : Due K) (ds : List (Due K)) → nat_le first.at now ≡ false → AllByRecursion (λ due. due_cmp R first due ≡ Less) ds → filter (λ due. nat_le due.at now) ds ≡ []
  none_later first [] later above = refl
  none_later first (d ∷ ds) later above =
      let le : first.at ≤ d.at = not_before R first d (ap is_gt above.0) in
      let fails : nat_le d.at now ≡ false = grind (arith, nat_tests) in
      rw fails (none_later first ds later above.1)

  pub in_front : (ds : List (Due K)) → IsStrictlySortedBy (due_cmp R) ds → take_while (λ due. nat_le due.at now) ds ≡ filter (λ due. nat_le due.at now) ds
  unfolding IsStrictlySortedBy
  in_front [] rising = refl
  in_front (d ∷ ds) rising = take_while-cons (λ due. nat_le due.at now) d ds ∙ cases (nat_le d.at now) refl (in_front ds rising.1)
    where
      cases : (b : Bool) → nat_le d.at now ≡ b → take_while (λ due. nat_le due.at now) ds ≡ filter (λ due. nat_le due.at now) ds → cond b (d ∷ take_while (λ due. nat_le due.at now) ds) [] ≡ cond b (d ∷ filter (λ due. nat_le due.at now) ds) (filter (λ due. nat_le due.at now) ds)
      cases true b rest = ap (λ xs. d ∷ xs) rest
      cases false b rest = sym (none_later d ds b rising.0)

-- ---- what a deadline says of the value

deadline_in : (now : ℕ) (until : Deadline) → has_passed now until ≡ true → (at : ℕ) × (is_due at (Some until) ≡ true) × (nat_le at now ≡ true)
deadline_in now (At moment) passes = (moment, grind (arith, nat_tests), passes)
deadline_in now Never passes = absurd (cc)

module _ {V : Type 0} (now : ℕ) where
  there : (at : ℕ) (v : Option (Lasting V)) → is_due at (until_of v) ≡ true → nat_le at now ≡ true → is_some (kept_if (λ lasting. has_passed now lasting.until) v) ≡ true
  there at None is le = cc
  there at (Some lasting) is le = let lt : at ≤ now = grind (arith, nat_tests) in rw (at_passed at now lasting.until is lt) refl

  pub moment_in : (v : Option (Lasting V)) → is_some (kept_if (λ lasting. has_passed now lasting.until) v) ≡ true → (at : ℕ) × (is_due at (until_of v) ≡ true) × (nat_le at now ≡ true)
  moment_in None some = absurd (cc)
  moment_in (Some lasting) some = cases (has_passed now lasting.until) refl some
    where
      cases : (b : Bool) → has_passed now lasting.until ≡ b → is_some (cond b (Some lasting) None) ≡ true → (at : ℕ) × (is_due at (Some lasting.until) ≡ true) × (nat_le at now ≡ true)
      cases true passes some = deadline_in now lasting.until passes
      cases false passes some = absurd (cc)

  none_kept : (v : Option (Lasting V)) → ((at : ℕ) → is_due at (until_of v) ≡ true → now < at) → kept_if (λ lasting. has_passed now lasting.until) v ≡ None
  none_kept None later = refl
  none_kept (Some lasting) later = rw (not_passed now lasting.until later) refl

not_none : {X : Type 0} (v : Option X) → is_some v ≡ true → v ≢ None
not_none v some none = cc

module _ {K V : Type 0} {R : K → K → Ordering} (o : IsTotalOrder R) (exact : IsAntisymmetric R) where
  -- the keys of the deadlines that have passed are those of the values that have
  same_keys : (now : ℕ) (dues : BTreeSet (Due K)) (held : BTreeMap K (Lasting V)) → Tracks R dues held → (q : K)
      → list_any (λ due. nat_le due.at now && eq_by_cmp R q due.key) dues.keys ≡ is_some (kept_if (λ lasting. has_passed now lasting.until) (tree.get R held q))
  same_keys now dues held tracks q = both_or_none _ _ from to
    where
      from : list_any (λ due. nat_le due.at now && eq_by_cmp R q due.key) dues.keys ≡ true → is_some (kept_if (λ lasting. has_passed now lasting.until) (tree.get R held q)) ≡ true
      from found =
          let at = any_found (dues_total o) (exact_dues exact) (λ due. nat_le due.at now && eq_by_cmp R q due.key) dues.keys found in
          let parts = and_parts _ _ at.1 in
          let due : is_due at.0.at (until_of (tree.get R held at.0.key)) ≡ true = sym (tracks at.0) ∙ at.2 in
          there now at.0.at (tree.get R held q) (ap (λ k. is_due at.0.at (until_of (tree.get R held k))) (same_by_test exact q at.0.key parts.1) ∙ due) parts.0

      to : is_some (kept_if (λ lasting. has_passed now lasting.until) (tree.get R held q)) ≡ true → list_any (λ due. nat_le due.at now && eq_by_cmp R q due.key) dues.keys ≡ true
      to some =
          let at = moment_in now (tree.get R held q) some in
          let due : Due K = record { at = at.0; key = q } in
          any_at (dues_total o) (exact_dues exact) (λ d. nat_le d.at now && eq_by_cmp R q d.key) due (and_from _ _ at.2 (own_key q)) dues.keys (tracks due ∙ at.1)
        where
          own_key : (k : K) → eq_by_cmp R k k ≡ true
          own_key k = own_test o k

  pub keys_are : (now : ℕ) (dues : BTreeSet (Due K)) (held : BTreeMap K (Lasting V)) (n : BTreeSet K) → Tracks R dues held → IsStrictlySortedBy (due_cmp R) dues.keys
      → IsFromIterResult R (map (λ due. due.key) (take_while (λ due. nat_le due.at now) dues.keys)) n → n.keys ≡ keys (expired now (map_of R held.entries))
  keys_are now dues held n tracks rising is =
      keys_of_set o exact (expired now (map_of R held.entries)) n is.1 (λ q.
      is.0 q
      ∙ ap (λ ds. list_any (eq_by_cmp R q) (map (λ due. due.key) ds)) (in_front R now dues.keys rising)
      ∙ any_map (eq_by_cmp R q) (λ due. due.key) (filter (λ due. nat_le due.at now) dues.keys)
      ∙ any_filter (λ due. eq_by_cmp R q due.key) (λ due. nat_le due.at now) dues.keys
      ∙ same_keys now dues held tracks q
      ∙ sym (ap is_some (get-expired o exact now (map_of R held.entries) q ∙ ap (kept_if (λ lasting. has_passed now lasting.until)) (get-map_of o held.entries q))))

  -- whether the first deadline has passed says whether any has
  pub first_tells : (now : ℕ) (dues : BTreeSet (Due K)) (held : BTreeMap K (Lasting V)) (first : Option (Due K)) → Tracks R dues held
      → IfSome first (λ due. IsTrue (contains (due_cmp R) dues due)) → IfSome first (λ due. due.at ≤ now)
      → IfNone first ((due : Due K) → IsTrue (contains (due_cmp R) dues due) → now < due.at)
      → (IsTrue (is_some first) → expired now (map_of R held.entries) ≢ empty) × (expired now (map_of R held.entries) ≢ empty → IsTrue (is_some first))
  first_tells now dues held None tracks found passes none = (
    λ some. absurd (is_false some),
    λ some. absurd (some (same_map o exact _ _ (λ q.
        get-expired o exact now (map_of R held.entries) q
        ∙ ap (kept_if (λ lasting. has_passed now lasting.until)) (get-map_of o held.entries q)
        ∙ none_kept now (tree.get R held q) (λ at is. none (record { at = at; key = q }) (true_is_test (tracks (record { at = at; key = q }) ∙ is)))
        ∙ sym (get-empty R q)))),
  )
    where
      is_false : IsTrue false → ⊥
      is_false h = search rules
  first_tells now dues held (Some due) tracks found passes none = (
    λ some gone.
        not_none (get (expired now (map_of R held.entries)) due.key)
        (ap is_some (get-expired o exact now (map_of R held.entries) due.key ∙ ap (kept_if (λ lasting. has_passed now lasting.until)) (get-map_of o held.entries due.key))
        ∙ there now due.at (tree.get R held due.key) (sym (tracks due) ∙ test_is_true found) (grind (arith, nat_tests)))
        (ap (λ m. get m due.key) gone ∙ get-empty R due.key),
    λ some. true_is_test refl,
  )

  -- something has passed from the first deadline on
  pub first_holds : (dues : BTreeSet (Due K)) (held : BTreeMap K (Lasting V)) (due : Due K) → Tracks R dues held → IsTrue (contains (due_cmp R) dues due)
      → ((other : Due K) → IsTrue (contains (due_cmp R) dues other) → due.at ≤ other.at) → (now : ℕ)
      → (IsTrue (nat_le due.at now) → expired now (map_of R held.entries) ≢ empty) × (expired now (map_of R held.entries) ≢ empty → IsTrue (nat_le due.at now))
  first_holds dues held due tracks found first now = cases (nat_le due.at now) refl
    where
      cases : (b : Bool) → nat_le due.at now ≡ b → (IsTrue b → expired now (map_of R held.entries) ≢ empty) × (expired now (map_of R held.entries) ≢ empty → IsTrue b)
      cases true is = first_tells now dues held (Some due) tracks found (grind (arith, nat_tests)) tt
      cases false is = first_tells now dues held None tracks tt tt (λ other has. let le = first other has in let lt : now < due.at = grind (arith, nat_tests) in omega (arith, le, lt))

  -- without one nothing passes
  pub none_holds : (dues : BTreeSet (Due K)) (held : BTreeMap K (Lasting V)) → Tracks R dues held → ((due : Due K) → IsTrue (contains (due_cmp R) dues due) → ⊥) → (now : ℕ)
      → (IsTrue false → expired now (map_of R held.entries) ≢ empty) × (expired now (map_of R held.entries) ≢ empty → IsTrue false)
  none_holds dues held tracks none now = first_tells now dues held None tracks tt tt (λ due has. absurd (none due has))
