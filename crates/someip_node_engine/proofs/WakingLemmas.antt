-- When the clock next brings something, by the first moments of the tables.
use Rattle.std.specs.Prelude.{◌≢◌}
use Rattle.std.proofs.Common.{◌≡◌, ℕ, Bool, true, false, ◌||◌, List, [], ◌∷◌, Option, refl, ap, sym, ◌∙◌}
use Rattle.std.proofs.Math.Bool.{or-false}
use Rattle.std.proofs.lemmas.Bool.{or_parts}
use Rattle.std.specs.declared.cmp.Ordering.{Ordering}
use Rattle.std.specs.FinMap as finite
use Rattle.std.specs.FinMap.{FinMap}
use Rattle.someip_tables.specs.Lastings.{expired}
use Rattle.someip_tables.specs.Waits.{HoldsFrom, earlier, is_due_by}
use Rattle.someip_tables.proofs.DueLemmas.{test_is_true, true_is_test}
use Rattle.someip_tables.proofs.Firsts.{earlier_due}
use Rattle.someip_tables.proofs.SortedEntries.{keys-empty, no_keys}
use Rattle.sd_core.specs.Endings.{ends_at}
use Rattle.sd_core.specs.SeekTables.{IsQuiet}
use Rattle.sd_core.specs.Sendings.{due_at}
use Rattle.sd_core.specs.Wishes.{is_over}
use Rattle.sd_core.specs.WishTables.{begun_where}
use Rattle.someip_node_rules.specs.histories.Tables.{Tables, passed_instances}
use Rattle.someip_node_engine.specs.Passings.{BringsNothing}

no_head : {A : Type 0} (xs : List A) → ((y : A) (ys : List A) → xs ≡ y ∷ ys → ⊥) → xs ≡ []
no_head [] isnt = refl
no_head (x ∷ xs) isnt = absurd (isnt x xs refl)

-- a map with a key is not empty
module _ {K V : Type 0} {R : K → K → Ordering} where
  not_empty : (m : FinMap R V) (q : K) (qs : List K) → finite.keys m ≡ q ∷ qs → m ≡ finite.empty → ⊥
  not_empty m q qs is gone = let none : q ∷ qs ≡ [] = sym is ∙ ap finite.keys gone ∙ keys-empty V R in absurd (cc)

  -- before the first moment there are no keys
  none_before : (first : Option ℕ) (m : ℕ → FinMap R V) (now : ℕ) → HoldsFrom first (λ n. m n ≢ finite.empty) → is_due_by now first ≡ false → finite.keys (m now) ≡ []
  none_before first m now holds not_yet =
      no_head (finite.keys (m now)) (λ q qs is.
      let due : is_due_by now first ≡ true = test_is_true ((holds now).1 (not_empty (m now) q qs is)) in
      absurd (cc))

  -- from it on there are
  some_from : (first : Option ℕ) (m : ℕ → FinMap R V) (now : ℕ) → HoldsFrom first (λ n. m n ≢ finite.empty) → is_due_by now first ≡ true → finite.keys (m now) ≡ [] → ⊥
  some_from first m now holds due none = (holds now).0 (true_is_test due) (no_keys (m now) none)

module _ (t : Tables) (now : ℕ) where
  -- the subscriptions that end where no known offer passed
  lapsed_alone : passed_instances now t ≡ []
      → finite.keys (begun_where (ends_at now (passed_instances now t)) t.wishes) ≡ finite.keys (begun_where (λ eventgroup beginning. is_over now beginning) t.wishes)
  lapsed_alone none =
      ap (λ instances. finite.keys (begun_where (ends_at now instances) t.wishes)) none
      ∙ (λ i. finite.keys (begun_where (λ eventgroup beginning. or-false (is_over now beginning) i) t.wishes))

  module _ (calls wishes seek offers : Option ℕ)
      (calls_from : HoldsFrom calls (λ n. expired n t.client.pending ≢ finite.empty))
      (wishes_from : HoldsFrom wishes (λ n. begun_where (λ eventgroup beginning. is_over n beginning) t.wishes ≢ finite.empty))
      (seek_from : HoldsFrom seek (λ n. IsQuiet n t.seek → ⊥))
      (offers_from : HoldsFrom offers (λ n. due_at n t.offers.up ≢ finite.empty)) where
    parts : is_due_by now (earlier (earlier calls wishes) (earlier seek offers))
        ≡ ((is_due_by now calls || is_due_by now wishes) || (is_due_by now seek || is_due_by now offers))
    parts = earlier_due now (earlier calls wishes) (earlier seek offers) ∙ (λ i. earlier_due now calls wishes i || earlier_due now seek offers i)

    not_quiet : is_due_by now seek ≡ false → (IsQuiet now t.seek → ⊥) → ⊥
    not_quiet not_yet isnt = let due : is_due_by now seek ≡ true = test_is_true ((seek_from now).1 isnt) in absurd (cc)

    pub brings_nothing_before : is_due_by now (earlier (earlier calls wishes) (earlier seek offers)) ≡ false → BringsNothing now t
    brings_nothing_before not_yet =
        let two = or_parts _ _ (sym parts ∙ not_yet) in
        let answers = or_parts _ _ two.0 in
        let instances = or_parts _ _ two.1 in
        let gone : passed_instances now t ≡ [] = no_head _ (λ q qs is. not_quiet instances.0 (λ quiet. not_empty _ q qs is quiet.0)) in
        record {
          calls = none_before calls (λ n. expired n t.client.pending) now calls_from answers.0;
          gone = gone;
          lapsed = lapsed_alone gone ∙ none_before wishes (λ n. begun_where (λ eventgroup beginning. is_over n beginning) t.wishes) now wishes_from answers.1;
          offers = none_before offers (λ n. due_at n t.offers.up) now offers_from instances.1;
          finds = no_head _ (λ q qs is. not_quiet instances.0 (λ quiet. not_empty _ q qs is quiet.1));
        }

    pub brings_something_from : is_due_by now (earlier (earlier calls wishes) (earlier seek offers)) ≡ true → BringsNothing now t → ⊥
    brings_something_from due none = cases (is_due_by now calls) (is_due_by now wishes) (is_due_by now seek) (is_due_by now offers) refl refl refl refl (sym parts ∙ due)
      where
        cases : (c w s o : Bool) → is_due_by now calls ≡ c → is_due_by now wishes ≡ w → is_due_by now seek ≡ s → is_due_by now offers ≡ o → ((c || w) || (s || o)) ≡ true → ⊥
        cases true w s o is_c is_w is_s is_o some = some_from calls (λ n. expired n t.client.pending) now calls_from is_c none.calls
        cases false true s o is_c is_w is_s is_o some =
            some_from wishes (λ n. begun_where (λ eventgroup beginning. is_over n beginning) t.wishes) now wishes_from is_w (sym (lapsed_alone none.gone) ∙ none.lapsed)
        cases false false true o is_c is_w is_s is_o some = (seek_from now).0 (true_is_test is_s) (no_keys _ none.gone, no_keys _ none.finds)
        cases false false false true is_c is_w is_s is_o some = some_from offers (λ n. due_at n t.offers.up) now offers_from is_o none.offers
        cases false false false false is_c is_w is_s is_o some = absurd (cc)
