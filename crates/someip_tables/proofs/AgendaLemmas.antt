-- What the moments in order show after a change, and how many there are.
use Rattle.std.proofs.Common.{◌≡◌, ℕ, ◌+◌, ◌<◌, ◌≤◌, Bool, true, false, cond, ◌&&◌, List, [], ◌∷◌, map, length, Option, None, Some, refl, ap, sym, subst, ◌∙◌, arith}
use Rattle.std.specs.Option.{option_and_then, is_some}
use Rattle.std.specs.List.{list_any, AllByRecursion, IsDistinct}
use Rattle.std.specs.List.Sorted.{IsStrictlySortedBy}
use Rattle.std.specs.Map.{lookup, keys_of}
use Rattle.std.specs.declared.cmp.Ordering.{Ordering}
use Rattle.std.specs.declared.cmp.Ordering.TheVariants.{Less}
use Rattle.std.specs.Ordering.{eq_by_cmp, is_eq}
use Rattle.std.specs.Cmp.{IsTotalOrder, eq_by_cmp_equiv}
use Rattle.std.specs.FinMap.{FinMap, IsAntisymmetric, get, insert, remove, len, entries, get-insert, get-remove, get-entries, len-entries, len-insert, get-empty}
use Rattle.std.proofs.lemmas.Bool.{or_left, or_right}
use Rattle.std.proofs.lemmas.Bool.Decides.{nat_tests}
use Rattle.std.proofs.lemmas.Cmp.{back_total}
use Rattle.std.proofs.lemmas.List.{length-map}
use Rattle.std.proofs.lemmas.Map.Steps.{length-le_from_keys}
use Rattle.someip_tables.specs.declared.due.Due.{Due}
use Rattle.someip_tables.specs.Agendas.{falling, has_due, is_awaited, is_due_at, IsAgenda}
use Rattle.someip_tables.specs.Tables.{map_of}
use Rattle.someip_tables.proofs.Entries.{same_by_test, own_test}
use Rattle.someip_tables.proofs.MapLaws.{insert-remove, get-remove_own, len-insert_new}
use Rattle.someip_tables.proofs.Members.{any_map, any_found}
use Rattle.someip_tables.proofs.DueLemmas.{dues_total, exact_dues}
use Rattle.someip_tables.proofs.Trees.{find-lookup, len-map_of, map_of-none}

awaited_alike : (at other : ℕ) (v : Option ℕ) → is_awaited at v ≡ true → is_awaited other v ≡ true → at ≡ other
awaited_alike at other None is is_other = absurd (cc)
awaited_alike at other (Some moment) is is_other = grind (arith, nat_tests)

awaited_there : {V : Type 0} (moment : V → Option ℕ) (at : ℕ) (v : Option V) → is_awaited at (option_and_then moment v) ≡ true → is_some v ≡ true
awaited_there moment at None is = absurd (cc)
awaited_there moment at (Some x) is = refl

all_members : {X : Type 0} {R : X → X → Ordering} → IsTotalOrder R → (P : X → Type 0) (xs : List X) → ((x : X) → list_any (eq_by_cmp R x) xs ≡ true → P x) → AllByRecursion P xs
all_members o P [] each = tt
all_members o P (x ∷ xs) each = (each x (or_left _ _ (own_test o x)), all_members o P xs (λ y h. each y (or_right _ _ h)))

module _ {K : Type 0} {R : K → K → Ordering} (o : IsTotalOrder R) (exact : IsAntisymmetric R) where
  pub falling_total : IsTotalOrder (falling R)
  falling_total = back_total (dues_total o)

  pub exact_falling : IsAntisymmetric (falling R)
  exact_falling a b h = sym (exact_dues exact b a h)

module _ {K V : Type 0} {R : K → K → Ordering} (o : IsTotalOrder R) (exact : IsAntisymmetric R) (moment : V → Option ℕ) where
  -- ---- how many there are

  -- no key waits twice
  distinct_keys : (m : FinMap R V) (dues : List (Due K)) → IsStrictlySortedBy (falling R) dues → AllByRecursion (λ due. is_awaited due.at (option_and_then moment (get m due.key)) ≡ true) dues
      → IsDistinct (eq_by_cmp R) (map (λ due. due.key) dues)
  unfolding IsStrictlySortedBy IsDistinct
  distinct_keys m [] falls all = tt
  distinct_keys m (due ∷ dues) falls all = (apart dues falls.0 all.1, distinct_keys m dues falls.1 all.1)
    where
      no_tie : (b : Bool) (other : Due K) → eq_by_cmp R due.key other.key ≡ b → falling R due other ≡ Less → is_awaited other.at (option_and_then moment (get m other.key)) ≡ true → b ≡ false
      no_tie false other t less waits = refl
      no_tie true other t less waits =
          let key : due.key ≡ other.key = same_by_test exact due.key other.key t in
          let at : due.at ≡ other.at = awaited_alike due.at other.at (option_and_then moment (get m other.key)) (ap (λ k. is_awaited due.at (option_and_then moment (get m k))) (sym key) ∙ all.0) waits in
          let whole : due ≡ other = λ i. record { at = at i; key = key i } in
          let itself : is_eq (falling R due other) ≡ true = ap (λ d. is_eq (falling R due d)) (sym whole) ∙ own_test (falling_total o exact) due in
          absurd (cc)

      apart : (others : List (Due K)) → AllByRecursion (λ other. falling R due other ≡ Less) others → AllByRecursion (λ other. is_awaited other.at (option_and_then moment (get m other.key)) ≡ true) others
          → AllByRecursion (λ key. eq_by_cmp R due.key key ≡ false) (map (λ other. other.key) others)
      apart [] less waits = tt
      apart (other ∷ others) less waits = (no_tie (eq_by_cmp R due.key other.key) other refl less.0 waits.0, apart others less.1 waits.1)

  pub agenda_keys : (m : FinMap R V) (dues : List (Due K)) → IsAgenda moment dues m → IsDistinct (eq_by_cmp R) (map (λ due. due.key) dues)
  agenda_keys m dues agenda = distinct_keys m dues agenda.0 (all_members (falling_total o exact) (λ due. is_awaited due.at (option_and_then moment (get m due.key)) ≡ true) dues (λ due h. sym (agenda.1 due) ∙ h))

  -- no more moments than entries
  pub agenda_fits : (m : FinMap R V) (dues : List (Due K)) → IsAgenda moment dues m → length dues ≤ len m
  agenda_fits m dues agenda =
      let le = length-le_from_keys (eq_by_cmp_equiv o) (map (λ due. due.key) dues) (entries m) (agenda_keys m dues agenda) there in
      omega (arith, le, len-entries m, length-map dues (λ due. due.key))
    where
      there : (q : K) → list_any (eq_by_cmp R q) (map (λ due. due.key) dues) ≡ true → is_some (lookup (eq_by_cmp R q) (entries m)) ≡ true
      there q found =
          let at = any_found (falling_total o exact) (exact_falling o exact) (λ due. eq_by_cmp R q due.key) dues (sym (any_map (eq_by_cmp R q) (λ due. due.key) dues) ∙ found) in
          let some : is_some (get m at.0.key) ≡ true = awaited_there moment at.0.at (get m at.0.key) (sym (agenda.1 at.0) ∙ at.2) in
          ap (λ v. is_some v) (sym (find-lookup R q (entries m)) ∙ sym (get-entries m q)) ∙ ap (λ k. is_some (get m k)) (same_by_test exact q at.0.key at.1) ∙ some

  -- and no more than a tree's entries
  pub agenda_fits_tree : (es : List (K × V)) (dues : List (Due K)) → IsStrictlySortedBy R (keys_of es) → IsAgenda moment dues (map_of R es) → length dues ≤ length es
  agenda_fits_tree es dues rising agenda = let le = agenda_fits (map_of R es) dues agenda in omega (arith, le, len-map_of o exact es rising)

  one_fewer : (m : FinMap R V) (k : K) (x : V) → is_some (get m k) ≡ true → len (remove m k) + 1 ≡ len m
  one_fewer m k x there = sym (len-insert_new o exact (remove m k) k x (get-remove_own o exact m k)) ∙ ap len (insert-remove o exact m k x) ∙ len-insert o m k x ∙ rw there refl

  -- without one of its keys, a tree has more entries than there are moments
  pub room_for_one : (es : List (K × V)) (k : K) (x : V) (dues : List (Due K)) → IsStrictlySortedBy R (keys_of es) → is_some (get (map_of R es) k) ≡ true → IsAgenda moment dues (remove (map_of R es) k) → length dues < length es
  room_for_one es k x dues rising there agenda =
      let le = agenda_fits (remove (map_of R es) k) dues agenda in
      let one = one_fewer (map_of R es) k x there in
      omega (arith, le, one, len-map_of o exact es rising)

  -- a value in place of another leaves as many entries
  pub same_length : (old new : List (K × V)) (k : K) (x : V) → IsStrictlySortedBy R (keys_of old) → IsStrictlySortedBy R (keys_of new) → is_some (get (map_of R old) k) ≡ true → map_of R new ≡ insert (map_of R old) k x → length new ≡ length old
  same_length old new k x rose rises there is = sym (len-map_of o exact new rises) ∙ ap len is ∙ len-insert o (map_of R old) k x ∙ rw there refl ∙ len-map_of o exact old rose

  -- ---- after a change

  -- of nothing
  pub agenda_none : (es : List (K × V)) (dues : List (Due K)) → length es ≡ 0 → dues ≡ [] → IsAgenda moment dues (map_of R es)
  unfolding IsStrictlySortedBy
  agenda_none es dues none is =
      subst (λ ds. IsAgenda moment ds (map_of R es)) (sym is) (
        tt,
        λ due. sym (ap (λ m. is_awaited due.at (option_and_then moment (get m due.key))) (map_of-none o exact es none) ∙ ap (λ v. is_awaited due.at (option_and_then moment v)) (get-empty R due.key)),
      )

  -- a key goes, with its moment
  pub agenda_without : (m : FinMap R V) (k : K) (old new : List (Due K)) → IsAgenda moment old m → IsStrictlySortedBy (falling R) new
      → ((due : Due K) → has_due R new due ≡ cond (is_due_at R k (option_and_then moment (get m k)) due) false (has_due R old due))
      → IsAgenda moment new (remove m k)
  agenda_without m k old new agenda falls is = (falls, λ due. is due ∙ ap (cond (is_due_at R k (option_and_then moment (get m k)) due) false) (agenda.1 due) ∙ cases due (eq_by_cmp R due.key k) refl ∙ ap (λ v. is_awaited due.at (option_and_then moment v)) (sym (get-remove o m k due.key)))
    where
      none : (b : Bool) → cond (b && true) false b ≡ false
      none true = refl
      none false = refl

      plain : (a b : Bool) → cond (a && false) false b ≡ b
      plain true b = refl
      plain false b = refl

      cases : (due : Due K) (t : Bool) → eq_by_cmp R due.key k ≡ t
          → cond (is_awaited due.at (option_and_then moment (get m k)) && eq_by_cmp R due.key k) false (is_awaited due.at (option_and_then moment (get m due.key)))
          ≡ is_awaited due.at (option_and_then moment (cond (eq_by_cmp R due.key k) None (get m due.key)))
      cases due true t =
          let here : get m due.key ≡ get m k = ap (get m) (same_by_test exact due.key k t) in
          rw (t, here) (none (is_awaited due.at (option_and_then moment (get m k))))
      cases due false t = rw t (plain (is_awaited due.at (option_and_then moment (get m k))) (is_awaited due.at (option_and_then moment (get m due.key))))

  -- a new key comes, with its moment
  pub agenda_with : (m : FinMap R V) (k : K) (x : V) (old new : List (Due K)) → get m k ≡ None → IsAgenda moment old m → IsStrictlySortedBy (falling R) new
      → ((due : Due K) → has_due R new due ≡ cond (is_due_at R k (moment x) due) true (has_due R old due))
      → IsAgenda moment new (insert m k x)
  agenda_with m k x old new absent agenda falls is = (falls, λ due. is due ∙ ap (cond (is_due_at R k (moment x) due) true) (agenda.1 due) ∙ cases due (eq_by_cmp R due.key k) refl ∙ ap (λ v. is_awaited due.at (option_and_then moment v)) (sym (get-insert o m k x due.key)))
    where
      same : (b : Bool) → cond (b && true) true false ≡ b
      same true = refl
      same false = refl

      plain : (a b : Bool) → cond (a && false) true b ≡ b
      plain true b = refl
      plain false b = refl

      cases : (due : Due K) (t : Bool) → eq_by_cmp R due.key k ≡ t
          → cond (is_awaited due.at (moment x) && eq_by_cmp R due.key k) true (is_awaited due.at (option_and_then moment (get m due.key)))
          ≡ is_awaited due.at (option_and_then moment (cond (eq_by_cmp R due.key k) (Some x) (get m due.key)))
      cases due true t =
          let here : get m due.key ≡ None = ap (get m) (same_by_test exact due.key k t) ∙ absent in
          rw (t, here) (same (is_awaited due.at (moment x)))
      cases due false t = rw t (plain (is_awaited due.at (moment x)) (is_awaited due.at (option_and_then moment (get m due.key))))

  -- a value comes in place of another, with its moment
  pub agenda_renewed : (m : FinMap R V) (k : K) (x : V) (old new : List (Due K)) → IsAgenda moment old (remove m k) → IsStrictlySortedBy (falling R) new
      → ((due : Due K) → has_due R new due ≡ cond (is_due_at R k (moment x) due) true (has_due R old due))
      → IsAgenda moment new (insert m k x)
  agenda_renewed m k x old new agenda falls is = subst (IsAgenda moment new) (insert-remove o exact m k x) (agenda_with (remove m k) k x old new (get-remove_own o exact m k) agenda falls is)
