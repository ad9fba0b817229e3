-- What is told of a rule that says nothing.
use Rattle.std.proofs.Common.{◌≡◌, ℕ, Bool, true, false, not, ◌&&◌, ◌||◌, cond, List, [], ◌∷◌, map, codes, inl, inr, IfErr, IfOk, Result, Ok, Err, Option, None, Some, is_some, refl, sym, ap, ◌∙◌, subst}
use Rattle.std.specs.List.{find, list_all, list_any}
use Rattle.std.proofs.lemmas.Slice.Eq.{bytes_eq-Decides}
use Rattle.toml.specs.Data.{Data, as_str}
use Rattle.toml.specs.View.{view}
use Rattle.toml.specs.declared.value.Value.{Value}
use Rattle.std.specs.Option.{option_and_then}
use Rattle.audit_rules.specs.Kinds.{all_kinds}
use Rattle.audit_rules.specs.declared.rule.Rule.{Rule}
use Rattle.audit_rules.specs.declared.rule.Treatment.{Treatment}
use Rattle.someipctl_show.specs.types.Tables.{has_unknown, is_unknown}
use Rattle.someipctl_show.proofs.about_types.UnknownLemmas.{is_there}
use Rattle.someipctl_rules.specs.declared.key_error.KeyError.{KeyError}
use Rattle.someipctl_rules.specs.declared.key_error.KeyError.TheVariants as parts
use Rattle.someipctl_rules.specs.Keys.{IsAsFound, IsWrongKindAt, TellsOfKey, cycle_at, millis_at}
use Rattle.someipctl_rules.specs.Saying.{good_bounds, good_list, message_in, only_if, only_known, rule_in, rule_keys, rule_of, treatments_in}
use Rattle.someipctl_rules.specs.Told.{FailsAt, IsUnknownKey, IsUnsaid, ListTold, Refuses, RefusesMessage, RefusesRule, RefusesTreatments, RuleTold, TellsUnknown, TellsUnknownKind}
use Rattle.someipctl_rules.specs.Treating.{all_words, bounds_at, each_treated, has_only_kinds, has_words, is_kind_text, is_text_of, list_at, names_one}

-- a value at a key is refused, and so nothing is said
pub refuses_by : {B : Type 0} (said : Option B) (d : Data) (key : List ℕ) (e : KeyError) → said ≡ None → FailsAt d key → TellsOfKey key e → Refuses said d e
refuses_by said d key (parts.WrongKind k) none fails tells = (none, subst (FailsAt d) (sym tells) fails)
refuses_by said d key (parts.OutOfRange k) none fails tells = (none, subst (FailsAt d) (sym tells) fails)
refuses_by said d key (parts.Missing k) none fails tells = absurd tells
refuses_by said d key (parts.UnknownKind words) none fails tells = absurd tells
refuses_by said d key (parts.UnknownKey k) none fails tells = absurd tells
refuses_by said d key parts.TooMany none fails tells = absurd tells
refuses_by said d key parts.OutOfMemory none fails tells = absurd tells

-- where a part says nothing, the whole does not
pub unsaid_then : {A B : Type 0} (said : Option A) (whole : Option B) (e : KeyError) → (said ≡ None → whole ≡ None) → IsUnsaid said e → IsUnsaid whole e
unsaid_then said whole parts.OutOfMemory so is = tt
unsaid_then said whole (parts.WrongKind k) so is = so is
unsaid_then said whole (parts.OutOfRange k) so is = so is
unsaid_then said whole (parts.Missing k) so is = so is
unsaid_then said whole (parts.UnknownKind words) so is = so is
unsaid_then said whole (parts.UnknownKey k) so is = so is
unsaid_then said whole parts.TooMany so is = so is

-- what is none is unsaid
pub unsaid : {A : Type 0} (said : Option A) (e : KeyError) → said ≡ None → IsUnsaid said e
unsaid said e none = unsaid_then {A = Bool} None said e (λ same. none) (nothing e)
  where
    nothing : (e : KeyError) → IsUnsaid {A = Bool} None e
    nothing parts.OutOfMemory = tt
    nothing (parts.WrongKind k) = refl
    nothing (parts.OutOfRange k) = refl
    nothing (parts.Missing k) = refl
    nothing (parts.UnknownKind words) = refl
    nothing (parts.UnknownKey k) = refl
    nothing parts.TooMany = refl

-- ---- values that name no kind

or_else : (a b : Bool) → b ≡ true → (a || b) ≡ true
or_else true b h = refl
or_else false b h = h

-- where none is found, each names one
pub none_found : (vs : List Value) → find (λ v. not (names_one (view v))) vs ≡ None → list_all names_one (map view vs) ≡ true
none_found [] is = refl
none_found (v ∷ vs) is = by (names_one (view v)) (none_found vs) is
  where
    by : (b : Bool) → (find (λ v. not (names_one (view v))) vs ≡ None → list_all names_one (map view vs) ≡ true) → cond (not b) (Some v) (find (λ v. not (names_one (view v))) vs) ≡ None
        → (b && list_all names_one (map view vs)) ≡ true
    by true rest e = rest e
    by false rest e = absurd cc

-- one that is found does not, and is among them
pub found_other : (vs : List Value) (v : Value) → find (λ v. not (names_one (view v))) vs ≡ Some v → names_one (view v) ≡ false
found_other [] v is = absurd cc
found_other (w ∷ vs) v is = by (names_one (view w)) refl (found_other vs v) is
  where
    by : (b : Bool) → names_one (view w) ≡ b → (find (λ v. not (names_one (view v))) vs ≡ Some v → names_one (view v) ≡ false)
        → cond (not b) (Some w) (find (λ v. not (names_one (view v))) vs) ≡ Some v → names_one (view v) ≡ false
    by true one rest e = rest e
    by false none rest e = let same : w ≡ v = cc in subst (λ (x : Value). names_one (view x) ≡ false) same none

pub found_no_text : (vs : List Value) (v : Value) → find (λ v. not (names_one (view v))) vs ≡ Some v → as_str (view v) ≡ None → list_all (λ d. is_some (as_str d)) (map view vs) ≡ false
found_no_text [] v is none = absurd cc
found_no_text (w ∷ vs) v is none = by (names_one (view w)) (found_no_text vs v) is
  where
    later : (b : Bool) → list_all (λ d. is_some (as_str d)) (map view vs) ≡ false → (b && list_all (λ d. is_some (as_str d)) (map view vs)) ≡ false
    later true h = h
    later false h = refl

    by : (b : Bool) → (find (λ v. not (names_one (view v))) vs ≡ Some v → as_str (view v) ≡ None → list_all (λ d. is_some (as_str d)) (map view vs) ≡ false)
        → cond (not b) (Some w) (find (λ v. not (names_one (view v))) vs) ≡ Some v → list_all (λ d. is_some (as_str d)) (map view (w ∷ vs)) ≡ false
    by true rest e = later (is_some (as_str (view w))) (rest e none)
    by false rest e = let same : w ≡ v = cc in rw (same, none) refl

pub found_text : (vs : List Value) (v : Value) (words : List ℕ) → find (λ v. not (names_one (view v))) vs ≡ Some v → as_str (view v) ≡ Some words → list_any (is_text_of words) (map view vs) ≡ true
found_text [] v words is text = absurd cc
found_text (w ∷ vs) v words is text = by (names_one (view w)) (found_text vs v words) is
  where
    by : (b : Bool) → (find (λ v. not (names_one (view v))) vs ≡ Some v → as_str (view v) ≡ Some words → list_any (is_text_of words) (map view vs) ≡ true)
        → cond (not b) (Some w) (find (λ v. not (names_one (view v))) vs) ≡ Some v → list_any (is_text_of words) (map view (w ∷ vs)) ≡ true
    by true rest e = or_else (is_text_of words (view w)) (list_any (is_text_of words) (map view vs)) (rest e text)
    by false rest e =
        let same : w ≡ v = cc in
        let here : is_text_of words (view w) ≡ true = ap (λ (x : Value). has_words words (as_str (view x))) same ∙ ap (has_words words) text ∙ (bytes_eq-Decides words words).1 refl in
        rw here refl

not_false : (b : Bool) → not b ≡ false → b ≡ true
not_false true h = refl
not_false false h = absurd cc

pub found_unknown : (vs : List Value) (v : Value) (words : List ℕ) → find (λ v. not (names_one (view v))) vs ≡ Some v → as_str (view v) ≡ Some words → is_unknown all_words words ≡ true
found_unknown vs v words is text = not_false (is_unknown all_words words) (sym (ap is_kind_text text) ∙ found_other vs v is)

-- and so the list is not good
pub found_bad : (vs : List Value) (v : Value) → find (λ v. not (names_one (view v))) vs ≡ Some v → list_all names_one (map view vs) ≡ false
found_bad [] v is = absurd cc
found_bad (w ∷ vs) v is = by (names_one (view w)) (found_bad vs v) is
  where
    by : (b : Bool) → (find (λ v. not (names_one (view v))) vs ≡ Some v → list_all names_one (map view vs) ≡ false) → cond (not b) (Some w) (find (λ v. not (names_one (view v))) vs) ≡ Some v
        → (b && list_all names_one (map view vs)) ≡ false
    by true rest e = rest e
    by false rest e = refl

pub bad_list : (ds : List Data) → list_all names_one ds ≡ false → good_list ds ≡ None
bad_list ds is = ap (λ b. only_if b ds) is

pub list_is_good : (ds : List Data) → list_all names_one ds ≡ true → good_list ds ≡ Some ds
list_is_good ds is = ap (λ b. only_if b ds) is

-- ---- keys that there are not

pub other_key : (known : List (List ℕ)) (d : Data) (key : List ℕ) → IsUnknownKey known d key → only_known known d ≡ None
other_key known d key is = ap (λ b. only_if (not b) d) (is_there known d key is)

pub no_other_key : (known : List (List ℕ)) (d : Data) → has_unknown known d ≡ false → only_known known d ≡ Some d
no_other_key known d is = ap (λ b. only_if (not b) d) is

pub other_kind : (d : Data) (key : List ℕ) → IsUnknownKey all_words d key → good_bounds (Some d) ≡ None
other_kind d key is = ap (λ b. only_if (not b) (Some d)) (is_there all_words d key is)

pub bounds_are_good : (bounds : Option Data) → has_only_kinds bounds ≡ true → good_bounds bounds ≡ Some bounds
bounds_are_good bounds is = ap (λ b. only_if b bounds) is

-- ---- how a rule treats kinds

module _ (d : Data) where
  abbrev by_bounds : List Data → Option (List Treatment)
  by_bounds allowed = option_and_then (λ bounds. each_treated allowed bounds all_kinds) (option_and_then good_bounds (bounds_at d))

  pub none_by_list : list_at (codes "allow") d ≡ None → treatments_in d ≡ None
  none_by_list none = ap (λ (o : Option (List Data)). option_and_then by_bounds (option_and_then good_list o)) none

  pub none_by_good : (ds : List Data) → list_at (codes "allow") d ≡ Some ds → good_list ds ≡ None → treatments_in d ≡ None
  none_by_good ds is none = ap (λ (o : Option (List Data)). option_and_then by_bounds (option_and_then good_list o)) is ∙ ap (option_and_then by_bounds) none

  module _ (ds : List Data) (is : list_at (codes "allow") d ≡ Some ds) (good : list_all names_one ds ≡ true) where
    so_far : treatments_in d ≡ by_bounds ds
    so_far = ap (λ (o : Option (List Data)). option_and_then by_bounds (option_and_then good_list o)) is ∙ ap (option_and_then by_bounds) (list_is_good ds good)

    pub none_by_bounds : bounds_at d ≡ None → treatments_in d ≡ None
    none_by_bounds none = so_far ∙ ap (λ (o : Option (Option Data)). option_and_then (λ bounds. each_treated ds bounds all_kinds) (option_and_then good_bounds o)) none

    pub none_by_kinds : (bounds : Option Data) → bounds_at d ≡ Some bounds → good_bounds bounds ≡ None → treatments_in d ≡ None
    none_by_kinds bounds there none =
        so_far ∙ ap (λ (o : Option (Option Data)). option_and_then (λ bounds. each_treated ds bounds all_kinds) (option_and_then good_bounds o)) there
        ∙ ap (λ (o : Option (Option Data)). option_and_then (λ bounds. each_treated ds bounds all_kinds) o) none

    pub treated_so : (bounds : Option Data) → bounds_at d ≡ Some bounds → has_only_kinds bounds ≡ true → treatments_in d ≡ each_treated ds bounds all_kinds
    treated_so bounds there only =
        so_far ∙ ap (λ (o : Option (Option Data)). option_and_then (λ bounds. each_treated ds bounds all_kinds) (option_and_then good_bounds o)) there
        ∙ ap (λ (o : Option (Option Data)). option_and_then (λ bounds. each_treated ds bounds all_kinds) o) (bounds_are_good bounds only)

  -- what is told of the list, of the table and of its values is told of the rule
  pub list_told : (ds : List Data) (e : KeyError) → list_at (codes "allow") d ≡ Some ds → IsUnsaid (good_list ds) e → ListTold ds e → RefusesTreatments d e
  list_told ds (parts.WrongKind k) is none told = (none_by_good ds is none, subst (FailsAt d) (sym told.0) (FailsAt.text ds is told.1))
  list_told ds (parts.UnknownKind words) is none told = (none_by_good ds is none, (told.0, inl (ds, is, told.1)))
  list_told ds parts.OutOfMemory is none told = (tt, tt)
  list_told ds (parts.OutOfRange k) is none told = absurd told
  list_told ds (parts.Missing k) is none told = absurd told
  list_told ds (parts.UnknownKey k) is none told = absurd told
  list_told ds parts.TooMany is none told = absurd told

  pub kinds_told : (ds : List Data) (bounds : Option Data) (e : KeyError) → list_at (codes "allow") d ≡ Some ds → list_all names_one ds ≡ true → bounds_at d ≡ Some bounds → IsUnsaid (good_bounds bounds) e
      → TellsUnknownKind bounds e → RefusesTreatments d e
  kinds_told ds (Some bounds) (parts.UnknownKind words) is good there none told = (none_by_kinds ds is good (Some bounds) there none, (told.0, inr (bounds, there, told.1)))
  kinds_told ds (Some bounds) parts.OutOfMemory is good there none told = (tt, tt)
  kinds_told ds (Some bounds) (parts.WrongKind k) is good there none told = absurd told
  kinds_told ds (Some bounds) (parts.OutOfRange k) is good there none told = absurd told
  kinds_told ds (Some bounds) (parts.Missing k) is good there none told = absurd told
  kinds_told ds (Some bounds) (parts.UnknownKey k) is good there none told = absurd told
  kinds_told ds (Some bounds) parts.TooMany is good there none told = absurd told
  kinds_told ds None parts.OutOfMemory is good there none told = (tt, tt)
  kinds_told ds None (parts.UnknownKind words) is good there none told = absurd told
  kinds_told ds None (parts.WrongKind k) is good there none told = absurd told
  kinds_told ds None (parts.OutOfRange k) is good there none told = absurd told
  kinds_told ds None (parts.Missing k) is good there none told = absurd told
  kinds_told ds None (parts.UnknownKey k) is good there none told = absurd told
  kinds_told ds None parts.TooMany is good there none told = absurd told

-- ---- what is read last

pub ok_found : {A : Type 0} (r : Result A KeyError) (key : List ℕ) (found said : Option A) → said ≡ found → IsAsFound (λ t. t) r key found → IfOk r (λ t. said ≡ Some t)
ok_found (Ok t) key found said is read = is ∙ read
ok_found (Err e) key found said is read = tt

pub err_found : {A : Type 0} (r : Result A KeyError) (d : Data) (key : List ℕ) (found said : Option A) → said ≡ found → (found ≡ None → FailsAt d key) → IsAsFound (λ t. t) r key found
    → IfErr r (λ e. Refuses said d e)
err_found (Ok t) d key found said is fails read = tt
err_found (Err e) d key found said is fails read = refuses_by said d key e (is ∙ read.0) (fails read.0) read.1

pub wrong_tells : (key : List ℕ) (e : KeyError) → IsWrongKindAt key e → TellsOfKey key e
wrong_tells key (parts.WrongKind k) is = is
wrong_tells key (parts.OutOfRange k) is = absurd is
wrong_tells key (parts.Missing k) is = absurd is
wrong_tells key (parts.UnknownKind words) is = absurd is
wrong_tells key (parts.UnknownKey k) is = absurd is
wrong_tells key parts.TooMany is = absurd is
wrong_tells key parts.OutOfMemory is = absurd is

-- ---- a rule

only_none : {A : Type 0} (b : Bool) (x : A) → only_if (not b) x ≡ None → b ≡ true
only_none true x is = refl
only_none false x is = absurd cc

unknown_key_told : (d : Data) (e : KeyError) → TellsUnknown rule_keys d e → RuleTold d e
unknown_key_told d (parts.UnknownKey key) told = told
unknown_key_told d parts.OutOfMemory told = tt
unknown_key_told d (parts.WrongKind k) told = absurd told
unknown_key_told d (parts.OutOfRange k) told = absurd told
unknown_key_told d (parts.Missing k) told = absurd told
unknown_key_told d (parts.UnknownKind words) told = absurd told
unknown_key_told d parts.TooMany told = absurd told

module _ (d : Data) where
  abbrev with_keys : (Option ℕ × Option ℕ) → Option ℕ → Option ℕ → List Treatment → Option Rule
  with_keys message answer_ms cycle_ms treatments = only_if (not (has_unknown rule_keys d)) (rule_of message answer_ms cycle_ms treatments)

  abbrev with_treatments : (Option ℕ × Option ℕ) → Option ℕ → Option ℕ → Option (List Treatment) → Option Rule
  with_treatments message answer_ms cycle_ms treatments = option_and_then (with_keys message answer_ms cycle_ms) treatments

  abbrev with_cycle : (Option ℕ × Option ℕ) → Option ℕ → Option (Option ℕ) → Option Rule
  with_cycle message answer_ms cycle = option_and_then (λ cycle_ms. with_treatments message answer_ms cycle_ms (treatments_in d)) cycle

  abbrev with_millis : (Option ℕ × Option ℕ) → Option (Option ℕ) → Option Rule
  with_millis message millis = option_and_then (λ answer_ms. with_cycle message answer_ms (cycle_at (codes "cycle_ms") d)) millis

  abbrev with_message : Option (Option ℕ × Option ℕ) → Option Rule
  with_message message = option_and_then (λ m. with_millis m (millis_at (codes "answer_ms") d)) message

  pub message_refused : (e : KeyError) → RefusesMessage d e → RefusesRule d e
  message_refused e refused = (unsaid_then (message_in d) (rule_in d) e (λ none. ap with_message none) refused.0, refused.1)

  module _ (message : Option ℕ × Option ℕ) (said : message_in d ≡ Some message) where
    pub millis_refused : (e : KeyError) → (millis_at (codes "answer_ms") d ≡ None) × TellsOfKey (codes "answer_ms") e → RefusesRule d e
    millis_refused e refused = refuses_by (rule_in d) d (codes "answer_ms") e (ap with_message said ∙ ap (with_millis message) refused.0) (FailsAt.answer refused.0) refused.1

    module _ (answer_ms : Option ℕ) (millis : millis_at (codes "answer_ms") d ≡ Some answer_ms) where
      pub cycle_refused : (e : KeyError) → (cycle_at (codes "cycle_ms") d ≡ None) × TellsOfKey (codes "cycle_ms") e → RefusesRule d e
      cycle_refused e refused =
          refuses_by (rule_in d) d (codes "cycle_ms") e (ap with_message said ∙ ap (with_millis message) millis ∙ ap (with_cycle message answer_ms) refused.0) (FailsAt.cycle refused.0) refused.1

      module _ (cycle_ms : Option ℕ) (cycle : cycle_at (codes "cycle_ms") d ≡ Some cycle_ms) where
        pub treatments_refused : (e : KeyError) → RefusesTreatments d e → RefusesRule d e
        treatments_refused e refused = (
          unsaid_then (treatments_in d) (rule_in d) e
              (λ none. ap with_message said ∙ ap (with_millis message) millis ∙ ap (with_cycle message answer_ms) cycle ∙ ap (with_treatments message answer_ms cycle_ms) none) refused.0,
          refused.1,
        )

        module _ (treatments : List Treatment) (treated : treatments_in d ≡ Some treatments) where
          all_said : rule_in d ≡ with_keys message answer_ms cycle_ms treatments
          all_said = ap with_message said ∙ ap (with_millis message) millis ∙ ap (with_cycle message answer_ms) cycle ∙ ap (with_treatments message answer_ms cycle_ms) treated

          pub keys_refused : (e : KeyError) → IsUnsaid (only_known rule_keys d) e → TellsUnknown rule_keys d e → RefusesRule d e
          keys_refused e unsaid told = (
            unsaid_then (only_known rule_keys d) (rule_in d) e (λ none. all_said ∙ ap (λ b. only_if (not b) (rule_of message answer_ms cycle_ms treatments)) (only_none (has_unknown rule_keys d) d none)) unsaid,
            unknown_key_told d e told,
          )

          pub rule_said : has_unknown rule_keys d ≡ false → rule_in d ≡ Some (rule_of message answer_ms cycle_ms treatments)
          rule_said known = all_said ∙ ap (λ b. only_if (not b) (rule_of message answer_ms cycle_ms treatments)) known
