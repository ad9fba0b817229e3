-- The way down to a name.
use Rattle.std.proofs.Common.{String, Global, ◌≡◌, ℕ, zero, suc, ◌≤◌, ◌⊎◌, inl, inr, ⊎_elim, Bool, true, false, cond, ◌||◌, ◌-◌, Ordering, Less, Equal, Greater, List, [], ◌∷◌, ◌++◌, append_assoc, append-nil, length, drop, bytes_eq, Option, Some, None, Result, Ok, Err, OnOk, IfErr, refl, sym, ap, ◌∙◌, subst, arith, string_bytes, ◌+◌, ◌<◌}
use Rattle.std.specs.Option.{is_some}
use Rattle.std.specs.BTreeSet.{BTreeSet, contains_text}
use Rattle.std.specs.Prelude.{if◌then◌else◌}
use Rattle.std.specs.Option.{option_and_then}
use Rattle.std.specs.Ordering.{nat_cmp, is_eq, match_ordering}
use Rattle.std.specs.Cmp.Lexicographic.{slice_cmp}
use Rattle.std.proofs.lemmas.Map.Text.{is_eq-slice_cmp}
use Rattle.std.proofs.lemmas.Slice.Eq.{bytes_eq-Decides}
use Rattle.toml.specs.Data.{Data, table, Members, no_members, member, get_member, as_str, as_table}
use Rattle.someip_payload.specs.Named.{NamedForms, form_named}
use Rattle.someipctl_show.specs.declared.types.error.TypesError.{TypesError}
use Rattle.someipctl_show.specs.declared.types.error.TypesError.TheVariants as errors
use Rattle.someipctl_show.specs.declared.types.key_error.KeyError.TheVariants as parts
use Rattle.someipctl_show.specs.declared.types.names.Names.{Names}
use Rattle.someipctl_show.specs.declared.types.names.Step.{Step}
use Rattle.someipctl_show.specs.declared.types.names.Way.{Way}
use Rattle.someipctl_show.specs.types.Faults.{TextFails}
use Rattle.someipctl_show.specs.types.Judging.{AreJudged, BeginsWith, IsOn, Judged, KnowsMore, NoShape, NoStep, PathFits, StepFits, TellsIn, TellsName, TellsOf, WayFits, length_of, next_of, path_weight, step_weight, unopened, unopened_in, way_weight}
use Rattle.someipctl_show.specs.types.Keys.{text_at}
use Rattle.someipctl_show.specs.types.Names.{AllStand, GoesDown, arrived, further, Leads, itself, onward}
use Rattle.someipctl_show.specs.types.References.{IsOneOf, Knows, KnowsAll, RefersFirst, references}
use Rattle.someipctl_show.specs.types.Tables.{keys_in}
use Rattle.someipctl_show.proofs.about_types.LinkLemmas.{one_of_both, one_right}
use Rattle.someipctl_show.proofs.about_types.NameLemmas.{same_text}

pub unknown_known : (names : NamedForms) (n : List ℕ) → form_named names n ≡ None → Knows names n → ⊥
unknown_known names n none known = let e = sym (ap is_some none) ∙ known in absurd cc

-- a name that a text refers to behind a place is one that it refers to
refs_tail : (t : Bool) (n m : List ℕ) (ns : List (List ℕ)) → IsOneOf n ns → IsOneOf n (cond t (m ∷ ns) ns)
refs_tail true n m ns one = inr one
refs_tail false n m ns one = one

pub refs_behind : (k : ℕ) (text n : List ℕ) → IsOneOf n (references (drop k text)) → IsOneOf n (references text)
refs_behind zero text n one = one
refs_behind (suc k) [] n one = one
refs_behind (suc k) (b ∷ rest) n one = refs_tail _ n _ (references rest) (refs_behind k rest n one)

-- ---- steps

next_append : (steps : List Step) (s : Step) (next : Option (List ℕ)) → next_of (steps ++ s ∷ []) next ≡ next_of steps (Some (string_bytes s.name))
next_append [] s next = refl
next_append (x ∷ xs) s next = refl

pub path_push : (types : Data) (names : NamedForms) (steps : List Step) (s : Step) (next : Option (List ℕ)) → PathFits types names steps (Some (string_bytes s.name)) → StepFits types names s next → PathFits types names (steps ++ s ∷ []) next
path_push types names [] s next path step = (step, tt)
path_push types names (x ∷ xs) s next path step =
    (subst (StepFits types names x) (sym (next_append xs s next)) path.0, path_push types names xs s next path.1 step)

pub path_pop : (types : Data) (names : NamedForms) (steps : List Step) (s : Step) (next : Option (List ℕ)) → PathFits types names (steps ++ s ∷ []) next → PathFits types names steps (Some (string_bytes s.name)) × StepFits types names s next
path_pop types names [] s next path = (tt, path.0)
path_pop types names (x ∷ xs) s next path =
    let rest = path_pop types names xs s next path.1 in
    ((subst (StepFits types names x) (next_append xs s next) path.0, rest.0), rest.1)

pub on_push : (steps : List Step) (s : Step) (n : List ℕ) → IsOn steps n → IsOn (steps ++ s ∷ []) n
on_push [] s n on = absurd on
on_push (x ∷ xs) s n on = ⊎_elim (λ here. inl here) (λ later. inr (on_push xs s n later)) on

pub on_last : (steps : List Step) (s : Step) → IsOn (steps ++ s ∷ []) (string_bytes s.name)
on_last [] s = inl refl
on_last (x ∷ xs) s = inr (on_last xs s)

pub on_pop : (steps : List Step) (s : Step) (n : List ℕ) → IsOn (steps ++ s ∷ []) n → IsOn steps n ⊎ (string_bytes s.name ≡ n)
on_pop [] s n on = ⊎_elim (λ here. inr here) (λ never. absurd never) on
on_pop (x ∷ xs) s n on = ⊎_elim (λ here. inl (inl here)) (λ later. ⊎_elim (λ l. inl (inr l)) (λ r. inr r) (on_pop xs s n later)) on

some_next : (steps : List Step) (n : List ℕ) → (k : List ℕ) × (next_of steps (Some n) ≡ Some k)
some_next [] n = (n, refl)
some_next (x ∷ xs) n = (string_bytes x.name, refl)

-- a step refers to the next
step_refers : (types : Data) (names : NamedForms) (s : Step) (m : List ℕ) → (h : StepFits types names s (Some m)) → RefersFirst names h.text m
step_refers types names s m h =
    let (others, is, known) = h.judged in
    (others, references (drop s.from h.text), h.parts ∙ ap (λ (ns : List (List ℕ)). ns ++ references (drop s.from h.text)) is ∙ append_assoc others (m ∷ []) (references (drop s.from h.text)), known)

pub refers_one : (names : NamedForms) (text m : List ℕ) → RefersFirst names text m → IsOneOf m (references text)
refers_one names text m (front, rest, is, known) = subst (IsOneOf m) (sym is) (one_right m front (m ∷ rest) (inl refl))

-- each step leads to the last
first_leads : (types : Data) (names : NamedForms) (steps : List Step) (n m : List ℕ) → PathFits types names steps (Some n) → next_of steps (Some n) ≡ Some m → Leads types m n
first_leads types names [] n m path is = let e : n ≡ m = cc in subst (λ (k : List ℕ). Leads types k n) e (itself n)
first_leads types names (s ∷ steps) n m path is =
    let e : string_bytes s.name ≡ m = cc in
    let next = some_next steps n in
    let step = subst (StepFits types names s) next.1 path.0 in
    subst (λ (k : List ℕ). Leads types k n) e
    (onward (string_bytes s.name) next.0 n step.text step.is (refers_one names step.text next.0 (step_refers types names s next.0 step)) (first_leads types names steps n next.0 path.1 next.1))

-- and goes down to it by the first names that are not judged
first_down : (types : Data) (names : NamedForms) (steps : List Step) (n m : List ℕ) → PathFits types names steps (Some n) → next_of steps (Some n) ≡ Some m → GoesDown types names m n
first_down types names [] n m path is = let e : n ≡ m = cc in subst (λ (k : List ℕ). GoesDown types names k n) e (arrived n)
first_down types names (s ∷ steps) n m path is =
    let e : string_bytes s.name ≡ m = cc in
    let next = some_next steps n in
    let step = subst (StepFits types names s) next.1 path.0 in
    subst (λ (k : List ℕ). GoesDown types names k n) e
    (further (string_bytes s.name) next.0 n step.text step.is (step_refers types names s next.0 step) (first_down types names steps n next.0 path.1 next.1))

pub step_leads : (types : Data) (names : NamedForms) (steps : List Step) (n m : List ℕ) → PathFits types names steps (Some n) → IsOn steps m → Leads types m n
step_leads types names [] n m path on = absurd on
step_leads types names (s ∷ steps) n m path on =
    ⊎_elim (λ here. first_leads types names (s ∷ steps) n m path (ap (λ (k : List ℕ). Some k) here)) (λ later. step_leads types names steps n m path.1 later) on

-- ---- one more name that was judged

judged_more : (old new : NamedForms) (front : List (List ℕ)) (next : Option (List ℕ)) → KnowsMore old new → AreJudged old front next → AreJudged new front next
judged_more old new front None more h = λ n one. more n (h n one)
judged_more old new front (Some next) more (others, is, known) = (others, is, λ n one. more n (known n one))

step_more : (types : Data) (old new : NamedForms) (s : Step) (next : Option (List ℕ)) → KnowsMore old new → StepFits types old s next → StepFits types new s next
step_more types old new s next more h = record { text = h.text; is = h.is; within = h.within; front = h.front; parts = h.parts; judged = judged_more old new h.front next more h.judged }

step_done : (types : Data) (old new : NamedForms) (s : Step) (name : List ℕ) → KnowsMore old new → Knows new name → StepFits types old s (Some name) → StepFits types new s None
step_done types old new s name more known h = record {
  text = h.text;
  is = h.is;
  within = h.within;
  front = h.front;
  parts = h.parts;
  judged = λ n one.
      let (others, is, had) = h.judged in
      ⊎_elim (λ before. more n (had n before)) (λ last. ⊎_elim (λ same. subst (Knows new) (sym same) known) (λ never. absurd never) last) (one_of_both n others (name ∷ []) (subst (IsOneOf n) is one));
}

pub path_done : (types : Data) (old new : NamedForms) (steps : List Step) (name : List ℕ) → KnowsMore old new → Knows new name → PathFits types old steps (Some name) → PathFits types new steps None
path_done types old new [] name more known path = tt
path_done types old new (s ∷ []) name more known path = (step_done types old new s name more known path.0, tt)
path_done types old new (s ∷ t ∷ steps) name more known path = (step_more types old new s (Some (string_bytes t.name)) more path.0, path_done types old new (t ∷ steps) name more known path.1)

pub way_done : (types : Data) (old new : NamedForms) (way : Way) (name : List ℕ) → KnowsMore old new → Knows new name → WayFits types old way (Some name) → WayFits types new way None
way_done types old new way name more known h = record {
  path = path_done types old new way.path.items name more known h.path;
  opened = λ n one. ⊎_elim (λ had. inl (more n had)) (λ later. ⊎_elim (λ on. inr (inl on)) (λ next. inl (let e : name ≡ n = cc in subst (Knows new) e known)) later) (h.opened n one);
}

-- all that the text of a step refers to was judged
pub step_whole : (types : Data) (names : NamedForms) (s : Step) (text : List ℕ) → StepFits types names s None → text_at (string_bytes s.name) types ≡ Some text → references (drop s.from text) ≡ [] → KnowsAll names (references text)
step_whole types names s text h is none n one =
    let same : h.text ≡ text = same_text types (string_bytes s.name) h.text text h.is is in
    let parts : references text ≡ h.front ++ references (drop s.from text) = subst (λ (t : List ℕ). references t ≡ h.front ++ references (drop s.from t)) same h.parts in
    let whole : references text ≡ h.front = parts ∙ ap (λ (ns : List (List ℕ)). h.front ++ ns) none ∙ append-nil h.front in
    h.judged n (subst (IsOneOf n) whole one)

-- ---- the next name

module _ (types : Data) (names : NamedForms) (s : Step) (text other : List ℕ) (to : ℕ) (h : StepFits types names s None) (is : text_at (string_bytes s.name) types ≡ Some text)
    (next : references (drop s.from text) ≡ other ∷ references (drop to text)) (within : to ≤ length text) where
  same : h.text ≡ text
  same = same_text types (string_bytes s.name) h.text text h.is is

  in_order : references text ≡ h.front ++ other ∷ references (drop to text)
  in_order = subst (λ (t : List ℕ). references t ≡ h.front ++ references (drop s.from t)) same h.parts ∙ ap (λ (ns : List (List ℕ)). h.front ++ ns) next

  pub refers : RefersFirst names text other
  refers = (h.front, references (drop to text), in_order, h.judged)

  behind : references text ≡ (h.front ++ other ∷ []) ++ references (drop to text)
  behind = in_order ∙ sym (append_assoc h.front (other ∷ []) (references (drop to text)))

  pub step_past : Knows names other → StepFits types names (record s { from = to }) None
  step_past known = record {
    text = text;
    is = is;
    within = within;
    front = h.front ++ other ∷ [];
    parts = behind;
    judged = λ n one. ⊎_elim (h.judged n) (λ last. ⊎_elim (λ e. subst (Knows names) (sym e) known) (λ never. absurd never) last) (one_of_both n h.front (other ∷ []) one);
  }

  pub step_down : StepFits types names (record s { from = to }) (Some other)
  step_down = record { text = text; is = is; within = within; front = h.front ++ other ∷ []; parts = behind; judged = (h.front, refl, h.judged) }

-- a name from the front of its text
pub step_first : (types : Data) (names : NamedForms) (s : Step) (text : List ℕ) → text_at (string_bytes s.name) types ≡ Some text → s.from ≡ 0 → StepFits types names s None
step_first types names s text is start = record {
  text = text;
  is = is;
  within = omega (arith, start);
  front = [];
  parts = ap (λ k. references (drop k text)) (sym start);
  judged = λ n one. absurd one;
}

-- ---- faults

-- why the next name is none to go on with
pub no_step : (types : Data) (names : NamedForms) (way : Way) (name text other : List ℕ) (e : TypesError) → WayFits types names way (Some name) → text_at name types ≡ Some text → RefersFirst names text other
    → NoStep types names way name other e → TellsOf types names name e
no_step types names way name text other (errors.Named n (parts.Unknown key)) fits is one h =
    (h.0, (text, is, rw h.1 one, rw h.1 h.2))
no_step types names way name text other (errors.Named n (parts.Cycle key)) fits is one h =
    let leads : Leads types other name =
    ⊎_elim (λ known. absurd (unknown_known names other h.3 known))
    (λ later. ⊎_elim (λ on. step_leads types names way.path.items name other fits.path on) (λ e. let same : name ≡ other = cc in subst (λ (m : List ℕ). Leads types m name) same (itself name)) later) (fits.opened other h.2) in
    (h.0, (text, is, rw h.1 one, rw h.1 leads))
no_step types names way name text other errors.OutOfMemory fits is one h = tt
no_step types names way name text other (errors.Named n (parts.Missing k)) fits is one h = absurd h
no_step types names way name text other (errors.Named n (parts.WrongKind k)) fits is one h = absurd h
no_step types names way name text other (errors.Named n (parts.OutOfRange k)) fits is one h = absurd h
no_step types names way name text other (errors.Named n (parts.BadText k)) fits is one h = absurd h
no_step types names way name text other (errors.Named n parts.BadShape) fits is one h = absurd h
no_step types names way name text other (errors.Named n parts.TooMany) fits is one h = absurd h
no_step types names way name text other (errors.Named n (parts.UnknownKey k)) fits is one h = absurd h
no_step types names way name text other (errors.Named n parts.Clash) fits is one h = absurd h
no_step types names way name text other (errors.Named n parts.OutOfMemory) fits is one h = absurd h
no_step types names way name text other errors.NotToml fits is one h = absurd h
no_step types names way name text other (errors.File e) fits is one h = absurd h
no_step types names way name text other (errors.Types e) fits is one h = absurd h
no_step types names way name text other (errors.Message n e) fits is one h = absurd h

-- why a name has no form
pub no_shape : (types : Data) (names : Names) (name text : List ℕ) (e : TypesError) → Judged types names → text_at name types ≡ Some text → KnowsAll names.shapes (references text) → NoShape names name text e → TellsOf types names.shapes name e
no_shape types names name text (errors.Named n (parts.Unknown key)) judged is known h = absurd (unknown_known names.shapes (string_bytes key) h.2.1 (known (string_bytes key) (refers_one names.shapes text (string_bytes key) h.2.0)))
no_shape types names name text (errors.Named n parts.TooMany) judged is known h =
    (h.0, record { text = text; is = is; known = known; new = h.1; many = omega (arith, judged.budget, h.2.1) })
no_shape types names name text (errors.Named n (parts.BadText place)) judged is known h =
    (h.0, record { text = text; is = is; known = known; none = h.2.1 })
no_shape types names name text errors.OutOfMemory judged is known h = tt
no_shape types names name text (errors.Named n (parts.Missing k)) judged is known h = absurd h.2
no_shape types names name text (errors.Named n (parts.WrongKind k)) judged is known h = absurd h.2
no_shape types names name text (errors.Named n (parts.OutOfRange k)) judged is known h = absurd h.2
no_shape types names name text (errors.Named n parts.BadShape) judged is known h = absurd h.2
no_shape types names name text (errors.Named n (parts.Cycle k)) judged is known h = absurd h.2
no_shape types names name text (errors.Named n (parts.UnknownKey k)) judged is known h = absurd h.2
no_shape types names name text (errors.Named n parts.Clash) judged is known h = absurd h.2
no_shape types names name text (errors.Named n parts.OutOfMemory) judged is known h = absurd h
no_shape types names name text errors.NotToml judged is known h = absurd h
no_shape types names name text (errors.File e) judged is known h = absurd h
no_shape types names name text (errors.Types e) judged is known h = absurd h
no_shape types names name text (errors.Message n e) judged is known h = absurd h

-- ---- the way, one step on

module _ (types : Data) (names : NamedForms) (way new : Way) (s : Step) (fits : WayFits types names way (Some (string_bytes s.name))) where
  opened_past : (n : List ℕ) → contains_text way.opened n ≡ true → Knows names n ⊎ IsOn (way.path.items ++ s ∷ []) n
  opened_past n one =
      ⊎_elim (λ known. inl known)
      (λ later. inr (⊎_elim (on_push way.path.items s n) (λ e. let same : string_bytes s.name ≡ n = cc in subst (IsOn (way.path.items ++ s ∷ [])) same (on_last way.path.items s)) later)) (fits.opened n one)

  pub way_past : StepFits types names s None → new.path.items ≡ way.path.items ++ s ∷ [] → ((n : List ℕ) → contains_text new.opened n ≡ contains_text way.opened n) → WayFits types names new None
  way_past step is opened = record {
    path = subst (λ (steps : List Step). PathFits types names steps None) (sym is) (path_push types names way.path.items s None fits.path step);
    opened = λ n one. ⊎_elim (λ known. inl known) (λ on. inr (inl (subst (λ (steps : List Step). IsOn steps n) (sym is) on))) (opened_past n (sym (opened n) ∙ one));
  }

  pub way_down : (t : Step) (other : List ℕ) → StepFits types names s (Some other) → StepFits types names t None → string_bytes t.name ≡ other → new.path.items ≡ (way.path.items ++ s ∷ []) ++ t ∷ []
      → ((n : List ℕ) → contains_text new.opened n ≡ (bytes_eq other n || contains_text way.opened n)) → WayFits types names new None
  way_down t other step first name is opened =
      let front : PathFits types names (way.path.items ++ s ∷ []) (Some (string_bytes t.name)) =
      subst (λ (m : List ℕ). PathFits types names (way.path.items ++ s ∷ []) (Some m)) (sym name) (path_push types names way.path.items s (Some other) fits.path step) in
      record {
        path = subst (λ (steps : List Step). PathFits types names steps None) (sym is) (path_push types names (way.path.items ++ s ∷ []) t None front first);
        opened = λ n one. by n (bytes_eq other n) refl (sym (opened n) ∙ one);
      }
    where
      by : (n : List ℕ) (b : Bool) → bytes_eq other n ≡ b → (b || contains_text way.opened n) ≡ true → Knows names n ⊎ (IsOn new.path.items n ⊎ (None ≡ Some n))
      by n true same one =
          let e : string_bytes t.name ≡ n = name ∙ (bytes_eq-Decides other n).0 same in
          inr (inl (subst (λ (steps : List Step). IsOn steps n) (sym is) (subst (IsOn ((way.path.items ++ s ∷ []) ++ t ∷ [])) e (on_last (way.path.items ++ s ∷ []) t))))
      by n false differs one =
          ⊎_elim (λ known. inl known) (λ on. inr (inl (subst (λ (steps : List Step). IsOn steps n) (sym is) (on_push (way.path.items ++ s ∷ []) t n on)))) (opened_past n one)

-- ---- results

pub ok_too : {X E : Type 0} (A B : Type 0) (r : Result X E) → (A → B) → OnOk r A → OnOk r B
ok_too A B (Ok x) f h = f h
ok_too A B (Err e) f h = tt

pub err_too : {X E : Type 0} (P Q : E → Type 0) (r : Result X E) → ((e : E) → P e → Q e) → IfErr r P → IfErr r Q
err_too P Q (Ok x) f h = tt
err_too P Q (Err e) f h = f e h

-- the way without its last step
pub way_pop : (types : Data) (names : NamedForms) (way new : Way) (s : Step) → WayFits types names way None → way.path.items ≡ new.path.items ++ s ∷ [] → new.opened ≡ way.opened
    → WayFits types names new (Some (string_bytes s.name)) × StepFits types names s None
way_pop types names way new s fits items opened =
    let path = path_pop types names new.path.items s None (subst (λ (steps : List Step). PathFits types names steps None) items fits.path) in (
      record {
        path = path.0;
        opened = λ n one.
            ⊎_elim (λ known. inl known)
            (λ later. ⊎_elim
            (λ on. ⊎_elim (λ front. inr (inl front)) (λ last. inr (inr (ap (λ (m : List ℕ). Some m) last))) (on_pop new.path.items s n (subst (λ (steps : List Step). IsOn steps n) items on)))
            (λ never. absurd cc) later) (fits.opened n (subst (λ (o : BTreeSet (String Global)). contains_text o n ≡ true) opened one));
      },
      path.1,
    )

-- ---- how long the way may still be

pub ok_any : {X E : Type 0} (A : Type 0) (r : Result X E) → A → OnOk r A
ok_any A (Ok x) h = h
ok_any A (Err e) h = tt

path_weight-push : (types : Data) (steps : List Step) (s : Step) → path_weight types (steps ++ s ∷ []) ≡ path_weight types steps + step_weight types s
path_weight-push types [] s = omega arith
path_weight-push types (x ∷ xs) s = let rest = path_weight-push types xs s in omega (arith, rest)

weight_of : (types : Data) (s : Step) (text : List ℕ) → text_at (string_bytes s.name) types ≡ Some text → step_weight types s ≡ length text + 1 - s.from
weight_of types s text is = ap (λ (o : Option (List ℕ)). length_of o + 1 - s.from) is

-- a name that was opened weighs no more
module _ (old new : BTreeSet (String Global)) (other : List ℕ) (opened : (n : List ℕ) → contains_text new n ≡ (bytes_eq other n || contains_text old n)) where
  or_weight : (a b : Bool) (w : ℕ) → cond (a || b) 0 w ≤ cond b 0 w
  or_weight true b w = omega arith
  or_weight false b w = omega arith

  opened_less : (ms : Members) → unopened new ms ≤ unopened old ms
  opened_less no_members = omega arith
  opened_less (member key d ms) =
      let here : (if contains_text new key then 0 else length_of (as_str d) + 2) ≤ (if contains_text old key then 0 else length_of (as_str d) + 2) =
      rw (opened key) (or_weight (bytes_eq other key) (contains_text old key) (length_of (as_str d) + 2)) in
      let rest = opened_less ms in
      omega (arith, here, rest)

  opened_one : (text : List ℕ) (ms : Members) → contains_text old other ≡ false → text_at other (table ms) ≡ Some text → unopened new ms + (length text + 2) ≤ unopened old ms
  opened_one text no_members new_one is = absurd cc
  opened_one text (member key d ms) new_one is = by (slice_cmp nat_cmp other key) (is_eq-slice_cmp other key) (opened_one text ms new_one) is
    where
      here : (if contains_text new key then 0 else length_of (as_str d) + 2) ≤ (if contains_text old key then 0 else length_of (as_str d) + 2)
      here = rw (opened key) (or_weight (bytes_eq other key) (contains_text old key) (length_of (as_str d) + 2))

      by : (o : Ordering) → is_eq o ≡ bytes_eq other key → (text_at other (table ms) ≡ Some text → unopened new ms + (length text + 2) ≤ unopened old ms)
          → option_and_then as_str (match_ordering o (get_member other ms) (Some d) (get_member other ms)) ≡ Some text → unopened new (member key d ms) + (length text + 2) ≤ unopened old (member key d ms)
      by Less differs rest h = let more = rest h in omega (arith, here, more)
      by Greater differs rest h = let more = rest h in omega (arith, here, more)
      by Equal same rest h =
          let e : other ≡ key = (bytes_eq-Decides other key).0 (sym same) in
          let was : contains_text old key ≡ false = ap (contains_text old) (sym e) ∙ new_one in
          let now : (if contains_text new key then 0 else length_of (as_str d) + 2) ≡ 0 = rw (opened key, ← same) refl in
          let before : (if contains_text old key then 0 else length_of (as_str d) + 2) ≡ length text + 2 = rw (was, h) refl in
          let less = opened_less ms in
          omega (arith, now, before, less)

module _ (types : Data) (way new : Way) (s : Step) (text : List ℕ) (to : ℕ) (is : text_at (string_bytes s.name) types ≡ Some text) (within : s.from ≤ length text) where
  pub way_stays : way_weight types way + 1 ≤ way_weight types way + step_weight types s
  way_stays = let own = weight_of types s text is in omega (arith, own, within)

  -- the step goes on from behind the next name
  abbrev Past : Step
  Past = record { name = s.name; from = to }

  past_weight : s.from < to → to ≤ length text → step_weight types Past + 1 ≤ step_weight types s
  past_weight lt le = let own = weight_of types s text is in let past = weight_of types Past text is in omega (arith, own, past, lt, le)

  pub way_shorter : s.from < to → to ≤ length text → new.path.items ≡ way.path.items ++ Past ∷ [] → new.opened ≡ way.opened → way_weight types new + 1 ≤ way_weight types way + step_weight types s
  way_shorter lt le items opened =
      let path : path_weight types new.path.items ≡ path_weight types way.path.items + step_weight types Past = ap (path_weight types) items ∙ path_weight-push types way.path.items Past in
      let same = ap (λ (o : BTreeSet (String Global)). unopened_in o types) opened in
      let past = past_weight lt le in
      omega (arith, path, same, past)

  pub way_deeper : (ms : Members) (other others : List ℕ) (t : Step) → types ≡ table ms → s.from < to → to ≤ length text → string_bytes t.name ≡ other → t.from ≡ 0 → text_at other types ≡ Some others
      → new.path.items ≡ (way.path.items ++ Past ∷ []) ++ t ∷ [] → contains_text way.opened other ≡ false → ((n : List ℕ) → contains_text new.opened n ≡ (bytes_eq other n || contains_text way.opened n))
      → way_weight types new + 1 ≤ way_weight types way + step_weight types s
  way_deeper ms other others t table_is lt le name start there items unopened_one opened =
      let path : path_weight types new.path.items ≡ path_weight types way.path.items + step_weight types Past + step_weight types t =
      ap (path_weight types) items ∙ path_weight-push types (way.path.items ++ Past ∷ []) t ∙ ap (λ n. n + step_weight types t) (path_weight-push types way.path.items Past) in
      let first : step_weight types t ≡ length others + 1 - t.from = weight_of types t others (ap (λ (n : List ℕ). text_at n types) name ∙ there) in
      let before : unopened_in way.opened types ≡ unopened way.opened ms = ap (unopened_in way.opened) table_is in
      let now : unopened_in new.opened types ≡ unopened new.opened ms = ap (unopened_in new.opened) table_is in
      let less = opened_one way.opened new.opened other opened others ms unopened_one (subst (λ (d : Data). text_at other d ≡ Some others) table_is there) in
      let past = past_weight lt le in
      omega (arith, path, first, start, before, now, less, past)

-- the way weighs less once a step was taken from it and gone on from
pub pop_weight : (types : Data) (way rest new : Way) (s : Step) → way.path.items ≡ rest.path.items ++ s ∷ [] → rest.opened ≡ way.opened → way_weight types new + 1 ≤ way_weight types rest + step_weight types s → way_weight types new < way_weight types way
pop_weight types way rest new s items opened le =
    let path : path_weight types way.path.items ≡ path_weight types rest.path.items + step_weight types s = ap (path_weight types) items ∙ path_weight-push types rest.path.items s in
    let same = ap (λ (o : BTreeSet (String Global)). unopened_in o types) opened in
    omega (arith, path, same, le)

-- ---- how the way begins

pub begins_pop : (steps : List Step) (s : Step) (first : List ℕ) → BeginsWith (steps ++ s ∷ []) first → BeginsWith steps first
begins_pop [] s first h = tt
begins_pop (x ∷ xs) s first h = h

pub begins_again : (steps : List Step) (s t : Step) (first : List ℕ) → string_bytes t.name ≡ string_bytes s.name → BeginsWith (steps ++ s ∷ []) first → BeginsWith (steps ++ t ∷ []) first
begins_again [] s t first is h = is ∙ h
begins_again (x ∷ xs) s t first is h = h

pub begins_more : (steps : List Step) (s t : Step) (first : List ℕ) → BeginsWith (steps ++ s ∷ []) first → BeginsWith ((steps ++ s ∷ []) ++ t ∷ []) first
begins_more [] s t first h = h
begins_more (x ∷ xs) s t first h = h

-- the first step goes down to the last
pub begins_down : (types : Data) (names : NamedForms) (steps : List Step) (s : Step) (first : List ℕ) → PathFits types names steps (Some (string_bytes s.name)) → BeginsWith (steps ++ s ∷ []) first → GoesDown types names first (string_bytes s.name)
begins_down types names [] s first path h = subst (λ (m : List ℕ). GoesDown types names m (string_bytes s.name)) h (arrived (string_bytes s.name))
begins_down types names (x ∷ xs) s first path h = first_down types names (x ∷ xs) (string_bytes s.name) first path (ap (λ (m : List ℕ). Some m) h)

pub tells_in : (types : Data) (old names : NamedForms) (first name : List ℕ) (e : TypesError) → AllStand types names → KnowsMore old names → GoesDown types names first name → TellsOf types names name e → TellsIn types old first e
tells_in types old names first name errors.NotToml stand more down h = absurd h
tells_in types old names first name (errors.File e) stand more down h = absurd h
tells_in types old names first name (errors.Types e) stand more down h = absurd h
tells_in types old names first name (errors.Named n e) stand more down h = record {
  names = names;
  stand = stand;
  more = more;
  down = subst (GoesDown types names first) (sym h.0) down;
  fails = subst (λ (m : List ℕ). TextFails types names m e) (sym h.0) h.1;
}
tells_in types old names first name (errors.Message n e) stand more down h = absurd h
tells_in types old names first name errors.OutOfMemory stand more down h = tt

pub tells_first : (types : Data) (old : NamedForms) (first : List ℕ) (before after : List (List ℕ)) (e : TypesError) → keys_in (as_table types) ≡ before ++ first ∷ after → KnowsAll old before → TellsIn types old first e → TellsName types e
tells_first types old first before after errors.NotToml is known h = absurd h
tells_first types old first before after (errors.File e) is known h = absurd h
tells_first types old first before after (errors.Types e) is known h = absurd h
tells_first types old first before after (errors.Named n e) is known h =
    record { names = h.names; stand = h.stand; key = first; before = before; after = after; is = is; known = λ m one. h.more m (known m one); down = h.down; fails = h.fails }
tells_first types old first before after (errors.Message n e) is known h = absurd h
tells_first types old first before after errors.OutOfMemory is known h = tt
