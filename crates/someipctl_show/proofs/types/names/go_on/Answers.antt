use Rattle.std.proofs.Common.{◌≡◌, ℕ, ◌≤◌, [], ◌∷◌, ◌++◌, drop, length, sym, ap, ◌∙◌, refl, List, Some, string_bytes, subst}
use Rattle.std.proofs.lemmas.Result.{err_from_is_err_and}
use Rattle.toml.specs.Data.{Data}
use Rattle.toml.specs.View.{view}
use Rattle.someip_payload.specs.Named.{NamedForms}
use Rattle.someipctl_show.specs.declared.types.names.Step.{Step}
use Rattle.someipctl_show.specs.declared.types.names.Way.{Way}
use Rattle.someipctl_show.specs.types.Judging.{IsPut, Judged, KnowsMore, NoShape, TellsOf}
use Rattle.someipctl_show.specs.types.Keys.{text_at}
use Rattle.someipctl_show.specs.types.References.{Knows, KnowsAll, references}
use Rattle.someipctl_show.proofs.about_types.JudgingLemmas.{judged_more}
use Rattle.someipctl_show.proofs.about_types.WayLemmas.{no_shape, no_step, way_done, way_past, way_down, step_whole, step_past, step_down, step_first, refers, ok_any, ok_too, err_too, begins_again, begins_more, begins_pop, way_deeper, way_shorter, way_stays}
use Rattle.someipctl_show.proofs.about_types.NameLemmas.{same_text}
use Rattle.someipctl_show.proofs.types.names.go_on.Goals as goal
use Rattle.someipctl_show.proofs.types.names.go_on.Goals.{After-put_name, then-is_new+in_ok-open, else-is_new}

text_is : (types : Data) (a name text : List ℕ) → a ≡ name → Some text ≡ text_at a types → text_at name types ≡ Some text
text_is types a name text same is = ap (λ (n : List ℕ). text_at n types) (sym same) ∙ sym is

own_text : (c : After-put_name) → text_at (string_bytes c.args.step.name) (view c.args.types.now) ≡ Some c.in-Some.text.now
own_text c = text_is (view c.args.types.now) c.as_str.result.now (string_bytes c.args.step.name) c.in-Some.text.now c.as_str.ensures.value c.in-Some.ensures

within_text : (c : After-put_name) → c.args.step.from ≤ length c.in-Some.text.now
within_text c =
    subst (λ (t : List ℕ). c.args.step.from ≤ length t)
    (same_text (view c.args.types.now) (string_bytes c.args.step.name) c.requires.step.text c.in-Some.text.now c.requires.step.is (own_text c)) c.requires.step.within

whole : (c : After-put_name) → KnowsAll c.args.names.now.shapes (references c.in-Some.text.now)
whole c = step_whole (view c.args.types.now) c.args.names.now.shapes c.args.step c.in-Some.text.now c.requires.step (own_text c) c.in_default-next_name.ensures.none

more : (c : After-put_name) → IsPut c.args.names.now c.put_name.new.names (string_bytes c.args.step.name) c.in-Some.text.now
    → Judged (view c.args.types.now) c.put_name.new.names × KnowsMore c.args.names.now.shapes c.put_name.new.names.shapes × Knows c.put_name.new.names.shapes (string_bytes c.args.step.name)
more c = judged_more (view c.args.types.now) c.args.names.now c.put_name.new.names (string_bytes c.args.step.name) c.in-Some.text.now c.requires.judged (own_text c) (whole c)

pub returns-in_default-next_name-clause-judged : goal.returns-in_default-next_name-clause-judged
returns-in_default-next_name-clause-judged c = ok_too _ _ c.put_name.result (λ p. (more c p).0) c.put_name.ensures.ok

pub returns-in_default-next_name-clause-more : goal.returns-in_default-next_name-clause-more
returns-in_default-next_name-clause-more c = ok_too _ _ c.put_name.result (λ p. (more c p).1) c.put_name.ensures.ok

pub returns-in_default-next_name-clause-way : goal.returns-in_default-next_name-clause-way
returns-in_default-next_name-clause-way c =
    ok_too _ _ c.put_name.result
    (λ p. let m = more c p in way_done (view c.args.types.now) c.args.names.now.shapes c.put_name.new.names.shapes c.args.way.now (string_bytes c.args.step.name) m.1 m.2 c.requires.way) c.put_name.ensures.ok

pub returns-in_default-next_name-clause-err : goal.returns-in_default-next_name-clause-err
returns-in_default-next_name-clause-err c =
    err_too (NoShape c.args.names.now (string_bytes c.args.step.name) c.in-Some.text.now) (TellsOf (view c.args.types.now) c.args.names.now.shapes (string_bytes c.args.step.name)) c.put_name.result
    (λ e h. no_shape (view c.args.types.now) c.args.names.now (string_bytes c.args.step.name) c.in-Some.text.now e c.requires.judged (own_text c) (whole c) h) c.put_name.ensures.err

pub returns-in_err-is_new-clause-err : goal.returns-in_err-is_new-clause-err
returns-in_err-is_new-clause-err c =
    let p = err_from_is_err_and c.from_residual.result c.from_residual.ensures.1 in
    let types : Data = view c.args.types.now in
    let name : List ℕ = string_bytes c.args.step.name in
    let is : text_at name types ≡ Some c.in-Some.text.now = text_is types c.as_str.result.now name c.in-Some.text.now c.as_str.ensures.value c.in-Some.ensures in
    let next = c.in-Some-next_name in
    rw (p.1, p.2)
    (no_step types c.args.names.now.shapes c.args.way.now name c.in-Some.text.now next.other.now c.in_err-is_new.field-0.0 c.requires.way is
    (refers types c.args.names.now.shapes c.args.step c.in-Some.text.now next.other.now next.end c.requires.step is next.ensures.found next.ensures.end.1) (rw c.as_str-2.ensures.value at c.in_err-is_new.ensures.err))

pub returns-clause-way : goal.returns-clause-way
returns-clause-way c =
    let types : Data = view c.args.types.now in
    let name : List ℕ = string_bytes c.args.step.name in
    let is : text_at name types ≡ Some c.in-Some.text.now = text_is types c.as_str.result.now name c.in-Some.text.now c.as_str.ensures.value c.in-Some.ensures in
    let names : NamedForms = c.args.names.now.shapes in
    let text : List ℕ = c.in-Some.text.now in
    let other : List ℕ = c.in-Some-next_name.other.now in
    let end : ℕ = c.in-Some-next_name.end in
    let next : references (drop c.args.step.from text) ≡ other ∷ references (drop end text) = c.in-Some-next_name.ensures.found in
    let within : end ≤ length text = c.in-Some-next_name.ensures.end.1 in
    let step : Step = record { name = c.args.step.name; from = end } in
    elim c.if-is_new.branch [
      | then-is_new+in_ok-open w ↦
          let h = w.in_ok-open.ensures in
          let there = c.in_ok-is_new.ensures.there w.if-is_new.true in
          let first : Step = record { name = h.path.0; from = 0 } in
          let first_is : text_at (string_bytes h.path.0) types ≡ Some there.0 = ap (λ (n : List ℕ). text_at n types) h.path.1 ∙ there.1 in
          rw w.way'-is
          (way_down types names c.args.way.now w.open.new.way step c.requires.way first other (step_down types names c.args.step text other end c.requires.step is next within)
          (step_first types names first there.0 first_is refl) h.path.1 (h.path.2 ∙ ap (λ (steps : List Step). steps ++ first ∷ []) c.in_ok-push.ensures.items) h.opened)
      | else-is_new w ↦
          let now : Way = record { path = c.push.new.self; opened = c.args.way.now.opened } in
          rw w.way'-is
          (way_past types names c.args.way.now now step c.requires.way (step_past types names c.args.step text other end c.requires.step is next within (c.in_ok-is_new.ensures.known w.if-is_new.false))
          c.in_ok-push.ensures.items (λ n. refl))
    ]

pub returns-in_default-next_name-clause-shorter : goal.returns-in_default-next_name-clause-shorter
returns-in_default-next_name-clause-shorter c =
    ok_any _ c.put_name.result (way_stays (view c.args.types.now) c.args.way.now c.args.way.now c.args.step c.in-Some.text.now 0 (own_text c) (within_text c))

pub returns-clause-shorter : goal.returns-clause-shorter
returns-clause-shorter c =
    let types : Data = view c.args.types.now in
    let name : List ℕ = string_bytes c.args.step.name in
    let text : List ℕ = c.in-Some.text.now in
    let is : text_at name types ≡ Some text = text_is types c.as_str.result.now name text c.as_str.ensures.value c.in-Some.ensures in
    let within : c.args.step.from ≤ length text = subst (λ (t : List ℕ). c.args.step.from ≤ length t) (same_text types name c.requires.step.text text c.requires.step.is is) c.requires.step.within in
    let other : List ℕ = c.in-Some-next_name.other.now in
    let end : ℕ = c.in-Some-next_name.end in
    let places = c.in-Some-next_name.ensures.end in
    let step : Step = record { name = c.args.step.name; from = end } in
    elim c.if-is_new.branch [
      | then-is_new+in_ok-open w ↦
          let h = w.in_ok-open.ensures in
          let there = c.in_ok-is_new.ensures.there w.if-is_new.true in
          let first : Step = record { name = h.path.0; from = 0 } in
          rw w.way'-is
          (way_deeper types c.args.way.now w.open.new.way c.args.step text end is within c.requires.judged.members other there.0 first c.requires.judged.is places.0 places.1 h.path.1 refl there.1
          (h.path.2 ∙ ap (λ (steps : List Step). steps ++ first ∷ []) c.in_ok-push.ensures.items) (c.in_ok-is_new.ensures.unopened w.if-is_new.true) h.opened)
      | else-is_new w ↦
          let now : Way = record { path = c.push.new.self; opened = c.args.way.now.opened } in
          rw w.way'-is (way_shorter types c.args.way.now now c.args.step text end is within places.0 places.1 c.in_ok-push.ensures.items refl)
    ]

pub returns-in_default-next_name-clause-begins : goal.returns-in_default-next_name-clause-begins
returns-in_default-next_name-clause-begins c = ok_any _ c.put_name.result (λ first h. begins_pop c.args.way.now.path.items c.args.step first h)

pub returns-clause-begins : goal.returns-clause-begins
returns-clause-begins c =
    let step : Step = record { name = c.args.step.name; from = c.in-Some-next_name.end } in
    let steps : List Step = c.args.way.now.path.items in
    elim c.if-is_new.branch [
      | then-is_new+in_ok-open w ↦
          let h = w.in_ok-open.ensures in
          let first : Step = record { name = h.path.0; from = 0 } in
          let items : w.open.new.way.path.items ≡ (steps ++ step ∷ []) ++ first ∷ [] = h.path.2 ∙ ap (λ (xs : List Step). xs ++ first ∷ []) c.in_ok-push.ensures.items in
          rw (w.way'-is, items) (λ name b. begins_more steps step first name (begins_again steps c.args.step step name refl b))
      | else-is_new w ↦ rw (w.way'-is, c.in_ok-push.ensures.items) (λ name b. begins_again steps c.args.step step name refl b)
    ]
