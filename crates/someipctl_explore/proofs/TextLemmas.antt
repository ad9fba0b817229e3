-- The texts that are printed are read as the steps that they tell.
use Rattle.std.proofs.Common.{◌≡◌, zero, suc, ℕ, ◌+◌, ◌<◌, ◌^◌, ◌&&◌, not, Bool, true, false, List, [], ◌∷◌, ◌++◌, take, drop, map, filter, codes, decimal, Option, Some, None, refl, sym, ap, subst, ◌∙◌, append_assoc, append-nil}
use Rattle.std.specs.List.{AllByRecursion, position_from}
use Rattle.std.specs.Str.{is_utf8}
use Rattle.std.proofs.lemmas.List.{take-append-drop}
use Rattle.std.proofs.lemmas.Str.{IsUtf8-nil, is_utf8-from_IsUtf8}
use Rattle.someip_texts.specs.Lines.{is_left_out, lines_of}
use Rattle.someip_texts.specs.Words.{spaced}
use Rattle.someip_world_schedule.specs.Schedule.{first_bad, is_bad, is_read, is_skipped, steps_of}
use Rattle.someip_world_schedule.specs.Steps.{step_in, step_of_words, words_in}
use Rattle.someip_world_schedule.specs.declared.step.Step.{Step}
use Rattle.someipctl_run.specs.Commands.{SpellsSteps}
use Rattle.someipctl_explore.specs.ResultTexts.{found_text, judged_line}
use Rattle.someipctl_explore.specs.StepLines.{line_text, step_head, step_line, step_words, steps_text}
use Rattle.someipctl_explore.specs.WholeSteps.{IsWhole}
use Rattle.someipctl_explore.proofs.LineLemmas.{body_utf8, body_words, first_line, line_body}
use Rattle.someipctl_explore.proofs.StepLemmas.{comment_word, head_stays, head_word, judged_words, step_back, words_are}
use Rattle.someipctl_explore.proofs.WordLemmas.{IsWord}

-- a text is read as steps, whatever number its first line has
pub record ReadsAs (text : List ℕ) (steps : List Step) : Type 0 where
  pub steps_are : steps_of text ≡ map (λ s. Some s) steps
  pub none_bad : (n : ℕ) → position_from is_bad n (lines_of text) ≡ None

pub reads_spells : (text : List ℕ) (steps : List Step) → ReadsAs text steps → SpellsSteps text steps
reads_spells text steps h = (sym h.steps_are, h.none_bad 1)

reads_nothing : ReadsAs [] []
reads_nothing =
    let utf8 : is_utf8 [] ≡ true = is_utf8-from_IsUtf8 [] IsUtf8-nil in
    record { steps_are = rw utf8 refl; none_bad = λ n. rw utf8 refl }

-- ---- lines

-- the line of a step in front
step_in_front : (body rest : List ℕ) (text : List ℕ) (step : Step) (steps : List Step) → lines_of text ≡ body ∷ lines_of rest
    → is_read body ≡ true → step_in body ≡ Some step → ReadsAs rest steps → ReadsAs text (step ∷ steps)
step_in_front body rest text step steps lines read is h = record {
  steps_are = rw (lines, read, is) (ap (λ (xs : List (Option Step)). Some step ∷ xs) h.steps_are);
  none_bad = λ n. rw (lines, read, is) (h.none_bad (n + 1));
}

-- a line that is left out in front
skipped_in_front : (body rest : List ℕ) (text : List ℕ) (steps : List Step) → lines_of text ≡ body ∷ lines_of rest
    → is_read body ≡ false → ReadsAs rest steps → ReadsAs text steps
skipped_in_front body rest text steps lines read h = record {
  steps_are = rw (lines, read) h.steps_are;
  none_bad = λ n. rw (lines, read) (h.none_bad (n + 1));
}

reads_step : (step : Step) (rest : List ℕ) (steps : List Step) → IsWhole step → ReadsAs rest steps → ReadsAs (step_line step ++ rest) (step ∷ steps)
reads_step step rest steps whole h =
    let head = step_head step in
    let words = step_words step in
    let body = line_body head words in
    let utf8 : is_utf8 body ≡ true = body_utf8 head words (head_word step) (words_are step whole) in
    let stays : is_left_out body ≡ false = head_stays step (spaced words) in
    let read : is_read body ≡ true = rw (utf8, stays) refl in
    let is : step_in body ≡ Some step = rw utf8 (ap step_of_words (body_words head words (head_word step) (words_are step whole)) ∙ step_back step whole) in
    step_in_front body rest (step_line step ++ rest) step steps (first_line head words rest (head_word step) (words_are step whole)) read is h

reads_judged : (count : ℕ) (rest : List ℕ) (steps : List Step) → count < 2 ^ 64 → ReadsAs rest steps → ReadsAs (judged_line count ++ rest) steps
reads_judged count rest steps small h =
    let words = codes "judged" ∷ decimal count ∷ codes "schedules" ∷ [] in
    let body = line_body (codes "#") words in
    let utf8 : is_utf8 body ≡ true = body_utf8 (codes "#") words comment_word (judged_words count small) in
    let read : is_read body ≡ false = rw utf8 refl in
    skipped_in_front body rest (judged_line count ++ rest) steps (first_line (codes "#") words rest comment_word (judged_words count small)) read h

-- ---- texts

reads_steps : (steps : List Step) (rest : List ℕ) (more : List Step) → AllByRecursion IsWhole steps → ReadsAs rest more → ReadsAs (steps_text steps ++ rest) (steps ++ more)
reads_steps [] rest more whole h = h
reads_steps (step ∷ steps) rest more whole h =
    subst (λ (text : List ℕ). ReadsAs text (step ∷ (steps ++ more))) (sym (append_assoc (step_line step) (steps_text steps) rest))
    (reads_step step (steps_text steps ++ rest) (steps ++ more) whole.0 (reads_steps steps rest more whole.1 h))

-- the lines of steps are read as these
pub steps_spelled : (steps : List Step) → AllByRecursion IsWhole steps → SpellsSteps (steps_text steps) steps
steps_spelled steps whole =
    let h = reads_steps steps [] [] whole reads_nothing in
    reads_spells (steps_text steps) steps
    (subst (λ (text : List ℕ). ReadsAs text steps) (append-nil (steps_text steps))
    (subst (λ (all : List Step). ReadsAs (steps_text steps ++ []) all) (append-nil steps) h))

whole_take : (n : ℕ) (steps : List Step) → AllByRecursion IsWhole steps → AllByRecursion IsWhole (take n steps)
whole_take zero steps h = tt
whole_take (suc n) [] h = tt
whole_take (suc n) (step ∷ steps) h = (h.0, whole_take n steps h.1)

whole_drop : (n : ℕ) (steps : List Step) → AllByRecursion IsWhole steps → AllByRecursion IsWhole (drop n steps)
whole_drop zero steps h = h
whole_drop (suc n) [] h = tt
whole_drop (suc n) (step ∷ steps) h = whole_drop n steps h.1

-- what is printed of a schedule that was found is read as this schedule
pub found_spelled : (done count : ℕ) (schedule : List Step) → count < 2 ^ 64 → AllByRecursion IsWhole schedule → SpellsSteps (found_text done count schedule) schedule
found_spelled done count schedule small whole =
    let front = take done schedule in
    let back = drop done schedule in
    let ends = reads_steps back [] [] (whole_drop done schedule whole) reads_nothing in
    let last : ReadsAs (steps_text back) back =
    subst (λ (text : List ℕ). ReadsAs text back) (append-nil (steps_text back))
    (subst (λ (all : List Step). ReadsAs (steps_text back ++ []) all) (append-nil back) ends) in
    let all = reads_steps front (judged_line count ++ steps_text back) back (whole_take done schedule whole) (reads_judged count (steps_text back) back small last) in
    reads_spells (found_text done count schedule) schedule (subst (λ (steps : List Step). ReadsAs (found_text done count schedule) steps) (take-append-drop done schedule) all)
