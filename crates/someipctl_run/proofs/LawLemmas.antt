-- The forms of a trace, and the lines of a schedule.
use Rattle.std.proofs.Common.{◌≡◌, ℕ, ◌+◌, ◌-◌, Bool, true, false, List, [], ◌∷◌, ◌++◌, length, get_or, map, filter, Option, None, Some, refl, sym, subst, ap, ◌∙◌, append_assoc, append-nil, length-append, arith}
use Rattle.std.specs.Prelude.{codes}
use Rattle.std.specs.List.{flat_map}
use Rattle.std.proofs.lemmas.List.Concat.{flat_map-append}
use Rattle.std.proofs.lemmas.Grind.{common_steps}
use Rattle.someip_world_rules.specs.declared.line.Line.{Line}
use Rattle.someip_world_rules.specs.declared.reuse.Reuse.{Reuse}
use Rattle.someip_texts.specs.Lines.{lines_of}
use Rattle.someip_world_schedule.specs.Schedule.{is_read, lines_of_steps, numbers_read}
use Rattle.someip_world_schedule.specs.Steps.{step_in}
use Rattle.someip_world_setup.specs.declared.setup_node.SetupNode.{SetupNode}
use Rattle.someipctl_run.specs.Laws.{StandBehindWords}
use Rattle.someipctl_run.specs.StepLines.{line_of_step}
use Rattle.someipctl_run.specs.Traces.{came_by_text, formed_trace, line_text, marked_lines, number_after, numbered_lines, reuse_line, trace_text}
use Rattle.someipctl_run.specs.declared.form.TraceForm.TheVariants.{WithLines}

-- the lines of a trace, each with the line of the schedule by which it came
abbrev rows_from : List ℕ → List SetupNode → ℕ → List Line → List (Option ℕ × List ℕ)
rows_from step_lines nodes number [] = []
rows_from step_lines nodes number (line ∷ lines) =
    (line_of_step step_lines line.step, line_text nodes number line) ∷ rows_from step_lines nodes (number_after number line) lines

abbrev plain_row : Option ℕ × List ℕ → List ℕ
plain_row row = row.1

abbrev marked_row : Option ℕ × List ℕ → List ℕ
marked_row row = (came_by_text row.0 ++ codes " ") ++ row.1

plain_rows : (step_lines : List ℕ) (nodes : List SetupNode) (number : ℕ) (lines : List Line) → numbered_lines nodes number lines ≡ flat_map plain_row (rows_from step_lines nodes number lines)
plain_rows step_lines nodes number [] = refl
plain_rows step_lines nodes number (line ∷ lines) = ap (λ (t : List ℕ). line_text nodes number line ++ t) (plain_rows step_lines nodes (number_after number line) lines)

marked_rows : (step_lines : List ℕ) (nodes : List SetupNode) (number : ℕ) (lines : List Line)
    → marked_lines (Some step_lines) nodes number lines ≡ flat_map marked_row (rows_from step_lines nodes number lines)
marked_rows step_lines nodes number [] = refl
marked_rows step_lines nodes number (line ∷ lines) =
    ap (λ (t : List ℕ). ((came_by_text (line_of_step step_lines line.step) ++ codes " ") ++ line_text nodes number line) ++ t)
    (marked_rows step_lines nodes (number_after number line) lines)

pub words_before : (text : List ℕ) (nodes : List SetupNode) (lines : List Line) (verdict : Reuse) → StandBehindWords (trace_text nodes lines verdict) (formed_trace WithLines text nodes lines verdict)
words_before text nodes lines verdict =
    let step_lines = lines_of_steps text in
    let rows = rows_from step_lines nodes 1 lines in
    let last : Option ℕ × List ℕ = (None, reuse_line verdict) in (
      rows ++ last ∷ [],
      ap (λ (t : List ℕ). t ++ reuse_line verdict) (plain_rows step_lines nodes 1 lines)
          ∙ ap (λ (t : List ℕ). flat_map plain_row rows ++ t) (sym (append-nil (reuse_line verdict))) ∙ sym (flat_map-append plain_row rows (last ∷ [])),
      ap (λ (t : List ℕ). t ++ marked_row last) (marked_rows step_lines nodes 1 lines)
          ∙ ap (λ (t : List ℕ). flat_map marked_row rows ++ t) (sym (append-nil (marked_row last))) ∙ sym (flat_map-append marked_row rows (last ∷ [])),
    )

-- ---- the lines of the steps

-- the line of a number
abbrev line_at : List (List ℕ) → ℕ → List ℕ
line_at lines number = get_or lines (number - 1) []

-- a line more, after which others spell what stands at their numbers
spelled_next : (front lines : List (List ℕ)) (line : List ℕ)
    → map (λ number. step_in (line_at ((front ++ line ∷ []) ++ lines) number)) (numbers_read (length (front ++ line ∷ []) + 1) lines) ≡ map step_in (filter is_read lines)
    → map (λ number. step_in (line_at (front ++ line ∷ lines) number)) (numbers_read (length front + 1) (line ∷ lines)) ≡ map step_in (filter is_read (line ∷ lines))
spelled_next front lines line after = cases (is_read line) refl
  where
    whole : (front ++ line ∷ []) ++ lines ≡ front ++ line ∷ lines
    whole = append_assoc front (line ∷ []) lines

    others : map (λ number. step_in (line_at (front ++ line ∷ lines) number)) (numbers_read (length front + 1 + 1) lines) ≡ map step_in (filter is_read lines)
    others =
        subst (λ (all : List (List ℕ)). map (λ number. step_in (line_at all number)) (numbers_read (length front + 1 + 1) lines) ≡ map step_in (filter is_read lines)) whole
        (subst (λ (n : ℕ). map (λ number. step_in (line_at ((front ++ line ∷ []) ++ lines) number)) (numbers_read (n + 1) lines) ≡ map step_in (filter is_read lines))
        (length-append front (line ∷ [])) after)

    here : line_at (front ++ line ∷ lines) (length front + 1) ≡ line
    here = grind (arith, common_steps)

    cases : (b : Bool) → is_read line ≡ b → map (λ number. step_in (line_at (front ++ line ∷ lines) number)) (numbers_read (length front + 1) (line ∷ lines)) ≡ map step_in (filter is_read (line ∷ lines))
    cases true e = rw (e, here) (ap (λ (steps : List _). step_in line ∷ steps) others)
    cases false e = rw e others

-- lines after others: those that are read spell what stands at their numbers
spelled_at : (front lines : List (List ℕ)) → map (λ number. step_in (line_at (front ++ lines) number)) (numbers_read (length front + 1) lines) ≡ map step_in (filter is_read lines)
spelled_at front [] = refl
spelled_at front (line ∷ lines) = spelled_next front lines line (spelled_at (front ++ line ∷ []) lines)

pub steps_at : (text : List ℕ) → map (λ number. step_in (line_at (lines_of text) number)) (lines_of_steps text) ≡ map step_in (filter is_read (lines_of text))
steps_at text = spelled_at [] (lines_of text)
