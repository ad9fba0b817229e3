-- A text that is expected, line by line.
use Rattle.std.proofs.Common.{◌≡◌, ℕ, ◌+◌, ◌<◌, ◌≤◌, ◌==◌, true, false, List, [], ◌∷◌, ◌++◌, length, drop, get_or, Some, None, refl, sym, ap, ◌∙◌, append_assoc, append-nil, arith}
use Rattle.std.specs.List.{enumerate_from, position_from}
use Rattle.std.proofs.lemmas.List.{at_drop_more, drop_all, drop_more}
use Rattle.std.proofs.lemmas.List.Concat.{flat_map-append}
use Rattle.std.proofs.lemmas.List.FromFn.{length-enumerate_from}
use Rattle.someip_world_rules.specs.declared.line.Line.{Line}
use Rattle.someip_world_rules.specs.declared.reuse.Reuse.{Reuse}
use Rattle.someip_world_setup.specs.declared.setup_node.SetupNode.{SetupNode}
use Rattle.someipctl_run.specs.Expected.{BeginsOtherwise, EndsOtherwise, FirstDiffer, IsExpected, Mismatch, PrintedLine, is_no_line, line_left, line_len, printed_from, printed_lines, printed_text}
use Rattle.someip_world_schedule.specs.Schedule.{lines_of_steps}
use Rattle.someipctl_run.specs.StepLines.{line_of_step}
use Rattle.someipctl_run.specs.Traces.{formed_trace, marked_line, marked_lines, marked_verdict, number_after, shown_lines}
use Rattle.someipctl_run.specs.declared.form.Extent.{Extent}
use Rattle.someipctl_run.specs.declared.form.Extent.TheVariants.{Beginning}
use Rattle.someipctl_run.specs.declared.form.TraceForm.{TraceForm}

-- ---- the lines of a file

-- none of the first n lines is bad
abbrev pub AreLines : ℕ → List (List ℕ) → Type 0
AreLines n lines = position_from is_no_line (n + 1) (drop n lines) ≡ position_from is_no_line 1 lines

pub AreLines-more : (n : ℕ) (lines : List (List ℕ)) (line : List ℕ) → drop n lines ≡ line ∷ drop (n + 1) lines → is_no_line line ≡ false → AreLines n lines → AreLines (n + 1) lines
AreLines-more n lines line next good h =
    let s : position_from is_no_line (n + 1) (drop n lines) ≡ position_from is_no_line (n + 1 + 1) (drop (n + 1) lines) = rw (next, good) refl in
    sym s ∙ h

pub AreLines-bad : (n : ℕ) (lines : List (List ℕ)) (line : List ℕ) → drop n lines ≡ line ∷ drop (n + 1) lines → is_no_line line ≡ true → AreLines n lines → position_from is_no_line 1 lines ≡ Some (n + 1)
AreLines-bad n lines line next bad h =
    let s : position_from is_no_line (n + 1) (drop n lines) ≡ Some (n + 1) = rw (next, bad) refl in
    sym h ∙ s

pub AreLines-all : (n : ℕ) (lines : List (List ℕ)) → n ≡ length (enumerate_from 0 lines) → AreLines n lines → position_from is_no_line 1 lines ≡ None
AreLines-all n lines count h =
    let end : length lines ≤ n = omega (arith, count, length-enumerate_from 0 lines) in
    let s : position_from is_no_line (n + 1) (drop n lines) ≡ None = rw (drop_all n lines end) refl in
    sym h ∙ s

-- ---- the lines of a trace

-- what a comparison keeps: of all lines these are left, and of the text this
pub record IsComparing (all left : List PrintedLine) (text rest : List ℕ) : Type 0 where
  pub front : List PrintedLine
  pub parts : front ++ left ≡ all
  pub same : text ≡ printed_text front ++ rest

-- a text that goes on with a line, and what is left then
pub last_line : (lines : List PrintedLine) (line : PrintedLine) (text rest more : List ℕ) → text ≡ printed_text lines ++ rest → rest ≡ line.text ++ more
    → text ≡ printed_text (lines ++ line ∷ []) ++ more
last_line lines line text rest more same goes =
    same ∙ ap (λ (t : List ℕ). printed_text lines ++ t) (goes ∙ ap (λ (t : List ℕ). t ++ more) (sym (append-nil line.text)))
    ∙ sym (append_assoc (printed_text lines) (line.text ++ []) more)
    ∙ ap (λ (t : List ℕ). t ++ more) (sym (flat_map-append (λ (l : PrintedLine). l.text) lines (line ∷ [])))

-- the text goes on with the next line
pub IsComparing-more : (all lines others : List PrintedLine) (line : PrintedLine) (text rest more : List ℕ) → IsComparing all lines text rest → lines ≡ line ∷ others → rest ≡ line.text ++ more
    → IsComparing all others text more
IsComparing-more all lines others line text rest more h next goes = record {
  front = h.front ++ line ∷ [];
  parts = append_assoc h.front (line ∷ []) others ∙ ap (λ (l : List PrintedLine). h.front ++ l) (sym next) ∙ h.parts;
  same = last_line h.front line text rest more h.same goes;
}

-- it ends within it
pub IsComparing-ended : (all lines others more : List PrintedLine) (line : PrintedLine) (text rest left : List ℕ) → IsComparing all lines text rest → lines ≡ line ∷ others
    → line.text ≡ rest ++ left → IsExpected Beginning text (printed_text (all ++ more))
IsComparing-ended all lines others more line text rest left h next ends =
    let tail = printed_text (others ++ more) in
    let whole : printed_text (all ++ more) ≡ printed_text h.front ++ (line.text ++ tail) =
    ap (λ (l : List PrintedLine). printed_text (l ++ more)) (sym h.parts)
    ∙ ap printed_text (append_assoc h.front lines more ∙ ap (λ (l : List PrintedLine). h.front ++ (l ++ more)) next)
    ∙ flat_map-append (λ (l : PrintedLine). l.text) h.front (line ∷ (others ++ more)) in (
      left ++ tail,
      whole
          ∙ ap (λ (t : List ℕ). printed_text h.front ++ t) (ap (λ (t : List ℕ). t ++ tail) ends ∙ append_assoc rest left tail)
          ∙ sym (append_assoc (printed_text h.front) rest (left ++ tail))
          ∙ ap (λ (t : List ℕ). t ++ (left ++ tail)) (sym h.same),
    )

-- neither
pub IsComparing-differs : (extent : Extent) (all lines others more : List PrintedLine) (line : PrintedLine) (text rest : List ℕ) (mismatch : Mismatch) → IsComparing all lines text rest
    → lines ≡ line ∷ others → BeginsOtherwise rest line.text → EndsOtherwise extent line.text rest
    → mismatch ≡ record { expected = line_left rest; got = Some line.text; came_by = line.came_by } → FirstDiffer extent (all ++ more) text mismatch
IsComparing-differs extent all lines others more line text rest mismatch h next goes ends is = record {
  front = h.front;
  others = line ∷ (others ++ more);
  rest = rest;
  parts =
      ap (λ (l : List PrintedLine). l ++ more) (sym h.parts) ∙ append_assoc h.front lines more
      ∙ ap (λ (l : List PrintedLine). h.front ++ (l ++ more)) next;
  same = h.same;
  differ = (goes, ends, is);
}

-- what is left begins with the next line
pub next_printed : (form : TraceForm) (step_lines : List ℕ) (nodes : List SetupNode) (number : ℕ) (lines : List Line) (i : ℕ) (line : Line) → i < length lines → line ≡ get_or lines i line
    → printed_from form step_lines nodes number (drop i lines)
    ≡ record { came_by = line_of_step step_lines line.step; text = marked_line (shown_lines form step_lines) nodes number line }
    ∷ printed_from form step_lines nodes (number_after number line) (drop (i + 1) lines)
next_printed form step_lines nodes number lines i line lt is =
    at_drop_more (printed_from form step_lines nodes number) lines i line lt ∙ ap (λ l. printed_from form step_lines nodes number (l ∷ drop (i + 1) lines)) (sym is)

-- the text goes on after all lines
pub goes_on : (extent : Extent) (lines : List PrintedLine) (text rest : List ℕ) (mismatch : Mismatch) → text ≡ printed_text lines ++ rest → (rest ≡ [] → ⊥)
    → mismatch ≡ record { expected = line_left rest; got = None; came_by = None } → FirstDiffer extent lines text mismatch
goes_on extent lines text [] mismatch same some is = absurd (some refl)
goes_on extent lines text (b ∷ rest) mismatch same some is =
    record { front = lines; others = []; rest = b ∷ rest; parts = sym (append-nil lines); same = same; differ = is }

-- ---- the text of the lines

pub lines_are : (form : TraceForm) (step_lines : List ℕ) (nodes : List SetupNode) (number : ℕ) (lines : List Line)
    → printed_text (printed_from form step_lines nodes number lines) ≡ marked_lines (shown_lines form step_lines) nodes number lines
lines_are form step_lines nodes number [] = refl
lines_are form step_lines nodes number (line ∷ lines) =
    ap (λ (t : List ℕ). marked_line (shown_lines form step_lines) nodes number line ++ t) (lines_are form step_lines nodes (number_after number line) lines)

-- the text of a trace's lines is the trace in its form
pub trace_is : (form : TraceForm) (text : List ℕ) (nodes : List SetupNode) (lines : List Line) (verdict : Reuse)
    → printed_text (printed_lines form (lines_of_steps text) nodes lines verdict) ≡ formed_trace form text nodes lines verdict
trace_is form text nodes lines verdict =
    let step_lines = lines_of_steps text in
    let last : PrintedLine = record { came_by = None; text = marked_verdict (shown_lines form step_lines) verdict } in
    flat_map-append (λ (l : PrintedLine). l.text) (printed_from form step_lines nodes 1 lines) (last ∷ [])
    ∙ ap (λ (t : List ℕ). t ++ (last.text ++ [])) (lines_are form step_lines nodes 1 lines)
    ∙ ap (λ (t : List ℕ). marked_lines (shown_lines form step_lines) nodes 1 lines ++ t) (append-nil last.text)

-- ---- the length of a line

-- what the loop keeps after i bytes, none of which is a line feed
abbrev pub IsBeforeEnd : ℕ → ℕ → List ℕ → Type 0
IsBeforeEnd end i text = (end + line_len (drop i text) ≡ line_len text) × (end ≡ i)

pub ends_here : (end i b : ℕ) (text : List ℕ) → i < length text → b ≡ get_or text i b → (b == 0x0a) ≡ true → IsBeforeEnd end i text → end ≡ line_len text
ends_here end i b text lt is feed h =
    let next : drop i text ≡ b ∷ drop (i + 1) text = drop_more text i b lt ∙ ap (λ (x : ℕ). x ∷ drop (i + 1) text) (sym is) in
    let s : line_len (drop i text) ≡ 0 = rw (next, feed) refl in
    omega (arith, s, h.0)
