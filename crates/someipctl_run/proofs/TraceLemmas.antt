-- The lines of a trace that are left.
use Rattle.std.proofs.Common.{◌≡◌, ℕ, ◌+◌, ◌<◌, ◌≤◌, List, [], ◌∷◌, ◌++◌, length, get_or, drop, ap, sym, subst, refl, ◌∙◌, arith, Bool, true, false, if◌then◌else◌, Option, None}
use Rattle.std.specs.Prelude.{is_some}
use Rattle.std.proofs.lemmas.List.{at_drop_more}
use Rattle.someip_world_rules.specs.Datagrams.{datagram_in}
use Rattle.someip_world_rules.specs.declared.line.Line.{Line}
use Rattle.someip_world_rules.specs.declared.reuse.Reuse.{Reuse}
use Rattle.someip_world_setup.specs.declared.setup_node.SetupNode.{SetupNode}
use Rattle.std.specs.Io.KnownBytes.{Appends}
use Rattle.someipctl_io.specs.declared.fault.Fault.{Fault}
use Rattle.someipctl_io.specs.declared.fault.Fault.TheVariants.{Refused, CannotRead, CannotWrite, OutOfMemory}
use Rattle.someipctl_run.specs.Commands.{RanInput, RanInputInForm, RefusesInputRun, RefusesInputRunInForm}
use Rattle.someipctl_io.specs.declared.form.Form.{Form as LineForm}
use Rattle.someipctl_run.specs.ToldTraces.{trace_line, trace_lines}
use Rattle.someipctl_run.specs.Traces.{formed_trace, line_text, marked_line, marked_lines, numbered_lines, number_after, reuse_line, trace_text}
use Rattle.someipctl_run.specs.declared.error.ScheduleRefusal.{ScheduleRefusal}
use Rattle.someipctl_run.specs.declared.form.TraceForm.TheVariants.{Plain}

-- what is left begins with the next line
pub next_line : (step_lines : Option (List ℕ)) (nodes : List SetupNode) (number : ℕ) (lines : List Line) (i : ℕ) (line : Line) → i < length lines → line ≡ get_or lines i line
    → marked_lines step_lines nodes number (drop i lines)
    ≡ marked_line step_lines nodes number line ++ marked_lines step_lines nodes (number_after number line) (drop (i + 1) lines)
next_line step_lines nodes number lines i line lt is =
    at_drop_more (marked_lines step_lines nodes number) lines i line lt ∙ ap (λ l. marked_lines step_lines nodes number (l ∷ drop (i + 1) lines)) (sym is)

-- the same in a form of lines
pub next_trace_line : (form : LineForm) (step_lines : Option (List ℕ)) (nodes : List SetupNode) (k : ℕ) (lines : List Line) (i : ℕ) (line : Line) → i < length lines → line ≡ get_or lines i line
    → trace_lines form step_lines nodes k (drop i lines)
    ≡ trace_line form step_lines nodes k line ++ trace_lines form step_lines nodes (number_after k line) (drop (i + 1) lines)
next_trace_line form step_lines nodes k lines i line lt is =
    at_drop_more (trace_lines form step_lines nodes k) lines i line lt ∙ ap (λ l. trace_lines form step_lines nodes k (l ∷ drop (i + 1) lines)) (sym is)

-- where no lines of the schedule are shown, nothing stands before the lines of a trace
pub plain_lines : (nodes : List SetupNode) (number : ℕ) (lines : List Line) → marked_lines None nodes number lines ≡ numbered_lines nodes number lines
plain_lines nodes number [] = refl
plain_lines nodes number (line ∷ lines) = ap (λ (t : List ℕ). line_text nodes number line ++ t) (plain_lines nodes (number_after number line) lines)

pub plain_trace : (text : List ℕ) (nodes : List SetupNode) (lines : List Line) (verdict : Reuse) → formed_trace Plain text nodes lines verdict ≡ trace_text nodes lines verdict
plain_trace text nodes lines verdict = ap (λ (t : List ℕ). t ++ reuse_line verdict) (plain_lines nodes 1 lines)

-- a line has one number more at most
pub more_numbers : (number i : ℕ) (line : Line) → number ≤ i + 1 → number_after number line ≤ i + 1 + 1
more_numbers number i line le = cases (is_some (datagram_in line))
  where
    cases : (b : Bool) → (if b then number + 1 else number) ≤ i + 1 + 1
    cases true = omega (arith, le)
    cases false = omega (arith, le)

-- ---- the trace alone

-- what was written in the plain form is the trace
pub plain_ran : (nodes : List SetupNode) (input before after : Option (List ℕ)) → RanInputInForm Plain nodes input before after → RanInput nodes input before after
plain_ran nodes input before after h = (h.0, h.1, (h.2.0, h.2.1, h.2.2, subst (Appends before after) (plain_trace h.0 nodes h.2.0 h.2.1) h.2.3))

pub plain_refuses : (nodes : List SetupNode) (input before after : Option (List ℕ)) (fault : Fault ScheduleRefusal)
    → RefusesInputRunInForm Plain nodes input fault before after → RefusesInputRun nodes input fault before after
plain_refuses nodes input before after (Refused refusal) h = h
plain_refuses nodes input before after CannotRead h = h
plain_refuses nodes input before after CannotWrite h =
    (h.0, h.1, (h.2.0, h.2.1, h.2.2, h.2.3, h.2.4, h.2.5, h.2.6 ∙ plain_trace h.0 nodes h.2.0 h.2.1))
plain_refuses nodes input before after OutOfMemory h = h
