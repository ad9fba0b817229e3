-- How a comparison ends.
use Rattle.std.proofs.Common.{◌≡◌, ◌≢◌, ℕ, List, [], ◌++◌, Option, None, Some, ◌∙◌, ap, sym, append-nil}
use Rattle.std.specs.Prelude.{MatchOption}
use Rattle.someipctl_run.specs.Comparing.{view_mismatch}
use Rattle.someipctl_run.specs.Expected.{FirstDiffer, IsExpected, PrintedLine, line_left, printed_text}
use Rattle.someipctl_run.specs.declared.comparing.Mismatch as declared
use Rattle.someipctl_run.specs.declared.form.Extent.{Extent}
use Rattle.someipctl_run.specs.declared.form.Extent.TheVariants.{Beginning, Whole}
use Rattle.someipctl_run.proofs.ExpectedLemmas.{goes_on}

-- the trace itself is expected, whether all of it or a beginning
pub is_expected : (extent : Extent) (expected trace : List ℕ) → expected ≡ trace → IsExpected extent expected trace
is_expected Whole expected trace same = same
is_expected Beginning expected trace same = ([], sym same ∙ sym (append-nil expected))

-- after all lines the text has ended, or goes on
pub ends_all : (extent : Extent) (lines : List PrintedLine) (text rest : List ℕ) (r : Option declared.Mismatch) → text ≡ printed_text lines ++ rest
    → MatchOption r (rest ≡ []) (λ mismatch. (rest ≢ []) × (view_mismatch mismatch ≡ record { expected = line_left rest; got = None; came_by = None }))
    → MatchOption r (IsExpected extent text (printed_text lines)) (λ mismatch. FirstDiffer extent lines text (view_mismatch mismatch))
ends_all extent lines text rest None same none =
    is_expected extent text (printed_text lines) (same ∙ ap (λ (t : List ℕ). printed_text lines ++ t) none ∙ append-nil (printed_text lines))
ends_all extent lines text rest (Some mismatch) same goes = goes_on extent lines text rest (view_mismatch mismatch) same goes.0 goes.1
