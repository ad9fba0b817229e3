-- Comparing a trace line by line, as Rust values.
use Rattle.std.specs.Prelude.{ℕ, ◌≡◌, List, ◌++◌, Option, Some}
use Rattle.std.specs.Option.{option_map}
use Rattle.someipctl_run.specs.Expected.{BeginsOtherwise, EndsOtherwise, FirstDiffer, IsExpected, Mismatch, PrintedLine, line_left, printed_text}
use Rattle.someipctl_run.specs.Traces.{pointed}
use Rattle.someipctl_run.specs.declared.comparing.Compared.{Compared}
use Rattle.someipctl_run.specs.declared.comparing.Compared.TheVariants.{Differs, Ended, Same}
use Rattle.someipctl_run.specs.declared.comparing.Mismatch as declared
use Rattle.someipctl_run.specs.declared.form.Extent.{Extent}
use Rattle.someipctl_run.specs.declared.form.Extent.TheVariants.{Beginning}

-- what is told of a difference, without where its lines lie in memory
abbrev pub view_mismatch : declared.Mismatch → Mismatch
view_mismatch m = record { expected = pointed m.expected; got = option_map (λ text. text.items) m.got; came_by = m.came_by }

-- what is left of a text behind these lines; or that it ended within them, or how they first differ, whatever lines come
-- after them
abbrev pub ComparedFrom : Extent → List PrintedLine → List ℕ → Compared → Type 0
ComparedFrom extent lines text (Same rest) = text ≡ printed_text lines ++ rest.now
ComparedFrom extent lines text Ended = (more : List PrintedLine) → IsExpected extent text (printed_text (lines ++ more))
ComparedFrom extent lines text (Differs mismatch) = (more : List PrintedLine) → FirstDiffer extent (lines ++ more) text (view_mismatch mismatch)

-- the same of one line
abbrev pub IsLineTaken : Extent → List ℕ → Option ℕ → List ℕ → Compared → Type 0
IsLineTaken extent rest came_by text (Same others) = rest ≡ text ++ others.now
IsLineTaken extent rest came_by text Ended = (extent ≡ Beginning) × ((more : List ℕ) × (text ≡ rest ++ more))
IsLineTaken extent rest came_by text (Differs mismatch) =
    BeginsOtherwise rest text × EndsOtherwise extent text rest
    × (view_mismatch mismatch ≡ record { expected = line_left rest; got = Some text; came_by = came_by })
