-- The lines of a schedule on which its steps stand.
use Rattle.std.specs.Prelude.{ℕ, ◌-◌, List, slice_get, Option}

-- the line on which the step of an index stands: steps count from 1
abbrev pub line_of_step : List ℕ → ℕ → Option ℕ
line_of_step step_lines step = slice_get step_lines (step - 1)
